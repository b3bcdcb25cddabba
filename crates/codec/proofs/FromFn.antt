-- What `array::from_fn` makes, by a closure that changes nothing it captured.
-- Assumes nothing.
use Prim.Native.Nat.{ℕ, zero, suc, ◌+◌, ◌<◌}
use mathlib.Core.Path.{◌≡◌, sym, subst, ◌∙◌}
use mathlib.Core.List.{List}
use native.Mathlib.Omega.{arith}
use lib.ListN.{length, get_or}
use denote.Param.Members.{Mut}
use Rattle.std.specs.Fn.{Called}
use Rattle.std.specs.Array.{IsFromFnResult, IsFromFnResultFrom}
use Rattle.std.proofs.lemmas.List.{ext_get_or}

-- each call gives the element of zs at its index
module _ {F B : Type 0} (g : Mut F (ℕ × Unit {0}) B) (f : F) (zs : List B) (d : B)
    (call : (i : ℕ) (y : B) (f' : F) → Called g f (i, tt) y f' → (y ≡ get_or zs i d) × (f' ≡ f)) where
  each : (ys : List B) (i n : ℕ) → IsFromFnResultFrom g f ys i n → (k j : ℕ) → k < n → j ≡ i + k → get_or ys j d ≡ get_or zs j d
  each ys i zero h k j lt e = absurd (omega arith)
  each ys i (suc n) (q, y, is, called, rest) zero j lt e =
      let at : j ≡ i = omega arith in
      rw at (is.1 d ∙ (call i y q called).0)
  each ys i (suc n) (q, y, is, called, rest) (suc k) j lt e =
      each ys (i + 1) n (subst (λ p. IsFromFnResultFrom g p ys (i + 1) n) (call i y q called).1 rest) k j (omega arith) (omega arith)

  pub from_fn_same : (ys : List B) (n : ℕ) → length zs ≡ n → IsFromFnResult g f ys n → ys ≡ zs
  from_fn_same ys n long made =
      ext_get_or d ys zs (made.long ∙ sym long) (λ k h. each ys 0 n made.each k k (omega (arith, made.long)) (omega arith))
