-- Digits of a number to any radix r above 0, and digits of the cells of a list, p to a cell: reading after writing, bounds, and that the
-- digits determine the number.
-- Assumes nothing.
use Rattle.std.proofs.Common.{ℕ, zero, suc, ◌/◌, ◌%◌, ◌^◌, ◌≤◌, ◌<◌, ◌≡◌, refl, sym, ap, ◌≢◌, List, mod-lt, div-add-mod', div-lt_iff_lt-mul, pow-suc, zero-lt-suc, arith, ltb-true, ltb-false, length, get_or, get_or-set_same, get_or-set_other, ltb}
use Rattle.std.proofs.Math.Nat.{pow-zero}
use Rattle.std.proofs.Math.Decide.{ℕ_discrete}
use Rattle.std.proofs.Math.Seq.{set_out}
use Rattle.std.proofs.Math.Arith.{digits_lt, digits_div, digits_mod}
use Rattle.rules.specs.Memory.{digit, set_digit, cell_digit, set_cell_digit}
use Rattle.laws.proofs.Tests.{by_test}

-- place k of cells with p digits each is digit k % p of cell k / p, and no other place is
pub place_by : (p k j : ℕ) → k / p ≡ j / p → k % p ≡ j % p → k ≡ j
place_by p k j e f = cc (div-add-mod' k p, div-add-mod' j p)

module _ (r : ℕ) (pos : 0 < r) where
  pub digit_lt : (i b : ℕ) → digit r i b < r
  unfolding digit
  digit_lt zero b = mod-lt b pos
  digit_lt (suc i) b = digit_lt i (b / r)

  pub digit_same : (i b v : ℕ) → v < r → digit r i (set_digit r i b v) ≡ v
  unfolding digit set_digit
  digit_same zero b v h = digits_mod (b / r) h
  digit_same (suc i) b v h = rw (digits_div (set_digit r i (b / r) v) (mod-lt b pos)) (digit_same i (b / r) v h)

  pub digit_other : (i j b v : ℕ) → v < r → i ≢ j → digit r j (set_digit r i b v) ≡ digit r j b
  unfolding digit set_digit
  digit_other zero zero b v h n = absurd (n refl)
  digit_other zero (suc j) b v h n = rw (digits_div (b / r) h) refl
  digit_other (suc i) zero b v h n = digits_mod (set_digit r i (b / r) v) (mod-lt b pos)
  digit_other (suc i) (suc j) b v h n =
      rw (digits_div (set_digit r i (b / r) v) (mod-lt b pos)) (digit_other i j (b / r) v h (λ e. n (ap suc e)))

  -- one digit fewer
  shorter : (p b : ℕ) → b < r ^ suc p → b / r < r ^ p
  shorter p b h = (div-lt_iff_lt-mul pos).1 (rw pow-suc at h)

  pub set_digit_lt : (p i b v : ℕ) → v < r → i < p → b < r ^ p → set_digit r i b v < r ^ p
  unfolding set_digit
  set_digit_lt zero i b v h l k = absurd (omega arith)
  set_digit_lt (suc p) zero b v h l k = rw pow-suc (digits_lt (shorter p b k) h)
  set_digit_lt (suc p) (suc i) b v h l k =
      rw pow-suc (digits_lt (set_digit_lt p i (b / r) v h (omega arith) (shorter p b k)) (mod-lt b pos))

  -- the digits determine the number
  pub digits_ext : (p b b' : ℕ) → b < r ^ p → b' < r ^ p → ((i : ℕ) → i < p → digit r i b ≡ digit r i b') → b ≡ b'
  unfolding digit
  digits_ext zero b b' h h' same = omega (arith, pow-zero r)
  digits_ext (suc p) b b' h h' same =
      let low : b % r ≡ b' % r = same 0 (zero-lt-suc p) in
      let high : b / r ≡ b' / r =
      digits_ext p (b / r) (b' / r) (shorter p b h) (shorter p b' h') (λ i l. same (suc i) (omega arith)) in
      cc (div-add-mod' b r, div-add-mod' b' r)

  -- ---- digits of the cells of a list

  module _ (cells : List ℕ) where
    -- the cell that a write within the list leaves
    cell_at : (a i v : ℕ) → a < length cells → get_or (set_cell_digit r cells a i v) a 0 ≡ set_digit r i (get_or cells a 0) v
    cell_at a i v h = rw get_or-set_same

    -- a cell outside it is not written
    cell_out : (a i v : ℕ) → length cells ≤ a → set_cell_digit r cells a i v ≡ cells
    cell_out a i v h = set_out cells a _ h

    pub cell_same : (a i v : ℕ) → a < length cells → v < r → cell_digit r (set_cell_digit r cells a i v) a i ≡ v
    cell_same a i v h l = rw (cell_at a i v h) (digit_same i (get_or cells a 0) v l)

    pub cell_other : (a i b j v : ℕ) → v < r → (a ≡ b → i ≢ j) → cell_digit r (set_cell_digit r cells a i v) b j ≡ cell_digit r cells b j
    cell_other a i b j v l n =
        elim (ℕ_discrete b a) [
          | yes e ↦
              by_test (ltb a (length cells))
              (λ t. rw (e, cell_at a i v (ltb-true _ _ t)) (digit_other i j (get_or cells a 0) v l (n (sym e))))
              (λ t. rw (cell_out a i v (ltb-false _ _ t)) refl)
          | no d ↦ rw (get_or-set_other cells a b (set_digit r i (get_or cells a 0) v) 0 d) refl
        ]

    -- cells of p digits stay cells of p digits
    pub cells_fit : (p a i v : ℕ) → v < r → i < p → ((b : ℕ) → get_or cells b 0 < r ^ p) → (b : ℕ) → get_or (set_cell_digit r cells a i v) b 0 < r ^ p
    cells_fit p a i v l m fit b =
        elim (ℕ_discrete b a) [
          | yes e ↦
              by_test (ltb a (length cells))
              (λ t. rw (e, cell_at a i v (ltb-true _ _ t)) (set_digit_lt p i (get_or cells a 0) v l m (fit a)))
              (λ t. rw (cell_out a i v (ltb-false _ _ t)) (fit b))
          | no d ↦ rw (get_or-set_other cells a b (set_digit r i (get_or cells a 0) v) 0 d) (fit b)
        ]
