-- Code in rising order, the trusted code before or after it, is ordered and apart: what the one pass of hmt_c over a slot relies on.
-- Assumes nothing.
use Prim.Native.Nat.{ℕ, ◌≤◌, ◌<◌}
use mathlib.Core.Path.{◌≡◌, refl}
use mathlib.Core.Bool.{true, ◌&&◌, or-true}
use mathlib.Core.List.{List, [], ◌∷◌}
use native.Mathlib.Omega.{arith}
use borrow.Author.Tests.{le-leb, eq-eqb}
use Rattle.rules.specs.declared.FlashWord.{FlashWord}
use Rattle.rules.specs.declared.Range.{Range}
use Rattle.rules.specs.Code.{ordered, apart_from, all_apart}
use Rattle.laws.proofs.Tests.{and-true}

-- The ranges that are left, the trusted one last among them, where the modules before reach from first up to last.
pub data Rises (jt : FlashWord) (first : ℕ) : ℕ → List Range → Type 0 where
  after : {last : ℕ} {code : Range} → last ≤ code.start.0 → code.start.0 ≤ code.end.0 → code.end.0 ≤ jt.0
      → Rises jt first last (code ∷ [])
  before : {last : ℕ} {code : Range} → code.start.0 ≤ code.end.0 → code.end.0 ≤ first → last ≤ jt.0
      → Rises jt first last (code ∷ [])
  next : {last : ℕ} {r : Range} {rs : List Range} → last ≤ r.start.0 → r.start.0 ≤ r.end.0 → Rises jt first r.end.0 rs
      → Rises jt first last (r ∷ rs)
  empty : {last : ℕ} {r : Range} {rs : List Range} → r.start.0 ≡ r.end.0 → r.start.0 < last → Rises jt first last rs
      → Rises jt first last (r ∷ rs)

empty_apart : (r : Range) → r.start.0 ≡ r.end.0 → (rs : List Range) → apart_from r rs ≡ true
unfolding apart_from
empty_apart r e [] = refl
empty_apart r e (q ∷ qs) = simp (eq-eqb _ _ e) (empty_apart r e qs)

module _ (jt : FlashWord) (first : ℕ) where
  last≤jt : {last : ℕ} {rs : List Range} → Rises jt first last rs → last ≤ jt.0
  last≤jt (after a b c) = omega arith
  last≤jt (before a b c) = c
  last≤jt (next a b rest) = omega (arith, last≤jt rest)
  last≤jt (empty a b rest) = last≤jt rest

  all_ordered : {last : ℕ} {rs : List Range} → first ≤ last → Rises jt first last rs → ordered jt rs ≡ true
  unfolding ordered
  all_ordered f (after a b c) = rw (le-leb _ _ b, le-leb _ _ c)
  all_ordered f (before {last} {code} a b c) = rw (le-leb _ _ a, le-leb code.end.0 jt.0 (omega arith))
  all_ordered f (next {last} {r} a b rest) = rw (le-leb _ _ b, le-leb r.end.0 jt.0 (last≤jt rest)) (all_ordered (omega arith) rest)
  all_ordered f (empty {last} {r} a b rest) =
      rw (le-leb r.start.0 r.end.0 (omega arith), le-leb r.end.0 jt.0 (omega (arith, last≤jt rest))) (all_ordered f rest)

  -- a module that was passed is apart from all that is left
  apart_from_lem : (m : Range) {last : ℕ} {rs : List Range} → first ≤ m.start.0 → m.end.0 ≤ last → Rises jt first last rs → apart_from m rs ≡ true
  unfolding apart_from
  apart_from_lem m f l (after {last} {code} a b c) = simp (le-leb m.end.0 code.start.0 (omega arith), or-true)
  apart_from_lem m f l (before {last} {code} a b c) = simp (le-leb code.end.0 m.start.0 (omega arith), or-true)
  apart_from_lem m f l (next {last} {r} a b rest) =
      simp (le-leb m.end.0 r.start.0 (omega arith), or-true) (apart_from_lem m f (omega arith) rest)
  apart_from_lem m f l (empty a b rest) = simp (eq-eqb _ _ a, or-true) (apart_from_lem m f l rest)

  all_apart_lem : {last : ℕ} {rs : List Range} → first ≤ last → Rises jt first last rs → all_apart rs ≡ true
  unfolding all_apart apart_from
  all_apart_lem f (after a b c) = refl
  all_apart_lem f (before a b c) = refl
  all_apart_lem f (next {last} {r} a b rest) = and-true _ _ (apart_from_lem r (omega arith) (omega arith) rest) (all_apart_lem (omega arith) rest)
  all_apart_lem f (empty {last} {r} {rs} a b rest) = and-true _ _ (empty_apart r a rs) (all_apart_lem f rest)

  pub rises_good : (rs : List Range) → Rises jt first first rs → (ordered jt rs && all_apart rs) ≡ true
  rises_good rs h = and-true (ordered jt rs) (all_apart rs) (all_ordered (omega arith) h) (all_apart_lem (omega arith) h)
