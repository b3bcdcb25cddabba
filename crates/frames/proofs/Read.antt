-- When the last frame of the bytes used is damage, by the bytes of the area that the code reads.
-- Assumes nothing.
use Prim.Native.Nat.{ℕ, ◌-◌, ◌≤◌, ◌<◌}
use mathlib.Core.Path.{◌≡◌, refl}
use mathlib.Core.List.{List}
use native.Mathlib.Omega.{arith}
use lib.ListN.{length, get_or, take}
use lib.Seq.{length-take-le, get_or-take}
use borrow.Author.Tests.{ne_eqb, lt-ltb, le-leb, lt-leb}
use Rattle.rules.specs.declared.Frame.TheVariants.{Damage}
use Rattle.rules.specs.Memory.{trusted}
use Rattle.rules.specs.Call.{local_tag}
use Rattle.rules.specs.Return.{read_frame}

module _ (area : List ℕ) (used : ℕ) (some : 0 < used) (fits : used ≤ length area) where
  many : length (take used area) ≡ used
  many = length-take-le used area fits

  tag_read : (t : ℕ) → get_or area (used - 1) 0 ≡ t → get_or (take used area) (used - 1) 0 ≡ t
  tag_read t e = let h : used - 1 < used = omega arith in rw get_or-take e

  pub local_short : get_or area (used - 1) 0 ≡ local_tag → used < 3 → Damage ≡ read_frame (take used area)
  unfolding read_frame
  local_short t h = simp (many, tag_read local_tag t, lt-ltb used 3 h)

  pub cross_short : (get_or area (used - 1) 0 ≡ local_tag → ⊥) → get_or area (used - 1) 0 ≤ trusted → used < 5
      → Damage ≡ read_frame (take used area)
  unfolding read_frame
  cross_short t l h = simp (many, tag_read _ refl, ne_eqb _ _ t, le-leb _ _ l, lt-ltb used 5 h)

  pub other_tag : (get_or area (used - 1) 0 ≡ local_tag → ⊥) → trusted < get_or area (used - 1) 0 → Damage ≡ read_frame (take used area)
  unfolding read_frame
  other_tag t l = simp (many, tag_read _ refl, ne_eqb _ _ t, lt-leb _ _ l)
