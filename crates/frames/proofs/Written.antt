-- Bytes copied over a part of the area are a run of stores.
-- Assumes nothing.
use Prim.Native.Nat.{ℕ, ◌+◌, ◌≤◌}
use mathlib.Core.Path.{◌≡◌}
use mathlib.Core.List.{List, append_assoc}
use native.Mathlib.Omega.{arith}
use lib.ListN.{length}
use lib.Seq.{sets, sets-eq, drop-drop}
use borrow.Rule.Slice.PartMut.{put_mid}

pub copied : (a k : ℕ) (xs ys vs : List ℕ) → ys ≡ vs → length vs ≡ k → a + k ≤ length xs → put_mid a k xs ys ≡ sets xs a vs
copied a k xs ys vs e n fits = rw (e, sets-eq vs xs a (omega arith), append_assoc, drop-drop, n)
