-- The safe stack area of a good state, in a RAM of the right size; and what is written to the part of RAM that is lent, and read from it.
-- Assumes nothing.
use Prim.Native.Nat.{ℕ, ◌+◌, ◌-◌, ◌≤◌}
use mathlib.Core.Path.{◌≡◌}
use mathlib.Core.Bool.{true}
use mathlib.Core.List.{List}
use native.Mathlib.Omega.{arith}
use lib.ListN.{length, take, length-drop}
use lib.Seq.{sets, slice, length-take-le}
use borrow.Rule.Slice.PartMut.{mid_of, put_mid}
use Rattle.rules.specs.declared.State.{State}
use Rattle.rules.specs.Memory.{ram_bytes}
use Rattle.rules.specs.State.{good_state}
use Rattle.laws.proofs.Parts.{put_sets, take_part}
use Rattle.operations.proofs.Good.{good_bounds}

pub record Area (s : State) (ram : List ℕ) : Type 0 where
  pub safe≤pointer : s.config.safe.0 ≤ s.safepointer.0
  pub pointer≤top : s.safepointer.0 ≤ s.config.top.0
  pub top≤length : s.config.top.0 ≤ length ram
  pub top≤ram : s.config.top.0 ≤ ram_bytes

pub area : (s : State) (ram : List ℕ) → length ram ≡ ram_bytes → good_state s ≡ true → Area s ram
area s ram size good =
    let (_, _, from, to, top) = good_bounds s good in
    record { safe≤pointer = from; pointer≤top = to; top≤length = omega arith; top≤ram = top }

-- the part that is lent
abbrev pub lent : State → List ℕ → List ℕ
lent s ram = mid_of s.config.safe.0 (s.config.top.0 - s.config.safe.0) ram

pub lent_length : (s : State) (ram : List ℕ) → Area s ram → length (lent s ram) ≡ s.config.top.0 - s.config.safe.0
lent_length s ram a =
    length-take-le (s.config.top.0 - s.config.safe.0) _ (omega (arith, length-drop s.config.safe.0 ram))

module _ (s : State) (ram : List ℕ) (a : Area s ram) (n : ℕ) (fits : s.safepointer.0 + n ≤ s.config.top.0) where
  pub room : (s.safepointer.0 - s.config.safe.0 + n ≤ length (lent s ram)) × (length (lent s ram) ≤ ram_bytes)
  room = rw (lent_length s ram a) (omega arith, omega arith)

-- a run of stores from a place of the part on is that run in RAM
pub put_from : (safe at k : ℕ) (ram vs : List ℕ) → safe ≤ at → at - safe + length vs ≤ k
    → put_mid safe k ram (sets (mid_of safe k ram) (at - safe) vs) ≡ sets ram at vs
put_from safe at k ram vs from fits = let i : safe + (at - safe) ≡ at = omega arith in rw i at (put_sets safe k ram (at - safe) vs fits)

-- the first bytes of the part are a slice of RAM
pub slice_of : (safe at top : ℕ) (ram : List ℕ) → safe ≤ at → at ≤ top → take (at - safe) (mid_of safe (top - safe) ram) ≡ slice safe at ram
slice_of safe at top ram from to =
    let i : safe + (at - safe) ≡ at = omega arith in rw (take_part safe top (at - safe) ram (omega arith), i)
