-- What the check of free and change finds in the codes of the map.
use Rattle.std.specs.Prelude.{ℕ, ◌≤◌, ◌<◌, ◌≡◌, true, Result, Ok, Err, ⊤}
use Rattle.rules.specs.declared.RamByte.{RamByte}
use Rattle.rules.specs.declared.State.{State}
use Rattle.rules.specs.declared.Refusal.{Refusal}
use Rattle.rules.specs.Memory.{Codes}
use Rattle.rules.specs.Store.{owner_at}
use Rattle.rules.specs.Free.{is_segment, free_rows, change_rows}

-- a heap address, at which a segment of the current domain starts
abbrev pub OwnSegment : State → Codes → RamByte → Type 0
OwnSegment s codes a =
    (s.config.heap.0 ≤ a.0)
    × (a.0 < s.config.safe.0)
    × (is_segment s.config codes a ≡ true)
    × (owner_at s.config codes a ≡ s.domain)

-- free and change refuse alike, whatever the new domain
abbrev pub SegmentFor : Result ⊤ Refusal → State → Codes → RamByte → Type 0
SegmentFor (Ok _) s codes a = OwnSegment s codes a
SegmentFor (Err r) s codes a = (free_rows s codes a ≡ Err r) × ((d : ℕ) → change_rows s codes a d ≡ Err r)
