-- Section 5: malloc.
use Rattle.std.specs.Prelude.{ℕ, zero, suc, ◌-◌, Bool, true, false, cond, ◌&&◌, List, eqb, Option, Some, None, Ok}
use Rattle.rules.specs.declared.Block.{Block}
use Rattle.rules.specs.declared.Config.{Config}
use Rattle.rules.specs.declared.State.{State}
use Rattle.rules.specs.Answers.{Answer, ◌⇒◌∣◌}
use Rattle.rules.specs.declared.Refusal.TheVariants.{TrustedMalloc, SizeZero, NoRun}
use Rattle.rules.specs.Memory.{Layout, Codes, start_of, blocks_for, heap_block, safe_block, set_codes, is_free, segment_codes}
use Rattle.rules.specs.Store.{is_trusted}

abbrev pub block : ℕ → Block
block k = record { 0 = k }

-- n free heap blocks stand in a row from k on
unfoldable pub free_run : Config → Codes → ℕ → ℕ → Bool
free_run c codes k zero = true
free_run c codes k (suc n) = is_free c codes k && free_run c codes (suc k) n

-- the first of the blocks from k on, left of them, at which n free ones stand in a row
unfoldable pub first_run : Config → Codes → ℕ → ℕ → ℕ → Option Block
first_run c codes n k zero = None
first_run c codes n k (suc left) = let later = first_run c codes n (suc k) left in cond (free_run c codes k n) (Some (block k)) later

-- "the lowest run of that many free heap blocks"
unfoldable pub lowest_run : Config → Codes → ℕ → Option Block
lowest_run c codes n = first_run c codes n (heap_block c) (safe_block c - heap_block c)

abbrev pub nowhere : Option Block → Bool
nowhere (Some k) = false
nowhere None = true

-- "Value: its address."
abbrev pub address_of : Config → Option Block → ℕ
address_of c (Some k) = start_of c k.0
address_of c None = 0

-- where malloc's run is
abbrev pub room_for : State → Codes → ℕ → Option Block
room_for s codes size = lowest_run s.config codes (blocks_for s.config size)

abbrev pub malloc_rows : State → Codes → ℕ → Answer
malloc_rows s codes size =
    is_trusted s ⇒ TrustedMalloc ∣
    eqb size 0 ⇒ SizeZero ∣
    nowhere (room_for s codes size) ⇒ NoRun ∣
    Ok (address_of s.config (room_for s codes size))

-- "The run becomes one segment of the current domain."
abbrev pub taken : Layout → State → List ℕ → ℕ → Option Block → List ℕ
taken m s ram n (Some k) = set_codes m ram k.0 (segment_codes m s.domain n)
taken m s ram n None = ram
