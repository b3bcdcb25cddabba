-- The segments that the accepted requests leave, and the segments that the map shows.
-- No axiom.
use Rattle.std.specs.Prelude.{ℕ, zero, suc, ◌+◌, ◌-◌, ◌*◌, ◌≤◌, ◌<◌, ◌≡◌, true, cond, ◌&&◌, List, [], ◌∷◌, ◌++◌, ltb, eqb, Ok, Err}
use Rattle.rules.specs.declared.Config.{Config}
use Rattle.rules.specs.declared.Operation.{Operation}
use Rattle.rules.specs.declared.Operation.TheVariants.{Store, Call, Return, Malloc, Free, Change}
use Rattle.rules.specs.Answers.{Answer}
use Rattle.rules.specs.Memory.{layout_of, block_bytes, start_of, block_of, blocks_for, heap_block, safe_block, Codes, start_code, later_code, free_code, owner_of, starts_segment, is_module}
use Rattle.rules.specs.State.{ram_byte}
use Rattle.rules.specs.Free.{segment_blocks}
use Rattle.promises.specs.History.{History, set_up, ◌then◌, config_of, answer_to}
use Rattle.promises.specs.Calls.{open_calls, domain_left}

-- where it starts, how many blocks it has, and whose it is
pub record Segment : Type 0 where
  pub address : ℕ
  pub blocks : ℕ
  pub owner : ℕ

-- ---- the ledger, made from what was asked and answered. It never looks at the machine.

-- g entered where its address puts it
unfoldable pub entered : Segment → List Segment → List Segment
entered g [] = g ∷ []
entered g (f ∷ fs) = cond (ltb g.address f.address) (g ∷ f ∷ fs) (f ∷ entered g fs)

-- with the segment at address a replaced by what put makes of it
unfoldable pub replaced_at : ℕ → (Segment → List Segment) → List Segment → List Segment
replaced_at a put [] = []
replaced_at a put (f ∷ fs) = cond (eqb f.address a) (put f ++ fs) (f ∷ replaced_at a put fs)

-- by nothing
abbrev pub struck : Segment → List Segment
struck f = []

-- by the same blocks, of domain d
abbrev pub made_over : ℕ → Segment → List Segment
made_over d f = record { address = f.address; blocks = f.blocks; owner = d } ∷ []

-- what an operation and its answer make of the ledger; d is the domain that was current
abbrev pub booked : Config → ℕ → Operation → Answer → List Segment → List Segment
booked c d op (Err r) gs = gs
booked c d (Malloc size) (Ok v) gs = entered (record { address = v; blocks = blocks_for c size; owner = d }) gs
booked c d (Free a) (Ok v) gs = replaced_at a.0 struck gs
booked c d (Change a e) (Ok v) gs = replaced_at a.0 (made_over e) gs
-- the others leave it
booked c d (Store a b) (Ok v) gs = gs
booked c d (Call t site p) (Ok v) gs = gs
booked c d Return (Ok v) gs = gs

unfoldable pub ledger : History → List Segment
ledger (set_up c ram) = []
ledger (h then o) = booked (config_of h) (domain_left (open_calls h)) o.operation (answer_to h o) (ledger h)

-- ---- its segments

-- the first block of a segment, and the first behind it
abbrev pub first_block : Config → Segment → ℕ
first_block c g = block_of c (ram_byte g.address)

abbrev pub end_block : Config → Segment → ℕ
end_block c g = first_block c g + g.blocks

-- address x is one of its bytes
abbrev pub InSegment : Config → Segment → ℕ → Type 0
InSegment c g x = (g.address ≤ x) × (x < g.address + g.blocks * block_bytes c)

-- it starts where a block starts, lies in the heap, isn't empty, and its owner is a module, 0 to 6
pub record HeapSegment (c : Config) (g : Segment) : Type 0 where
  pub at_block : start_of c (first_block c g) ≡ g.address
  pub from_heap : heap_block c ≤ first_block c g
  pub to_safe : end_block c g ≤ safe_block c
  pub some : 0 < g.blocks
  pub by_module : is_module c g.owner ≡ true

-- from block k on, each begins where the one before it ends or later: no two share a block
abbrev pub Apart : Config → ℕ → List Segment → Type 0
Apart c k [] = Unit {0}
Apart c k (g ∷ gs) = (k ≤ first_block c g) × Apart c (end_block c g) gs

-- the code that Table 1 gives block k, if gs are all the segments
unfoldable pub code_by : Config → List Segment → ℕ → ℕ
code_by c [] k = free_code (layout_of c)
code_by c (g ∷ gs) k =
    cond (eqb k (first_block c g)) (start_code (layout_of c) g.owner)
    (cond (ltb (first_block c g) k && ltb k (end_block c g)) (later_code (layout_of c) g.owner)
    (code_by c gs k))

-- ---- what the map shows by its codes: at each heap block that starts a segment, that segment (section 5, free)

abbrev pub segment_at : Config → Codes → ℕ → Segment
segment_at c codes k =
    record {
      address = start_of c k;
      blocks = segment_blocks c codes k;
      owner = owner_of (layout_of c) (codes k);
    }

-- those that start at one of the blocks from k on, left of them
unfoldable pub shown_from : Config → Codes → ℕ → ℕ → List Segment
shown_from c codes k zero = []
shown_from c codes k (suc left) =
    let later = shown_from c codes (suc k) left in
    cond (starts_segment (layout_of c) (codes k)) (segment_at c codes k ∷ later) later

unfoldable pub shown : Config → Codes → List Segment
shown c codes = shown_from c codes (heap_block c) (safe_block c - heap_block c)
