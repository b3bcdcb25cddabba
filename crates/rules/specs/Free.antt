-- Section 5: free and change of owner.
use Rattle.std.specs.Prelude.{ℕ, zero, suc, ◌-◌, Bool, cond, not, ◌&&◌, List, replicate, leb, ltb, eqb, Ok}
use Rattle.rules.specs.declared.RamByte.{RamByte}
use Rattle.rules.specs.declared.Config.{Config}
use Rattle.rules.specs.declared.State.{State}
use Rattle.rules.specs.Answers.{Answer, ◌⇒◌∣◌}
use Rattle.rules.specs.declared.Refusal.TheVariants.{NoSegment, NotOwner, DomainAbove}
use Rattle.rules.specs.Memory.{Layout, layout_of, Codes, start_of, block_of, safe_block, code_of, set_codes, later_code, free_code, owner_of, starts_segment, segment_codes, is_module}
use Rattle.rules.specs.Store.{owner_at}

-- "The address must be the first of a heap block whose code is odd and not 15."
abbrev pub is_segment : Config → Codes → RamByte → Bool
is_segment c codes a =
    leb c.heap.0 a.0
    && ltb a.0 c.safe.0
    && eqb (start_of c (block_of c a)) a.0
    && starts_segment (layout_of c) (codes (block_of c a))

-- how many of the blocks from k on, at most left, continue a segment of domain d
unfoldable pub continued : Config → Codes → ℕ → ℕ → ℕ → ℕ
continued c codes d k zero = 0
continued c codes d k (suc left) =
    let more = suc (continued c codes d (suc k) left) in
    cond (eqb (codes k) (later_code (layout_of c) d)) more 0

-- "The segment is that block and the heap blocks directly after it that continue the same owner.": how many blocks
unfoldable pub segment_blocks : Config → Codes → ℕ → ℕ
segment_blocks c codes k = suc (continued c codes (owner_of (layout_of c) (codes k)) (suc k) (safe_block c - suc k))

-- "Value: the number of blocks."
abbrev pub blocks_at : State → Codes → RamByte → ℕ
blocks_at s codes a = segment_blocks s.config codes (block_of s.config a)

-- "Only the owner may act."
abbrev pub free_rows : State → Codes → RamByte → Answer
free_rows s codes a =
    not (is_segment s.config codes a) ⇒ NoSegment ∣
    not (eqb (owner_at s.config codes a) s.domain) ⇒ NotOwner ∣
    Ok (blocks_at s codes a)

-- "Free writes 15 throughout"
abbrev pub freed : Layout → State → List ℕ → RamByte → List ℕ
freed m s ram a = set_codes m ram (block_of s.config a) (replicate (blocks_at s (code_of m ram) a) (free_code m))

abbrev pub change_rows : State → Codes → RamByte → ℕ → Answer
change_rows s codes a d =
    not (is_segment s.config codes a) ⇒ NoSegment ∣
    not (eqb (owner_at s.config codes a) s.domain) ⇒ NotOwner ∣
    not (is_module s.config d) ⇒ DomainAbove ∣
    Ok (blocks_at s codes a)

-- "change writes the new domain's codes"; "A change to oneself is accepted."
abbrev pub changed : Layout → State → List ℕ → RamByte → ℕ → List ℕ
changed m s ram a d = set_codes m ram (block_of s.config a) (segment_codes m d (blocks_at s (code_of m ram) a))
