-- Free and change of owner keep the invariant: the segment that the map shows at the address is one of the ledger's.
-- Assumes nothing.
use Rattle.std.proofs.Common.{ℕ, ◌+◌, ◌≤◌, ◌<◌, ◌≡◌, sym, ap, ◌∙◌, Bool, true, not, List, [], ◌∷◌, ◌++◌, arith, length, get_or, replicate, eqb, leb, ltb, leb-true, ltb-true, eqb-true, Ok}
use Rattle.std.proofs.Math.ListN.{length-replicate, get_or-replicate}
use borrow.Author.Tests.{not-false}
use Rattle.rules.specs.declared.RamByte.{RamByte}
use Rattle.rules.specs.declared.Config.{Config}
use Rattle.rules.specs.declared.State.{State}
use Rattle.rules.specs.declared.Operation.TheVariants.{Free, Change}
use Rattle.rules.specs.declared.Refusal.{Refusal}
use Rattle.rules.specs.declared.Refusal.TheVariants.{NoSegment, NotOwner, DomainAbove}
use Rattle.rules.specs.Memory.{layout_of, radix, start_of, block_of, heap_block, safe_block, Codes, codes_of, set_codes, segment_codes, free_code, owner_of, starts_segment, is_module}
use Rattle.rules.specs.Store.{owner_at}
use Rattle.rules.specs.Free.{is_segment, segment_blocks, blocks_at, free_rows, change_rows}
use Rattle.rules.specs.Operations.{Lent, operation_of}
use Rattle.laws.proofs.Tests.{each}
use Rattle.laws.proofs.Rows.{passed}
use Rattle.laws.proofs.AllBelow.{AllBelow, all_replicate}
use Rattle.laws.proofs.Codes.{module_domain, domain_at, free_code_lt, length-segment_codes, segment_codes-below}
use Rattle.laws.proofs.Good.{GoodConfig, bot<heap, from_heap_lem, to_safe_lem}
use Rattle.promises.specs.Ledger.{Segment, replaced_at, struck, made_over, first_block, HeapSegment, code_by}
use Rattle.promises.specs.Calls.{OpenCall}
use Rattle.promises.specs.Promise.{◌∈◌}
use Rattle.promises.proofs.Row.{row_in_heap, holder, InPlaceOf, struck_place, over_place, replace_row, code_none, code_segment}
use Rattle.promises.proofs.Shown.{member_blocks, member_owner}
use Rattle.promises.proofs.Holds.{Holds, Kept, Keeps, done_by, plain, by_rows, write_codes}

-- ---- the tables of free and change

-- what both have passed: the address is that of a segment, of the domain that asks, and the value is its number of blocks
pub record Own (s : State) (codes : Codes) (a : RamByte) (v : ℕ) : Type 0 where
  pub segment : is_segment s.config codes a ≡ true
  pub owner : owner_at s.config codes a ≡ s.domain
  pub count : blocks_at s codes a ≡ v

abbrev pub free_tests : State → Codes → RamByte → List (Bool × Refusal)
free_tests s codes a =
    (not (is_segment s.config codes a), NoSegment) ∷ (not (eqb (owner_at s.config codes a) s.domain), NotOwner) ∷ []

abbrev pub change_tests : State → Codes → RamByte → ℕ → List (Bool × Refusal)
change_tests s codes a d = free_tests s codes a ++ ((not (is_module s.config d), DomainAbove) ∷ [])

pub freed_own : (s : State) (codes : Codes) (a : RamByte) (v : ℕ) → free_rows s codes a ≡ Ok v → Own s codes a v
freed_own s codes a v e =
    let (t, last) = passed (free_tests s codes a) (Ok (blocks_at s codes a)) v e in
    record { segment = not-false _ t.0; owner = eqb-true _ _ (not-false _ t.1.0); count = (cc) }

pub changed_own : (s : State) (codes : Codes) (a : RamByte) (d v : ℕ) → change_rows s codes a d ≡ Ok v
    → Own s codes a v × (is_module s.config d ≡ true)
changed_own s codes a d v e =
    let (t, last) = passed (change_tests s codes a d) (Ok (blocks_at s codes a)) v e in (
      record { segment = not-false _ t.0; owner = eqb-true _ _ (not-false _ t.1.0); count = (cc) },
      not-false _ t.1.1.0,
    )

-- ---- where a segment starts in the heap

pub record StartAt (c : Config) (codes : Codes) (a : RamByte) : Type 0 where
  pub from_heap : heap_block c ≤ block_of c a
  pub to_safe : block_of c a < safe_block c
  pub at_block : start_of c (block_of c a) ≡ a.0
  pub starts : starts_segment (layout_of c) (codes (block_of c a)) ≡ true

pub start_at : (c : Config) (codes : Codes) (a : RamByte) → GoodConfig c → is_segment c codes a ≡ true → StartAt c codes a
start_at c codes a g t =
    let (from, (to, (at, starts))) =
    each (leb c.heap.0 a.0)
    (ltb a.0 c.safe.0
    ∷ eqb (start_of c (block_of c a)) a.0
    ∷ starts_segment (layout_of c) (codes (block_of c a))
    ∷ []) t in
    let l : c.heap.0 ≤ a.0 = leb-true _ _ from in
    record {
      from_heap = from_heap_lem g a l;
      to_safe = to_safe_lem g a (omega (arith, bot<heap g)) (ltb-true _ _ to);
      at_block = eqb-true _ _ at;
      starts = starts;
    }

-- the segment of the ledger that starts at an address
pub record SegmentAt (s : State) (codes : Codes) (gs : List Segment) (a : RamByte) : Type 0 where
  pub segment : Segment
  pub member : segment ∈ gs
  pub first : first_block s.config segment ≡ block_of s.config a
  pub address : segment.address ≡ a.0
  pub count : blocks_at s codes a ≡ segment.blocks
  pub owner : owner_at s.config codes a ≡ segment.owner

module _ (s : State) (ram : List ℕ) (gs : List Segment) (ks : List OpenCall) (h : Holds s ram gs ks) where
  pub segment_at_lem : (a : RamByte) → is_segment s.config (codes_of s.config ram) a ≡ true → SegmentAt s (codes_of s.config ram) gs a
  segment_at_lem a t =
      let c : Config = s.config in
      let codes : Codes = codes_of c ram in
      let at : StartAt c codes a = start_at c codes a h.good.config t in
      let (g, m, e) =
      holder c (heap_block c) gs h.row (block_of c a)
      (sym (ap (starts_segment (layout_of c)) (h.heap (block_of c a) at.from_heap at.to_safe)) ∙ at.starts) in
      record {
        segment = g;
        member = m;
        first = e;
        address = sym (row_in_heap c (heap_block c) gs h.row g m).at_block ∙ ap (start_of c) e ∙ at.at_block;
        count = ap (segment_blocks c codes) (sym e) ∙ member_blocks c codes (heap_block c) gs h.row h.heap g m;
        owner = ap (λ (k : ℕ). owner_of (layout_of c) (codes k)) (sym e) ∙ member_owner c codes (heap_block c) gs h.row h.heap g m;
      }

  -- new codes for the blocks of the segment at an address, and the ledger with something in its place
  replace_keeps : (put : Segment → List Segment) (new : ℕ → List ℕ) (a : RamByte) (at : SegmentAt s (codes_of s.config ram) gs a)
      → ((g : Segment) → HeapSegment s.config g → InPlaceOf s.config g (put g))
      → ((n : ℕ) → length (new n) ≡ n) → ((n : ℕ) → AllBelow (radix (layout_of s.config)) (new n))
      → ((g : Segment) (i : ℕ) → i < g.blocks → code_by s.config (put g) (first_block s.config g + i) ≡ get_or (new g.blocks) i 0)
      → Keeps s ram s (set_codes (layout_of s.config) ram (block_of s.config a) (new (blocks_at s (codes_of s.config ram) a)))
      (replaced_at a.0 put gs) ks
  replace_keeps put new a at place len below coded =
      let c : Config = s.config in
      let g : Segment = at.segment in
      let in_heap : HeapSegment c g = row_in_heap c (heap_block c) gs h.row g at.member in
      let n : length (new g.blocks) ≡ g.blocks = len g.blocks in
      let (row, inside, outside) = replace_row c put g (place g in_heap) (heap_block c) gs h.row at.member in
      rw (at.count, ← at.first, ← at.address)
      (write_codes s ram gs ks h (first_block c g) (new g.blocks) (replaced_at g.address put gs) in_heap.from_heap
      (omega (arith, in_heap.to_safe)) (below g.blocks) row
      (λ i t. inside (first_block c g + i) (omega arith) (omega arith) ∙ coded g i (omega arith))
      (λ j out. outside j (λ t. omega (arith, out t))))

  pub free_kept : (l : Lent) (a : RamByte) → Kept s ram gs ks (Free a) (operation_of s ram l (Free a))
  free_kept l a =
      by_rows s ram gs ks (Free a) h l
      (λ v e.
      let c : Config = s.config in
      let free : ℕ = free_code (layout_of c) in
      let own : Own s (codes_of c ram) a v = freed_own s (codes_of c ram) a v e in
      plain s ram gs ks (Free a) (done_by s ram (Free a) v)
      (replace_keeps struck (λ n. replicate n free) a (segment_at_lem a own.segment) (struck_place c)
      (λ n. length-replicate n free) (λ n. all_replicate (radix (layout_of c)) n free (free_code_lt (layout_of c)))
      (λ g i u. code_none c _ ∙ sym (get_or-replicate g.blocks i free 0 u))))

  pub change_kept : (l : Lent) (a : RamByte) (d : ℕ) → Kept s ram gs ks (Change a d) (operation_of s ram l (Change a d))
  change_kept l a d =
      by_rows s ram gs ks (Change a d) h l
      (λ v e.
      let c : Config = s.config in
      let (own, m) = changed_own s (codes_of c ram) a d v e in
      plain s ram gs ks (Change a d) (done_by s ram (Change a d) v)
      (replace_keeps (made_over d) (segment_codes (layout_of c) d) a (segment_at_lem a own.segment) (over_place c d m)
      (length-segment_codes (layout_of c) d) (λ n. segment_codes-below (layout_of c) d n (domain_at c d (module_domain c d m)))
      (λ g i u. code_segment c (record { address = g.address; blocks = g.blocks; owner = d }) [] i u)))
