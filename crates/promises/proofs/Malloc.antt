-- Malloc keeps the invariant: the run that it finds is free, so the new segment fits the row.
-- Assumes nothing.
use Rattle.std.proofs.Common.{ℕ, ◌+◌, ◌≤◌, ◌<◌, ◌≡◌, refl, sym, ap, ◌∙◌, subst, Bool, true, false, true≢false, List, [], ◌∷◌, arith, length, eqb, Option, Some, None, Ok}
use borrow.Author.Tests.{eqb-false}
use Rattle.rules.specs.declared.Block.{Block}
use Rattle.rules.specs.declared.Config.{Config}
use Rattle.rules.specs.declared.State.{State}
use Rattle.rules.specs.declared.Operation.TheVariants.{Malloc}
use Rattle.rules.specs.declared.Refusal.{Refusal}
use Rattle.rules.specs.declared.Refusal.TheVariants.{TrustedMalloc, SizeZero, NoRun}
use Rattle.rules.specs.Memory.{layout_of, start_of, blocks_for, heap_block, safe_block, Codes, codes_of, set_codes, segment_codes, trusted, is_module}
use Rattle.rules.specs.Store.{is_trusted}
use Rattle.rules.specs.Malloc.{lowest_run, room_for, nowhere, address_of, taken}
use Rattle.rules.specs.Operations.{Lent, operation_of}
use Rattle.laws.proofs.Rows.{passed}
use Rattle.laws.proofs.Blocks.{block_start, blocks_for_pos}
use Rattle.laws.proofs.Codes.{domain_module, domain_at, length-segment_codes, segment_codes-below}
use Rattle.laws.proofs.Search.{found, found_in_heap, free_run_at, free_block}
use Rattle.promises.specs.Ledger.{Segment, entered, first_block, HeapSegment}
use Rattle.promises.specs.Calls.{OpenCall, domain_left}
use Rattle.promises.proofs.Row.{enter_row, code_segment, code_past}
use Rattle.promises.proofs.Holds.{Holds, Kept, Keeps, done_by, plain, by_rows, write_codes}

-- the table of malloc
abbrev pub malloc_tests : State → Codes → ℕ → List (Bool × Refusal)
malloc_tests s codes size =
    (is_trusted s, TrustedMalloc) ∷ (eqb size 0, SizeZero) ∷ (nowhere (room_for s codes size), NoRun) ∷ []

pub somewhere : (f : Option Block) → nowhere f ≡ false → (b : Block) × (f ≡ Some b)
somewhere (Some b) e = (b, refl)
somewhere None e = absurd (true≢false e)

module _ (s : State) (ram : List ℕ) (gs : List Segment) (ks : List OpenCall) (h : Holds s ram gs ks) where
  -- n free blocks from b on become a segment
  taken_keeps : (n : ℕ) (b : Block) → 0 < n → is_module s.config s.domain ≡ true → lowest_run s.config (codes_of s.config ram) n ≡ Some b
      → Keeps s ram s (set_codes (layout_of s.config) ram b.0 (segment_codes (layout_of s.config) s.domain n))
      (entered (record { address = start_of s.config b.0; blocks = n; owner = s.domain }) gs) ks
  taken_keeps n b p m e =
      let c : Config = s.config in
      let codes : Codes = codes_of c ram in
      let g : Segment = record { address = start_of c b.0; blocks = n; owner = s.domain } in
      let vs : List ℕ = segment_codes (layout_of c) s.domain n in
      let q : first_block c g ≡ b.0 = block_start c b.0 in
      let (l, run, _) = found c codes n b e in
      let u : b.0 + n ≤ safe_block c = found_in_heap c codes n b e p in
      let len : length vs ≡ n = length-segment_codes (layout_of c) s.domain n in
      let in_heap : HeapSegment c g =
      record { at_block = ap (start_of c) q; from_heap = omega arith; to_safe = omega arith; some = p; by_module = m } in
      let (row, coded) =
      enter_row c (heap_block c) g gs in_heap (omega arith) h.row
      (λ k f t.
      let (_, _, free) = free_block c codes k (free_run_at c codes n b.0 run k (omega arith) (omega arith)) in
      sym (h.heap k (omega arith) (omega arith)) ∙ free) in
      subst (λ (k : ℕ). Keeps s ram s (set_codes (layout_of c) ram k vs) (entered g gs) ks) q
      (write_codes s ram gs ks h (first_block c g) vs (entered g gs) (omega arith) (omega arith)
      (segment_codes-below (layout_of c) s.domain n (domain_at c s.domain h.good.domain)) row
      (λ i t. coded (first_block c g + i) ∙ code_segment c g gs i (omega arith))
      (λ j out. coded j ∙ code_past c g gs j p (λ t. omega (arith, out t))))

  -- the same in the words of the rule and of the ledger
  answered : (n v : ℕ) (f : Option Block) (b : Block) → f ≡ Some b → start_of s.config b.0 ≡ v
      → Keeps s ram s (set_codes (layout_of s.config) ram b.0 (segment_codes (layout_of s.config) s.domain n))
      (entered (record { address = start_of s.config b.0; blocks = n; owner = s.domain }) gs) ks
      → Keeps s ram s (taken (layout_of s.config) s ram n f) (entered (record { address = v; blocks = n; owner = domain_left ks }) gs) ks
  answered n v f b q w k = rw (q, ← w, ← h.current) k

  pub malloc_kept : (l : Lent) (size : ℕ) → Kept s ram gs ks (Malloc size) (operation_of s ram l (Malloc size))
  malloc_kept l size =
      by_rows s ram gs ks (Malloc size) h l
      (λ v e.
      let c : Config = s.config in
      let f : Option Block = room_for s (codes_of c ram) size in
      let (t, last) = passed (malloc_tests s (codes_of c ram) size) (Ok (address_of c f)) v e in
      let (b, q) = somewhere f t.1.1.0 in
      let w : start_of c b.0 ≡ v = cc in
      plain s ram gs ks (Malloc size) (done_by s ram (Malloc size) v)
      (answered (blocks_for c size) v f b q w
      (taken_keeps (blocks_for c size) b (blocks_for_pos c (omega (arith, eqb-false size 0 t.1.0)))
      (domain_module c s.domain h.good.domain (eqb-false s.domain trusted t.0)) q)))
