-- Malloc finds room if there is any, and what was freed is room again, until a malloc takes it.
-- Assumes nothing.
use Rattle.std.proofs.Common.{ℕ, ◌+◌, ◌-◌, ◌≤◌, ◌<◌, ◌≡◌, refl, sym, ap, ◌∙◌, subst, true, true≢false, ◌≢◌, List, arith, length, replicate, ne_eqb, le-leb, lt-ltb, Option, Some, None, Ok}
use Rattle.std.proofs.Math.ListN.{length-replicate, get_or-replicate}
use Rattle.rules.specs.declared.RamByte.{RamByte}
use Rattle.rules.specs.declared.Block.{Block}
use Rattle.rules.specs.declared.Config.{Config}
use Rattle.rules.specs.declared.State.{State}
use Rattle.rules.specs.declared.Operation.{Operation}
use Rattle.rules.specs.declared.Operation.TheVariants.{Malloc, Free, Change}
use Rattle.rules.specs.declared.Refusal.TheVariants.{NoRun}
use Rattle.rules.specs.Memory.{ram_bytes, in_use, layout_of, radix, block_of, blocks_for, heap_block, safe_block, Codes, codes_of, free_code, is_free, trusted}
use Rattle.rules.specs.State.{good_state}
use Rattle.rules.specs.Answers.{◌⇒◌∣◌, number_of}
use Rattle.rules.specs.Malloc.{room_for, nowhere, address_of}
use Rattle.rules.specs.Free.{is_segment, blocks_at, freed}
use Rattle.rules.specs.Operations.{Lent, answer_by, operation_of}
use Rattle.laws.proofs.Tests.{by_test, and-true}
use Rattle.laws.proofs.AllBelow.{all_replicate}
use Rattle.laws.proofs.Blocks.{blocks_for_pos, blocks_for_least}
use Rattle.laws.proofs.Map.{length-set_codes}
use Rattle.laws.proofs.Codes.{free_code_lt}
use Rattle.laws.proofs.Search.{free_block, block_free, free_run_lem, free_run_at, found, run_found}
use Rattle.laws.proofs.Segments.{segment_in_heap}
use Rattle.laws.proofs.Good.{GoodConfig, good_state-facts, good_state-true}
use Rattle.laws.proofs.Operations.{below, done_below}
use Rattle.promises.specs.History.{Asked, History, ◌then◌, after, state_of, ram_of, config_of, answer_to, Says, Assumed, Stretch, none, next}
use Rattle.promises.specs.Calls.{domain_left, open_calls}
use Rattle.promises.specs.Ledger.{Segment, replaced_at, struck, made_over, booked, ledger, HeapSegment, code_by}
use Rattle.promises.specs.Promise.{codes_after}
use Rattle.promises.specs.Room.{FreeBlocks, RoomFound, FreedRoom, RoomStays}
use Rattle.promises.proofs.Says.{says_done, done_says, answer_by_lem}
use Rattle.promises.proofs.Sorts.{Booking, enters, strikes, makes_over, leaves, booking, by_answer}
use Rattle.promises.proofs.Row.{row_in_heap, InPlaceOf, struck_place, over_place, replaced_free}
use Rattle.promises.proofs.Holds.{row_recoded}
use Rattle.promises.proofs.Malloc.{somewhere}
use Rattle.promises.proofs.Free.{Own, freed_own, changed_own, StartAt, start_at, SegmentAt, segment_at_lem}
use Rattle.promises.proofs.Keeping.{done_rows}
use Rattle.promises.proofs.Steps.{Always, always, earlier, same_config_lem}

-- ---- malloc by a module, of more than 0 bytes

module _ (s : State) (ram : List ℕ) (l : Lent) (size : ℕ) (good : good_state s ≡ true) (n : length ram ≡ ram_bytes) (other : s.domain ≢ trusted)
    (some : 0 < size) where
  abbrev codes : Codes
  codes = codes_of s.config ram

  abbrev wanted : ℕ
  wanted = blocks_for s.config size

  abbrev run : Option Block
  run = room_for s codes size

  asked : (operation_of s ram l (Malloc size)).answer ≡ (nowhere run ⇒ NoRun ∣ Ok (address_of s.config run))
  asked =
      answer_by_lem s ram l (Malloc size) ∙ below s ram l (Malloc size) refl n good
      ∙ (rw (ne_eqb s.domain trusted other, ne_eqb size 0 (λ e. omega arith)))

  refused_nowhere : number_of (operation_of s ram l (Malloc size)).answer ≡ 17 → nowhere run ≡ true
  refused_nowhere e =
      by_test (nowhere run) (λ t. t)
      (λ t. absurd (omega (arith, rw t at (ap number_of (sym asked) ∙ e))))

  nowhere_run : (f : Option Block) → nowhere f ≡ true → f ≡ None
  nowhere_run (Some b) t = absurd (true≢false (sym t))
  nowhere_run None t = refl

  no_room : ((k : ℕ) → FreeBlocks s.config codes k wanted → ⊥) → nowhere run ≡ true
  no_room never =
      by_test (nowhere run) (λ t. t)
      (λ t.
      let (b, e) = somewhere run t in
      absurd (never b.0 (free_run_at s.config codes wanted b.0 (found s.config codes wanted b e).1)))

  -- where blocks enough are free, it is accepted
  accepted : (k : ℕ) → FreeBlocks s.config codes k wanted → (v : ℕ) × Says (operation_of s ram l (Malloc size)).answer 0 v
  accepted k room =
      by_test (nowhere run)
      (λ t.
      absurd (run_found s.config codes wanted k (free_run_lem s.config codes wanted k room) (blocks_for_pos s.config some) (nowhere_run run t)))
      (λ t. (address_of s.config run, done_says _ _ (asked ∙ (rw t))))

  full : number_of (operation_of s ram l (Malloc size)).answer ≡ 17 → (k : ℕ) → FreeBlocks s.config codes k wanted → ⊥
  full e k room =
      run_found s.config codes wanted k (free_run_lem s.config codes wanted k room) (blocks_for_pos s.config some)
      (nowhere_run run (refused_nowhere e))

pub room_found : RoomFound
room_found s ram l size good n other some = (
  λ e. full s ram l size good n other some e.0,
  λ never. rw (asked s ram l size good n other some, no_room s ram l size good n other some never) (refl, refl),
)

-- ---- after a free

module _ (s : State) (ram : List ℕ) (l : Lent) (a : RamByte) (n : ℕ) (e : answer_by in_use s ram l (Free a) ≡ Ok n) where
  abbrev left : List ℕ
  left = freed (layout_of s.config) s ram a

  freed_size : length left ≡ ram_bytes
  freed_size = length-set_codes (layout_of s.config) ram _ _ ∙ (done_below s ram l (Free a) n e).0

  freed_blocks : FreeBlocks s.config (codes_of s.config left) (block_of s.config a) n
  freed_blocks j m u =
      let c : Config = s.config in
      let k : ℕ = block_of c a in
      let free : ℕ = free_code (layout_of c) in
      let (size, good, rows) = done_below s ram l (Free a) n e in
      let g : GoodConfig c = (good_state-facts s good).config in
      let own : Own s (codes_of c ram) a n = freed_own s (codes_of c ram) a n rows in
      let at : StartAt c (codes_of c ram) a = start_at c (codes_of c ram) a g own.segment in
      let count : ℕ = blocks_at s (codes_of c ram) a in
      let long : length (replicate count free) ≡ count = length-replicate count free in
      let fits : k + count ≤ safe_block c = segment_in_heap c (codes_of c ram) k at.to_safe in
      block_free c (codes_of c left) j (omega (arith, at.from_heap)) (omega (arith, own.count))
      ((row_recoded c g ram size k (replicate count free) (omega arith) (all_replicate (radix (layout_of c)) count free (free_code_lt (layout_of c)))
      ).inside j (and-true _ _ (le-leb k j m) (lt-ltb j (k + length (replicate count free)) (omega (arith, own.count))))
      ∙ get_or-replicate count (j - k) free 0 (omega (arith, own.count)))

pub freed_room : FreedRoom
freed_room s ram l a n done =
    let e : answer_by in_use s ram l (Free a) ≡ Ok n = sym (answer_by_lem s ram l (Free a)) ∙ says_done _ n done in
    rw e (
      freed_blocks s ram l a n e,
      λ next m size same good other some fits.
          let less : blocks_for s.config size ≤ n = blocks_for_least s.config n fits in
          accepted next (left s ram l a n e) m size good (freed_size s ram l a n e) other some (block_of s.config a)
          (subst (λ (c : Config). FreeBlocks c (codes_of c (left s ram l a n e)) (block_of s.config a) (blocks_for c size)) (sym same)
          (λ j k u. freed_blocks s ram l a n e j k (omega arith))),
    )

-- ---- and for as long as no malloc is accepted

module _ (h : History) (k : Always h) (j : ℕ) (unowned : code_by (config_of h) (ledger h) j ≡ free_code (layout_of (config_of h))) where
  -- no segment of gs has block j
  abbrev Unowned : List Segment → Type 0
  Unowned gs = code_by (config_of h) gs j ≡ free_code (layout_of (config_of h))

  -- a free block stays free when a segment is freed or made over
  still_free : (put : Segment → List Segment) (a : RamByte) → ((g : Segment) → HeapSegment (state_of h).config g → InPlaceOf (state_of h).config g (put g))
      → is_segment (state_of h).config (codes_of (state_of h).config (ram_of h)) a ≡ true → Unowned (replaced_at a.0 put (ledger h))
  still_free put a place t =
      let c : Config = (state_of h).config in
      let at : SegmentAt (state_of h) (codes_of c (ram_of h)) (ledger h) a = segment_at_lem (state_of h) (ram_of h) (ledger h) (open_calls h) k.1 a t in
      let g : Segment = at.segment in
      subst (λ (x : ℕ). Unowned (replaced_at x put (ledger h))) at.address
      (subst (λ (c : Config). code_by c (replaced_at g.address put (ledger h)) j ≡ free_code (layout_of c)) k.0
      (replaced_free c put g (place g (row_in_heap c (heap_block c) (ledger h) k.1.row g at.member)) (heap_block c) (ledger h) k.1.row
      at.member j (subst (λ (c : Config). code_by c (ledger h) j ≡ free_code (layout_of c)) (sym k.0) unowned)))

  step_free : (o : Asked) → ((size v : ℕ) → o.operation ≡ Malloc size → Says (answer_to h o) 0 v → ⊥) → Unowned (ledger (h then o))
  unfolding ledger
  step_free o never =
      by_answer Unowned (config_of h) (domain_left (open_calls h)) o.operation (ledger h) unowned (answer_to h o)
      (done o.operation (booking o.operation) refl)
    where
      done : (op : Operation) → Booking op → o.operation ≡ op → (v : ℕ) → answer_to h o ≡ Ok v
          → Unowned (booked (config_of h) (domain_left (open_calls h)) op (Ok v) (ledger h))
      done op (leaves same) q v e = rw (same (config_of h) (domain_left (open_calls h)) v (ledger h)) unowned
      done op (enters size) q v e = absurd (never size v q (done_says _ v e))
      done op (strikes a) q v e =
          still_free struck a (struck_place (state_of h).config)
          (freed_own (state_of h) (codes_of (state_of h).config (ram_of h)) a v (done_rows h o (Free a) q v e)).segment
      done op (makes_over a d) q v e =
          let (own, m) = changed_own (state_of h) (codes_of (state_of h).config (ram_of h)) a d v (done_rows h o (Change a d) q v e) in
          still_free (made_over d) a (over_place (state_of h).config d m) own.segment

-- block j lies in the heap, and no segment has it
record Unheld (h : History) (j : ℕ) : Type 0 where
  from_heap : heap_block (config_of h) ≤ j
  to_safe : j < safe_block (config_of h)
  no_owner : code_by (config_of h) (ledger h) j ≡ free_code (layout_of (config_of h))

module _ (h : History) (assumed : Assumed h) (j : ℕ) where
  heap_code : heap_block (config_of h) ≤ j → j < safe_block (config_of h) → codes_after h j ≡ code_by (config_of h) (ledger h) j
  heap_code = let (e, i) = always h assumed in rw (← e) (i.heap j)

  free_unheld : is_free (config_of h) (codes_after h) j ≡ true → Unheld h j
  free_unheld f =
      let (from, to, code) = free_block (config_of h) (codes_after h) j f in
      record { from_heap = from; to_safe = to; no_owner = sym (heap_code from to) ∙ code }

  unheld_free : Unheld h j → is_free (config_of h) (codes_after h) j ≡ true
  unheld_free u =
      block_free (config_of h) (codes_after h) j u.from_heap u.to_safe (heap_code u.from_heap u.to_safe ∙ u.no_owner)

unheld_on : (from : History) {l : History} → Assumed l → (j : ℕ) → Unheld from j
    → Stretch (λ k p. (size v : ℕ) → p.operation ≡ Malloc size → Says (answer_to k p) 0 v → ⊥) from l → Unheld l j
unfolding config_of
unheld_on from a j u none = u
unheld_on from a j u (next {h = k} {o = o} before never) =
    let w : Unheld k j = unheld_on from a.0 j u before in
    record {
      from_heap = w.from_heap;
      to_safe = w.to_safe;
      no_owner = step_free k (always k a.0) j w.no_owner o never;
    }

pub room_stays : RoomStays
unfolding after config_of
room_stays h o a n q done l assumed along =
    let start : Assumed (h then o) = earlier _ _ assumed along in
    let (e, _) = always h start.0 in
    let (f, i) = always l assumed in
    let same : config_of l ≡ config_of h = same_config_lem _ _ along in
    let given : Says (operation_of (state_of h) (ram_of h) o.lent (Free a)).answer 0 n =
    subst (λ (op : Operation). Says (operation_of (state_of h) (ram_of h) o.lent op).answer 0 n) q done in
    let freed : FreeBlocks (config_of h) (codes_after (h then o)) (block_of (config_of h) a) n =
    rw (← e, q) (freed_room (state_of h) (ram_of h) o.lent a n given).0 in
    let room : FreeBlocks (config_of l) (codes_after l) (block_of (config_of l) a) n =
    subst (λ (c : Config). FreeBlocks (config_of l) (codes_after l) (block_of c a) n) (sym same)
    (λ k m u. unheld_free l assumed k (unheld_on (h then o) assumed k (free_unheld (h then o) start k (freed k m u)) along)) in (
      room,
      λ other p size w some fits.
          let less : blocks_for (config_of l) size ≤ n = blocks_for_least (config_of l) n fits in
          let here : FreeBlocks (state_of l).config (codes_of (state_of l).config (ram_of l)) (block_of (config_of l) a) (blocks_for (state_of l).config size) =
          subst (λ (c : Config). FreeBlocks c (codes_of c (ram_of l)) (block_of (config_of l) a) (blocks_for c size)) (sym f)
          (λ k m u. room k m (omega arith)) in
          subst (λ (op : Operation). (v : ℕ) × Says (operation_of (state_of l) (ram_of l) p.lent op).answer 0 v) (sym w)
          (accepted (state_of l) (ram_of l) p.lent size (good_state-true (state_of l) i.good) i.size other some (block_of (config_of l) a) here),
    )
