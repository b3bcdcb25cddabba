-- What holds of the machine, the ledger and the open calls after every operation; what is to be shown of an operation that is done; and how
-- new codes for heap blocks keep what holds, wherever those blocks stand.
-- Assumes nothing.
use Rattle.std.proofs.Common.{ℕ, ◌+◌, ◌-◌, ◌*◌, ◌≤◌, ◌<◌, ◌≡◌, refl, sym, ◌∙◌, ◌⊎◌, inl, ◌≢◌, Bool, true, false, true≢false, ◌&&◌, List, [], ◌∷◌, arith, length, get_or, ext_get_or, get_or-take, get_or-drop, leb, ltb, leb-true, le-leb, ltb-true, ltb-false, Ok, Err}
use Rattle.std.proofs.Math.Seq.{slice, length-slice}
use Rattle.rules.specs.declared.Config.{Config}
use Rattle.rules.specs.declared.State.{State}
use Rattle.rules.specs.Answers.{Answer, Given, give}
use Rattle.rules.specs.declared.Operation.{Operation}
use Rattle.rules.specs.Memory.{ram_bytes, in_use, layout_of, heap_block, safe_block, radix, per_byte, map_bytes, map_byte, Codes, codes_of, set_codes, trusted, is_domain}
use Rattle.rules.specs.Code.{good_site}
use Rattle.rules.specs.SetUp.{set_up_code}
use Rattle.rules.specs.Operations.{Lent, seen_by, rows_of, state_after, ram_after, answer_by, operation_of}
use Rattle.laws.proofs.Tests.{by_test, both, and-true}
use Rattle.laws.proofs.AllBelow.{AllBelow}
use Rattle.laws.proofs.Map.{map_byte_ge, map_byte_lt, code_of_byte, length-set_codes, codes_outside, codes_inside, set_codes-outside, set_codes-bytes}
use Rattle.laws.proofs.Good.{GoodConfig, GoodState, safe_block≤blocks, blocks≤places, place<heap}
use Rattle.laws.proofs.Operations.{done_below}
use Rattle.promises.specs.History.{History, state_of, ram_of, Stores, InMap, InSafeStack, Bytes}
use Rattle.promises.specs.Ledger.{Segment, booked, ledger, code_by}
use Rattle.promises.specs.Calls.{OpenCall, bound_inside, domain_left, bound_left, noted, open_calls, frames_of}
use Rattle.promises.proofs.Row.{Row}
use Rattle.promises.proofs.Shown.{HasCodes}

-- ---- the chain of open calls

-- the call k, made while ks were open
pub record Link (c : Config) (k : OpenCall) (ks : List OpenCall) : Type 0 where
  pub domain : k.domain ≡ domain_left ks
  pub bound : k.bound ≡ bound_left ks
  pub site : good_site c k.domain k.site ≡ true
  pub by_domain : is_domain c k.domain ≡ true
  pub bound≤ : (bound_inside k.kind k.bound).0 ≤ k.bound.0
  pub bound<ram : k.bound.0 < ram_bytes

-- each was made where the one before it left the machine
abbrev pub Chain : Config → List OpenCall → Type 0
Chain c [] = Unit {0}
Chain c (k ∷ ks) = Link c k ks × Chain c ks

-- ---- the invariant

pub record Holds (s : State) (ram : List ℕ) (gs : List Segment) (ks : List OpenCall) : Type 0 where
  pub good : GoodState s
  pub size : length ram ≡ ram_bytes
  pub row : Row s.config (heap_block s.config) gs
  pub heap : HasCodes s.config (codes_of s.config ram) (heap_block s.config) gs
  pub other : (k : ℕ) → k < map_bytes s.config * per_byte (layout_of s.config) → (heap_block s.config ≤ k → safe_block s.config ≤ k)
      → codes_of s.config ram k ≡ set_up_code s.config k
  pub frames : slice s.config.safe.0 s.safepointer.0 ram ≡ frames_of ks
  pub current : s.domain ≡ domain_left ks
  pub bound : s.bound ≡ bound_left ks
  pub chain : Chain s.config ks

abbrev pub HoldsAfter : History → Type 0
HoldsAfter h = Holds (state_of h) (ram_of h) (ledger h) (open_calls h)

-- ---- what an operation keeps

-- x lies neither in the map nor in the safe stack area
abbrev pub Out : Config → ℕ → Type 0
Out c x = InMap c x ⊎ InSafeStack c x → ⊥

-- ram' differs from ram in the map and the safe stack area alone
abbrev pub Elsewhere : Config → List ℕ → List ℕ → Type 0
Elsewhere c ram ram' = (x : ℕ) → Out c x → get_or ram' x 0 ≡ get_or ram x 0

-- what any operation leaves: what holds, if it is no trusted store to the map or the safe stack area; no byte that lies in neither is changed,
-- except by a store to it; and bytes stay bytes
pub record Kept (s : State) (ram : List ℕ) (gs : List Segment) (ks : List OpenCall) (op : Operation) (g : Given) : Type 0 where
  pub holds : ((x b : ℕ) → Stores op x b → g.answer ≡ Ok 0 → s.domain ≡ trusted → Out s.config x)
      → Holds g.state g.ram (booked s.config (domain_left ks) op g.answer gs) (noted s.config op g.answer ks)
  pub changes : (x : ℕ) → Out s.config x → get_or g.ram x 0 ≢ get_or ram x 0
      → (b : ℕ) × Stores op x b × (g.answer ≡ Ok 0)
  pub bytes : Bytes ram → ((x b : ℕ) → Stores op x b → b < 256) → Bytes g.ram

-- and one that stores nothing
abbrev pub Keeps : State → List ℕ → State → List ℕ → List Segment → List OpenCall → Type 0
Keeps s ram s' ram' gs ks = Holds s' ram' gs ks × Elsewhere s.config ram ram' × (Bytes ram → Bytes ram')

-- what an operation gives when it is done
abbrev pub done_by : State → List ℕ → Operation → ℕ → Given
done_by s ram op v =
    record { answer = Ok v; state = state_after s (seen_by in_use s ram) op; ram = ram_after (layout_of s.config) s ram op }

module _ (s : State) (ram : List ℕ) (gs : List Segment) (ks : List OpenCall) (op : Operation) where
  pub plain : (g : Given)
      → Keeps s ram g.state g.ram (booked s.config (domain_left ks) op g.answer gs) (noted s.config op g.answer ks)
      → Kept s ram gs ks op g
  plain g (h, same, bytes) =
      record { holds = λ _. h; changes = λ x out n. absurd (n (same x out)); bytes = λ b _. bytes b }

  -- so what is to be shown of an operation is what it keeps when its own rows say that it is done
  pub by_rows : Holds s ram gs ks → (l : Lent)
      → ((v : ℕ) → rows_of s (seen_by in_use s ram) l op ≡ Ok v → Kept s ram gs ks op (done_by s ram op v))
      → Kept s ram gs ks op (operation_of s ram l op)
  by_rows h l done = by (answer_by in_use s ram l op) refl
    where
      by : (x : Answer) → answer_by in_use s ram l op ≡ x
          → Kept s ram gs ks op (give x s ram (state_after s (seen_by in_use s ram) op) (ram_after (layout_of s.config) s ram op))
      by (Ok v) e = done v (done_below s ram l op v e).2
      by (Err r) e = plain (record { answer = Err r; state = s; ram = ram }) (h, λ x out. refl, λ b. b)

-- ---- the codes after a change that leaves the map

module _ (c : Config) (ram ram' : List ℕ) (same : (x : ℕ) → InMap c x → get_or ram' x 0 ≡ get_or ram x 0) where
  pub same_code : (k : ℕ) → k < map_bytes c * per_byte (layout_of c) → codes_of c ram' k ≡ codes_of c ram k
  same_code k h =
      code_of_byte (layout_of c) ram' ram k
      (same (map_byte (layout_of c) k) (map_byte_ge (layout_of c) k, map_byte_lt (layout_of c) k (map_bytes c) h))

-- ---- slices by their bytes

-- bytes that stay leave the slice
pub same-slice : (f t : ℕ) (ram ram' : List ℕ) → t ≤ length ram → t ≤ length ram'
    → ((x : ℕ) → f ≤ x → x < t → get_or ram' x 0 ≡ get_or ram x 0) → slice f t ram' ≡ slice f t ram
same-slice f t ram ram' h h' same =
    let l : length (slice f t ram) ≡ t - f = length-slice f t ram h in
    let l' : length (slice f t ram') ≡ t - f = length-slice f t ram' h' in
    ext_get_or 0 (slice f t ram') (slice f t ram) (l' ∙ sym l)
    (λ i u.
    let v : f + i < t = omega arith in
    get_or-drop f _ i 0 ∙ get_or-take t ram' (f + i) 0 v ∙ same (f + i) (omega arith) v
    ∙ sym (get_or-drop f _ i 0 ∙ get_or-take t ram (f + i) 0 v))

-- ---- new codes for some blocks

-- ram' is ram with the codes v at the blocks that a test names: it changes no other code, and no byte outside the map
pub record Recoded (c : Config) (ram ram' : List ℕ) (these : ℕ → Bool) (v : Codes) : Type 0 where
  pub size : length ram' ≡ length ram
  pub inside : (k : ℕ) → these k ≡ true → codes_of c ram' k ≡ v k
  pub outside : (k : ℕ) → these k ≡ false → codes_of c ram' k ≡ codes_of c ram k
  pub elsewhere : (x : ℕ) → (InMap c x → ⊥) → get_or ram' x 0 ≡ get_or ram x 0
  pub bytes : Bytes ram → Bytes ram'

-- heap blocks with new codes, and segments that give these blocks those codes and every other block the code that it had
pub recode_keeps : (s : State) (ram : List ℕ) (gs : List Segment) (ks : List OpenCall) → Holds s ram gs ks
    → (ram' : List ℕ) (gs' : List Segment) (these : ℕ → Bool) (v : Codes)
    → ((k : ℕ) → these k ≡ true → (heap_block s.config ≤ k) × (k < safe_block s.config))
    → Recoded s.config ram ram' these v
    → Row s.config (heap_block s.config) gs'
    → ((k : ℕ) → these k ≡ true → code_by s.config gs' k ≡ v k)
    → ((k : ℕ) → these k ≡ false → code_by s.config gs' k ≡ code_by s.config gs k)
    → Keeps s ram s ram' gs' ks
recode_keeps s ram gs ks h ram' gs' these v in_heap_lem new row inside outside =
    let c : Config = s.config in
    let g : GoodConfig c = h.good.config in (
      record {
        good = h.good;
        size = new.size ∙ h.size;
        row = row;
        heap = λ k l u.
            by_test (these k)
            (λ t. new.inside k t ∙ sym (inside k t))
            (λ t. new.outside k t ∙ h.heap k l u ∙ sym (outside k t));
        other = λ k l out.
            by_test (these k)
            (λ t. absurd (omega (arith, (in_heap_lem k t).1, out (in_heap_lem k t).0)))
            (λ t. new.outside k t ∙ h.other k l out);
        frames =
            same-slice c.safe.0 s.safepointer.0 ram ram'
            (omega (arith, h.size, h.good.safepointer≤top, g.top≤ram)) (omega (arith, new.size, h.size, h.good.safepointer≤top, g.top≤ram))
            (λ x a b. new.elsewhere x (λ m. omega (arith, m.1, g.map≤heap, g.heap≤safe)))
            ∙ h.frames;
        current = h.current;
        bound = h.bound;
        chain = h.chain;
      },
      λ x out. new.elsewhere x (λ m. out (inl m)),
      new.bytes,
    )

-- ---- blocks in a row

-- n blocks from k on
abbrev pub in_run : ℕ → ℕ → ℕ → Bool
in_run k n j = leb k j && ltb j (k + n)

run_in : (k n j : ℕ) → in_run k n j ≡ true → (k ≤ j) × (j < k + n)
run_in k n j t = let (l, u) = both (leb k j) (ltb j (k + n)) t in (leb-true k j l, ltb-true j (k + n) u)

run_out : (k n j : ℕ) → in_run k n j ≡ false → k ≤ j → k + n ≤ j
run_out k n j t l =
    by_test (ltb j (k + n))
    (λ u. absurd (true≢false (sym (and-true (leb k j) (ltb j (k + n)) (le-leb k j l) u) ∙ t)))
    (λ u. ltb-false j (k + n) u)

pub row_recoded : (c : Config) → GoodConfig c → (ram : List ℕ) → length ram ≡ ram_bytes → (k : ℕ) (vs : List ℕ)
    → k + length vs ≤ safe_block c → AllBelow (radix (layout_of c)) vs
    → Recoded c ram (set_codes (layout_of c) ram k vs) (in_run k (length vs)) (λ j. get_or vs (j - k) 0)
row_recoded c g ram size k vs u below =
    let places : safe_block c ≤ map_bytes c * per_byte (layout_of c) = omega (arith, safe_block≤blocks g, blocks≤places g) in
    record {
      size = length-set_codes (layout_of c) ram k vs;
      inside = λ j t.
          let (from, to) = run_in k (length vs) j t in
          let e : k + (j - k) ≡ j = omega arith in
          rw e at
          (codes_inside (layout_of c) ram k vs (j - k) below (omega arith)
          (rw (e, size) (omega (arith, place<heap g {k = j} (omega arith), g.heap≤safe, g.safe≤top, g.top≤ram))));
      outside = λ j t. codes_outside (layout_of c) ram k vs j below (run_out k (length vs) j t);
      elsewhere = λ x out.
          set_codes-outside (layout_of c) ram k vs (map_bytes c) x (omega arith)
          (λ r.
          by_test (ltb x (c.bot.0 + map_bytes c))
          (λ t. absurd (out (r, ltb-true x (c.bot.0 + map_bytes c) t)))
          (λ t. ltb-false x (c.bot.0 + map_bytes c) t));
      bytes = set_codes-bytes (layout_of c) ram k vs below;
    }

-- a write of codes to heap blocks in a row
pub write_codes : (s : State) (ram : List ℕ) (gs : List Segment) (ks : List OpenCall) → Holds s ram gs ks
    → (k : ℕ) (vs : List ℕ) (gs' : List Segment)
    → heap_block s.config ≤ k → k + length vs ≤ safe_block s.config → AllBelow (radix (layout_of s.config)) vs
    → Row s.config (heap_block s.config) gs'
    → ((i : ℕ) → i < length vs → code_by s.config gs' (k + i) ≡ get_or vs i 0)
    → ((j : ℕ) → (k ≤ j → k + length vs ≤ j) → code_by s.config gs' j ≡ code_by s.config gs j)
    → Keeps s ram s (set_codes (layout_of s.config) ram k vs) gs' ks
write_codes s ram gs ks h k vs gs' l u below row inside outside =
    recode_keeps s ram gs ks h (set_codes (layout_of s.config) ram k vs) gs' (in_run k (length vs)) (λ j. get_or vs (j - k) 0)
    (λ j t. let (from, to) = run_in k (length vs) j t in (omega arith, omega arith))
    (row_recoded s.config h.good.config ram h.size k vs u below) row
    (λ j t.
    let (from, to) = run_in k (length vs) j t in
    let e : k + (j - k) ≡ j = omega arith in
    (rw e at (inside (j - k) (omega arith))))
    (λ j t. outside j (run_out k (length vs) j t))
