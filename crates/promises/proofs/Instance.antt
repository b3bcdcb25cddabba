-- The sample's history and a trusted store after it are as assumed; and the incident's; and the first as a run from C. So what is promised is
-- promised of something. The checker computes their ghosts, and that each of their stores is one that is allowed.
-- Assumes nothing.
use Rattle.std.proofs.Common.{ℕ, zero, suc, ◌+◌, ◌≤◌, ◌<◌, ◌≡◌, refl, sym, ap, ◌∙◌, subst, ◌⊎◌, inl, inr, ⊎_elim, Bool, true, false, not, true≢false, ◌&&◌, ◌||◌, List, [], ◌∷◌, arith, replicate, take, leb, ltb, eqb, ltb-true, le-leb, lt-ltb, eq-eqb}
use borrow.Author.Tests.{not-true}
use Rattle.rules.specs.declared.RamByte.{RamByte}
use Rattle.rules.specs.declared.Config.{Config}
use Rattle.rules.specs.declared.Operation.{Operation}
use Rattle.rules.specs.declared.Operation.TheVariants.{Store, Free}
use Rattle.rules.specs.Memory.{ram_bytes, divided_up, block_bytes, start_of, block_of, blocks_for, blocks, heap_block, safe_block, is_multiple, radix, per_byte, map_bytes_for, map_bytes, digit, set_digit, map_byte, map_digit, code_of, set_code, set_codes, start_code, later_code, free_code, owner_of, starts_segment, is_domain, is_module, is_free, trusted}
use Rattle.rules.specs.Code.{ordered, apart_from, all_apart}
use Rattle.rules.specs.State.{ram_byte, good_config, good_state}
use Rattle.rules.specs.Bytes.{words_at, ranges_at, ranges_as_bytes}
use Rattle.rules.specs.Answers.{number_of}
use Rattle.rules.specs.SetUp.{set_up_code, set_up_codes, set_up_ram, set_up_of}
use Rattle.rules.specs.Return.{read_frame}
use Rattle.rules.specs.Malloc.{free_run, first_run, lowest_run}
use Rattle.rules.specs.Free.{continued, segment_blocks}
use Rattle.rules.specs.Slot.{config_in, slot_of, table_in, wrong_table, c_set_up_of}
use Rattle.laws.proofs.Tests.{both, neither, and-true}
use Rattle.promises.specs.History.{Asked, History, set_up, ◌then◌, after, ram_of, config_of, domain_of, answer_to, Says, Stores, InMap, InSafeStack, Bytes, BytesGiven, Assumed, none, next as more}
use Rattle.promises.specs.Ledger.{entered, replaced_at, ledger, InSegment}
use Rattle.promises.specs.Calls.{open_calls}
use Rattle.promises.specs.Sample.{sample, sample_table, zero_ram, sample_operations}
use Rattle.promises.specs.Instance.{scripted, played, history_of_script, sample_history, last_store, store_after, incident_operations, incident_history, segment, Ghosts, sample_slot, sample_table_bytes, called_from_c, played_from_c, sample_run, SampleFromC}
use Rattle.promises.specs.Promise.{Promise}
use Rattle.promises.specs.FromC.{RunFromC, set_up_from_c, ◌next◌, asked_from_c, history_from_c, PremiseFromC, FromC}
use Rattle.promises.specs.Incident.{Incident}
use Rattle.promises.proofs.Sorts.{NoStore, as_store}
use Rattle.promises.proofs.Holds.{Out}
use Rattle.promises.proofs.Theorem.{promise}
use Rattle.promises.proofs.FromC.{premise, from_c}
use Rattle.promises.proofs.Incident.{incident}

-- ---- a script whose trusted stores land neither in the map nor in the safe stack area

-- address x lies from a up to but not including e
abbrev lies : ℕ → ℕ → ℕ → Bool
lies a e x = leb a x && ltb x e

-- domain d may store to x
abbrev allowed : Config → ℕ → ℕ → Bool
allowed c d x = not (eqb d trusted && (lies c.bot.0 (c.bot.0 + map_bytes c) x || lies c.safe.0 c.top.0 x))

-- asked next, op is no store, or one that is allowed
abbrev quiet : History → Operation → Bool
quiet h op = ⊎_elim (λ w. allowed (config_of h) (domain_of h) w.0) (λ _. true) (as_store op)

abbrev all_quiet : History → List Operation → Bool
all_quiet h [] = true
all_quiet h (op ∷ ops) = quiet h op && all_quiet (h then scripted op) ops

not_both : (a e x : ℕ) → lies a e x ≡ false → (a ≤ x) × (x < e) → ⊥
not_both a e x t (l, u) = true≢false (sym (and-true (leb a x) (ltb x e) (le-leb a x l) (lt-ltb x e u)) ∙ t)

allowed_out : (c : Config) (d x : ℕ) → allowed c d x ≡ true → d ≡ trusted → Out c x
allowed_out c d x t e place =
    let none : (lies c.bot.0 (c.bot.0 + map_bytes c) x || lies c.safe.0 c.top.0 x) ≡ false =
    rw (eq-eqb d trusted e) at (not-true (eqb d trusted && (lies c.bot.0 (c.bot.0 + map_bytes c) x || lies c.safe.0 c.top.0 x)) t) in
    let (map, stack) = neither (lies c.bot.0 (c.bot.0 + map_bytes c) x) (lies c.safe.0 c.top.0 x) none in
    elim place [
      | inl p ↦ not_both c.bot.0 (c.bot.0 + map_bytes c) x map p
      | inr p ↦ not_both c.safe.0 c.top.0 x stack p
    ]

quiet_step : (h : History) (o : Asked) → Assumed h → (w : ((x : ℕ) × (b : ℕ) × Stores o.operation x b) ⊎ NoStore o.operation)
    → ⊎_elim (λ w. allowed (config_of h) (domain_of h) w.0) (λ _. true) w ≡ true → Assumed (h then o)
quiet_step h o a (inl (y, b, e)) t = (
  a,
  λ x stored place.
      let same : Store (ram_byte y) b ≡ Store (ram_byte x) stored.0 = sym e ∙ stored.1 in
      let address : ram_byte y ≡ ram_byte x = cc in
      allowed_out (config_of h) (domain_of h) y t stored.3
      (subst (λ (y : ℕ). InMap (config_of h) y ⊎ InSafeStack (config_of h) y) (sym (ap (λ (r : RamByte). r.0) address)) place),
)
quiet_step h o a (inr n) t = (a, λ x stored place. n x stored.0 stored.1)

played_assumed : (h : History) → Assumed h → (ops : List Operation) → all_quiet h ops ≡ true → Assumed (played h ops)
played_assumed h a [] t = a
played_assumed h a (op ∷ ops) t =
    let (one, others) = both (quiet h op) (all_quiet (h then scripted op) ops) t in
    played_assumed (h then scripted op) (quiet_step h (scripted op) a (as_store op) one) ops others

-- ---- a script whose stores are of bytes

abbrev of_byte : Operation → Bool
of_byte op = ⊎_elim (λ w. ltb w.1 256) (λ _. true) (as_store op)

abbrev all_bytes : List Operation → Bool
all_bytes [] = true
all_bytes (op ∷ ops) = of_byte op && all_bytes ops

byte_given : (op : Operation) (w : ((x : ℕ) × (b : ℕ) × Stores op x b) ⊎ NoStore op)
    → ⊎_elim (λ w. ltb w.1 256) (λ _. true) w ≡ true → (x b : ℕ) → Stores op x b → b < 256
byte_given op (inl (y, c, q)) t x b e =
    let same : Store (ram_byte y) c ≡ Store (ram_byte x) b = sym q ∙ e in
    let byte : c ≡ b = cc in
    omega (arith, ltb-true c 256 t)
byte_given op (inr n) t x b e = absurd (n x b e)

played_bytes : (h : History) → BytesGiven h → (ops : List Operation) → all_bytes ops ≡ true → BytesGiven (played h ops)
played_bytes h g [] t = g
played_bytes h g (op ∷ ops) t =
    let (one, others) = both (of_byte op) (all_bytes ops) t in
    played_bytes (h then scripted op) (g, byte_given op (as_store op) one) ops others

zero_bytes : (n : ℕ) → Bytes (replicate n 0)
zero_bytes zero i = omega arith
zero_bytes (suc n) zero = omega arith
zero_bytes (suc n) (suc i) = zero_bytes n i

-- ---- the sample, and a trusted store after it

record Computed : Type 0 where
  set_up_done : Says (set_up_of sample zero_ram).answer 0 0
  allowed_stores : all_quiet (set_up sample zero_ram) sample_operations ≡ true
  allowed_last : all_quiet sample_history (last_store ∷ []) ≡ true

computed : Computed
unfolding as_store after config_of ledger open_calls entered replaced_at divided_up block_bytes block_of blocks_for blocks heap_block safe_block is_multiple radix per_byte map_bytes_for map_bytes digit set_digit map_byte map_digit code_of set_code set_codes start_code later_code free_code owner_of starts_segment is_domain is_module ordered apart_from all_apart good_config good_state set_up_code set_up_codes set_up_ram start_of is_free read_frame free_run first_run lowest_run continued segment_blocks
computed = record { set_up_done = (refl, refl); allowed_stores = refl; allowed_last = refl }

pub ghosts : Ghosts
unfolding as_store after config_of ledger open_calls entered replaced_at divided_up block_bytes block_of blocks_for blocks heap_block safe_block is_multiple radix per_byte map_bytes_for map_bytes digit set_digit map_byte map_digit code_of set_code set_codes start_code later_code free_code owner_of starts_segment is_domain is_module ordered apart_from all_apart good_config good_state set_up_code set_up_codes set_up_ram start_of is_free read_frame free_run first_run lowest_run continued segment_blocks
ghosts = record { ninth_ledger = refl; ninth_calls = refl; end_ledger = refl; end_calls = refl; trusted_store = (5, refl, (refl, refl), refl) }

store_assumed : Assumed store_after
store_assumed =
    played_assumed sample_history (played_assumed (set_up sample zero_ram) computed.set_up_done sample_operations computed.allowed_stores)
    (last_store ∷ []) computed.allowed_last

pub sample_promise : Promise store_after
sample_promise = promise store_after store_assumed

-- bytes were given, so RAM holds bytes
pub sample_bytes : Bytes (ram_of store_after)
unfolding as_store
sample_bytes =
    sample_promise.bytes
    (played_bytes sample_history (played_bytes (set_up sample zero_ram) (zero_bytes ram_bytes) sample_operations refl) (last_store ∷ []) refl)

-- ---- the same from C

record ComputedFromC : Type 0 where
  set_up_done : (c_set_up_of sample_slot zero_ram).answer ≡ 0
  config : config_in sample_slot ≡ sample
  table : table_in sample_table_bytes ≡ sample_table

computed_from_c : ComputedFromC
unfolding words_at ranges_at ranges_as_bytes slot_of divided_up block_bytes block_of blocks_for blocks heap_block safe_block is_multiple radix per_byte map_bytes_for map_bytes digit set_digit map_byte map_digit code_of set_code set_codes start_code later_code free_code owner_of starts_segment is_domain is_module ordered apart_from all_apart good_config good_state set_up_code set_up_codes set_up_ram
computed_from_c = record { set_up_done = refl; config = refl; table = refl }

-- each operation of a list finds its table of the right length
abbrev all_right : List Operation → Bool
all_right [] = true
all_right (op ∷ ops) = not (wrong_table sample_table_bytes op) && all_right ops

same_asked : (op : Operation) → wrong_table sample_table_bytes op ≡ false → asked_from_c (called_from_c op) ≡ scripted op
same_asked op t = rw (t, computed_from_c.table)

same_played : (r : RunFromC) (h : History) → history_from_c r ≡ h → (ops : List Operation) → all_right ops ≡ true
    → history_from_c (played_from_c r ops) ≡ played h ops
unfolding history_from_c
same_played r h e [] t = e
same_played r h e (op ∷ ops) t =
    let (one, others) = both (not (wrong_table sample_table_bytes op)) (all_right ops) t in
    same_played (r next called_from_c op) (h then scripted op) (rw (e, same_asked op (not-true (wrong_table sample_table_bytes op) one))) ops others

pub sample_from_c : SampleFromC
unfolding history_from_c
sample_from_c =
    rw (
      same_played (set_up_from_c sample_slot zero_ram) (set_up sample zero_ram) (rw computed_from_c.config) sample_operations refl,
      same_asked last_store refl,
    )

-- hmt_set_up answers 0, and the premise is kept: so from_c speaks of this run
sample_premise : PremiseFromC sample_run
sample_premise = premise sample_run computed_from_c.set_up_done (rw sample_from_c store_assumed)

pub sample_run_lem : FromC sample_run
sample_run_lem = from_c sample_run computed_from_c.set_up_done

pub sample_run_promise : Promise (history_from_c sample_run)
sample_run_promise = sample_run_lem.promise sample_premise

-- ---- the incident

-- the history after the first n operations
abbrev early : ℕ → History
early n = history_of_script (take n incident_operations)

abbrev freeing : Asked
freeing = scripted (Free (ram_byte 320))

record IncidentComputed : Type 0 where
  had : ledger (early 2) ≡ segment 320 1 0 ∷ []
  by0 : domain_of (early 2) ≡ 0
  freed : number_of (answer_to (early 2) freeing) ≡ 0
  has : ledger incident_history ≡ segment 320 1 1 ∷ []
  again0 : domain_of incident_history ≡ 0
  config : config_of incident_history ≡ sample
  wide : block_bytes sample ≡ 8
  allowed_stores : all_quiet (set_up sample zero_ram) incident_operations ≡ true

incident_computed : IncidentComputed
unfolding as_store after config_of ledger open_calls entered replaced_at divided_up block_bytes block_of blocks_for blocks heap_block safe_block is_multiple radix per_byte map_bytes_for map_bytes digit set_digit map_byte map_digit code_of set_code set_codes start_code later_code free_code owner_of starts_segment is_domain is_module ordered apart_from all_apart good_config good_state set_up_code set_up_codes set_up_ram start_of is_free read_frame free_run first_run lowest_run continued segment_blocks
incident_computed =
    record { had = refl; by0 = refl; freed = refl; has = refl; again0 = refl; config = refl; wide = refl; allowed_stores = refl }

incident_assumed : Assumed incident_history
incident_assumed = played_assumed (set_up sample zero_ram) computed.set_up_done incident_operations incident_computed.allowed_stores

-- its first byte
first_byte : (d : ℕ) → InSegment (config_of incident_history) (segment 320 1 d) 320
first_byte d = rw (incident_computed.config, incident_computed.wide) (omega arith, omega arith)

pub incident_there : Incident 0 (segment 320 1 1) incident_history
incident_there =
    record {
      once = early 2;
      had = segment 320 1 0;
      own = rw incident_computed.had (inl refl);
      by_it = incident_computed.by0;
      asked = freeing;
      frees = refl;
      freed = incident_computed.freed;
      since = more (more (more (more none tt) tt) tt) tt;
      has = rw incident_computed.has (inl refl);
      another = λ e. omega arith;
      byte = 320;
      in_both = (first_byte 0, first_byte 1);
    }

-- domain 0 goes on storing to what it freed, and is refused with 5
pub incident_refused : (b : ℕ) → Says (answer_to incident_history (scripted (Store (ram_byte 320) b))) 5 0
incident_refused b =
    ((incident incident_history incident_assumed 0 (segment 320 1 1) incident_there
    ).powerless incident_history (incident_assumed, none) incident_computed.again0
    ).refused 320 (first_byte 1) (scripted (Store (ram_byte 320) b)) b refl
