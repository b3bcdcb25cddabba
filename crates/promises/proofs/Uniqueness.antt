-- What stands behind an equation, or what a rule gives, determines the rest, so no second result satisfies a contract.
-- Assumes nothing.
use Rattle.std.proofs.Common.{ℕ, ◌≤◌, ◌<◌, ◌≡◌, sym, ap, ◌∙◌, Bool, true, false, true≢false, List, ◌++◌, length, drop, ltb, ltb-true, ltb-false, Result, Ok, Err, MatchResult}
use Rattle.std.proofs.Math.Path.{PathP}
use Rattle.std.proofs.Math.Bool.{Bool-set}
use mathlib.Core.HLevel.{is_prop→PathP}
use Rattle.rules.specs.declared.State.{State}
use Rattle.rules.specs.declared.Done.{Done}
use Rattle.rules.specs.declared.Outcome.{Outcome}
use Rattle.rules.specs.declared.Refusal.{Refusal}
use Rattle.rules.specs.declared.Refusal.TheVariants.{BrokenRule, BadState}
use Rattle.rules.specs.State.{good_config, good_state}
use Rattle.rules.specs.Answers.{Given, Gives, kept, moved}
use Rattle.rules.specs.Slot.{GivenToC, GivesToC}
use Rattle.laws.proofs.Tests.{by_test}
use Rattle.promises.specs.Uniqueness.{Only, Only2, Only3, GoodConfig, GoodState, Uniqueness}

only : {A : Type 0} (v : A) → Only (λ (r : A). r ≡ v)
only v r r' e e' = e ∙ sym e'

-- set-up answers by its state alone, an operation that keeps the state says nothing of it, and one that changes it hands it back when done
set_up_once : (g : Given) → Only2 (λ s ram. Gives (kept (Ok 0) s) ram g)
set_up_once g s s' ram ram' (_, t, m) (_, t', m') = (t ∙ sym t', m ∙ sym m')

kept_once : (s : State) (g : Given) → Only2 (λ r ram. Gives (kept r s) ram g)
kept_once s g r r' ram ram' (a, _, m) (a', _, m') = (a ∙ sym a', m ∙ sym m')

moved_once : (s : State) (r r' : Result Done Refusal) → (moved r s).answer ≡ (moved r' s).answer → (moved r s).state ≡ (moved r' s).state → r ≡ r'
moved_once s (Ok d) (Ok d') answer state =
    let value : d.value ≡ d'.value = cc in
    λ i. Ok (record { value = value i; state = state i })
moved_once s (Ok d) (Err e) answer state = cc
moved_once s (Err e) (Ok d) answer state = cc
moved_once s (Err e) (Err e') answer state = cc

moved_gives : (s : State) (g : Given) → Only2 (λ r ram. Gives (moved r s) ram g)
moved_gives s g r r' ram ram' (a, t, m) (a', t', m') = (moved_once s r r' (a ∙ sym a') (t ∙ sym t'), m ∙ sym m')

moved_is : (s : State) (o : Outcome) → Only (λ r. moved r s ≡ o)
moved_is s o r r' e e' =
    let same : moved r s ≡ moved r' s = e ∙ sym e' in
    moved_once s r r' (ap (λ (x : Outcome). x.answer) same) (ap (λ (x : Outcome). x.state) same)

gives : (g : Given) → Only2 (λ r ram. Gives r ram g)
gives g r r' ram ram' (a, s, m) (a', s', m') =
    let answer = a ∙ sym a' in
    let state = s ∙ sym s' in
    ((λ i. record { answer = answer i; state = state i }), m ∙ sym m')

gives_to_c_lem : (g : GivenToC) → Only3 (λ r slot ram. GivesToC r slot ram g)
gives_to_c_lem g r r' slot slot' ram ram' (a, s, m) (a', s', m') = (a ∙ sym a', s ∙ sym s', m ∙ sym m')

-- a text at the start of a place, and its length
text_once : (text place : List ℕ) → Only2 (λ r left. (r ≡ length text) × (left ≡ text ++ drop r place))
text_once text place r r' left left' (e, f) (e', f') =
    let same : r ≡ r' = e ∙ sym e' in
    (same, f ∙ ap (λ (n : ℕ). text ++ drop n place) same ∙ sym f')

-- a word of m, the first where n is none of them
word_once : (n m : ℕ) → Only (λ r. (r < m) × (n < m → r ≡ n) × (m ≤ n → r ≡ 0))
word_once n m r r' (a, b, c) (a', b', c') =
    by_test (ltb n m)
    (λ t. b (ltb-true n m t) ∙ sym (b' (ltb-true n m t)))
    (λ t. c (ltb-false n m t) ∙ sym (c' (ltb-false n m t)))

-- a good configuration is what it holds, as the proof beside it says nothing more; so is a good state
proof_once : {A : Type 0} (test : A → Bool) {a b : A} (e : a ≡ b) (p : test a ≡ true) (q : test b ≡ true) → PathP (λ i. test (e i) ≡ true) p q
proof_once test e = is_prop→PathP (λ i. test (e i) ≡ true) (λ i. Bool-set (test (e i)) true)

config_once : (g g' : GoodConfig) → g.config ≡ g'.config → g ≡ g'
config_once g g' e = λ i. record { config = e i; good = proof_once good_config e g.good g'.good i }

state_once : (g g' : GoodState) → g.state ≡ g'.state → g ≡ g'
state_once g g' e = λ i. record { state = e i; good = proof_once good_state e g.good g'.good i }

-- so what is tried is found good, or refused, and not both
module _ {A G : Type 0} (test : A → Bool) (held : G → A) (good : (g : G) → test (held g) ≡ true) (once : (g g' : G) → held g ≡ held g' → g ≡ g') where
  tried : (refusal : Refusal) (a : A) → Only (λ (r : Result G Refusal). MatchResult r (λ g. held g ≡ a) (λ e. (e ≡ refusal) × (test a ≡ false)))
  tried refusal a (Ok g) (Ok g') e e' = ap Ok (once g g' (e ∙ sym e'))
  tried refusal a (Ok g) (Err r) e (_, bad) = absurd (true≢false (sym (good g) ∙ ap test e ∙ bad))
  tried refusal a (Err r) (Ok g) (_, bad) e = absurd (true≢false (sym (good g) ∙ ap test e ∙ bad))
  tried refusal a (Err r) (Err r') (e, _) (e', _) = ap Err (e ∙ sym e')

pub uniqueness : Uniqueness
uniqueness =
    record {
      only_gives = gives;
      only_gives_to_c = gives_to_c_lem;
      only_set_up = λ config ram. gives _;
      only_operate = λ state ram table op. gives _;
      only_store = λ state ram address byte. gives _;
      only_call = λ state ram table target site pointer. gives _;
      only_ret = λ state ram. gives _;
      only_malloc = λ state ram size. gives _;
      only_free = λ state ram address. gives _;
      only_change = λ state ram address domain. gives _;
      only_operations_set_up = λ config ram. set_up_once _;
      only_operations_store = λ state ram address byte. kept_once _ _;
      only_operations_malloc = λ state ram size. kept_once _ _;
      only_operations_free = λ state ram address. kept_once _ _;
      only_operations_change = λ state ram address domain. kept_once _ _;
      only_call_with = λ table_of state ram code called word target site pointer. gives _;
      only_ret_with = λ returning state frame code. only _;
      only_operations_call_with = λ table_of state ram code called word target site pointer. moved_gives _ _;
      only_operations_ret_with = λ returning state frame code. moved_is _ _;
      only_table_word = λ jt target. word_once _ _;
      only_domain_of = λ word. only _;
      only_top_frame = λ state ram. only _;
      only_caller = λ caller_of state frame. only _;
      only_number_of = λ answer. only _;
      only_value_of = λ answer. only _;
      only_hmt_set_up = λ ram slot. gives_to_c_lem _;
      only_hmt_store = λ ram slot address byte. gives_to_c_lem _;
      only_hmt_call = λ ram slot table target site pointer. gives_to_c_lem _;
      only_hmt_return = λ ram slot. gives_to_c_lem _;
      only_hmt_malloc = λ ram slot size. gives_to_c_lem _;
      only_hmt_free = λ ram slot address. gives_to_c_lem _;
      only_hmt_change = λ ram slot address domain. gives_to_c_lem _;
      only_run = λ printed input out. text_once (printed input (length out)) out;
      only_RamByte_from = λ n. only _;
      only_FlashWord_from = λ n. only _;
      only_whole_blocks = λ config a. only _;
      only_block_of = λ config a. only _;
      only_start_of = λ config k. only _;
      only_further = λ k n. only _;
      only_before = λ k n. only _;
      only_first_block = only _;
      only_are_multiples = λ config a b. only _;
      only_blocks_for = λ config size. only _;
      only_above = λ a n. only _;
      only_below = λ a n. only _;
      only_last_byte = only _;
      only_zero_byte = only _;
      only_zero_word = only _;
      only_joined = λ low high. only _;
      only_byte_of = λ low high. only _;
      only_word_of = λ low high. only _;
      only_entry = λ word. only _;
      only_map_bytes_for = λ config n. only _;
      only_map_byte = λ map_at bot k. only _;
      only_to_whole = λ map_at to_whole bot k. only _;
      only_is_domain = λ config domain. only _;
      only_is_module = λ config domain. only _;
      only_word_at = λ bytes at. only _;
      only_ram_byte_at = λ bytes at. only _;
      only_flash_word_at = λ bytes at. only _;
      only_range_at = λ bytes at. only _;
      only_code_range = λ bytes at domain. only _;
      only_config_at = λ bytes at. only _;
      only_low = λ n. only _;
      only_high = λ n. only _;
      only_push = λ area used frame. only _;
      only_pop = λ area used. only _;
      only_GoodConfig_try_from = tried good_config (λ (g : GoodConfig). g.config) (λ g. g.good) config_once BrokenRule;
      only_GoodState_try_from = tried good_state (λ (g : GoodState). g.state) (λ g. g.good) state_once BadState;
      only_GoodState_config = λ state r r' e e'. config_once r r' (e ∙ sym e');
      only_good_bounds = λ config. only _;
      only_good_config = λ config. only _;
      only_good_run = λ state. only _;
      only_good_state = λ state. only _;
      only_multiples = λ config. only _;
      only_in_order = λ config. only _;
      only_jt_in_flash = λ config. only _;
      only_apart = λ r q. only _;
      only_in_any_order_by = λ Reads jt range_of (ranges, reads) r r' e e'. e ranges reads ∙ sym (e' ranges reads);
      only_in_any_order = λ config. only _;
      only_owner_of = λ config code. only _;
      only_starts_segment = λ config code. only _;
      only_start_code = λ config domain. only _;
      only_later_code = λ config domain. only _;
      only_set_up_map = λ config ram. only _;
      only_code_at = λ config ram a. only _;
      only_owner_at = λ config ram a. only _;
      only_is_first = λ config a. only _;
      only_segment_blocks = λ config ram a domain. only _;
      only_set_run = λ config ram a n first later. only _;
      only_set_free = λ config ram a n. only _;
      only_lowest_run = λ Run run_of config ram n. only _;
    }
