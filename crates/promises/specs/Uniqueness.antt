-- Section 10: "That no second answer can satisfy a contract is itself proved": for every public function of every crate, by its name. The
-- theorem is `uniqueness` of proofs/Uniqueness.antt.
-- Each field states the contract as it stands in the source, with x for what was lent as x, and x' for what is left in it. That it does so
-- word for word, and that no public function lacks its field, is what tools/contracts.py sees to. Where the source is handed a good
-- configuration or state, the field is about any.
-- No axiom.
use Rattle.std.specs.Prelude.{ℕ, ◌+◌, ◌-◌, ◌*◌, ◌/◌, ◌≤◌, ◌<◌, ◌≡◌, true, false, ◌&&◌, List, ◌∷◌, ◌++◌, length, take, drop, replicate, eqb, Option, Result, Ok, MatchResult}
use Rattle.std.proofs.lemmas.List.Edits.{sets}
use Rattle.rules.specs.declared.RamByte.{RamByte}
use Rattle.rules.specs.declared.FlashWord.{FlashWord}
use Rattle.rules.specs.declared.Block.{Block}
use Rattle.rules.specs.declared.Range.{Range}
use Rattle.rules.specs.declared.Config.{Config}
use Rattle.rules.specs.declared.State.{State}
use Rattle.rules.specs.declared.Frame.{Frame}
use Rattle.rules.specs.declared.Refusal.{Refusal}
use Rattle.rules.specs.declared.Refusal.TheVariants.{BrokenRule, BadState}
use Rattle.rules.specs.declared.Outcome.{Outcome}
use Rattle.rules.specs.declared.Operation.{Operation}
use Rattle.rules.specs.Memory.{ram_bytes, Layout, layout_of, map_byte, is_domain, is_module, start_of, block_of, blocks_for, is_multiple, map_bytes_for, code_of, codes_of, set_codes, start_code, later_code, free_code, owner_of, starts_segment}
use Rattle.rules.specs.Code.{range_of, ordered, apart, all_apart, table_words, domain_words, flash_word}
use Rattle.rules.specs.State.{ram_byte, multiples, bot_below_top, map_below_heap, heap_below_safe, safe_below_top, top_in_ram, jt_in_flash, ranges_ordered, ranges_apart, good_config, domain_good, bound_good, safepointer_good, good_state}
use Rattle.rules.specs.Answers.{Answer, number_of, value_of, Given, Gives, kept, moved}
use Rattle.rules.specs.SetUp.{set_up_ram, set_up_of}
use Rattle.rules.specs.Bytes.{low, high, word_at, range_at, config_at}
use Rattle.rules.specs.Call.{frame_bytes}
use Rattle.rules.specs.Return.{read_frame, top_frame}
use Rattle.rules.specs.Malloc.{block, lowest_run}
use Rattle.rules.specs.Free.{segment_blocks}
use Rattle.rules.specs.Operations.{lending, operation_of, store_of, call_of, return_of, malloc_of, free_of, change_of}
use Rattle.rules.specs.Slot.{GivenToC, GivesToC, c_set_up_of, c_store_of, c_call_of, c_return_of, c_malloc_of, c_free_of, c_change_of}

-- no two results meet P; no two pairs, no two triples, of a result and what is left in the places that were lent
abbrev pub Only : {A : Type 0} → (A → Type 0) → Type 0
Only {A} P = (r r' : A) → P r → P r' → r ≡ r'

abbrev pub Only2 : {A B : Type 0} → (A → B → Type 0) → Type 0
Only2 {A} {B} P = (r r' : A) (x x' : B) → P r x → P r' x' → (r ≡ r') × (x ≡ x')

abbrev pub Only3 : {A B C : Type 0} → (A → B → C → Type 0) → Type 0
Only3 {A} {B} {C} P =
    (r r' : A) (x x' : B) (y y' : C) → P r x y → P r' x' y' → (r ≡ r') × (x ≡ x') × (y ≡ y')

-- a configuration and a state with the proof that they are good, as crates/good declares them
pub record GoodConfig : Type 0 where
  pub config : Config
  pub good : good_config config ≡ true

pub record GoodState : Type 0 where
  pub state : State
  pub good : good_state state ≡ true

pub record Uniqueness : Type 1 where
  -- what a rule gives leaves one answer, state and RAM; what a function called from C gives leaves one answer, slot and RAM
  pub only_gives : (g : Given) → Only2 (λ r ram. Gives r ram g)
  pub only_gives_to_c : (g : GivenToC) → Only3 (λ r slot ram. GivesToC r slot ram g)
  -- crates/runtime
  pub only_set_up : (config : Config) (ram : List ℕ) → Only2 (λ r ram'. Gives r ram' (set_up_of config ram))
  pub only_operate : (state : State) (ram table : List ℕ) (op : Operation) → Only2 (λ r ram'. Gives r ram' (operation_of state ram (lending table) op))
  pub only_store : (state : State) (ram : List ℕ) (address : RamByte) (byte : ℕ)
      → Only2 (λ r ram'. Gives r ram' (store_of state ram address byte))
  pub only_call : (state : State) (ram table : List ℕ) (target site : FlashWord) (pointer : RamByte)
      → Only2 (λ r ram'. Gives r ram' (call_of state ram table target site pointer))
  pub only_ret : (state : State) (ram : List ℕ) → Only2 (λ r ram'. Gives r ram' (return_of state ram))
  pub only_malloc : (state : State) (ram : List ℕ) (size : ℕ) → Only2 (λ r ram'. Gives r ram' (malloc_of state ram size))
  pub only_free : (state : State) (ram : List ℕ) (address : RamByte) → Only2 (λ r ram'. Gives r ram' (free_of state ram address))
  pub only_change : (state : State) (ram : List ℕ) (address : RamByte) (domain : ℕ)
      → Only2 (λ r ram'. Gives r ram' (change_of state ram address domain))
  -- crates/operations, which answer without the state where that is known: set-up is done, and what is not a call or a return keeps it;
  -- `table_of` is a table that has one word everywhere, `caller_of` the domain that a frame returns to
  pub only_operations_set_up : (config : Config) (ram : List ℕ) → Only2 (λ r ram'. Gives (kept (Ok 0) r) ram' (set_up_of config ram))
  pub only_operations_store : (state : State) (ram : List ℕ) (address : RamByte) (byte : ℕ)
      → Only2 (λ r ram'. Gives (kept r state) ram' (store_of state ram address byte))
  pub only_operations_malloc : (state : State) (ram : List ℕ) (size : ℕ) → Only2 (λ r ram'. Gives (kept r state) ram' (malloc_of state ram size))
  pub only_operations_free : (state : State) (ram : List ℕ) (address : RamByte)
      → Only2 (λ r ram'. Gives (kept r state) ram' (free_of state ram address))
  pub only_operations_change : (state : State) (ram : List ℕ) (address : RamByte) (domain : ℕ)
      → Only2 (λ r ram'. Gives (kept r state) ram' (change_of state ram address domain))
  pub only_call_with : (table_of : ℕ → List ℕ) (state : State) (ram : List ℕ) (code called : Range) (word : ℕ) (target site : FlashWord) (pointer : RamByte)
      → Only2 (λ r ram'. Gives r ram' (call_of state ram (table_of word) target site pointer))
  pub only_ret_with : (returning : State → Frame → Outcome) (state : State) (frame : Frame) (code : Range) → Only (λ r. r ≡ returning state frame)
  -- the same of what the two hand back, which `moved` makes an outcome of
  pub only_operations_call_with : (table_of : ℕ → List ℕ) (state : State) (ram : List ℕ) (code called : Range) (word : ℕ) (target site : FlashWord) (pointer : RamByte)
      → Only2 (λ r ram'. Gives (moved r state) ram' (call_of state ram (table_of word) target site pointer))
  pub only_operations_ret_with : (returning : State → Frame → Outcome) (state : State) (frame : Frame) (code : Range)
      → Only (λ r. moved r state ≡ returning state frame)
  pub only_table_word : (jt target : FlashWord)
      → Only (λ r. (r < table_words) × (target.0 - jt.0 < table_words → r ≡ target.0 - jt.0) × (table_words ≤ target.0 - jt.0 → r ≡ 0))
  pub only_domain_of : (word : ℕ) → Only (λ r. r ≡ word / domain_words)
  pub only_top_frame : (state : State) (ram : List ℕ) → Only (λ r. r ≡ top_frame state ram)
  pub only_caller : (caller_of : State → Frame → ℕ) (state : State) (frame : Frame) → Only (λ r. r ≡ caller_of state frame)
  -- crates/hmt_c, called from C
  pub only_hmt_set_up : (ram slot : List ℕ) → Only3 (λ r slot' ram'. GivesToC r slot' ram' (c_set_up_of slot ram))
  pub only_hmt_store : (ram slot : List ℕ) (address byte : ℕ)
      → Only3 (λ r slot' ram'. GivesToC r slot' ram' (c_store_of slot ram (ram_byte address) byte))
  pub only_hmt_call : (ram slot table : List ℕ) (target site pointer : ℕ)
      → Only3 (λ r slot' ram'. GivesToC r slot' ram' (c_call_of slot ram table (flash_word target) (flash_word site) (ram_byte pointer)))
  pub only_hmt_return : (ram slot : List ℕ) → Only3 (λ r slot' ram'. GivesToC r slot' ram' (c_return_of slot ram))
  pub only_hmt_malloc : (ram slot : List ℕ) (size : ℕ) → Only3 (λ r slot' ram'. GivesToC r slot' ram' (c_malloc_of slot ram size))
  pub only_hmt_free : (ram slot : List ℕ) (address : ℕ) → Only3 (λ r slot' ram'. GivesToC r slot' ram' (c_free_of slot ram (ram_byte address)))
  pub only_hmt_change : (ram slot : List ℕ) (address domain : ℕ)
      → Only3 (λ r slot' ram'. GivesToC r slot' ram' (c_change_of slot ram (ram_byte address) domain))
  -- crates/script; `printed` is the text of a script, or nothing where there is no room for it
  pub only_run : (printed : List ℕ → ℕ → List ℕ) (input out : List ℕ)
      → Only2 (λ r out'. (r ≡ length (printed input (length out))) × (out' ≡ (printed input (length out)) ++ drop r out))
  -- the ways from a number, of crates/rules
  pub only_RamByte_from : (n : ℕ) → Only (λ r. r ≡ ram_byte n)
  pub only_FlashWord_from : (n : ℕ) → Only (λ r. r ≡ flash_word n)
  -- crates/address; `map_at` is a map by where it begins, `to_whole` the distance to a byte's first block
  pub only_whole_blocks : (config : Config) (a : RamByte) → Only (λ r. r ≡ block_of config a)
  pub only_block_of : (config : Config) (a : RamByte) → Only (λ r. r ≡ block (block_of config a))
  pub only_start_of : (config : Config) (k : Block) → Only (λ r. r ≡ ram_byte (start_of config k.0))
  pub only_further : (k : Block) (n : ℕ) → Only (λ r. r ≡ block (k.0 + n))
  pub only_before : (k : Block) (n : ℕ) → Only (λ r. r ≡ block (k.0 - n))
  pub only_first_block : Only (λ r. r ≡ block 0)
  pub only_are_multiples : (config : Config) (a b : RamByte) → Only (λ r. r ≡ (is_multiple config a && is_multiple config b))
  pub only_blocks_for : (config : Config) (size : ℕ) → Only (λ r. r ≡ blocks_for config size)
  pub only_above : (a : RamByte) (n : ℕ) → Only (λ r. r ≡ ram_byte (a.0 + n))
  pub only_below : (a : RamByte) (n : ℕ) → Only (λ r. r ≡ ram_byte (a.0 - n))
  pub only_last_byte : Only (λ r. r ≡ ram_byte (ram_bytes - 1))
  pub only_zero_byte : Only (λ r. r ≡ ram_byte 0)
  pub only_zero_word : Only (λ r. r ≡ flash_word 0)
  pub only_joined : (low high : ℕ) → Only (λ r. r ≡ low + 256 * high)
  pub only_byte_of : (low high : ℕ) → Only (λ r. r ≡ ram_byte (low + 256 * high))
  pub only_word_of : (low high : ℕ) → Only (λ r. r ≡ flash_word (low + 256 * high))
  pub only_entry : (word : ℕ) → Only (λ r. r ≡ flash_word word)
  pub only_map_bytes_for : (config : Config) (n : ℕ) → Only (λ r. r ≡ map_bytes_for (layout_of config) n)
  pub only_map_byte : (map_at : RamByte → Layout) (bot : RamByte) (k : Block) → Only (λ r. r ≡ ram_byte (map_byte (map_at bot) k.0))
  pub only_to_whole : (map_at : RamByte → Layout) (to_whole : Layout → ℕ → ℕ) (bot : RamByte) (k : Block) → Only (λ r. r ≡ to_whole (map_at bot) k.0)
  pub only_is_domain : (config : Config) (domain : ℕ) → Only (λ r. r ≡ is_domain config domain)
  pub only_is_module : (config : Config) (domain : ℕ) → Only (λ r. r ≡ is_module config domain)
  -- crates/codec
  pub only_word_at : (bytes : List ℕ) (at : ℕ) → Only (λ r. r ≡ word_at bytes at)
  pub only_ram_byte_at : (bytes : List ℕ) (at : ℕ) → Only (λ r. r ≡ ram_byte (word_at bytes at))
  pub only_flash_word_at : (bytes : List ℕ) (at : ℕ) → Only (λ r. r ≡ flash_word (word_at bytes at))
  pub only_range_at : (bytes : List ℕ) (at : ℕ) → Only (λ r. r ≡ range_at bytes at)
  pub only_code_range : (bytes : List ℕ) (at domain : ℕ) → Only (λ r. r ≡ range_of (config_at bytes at) domain)
  pub only_config_at : (bytes : List ℕ) (at : ℕ) → Only (λ r. r ≡ config_at bytes at)
  pub only_number_of : (answer : Answer) → Only (λ r. r ≡ number_of answer)
  pub only_value_of : (answer : Answer) → Only (λ r. r ≡ value_of answer)
  -- crates/frames
  pub only_low : (n : ℕ) → Only (λ r. r ≡ low n)
  pub only_high : (n : ℕ) → Only (λ r. r ≡ high n)
  pub only_push : (area : List ℕ) (used : ℕ) (frame : Frame) → Only (λ area'. area' ≡ sets area used (frame_bytes frame))
  pub only_pop : (area : List ℕ) (used : ℕ) → Only (λ r. r ≡ read_frame (take used area))
  -- crates/good
  pub only_GoodConfig_try_from : (c : Config)
      → Only (λ (r : Result GoodConfig Refusal). MatchResult r (λ good. good.config ≡ c) (λ e. (e ≡ BrokenRule) × (good_config c ≡ false)))
  pub only_GoodState_try_from : (s : State)
      → Only (λ (r : Result GoodState Refusal). MatchResult r (λ good. good.state ≡ s) (λ e. (e ≡ BadState) × (good_state s ≡ false)))
  pub only_GoodState_config : (state : State) → Only (λ (r : GoodConfig). r.config ≡ state.config)
  pub only_good_bounds : (config : Config)
      → Only (λ r. r ≡ (multiples config && bot_below_top config && map_below_heap config && heap_below_safe config && safe_below_top config && top_in_ram config))
  pub only_good_config : (config : Config) → Only (λ r. r ≡ good_config config)
  pub only_good_run : (state : State) → Only (λ r. r ≡ (domain_good state && bound_good state && safepointer_good state))
  pub only_good_state : (state : State) → Only (λ r. r ≡ good_state state)
  pub only_multiples : (config : Config) → Only (λ r. r ≡ multiples config)
  pub only_in_order : (config : Config)
      → Only (λ r. r ≡ (bot_below_top config && map_below_heap config && heap_below_safe config && safe_below_top config && top_in_ram config))
  pub only_jt_in_flash : (config : Config) → Only (λ r. r ≡ jt_in_flash config)
  pub only_apart : (r q : Range) → Only (λ a. a ≡ apart r q)
  -- `Reads` says that a closure reads these ranges, and `range_of` what it may give
  pub only_in_any_order_by : (Reads : (ℕ → Range → Type 0) → List Range → Type 0) (jt : FlashWord) (range_of : ℕ → Range → Type 0)
      → ((ranges : List Range) × Reads range_of ranges)
      → Only (λ r. (ranges : List Range) → Reads range_of ranges → r ≡ (ordered jt ranges && all_apart ranges))
  pub only_in_any_order : (config : Config) → Only (λ r. r ≡ (ranges_ordered config && ranges_apart config))
  -- crates/map; `run_of` is where a search ended, by the first address of the run
  pub only_owner_of : (config : Config) (code : ℕ) → Only (λ r. r ≡ owner_of (layout_of config) code)
  pub only_starts_segment : (config : Config) (code : ℕ) → Only (λ r. r ≡ starts_segment (layout_of config) code)
  pub only_start_code : (config : Config) (domain : ℕ) → Only (λ r. r ≡ start_code (layout_of config) domain)
  pub only_later_code : (config : Config) (domain : ℕ) → Only (λ r. r ≡ later_code (layout_of config) domain)
  pub only_set_up_map : (config : Config) (ram : List ℕ) → Only (λ ram'. ram' ≡ set_up_ram (layout_of config) config ram)
  pub only_code_at : (config : Config) (ram : List ℕ) (a : RamByte) → Only (λ r. r ≡ code_of (layout_of config) ram (block_of config a))
  pub only_owner_at : (config : Config) (ram : List ℕ) (a : RamByte) → Only (λ r. r ≡ owner_of (layout_of config) (code_of (layout_of config) ram (block_of config a)))
  pub only_is_first : (config : Config) (a : RamByte) → Only (λ r. r ≡ eqb (start_of config (block_of config a)) a.0)
  pub only_segment_blocks : (config : Config) (ram : List ℕ) (a : RamByte) (domain : ℕ)
      → Only (λ r. r ≡ segment_blocks config (codes_of config ram) (block_of config a))
  pub only_set_run : (config : Config) (ram : List ℕ) (a : RamByte) (n first later : ℕ)
      → Only (λ ram'. ram' ≡ set_codes (layout_of config) ram (block_of config a) (first ∷ replicate (n - 1) later))
  pub only_set_free : (config : Config) (ram : List ℕ) (a : RamByte) (n : ℕ)
      → Only (λ ram'. ram' ≡ set_codes (layout_of config) ram (block_of config a) (replicate n (free_code (layout_of config))))
  pub only_lowest_run : (Run : Type 0) (run_of : Config → Option Block → Run) (config : Config) (ram : List ℕ) (n : ℕ)
      → Only (λ r. r ≡ run_of config (lowest_run config (codes_of config ram) n))
