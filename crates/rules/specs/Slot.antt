-- Document 02, Ask 1: the state in a slot of bytes, and what the functions called from C give.
use Rattle.std.specs.Prelude.{ℕ, ◌+◌, ◌*◌, ◌≡◌, Bool, cond, not, ◌&&◌, ◌||◌, List, [], ◌∷◌, ◌++◌, length, get_or, eqb, Ok, Err}
use Rattle.rules.specs.declared.RamByte.{RamByte}
use Rattle.rules.specs.declared.FlashWord.{FlashWord}
use Rattle.rules.specs.declared.Config.{Config}
use Rattle.rules.specs.declared.State.{State}
use Rattle.rules.specs.Answers.{Answer, Given, number_of, value_of}
use Rattle.rules.specs.declared.Refusal.{Refusal}
use Rattle.rules.specs.declared.Refusal.TheVariants.{WrongSize, BadState}
use Rattle.rules.specs.declared.Operation.{Operation}
use Rattle.rules.specs.declared.Operation.TheVariants.{Store, Call, Return, Malloc, Free, Change}
use Rattle.rules.specs.Memory.{ram_bytes}
use Rattle.rules.specs.Code.{table_words}
use Rattle.rules.specs.State.{ram_byte}
use Rattle.rules.specs.Bytes.{word_bytes, word_at, words_at, config_bytes, config_at, config_as_bytes}
use Rattle.rules.specs.SetUp.{set_up_of}
use Rattle.rules.specs.Operations.{lending, lent_table, operation_of}

-- ---- the slot

-- "The state sits in a 48-byte slot, numbers low byte first: bot, heap, safe, top, jt; eight pairs start, end; bound; safe pointer; domain
-- in one byte; one byte 0": where its parts begin
abbrev pub config_part : ℕ
config_part = 0

abbrev pub run_part : ℕ
run_part = config_part + config_bytes

abbrev pub zero_part : ℕ
zero_part = run_part + 5

abbrev pub slot_bytes : ℕ
slot_bytes = zero_part + 1

-- in the part that a call or a return changes: bound, safe pointer, domain
abbrev pub bound_place : ℕ
bound_place = run_part

abbrev pub safepointer_place : ℕ
safepointer_place = run_part + 2

abbrev pub domain_place : ℕ
domain_place = run_part + 4

-- the configuration and the state that a slot holds
abbrev pub config_in : List ℕ → Config
config_in slot = config_at slot config_part

abbrev pub state_in : List ℕ → State
state_in slot =
    record {
      config = config_in slot;
      domain = get_or slot domain_place 0;
      bound = ram_byte (word_at slot bound_place);
      safepointer = ram_byte (word_at slot safepointer_place);
    }

-- the slot that holds a state
abbrev pub run_as_bytes : State → List ℕ
run_as_bytes s = word_bytes s.bound.0 ++ word_bytes s.safepointer.0 ++ (s.domain ∷ [])

unfoldable pub slot_of : State → List ℕ
slot_of s = config_as_bytes s.config ++ (run_as_bytes s ++ (0 ∷ []))

-- ---- the answer

-- "The answer is one 32-bit number: answer number times 65536 plus value."
abbrev pub packed : Answer → ℕ
packed a = number_of a * 65536 + value_of a

-- what a function called from C gives: its answer, all of the slot and all of RAM
pub record GivenToC : Type 0 where
  pub answer : ℕ
  pub slot : List ℕ
  pub ram : List ℕ

-- "A refusal leaves slot and RAM untouched, set-up included."
abbrev pub refused_to_c : Refusal → List ℕ → List ℕ → GivenToC
refused_to_c r slot ram = record { answer = packed (Err r); slot = slot; ram = ram }

abbrev pub give_to_c : Answer → List ℕ → List ℕ → State → List ℕ → GivenToC
give_to_c (Ok v) slot ram s' ram' = record { answer = packed (Ok v); slot = slot_of s'; ram = ram' }
give_to_c (Err r) slot ram s' ram' = refused_to_c r slot ram

abbrev pub to_c : List ℕ → List ℕ → Given → GivenToC
to_c slot ram g = give_to_c g.answer slot ram g.state g.ram

-- the form of every contract of that layer
abbrev pub GivesToC : ℕ → List ℕ → List ℕ → GivenToC → Type 0
GivesToC r slot ram g = (r ≡ g.answer) × (slot ≡ g.slot) × (ram ≡ g.ram)

-- ---- the functions

abbrev pub wrong_size : List ℕ → List ℕ → Bool
wrong_size slot ram = not (eqb (length slot) slot_bytes) || not (eqb (length ram) ram_bytes)

-- "Set-up reads only the configuration from the slot."
abbrev pub c_set_up_of : List ℕ → List ℕ → GivenToC
c_set_up_of slot ram = cond (wrong_size slot ram) (refused_to_c WrongSize slot ram) (to_c slot ram (set_up_of (config_in slot) ram))

-- "The jump table comes as 2,048 bytes."
abbrev pub table_bytes : ℕ
table_bytes = 2048

abbrev pub table_in : List ℕ → List ℕ
table_in table = words_at table 0 table_words

abbrev pub wrong_table : List ℕ → Operation → Bool
wrong_table table op = lent_table op && not (eqb (length table) table_bytes)

-- "1 also for a slot or table of another length, 3 also for a byte 47 (from 0) that is not 0": an operation after those two tests
abbrev pub c_operation : Bool → List ℕ → List ℕ → Given → GivenToC
c_operation wrong slot ram g =
    cond wrong (refused_to_c WrongSize slot ram)
    (cond (not (eqb (get_or slot zero_part 0) 0)) (refused_to_c BadState slot ram)
    (to_c slot ram g))

-- what any of them gives; only a call is lent a table
abbrev pub c_operation_of : List ℕ → List ℕ → List ℕ → Operation → GivenToC
c_operation_of slot ram table op =
    c_operation (wrong_table table op || wrong_size slot ram) slot ram (operation_of (state_in slot) ram (lending (table_in table)) op)

abbrev pub c_store_of : List ℕ → List ℕ → RamByte → ℕ → GivenToC
c_store_of slot ram a b = c_operation_of slot ram [] (Store a b)

abbrev pub c_call_of : List ℕ → List ℕ → List ℕ → FlashWord → FlashWord → RamByte → GivenToC
c_call_of slot ram table t site p = c_operation_of slot ram table (Call t site p)

abbrev pub c_return_of : List ℕ → List ℕ → GivenToC
c_return_of slot ram = c_operation_of slot ram [] Return

abbrev pub c_malloc_of : List ℕ → List ℕ → ℕ → GivenToC
c_malloc_of slot ram size = c_operation_of slot ram [] (Malloc size)

abbrev pub c_free_of : List ℕ → List ℕ → RamByte → GivenToC
c_free_of slot ram a = c_operation_of slot ram [] (Free a)

abbrev pub c_change_of : List ℕ → List ℕ → RamByte → ℕ → GivenToC
c_change_of slot ram a d = c_operation_of slot ram [] (Change a d)
