-- Sections 5 and 6: what any operation gives.
use Rattle.std.specs.Prelude.{ℕ, Bool, true, false, not, ◌&&◌, ◌||◌, List, [], length, eqb}
use Rattle.std.proofs.Math.Seq.{slice}
use Rattle.rules.specs.declared.RamByte.{RamByte}
use Rattle.rules.specs.declared.FlashWord.{FlashWord}
use Rattle.rules.specs.declared.State.{State}
use Rattle.rules.specs.Answers.{Answer, ◌⇒◌∣◌, Given, give}
use Rattle.rules.specs.declared.Operation.{Operation}
use Rattle.rules.specs.declared.Operation.TheVariants.{Store, Call, Return, Malloc, Free, Change}
use Rattle.rules.specs.declared.Refusal.TheVariants.{WrongSize, BadState}
use Rattle.rules.specs.Memory.{ram_bytes, Order, in_use, Layout, layout_by, Codes, code_of, blocks_for}
use Rattle.rules.specs.Code.{table_words}
use Rattle.rules.specs.State.{good_state}
use Rattle.rules.specs.Store.{store_rows, stored}
use Rattle.rules.specs.Call.{call_rows, called, pushed}
use Rattle.rules.specs.Return.{read_frame, return_rows, returned}
use Rattle.rules.specs.Malloc.{room_for, malloc_rows, taken}
use Rattle.rules.specs.Free.{free_rows, freed, change_rows, changed}

-- ---- what an operation is lent beside RAM: "The jump table is lent to each call"

pub record Lent : Type 0 where
  pub table : List ℕ

abbrev pub lending : List ℕ → Lent
lending table = record { table = table }

abbrev pub nothing : Lent
nothing = lending []

-- only a call is lent a table
abbrev pub lent_table : Operation → Bool
lent_table (Store a b) = false
lent_table (Call t site p) = true
lent_table Return = false
lent_table (Malloc size) = false
lent_table (Free a) = false
lent_table (Change a d) = false

-- "in a call also: the jump table is not 1,024 words"
abbrev pub wrong_lent : Lent → Operation → Bool
wrong_lent l op = lent_table op && not (eqb (length l.table) table_words)

-- ---- all that it looks at in RAM: the codes of the map, and the bytes from safe to the safe pointer

pub record Seen : Type 0 where
  pub codes : Codes
  pub frames : List ℕ

abbrev pub seen_by : Order → State → List ℕ → Seen
seen_by o s ram =
    record { codes = code_of (layout_by o s.config) ram; frames = slice s.config.safe.0 s.safepointer.0 ram }

-- ---- its own rows, its next state and its next RAM

abbrev pub rows_of : State → Seen → Lent → Operation → Answer
rows_of s v l (Store a b) = store_rows s v.codes a
rows_of s v l (Call t site p) = call_rows s l.table t site p
rows_of s v l Return = return_rows s (read_frame v.frames)
rows_of s v l (Malloc size) = malloc_rows s v.codes size
rows_of s v l (Free a) = free_rows s v.codes a
rows_of s v l (Change a d) = change_rows s v.codes a d

abbrev pub state_after : State → Seen → Operation → State
state_after s v (Store a b) = s
state_after s v (Call t site p) = called s t site p
state_after s v Return = returned s (read_frame v.frames)
state_after s v (Malloc size) = s
state_after s v (Free a) = s
state_after s v (Change a d) = s

abbrev pub ram_after : Layout → State → List ℕ → Operation → List ℕ
ram_after m s ram (Store a b) = stored ram a b
ram_after m s ram (Call t site p) = pushed s ram t site
ram_after m s ram Return = ram
ram_after m s ram (Malloc size) = taken m s ram (blocks_for s.config size) (room_for s (code_of m ram) size)
ram_after m s ram (Free a) = freed m s ram a
ram_after m s ram (Change a d) = changed m s ram a d

-- ---- what it gives: the two rows that every table begins with, then its own

abbrev pub answer_by : Order → State → List ℕ → Lent → Operation → Answer
answer_by o s ram l op =
    wrong_lent l op || not (eqb (length ram) ram_bytes) ⇒ WrongSize ∣
    not (good_state s) ⇒ BadState ∣
    rows_of s (seen_by o s ram) l op

abbrev pub operation_by : Order → State → List ℕ → Lent → Operation → Given
operation_by o s ram l op =
    give (answer_by o s ram l op) s ram (state_after s (seen_by o s ram) op) (ram_after (layout_by o s.config) s ram op)

-- in the order that is in use
abbrev pub operation_of : State → List ℕ → Lent → Operation → Given
operation_of = operation_by in_use

-- ---- each operation by itself

abbrev pub store_of : State → List ℕ → RamByte → ℕ → Given
store_of s ram a b = operation_of s ram nothing (Store a b)

abbrev pub call_of : State → List ℕ → List ℕ → FlashWord → FlashWord → RamByte → Given
call_of s ram table t site p = operation_of s ram (lending table) (Call t site p)

abbrev pub return_of : State → List ℕ → Given
return_of s ram = operation_of s ram nothing Return

abbrev pub malloc_of : State → List ℕ → ℕ → Given
malloc_of s ram size = operation_of s ram nothing (Malloc size)

abbrev pub free_of : State → List ℕ → RamByte → Given
free_of s ram a = operation_of s ram nothing (Free a)

abbrev pub change_of : State → List ℕ → RamByte → ℕ → Given
change_of s ram a d = operation_of s ram nothing (Change a d)
