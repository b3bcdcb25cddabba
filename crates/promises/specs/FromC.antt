-- Document 02, Ask 1, and demand 3: a sequence of calls from C, on one slot and one RAM, is a history of the rules. `from_c` of
-- proofs/FromC.antt proves it.
-- No axiom.
use Rattle.std.specs.Prelude.{ℕ, ◌≡◌, cond, ◌⊎◌, List, [], get_or}
use Rattle.rules.specs.declared.Operation.{Operation}
use Rattle.rules.specs.Memory.{trusted}
use Rattle.rules.specs.Answers.{Given}
use Rattle.rules.specs.Operations.{Lent, lending}
use Rattle.rules.specs.Slot.{domain_place, config_in, state_in, slot_of, packed, GivenToC, table_in, wrong_table, c_set_up_of, c_operation_of}
use Rattle.promises.specs.History.{Asked, History, set_up, ◌then◌, after, Stores, InMap, InSafeStack}
use Rattle.promises.specs.Promise.{Promise}

-- ---- calls from C, and a sequence of them

-- a call from C: an operation, and the jump table as bytes, which hmt_call alone looks at
pub record AskedFromC : Type 0 where
  pub operation : Operation
  pub table : List ℕ

-- what it gives on a slot and RAM: the right-hand sides of the contracts
abbrev pub step_from_c : List ℕ → List ℕ → AskedFromC → GivenToC
step_from_c slot ram o = c_operation_of slot ram o.table o.operation

infixl 5 ◌next◌
-- hmt_set_up on a slot and RAM, and any calls after it on what the one before it left, refused ones included
pub data RunFromC : Type 0 where
  set_up_from_c : (slot ram : List ℕ) → RunFromC
  ◌next◌ : RunFromC → AskedFromC → RunFromC

-- what the last call gave: its answer, and the slot and RAM that it left
unfoldable pub after_from_c : RunFromC → GivenToC
after_from_c (set_up_from_c slot ram) = c_set_up_of slot ram
after_from_c (r next o) = let m = after_from_c r in step_from_c m.slot m.ram o

-- ---- the history that it is

-- the table's words are lent; a table of another length is refused, as any is that is not of 1,024 words
abbrev pub lent_from_c : AskedFromC → Lent
lent_from_c o = lending (cond (wrong_table o.table o.operation) [] (table_in o.table))

-- what is asked of the rules
abbrev pub asked_from_c : AskedFromC → Asked
asked_from_c o = record { operation = o.operation; lent = lent_from_c o }

unfoldable pub history_from_c : RunFromC → History
history_from_c (set_up_from_c slot ram) = set_up (config_in slot) ram
history_from_c (r next o) = history_from_c r then asked_from_c o

-- C has been given the rules' answer as one number, and the slot holds their state: all of its bytes are determined
pub record Same (c : GivenToC) (g : Given) : Type 0 where
  pub answer : c.answer ≡ packed g.answer
  pub slot : c.slot ≡ slot_of g.state
  pub state : state_in c.slot ≡ g.state
  pub ram : c.ram ≡ g.ram

-- ---- what is assumed, and what is promised

-- hmt_set_up answered 0
abbrev pub SetUpDone : RunFromC → Type 0
SetUpDone (set_up_from_c slot ram) = (c_set_up_of slot ram).answer ≡ 0
SetUpDone (r next o) = SetUpDone r

-- demand 3's premise: no hmt_store that answers 0 while byte 46 of the slot is 7, the trusted domain, lands in the map or the safe stack
-- area of the configuration that the slot holds
abbrev pub PremiseFromC : RunFromC → Type 0
PremiseFromC (set_up_from_c slot ram) = Unit {0}
PremiseFromC (r next o) =
    let slot = (after_from_c r).slot in
    PremiseFromC r
    × ((x b : ℕ) → Stores o.operation x b → (step_from_c slot (after_from_c r).ram o).answer ≡ 0 → get_or slot domain_place 0 ≡ trusted
    → InMap (config_in slot) x ⊎ InSafeStack (config_in slot) x → ⊥)

pub record FromC (r : RunFromC) : Type 0 where
  -- whatever was called, the run is a history of the rules, answer for answer
  pub same : Same (after_from_c r) (after (history_from_c r))
  -- and demand 3 holds of it under its premise
  pub promise : PremiseFromC r → Promise (history_from_c r)

abbrev pub Demand3FromC : Type 0
Demand3FromC = (r : RunFromC) → SetUpDone r → FromC r
