-- The step with which every operation begins, and what the operation leaves behind it (document 02, Ask 1).
use Rattle.std.specs.Prelude.{ℕ, ◌≡◌, false, ◌⊎◌, List}
use Rattle.std.specs.Borrow.{MutBor}
use Rattle.std.specs.Fn.{Once}
use Rattle.std.proofs.lemmas.List.Edits.{sets}
use Rattle.rules.specs.Answers.{Answer, Given}
use Rattle.rules.specs.declared.Operation.{Operation}
use Rattle.rules.specs.Slot.{run_part, GivesToC, packed, state_in, run_as_bytes, wrong_table, c_operation_of}
use Rattle.good.specs.declared.GoodState.{GoodState}
use Rattle.laws.proofs.ToC.{Ready, after}

-- references to RAM and to a slot, as an operation is lent them
abbrev pub Lent : Type 0
Lent = MutBor (List ℕ) × (MutBor (List ℕ) × Unit {0})

-- an operation of any kind, as the step is passed it
abbrev pub Act : Type 0 → Type 1
Act F = Once F (GoodState × Lent) (Answer × Lent)

-- one that may be carried out in a good state, with the slot that holds it
abbrev pub MayAct : {F : Type 0} → Act F → F → Type 0
MayAct g f = (good : GoodState) (lent : Lent) → good.state ≡ state_in lent.1.0.now → g.pre f (good, lent)

-- a refusal by the tests: what the rule gives for any operation whose table has its length
abbrev pub RefusedBefore : (slot ram : List ℕ) → Answer → (slot' ram' : List ℕ) → Type 0
RefusedBefore slot ram a slot' ram' =
    (table : List ℕ) (op : Operation) → wrong_table table op ≡ false → GivesToC (packed a) slot' ram' (c_operation_of slot ram table op)

-- the operation carried out in the good state that the slot holds
pub record CarriedOut {F : Type 0} (g : Act F) (f : F) (slot ram : List ℕ) (a : Answer) (slot' ram' : List ℕ) : Type 0 where
  pub ready : Ready slot ram
  pub good : GoodState
  pub is : good.state ≡ state_in slot
  pub lent : Lent
  pub left : Lent
  pub shows : (lent.0.now ≡ ram) × (lent.1.0.now ≡ slot)
  pub met : g.post f (good, lent) (a, left)
  pub leaves : (left.0.now ≡ ram') × (left.1.0.now ≡ slot')

abbrev pub Stepped : {F : Type 0} → Act F → F → (slot ram : List ℕ) → Answer → (slot' ram' : List ℕ) → Type 0
Stepped g f slot ram a slot' ram' = RefusedBefore slot ram a slot' ram' ⊎ CarriedOut g f slot ram a slot' ram'

-- what a call or a return leaves: what it changes written to the slot, if it is done
abbrev pub Leaves : Answer → (slot ram : List ℕ) → Given → (before : List ℕ) → Type 0
Leaves a slot ram g before = (a ≡ g.answer) × (ram ≡ g.ram) × (slot ≡ after a before (sets before run_part (run_as_bytes g.state)))
