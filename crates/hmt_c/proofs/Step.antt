-- What an operation gives to C, whether the step before it refused or the operation was carried out.
-- Assumes nothing.
use Rattle.std.proofs.Common.{◌≡◌, ℕ, false, List, refl, inl, inr}
use Rattle.rules.specs.Answers.{Answer, Gives, kept}
use Rattle.rules.specs.declared.Operation.{Operation}
use Rattle.rules.specs.Memory.{in_use}
use Rattle.rules.specs.Operations.{lending, seen_by, state_after, operation_of}
use Rattle.rules.specs.Slot.{GivesToC, packed, state_in, table_in, wrong_table, c_operation_of}
use Rattle.laws.proofs.Bytes.{Bytes}
use Rattle.laws.proofs.ToC.{kept_to_c, changed_to_c}
use Rattle.hmt_c.specs.Step.{Act, Stepped, CarriedOut, Leaves}

module _ {F : Type 0} {g : Act F} {f : F} {slot ram slot' ram' : List ℕ} {a : Answer} {n : ℕ} (table : List ℕ) (op : Operation) (right : wrong_table table op ≡ false)
    (bytes : Bytes slot) (is : n ≡ packed a) where
  -- one that keeps the state, and so the slot
  pub kept_step : Stepped g f slot ram a slot' ram' → state_after (state_in slot) (seen_by in_use (state_in slot) ram) op ≡ state_in slot
      → (CarriedOut g f slot ram a slot' ram' → (slot' ≡ slot) × Gives (kept a (state_in slot)) ram' (operation_of (state_in slot) ram (lending (table_in table)) op))
      → GivesToC n slot' ram' (c_operation_of slot ram table op)
  kept_step (inl refused) same gives = rw is (refused table op right)
  kept_step (inr out) same gives =
      let (e, h) = gives out in rw e (kept_to_c slot ram table op bytes right out.ready ram' (kept a (state_in slot)) n same h is)

  -- one that changes the state
  pub changed_step : Stepped g f slot ram a slot' ram'
      → (CarriedOut g f slot ram a slot' ram' → Leaves a slot' ram' (operation_of (state_in slot) ram (lending (table_in table)) op) slot)
      → GivesToC n slot' ram' (c_operation_of slot ram table op)
  changed_step (inl refused) leaves = rw is (refused table op right)
  changed_step (inr out) leaves =
      let (e, r, w) = leaves out in
      changed_to_c slot ram table op bytes right out.ready slot' ram'
      (record { answer = a; state = (operation_of (state_in slot) ram (lending (table_in table)) op).state }) n (e, refl, r) is w
