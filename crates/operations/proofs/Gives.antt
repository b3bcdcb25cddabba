-- What an operation gives in a good state, where its answer is what its own rows say.
-- Assumes nothing.
use Prim.Native.Nat.{ℕ}
use mathlib.Core.Path.{◌≡◌}
use mathlib.Core.Bool.{true, false}
use mathlib.Core.List.{List}
use lib.ListN.{length}
use Rattle.rules.specs.declared.State.{State}
use Rattle.rules.specs.declared.Operation.{Operation}
use Rattle.std.specs.Prelude.{Ok, Err}
use Rattle.rules.specs.declared.Refusal.{Refusal}
use Rattle.rules.specs.Memory.{ram_bytes, in_use, layout_of}
use Rattle.rules.specs.State.{good_state}
use Rattle.rules.specs.Answers.{Answer, Gives}
use Rattle.rules.specs.Operations.{Lent, wrong_lent, seen_by, rows_of, state_after, ram_after, operation_of}
use Rattle.laws.proofs.Answers.{gives_done, gives_refused}
use Rattle.laws.proofs.Operations.{gives_below}

module _ (s : State) (ram : List ℕ) (l : Lent) (op : Operation) (lent : wrong_lent l op ≡ false) (ready : (length ram ≡ ram_bytes) × (good_state s ≡ true))
    (answer : Answer) (right : answer ≡ rows_of s (seen_by in_use s ram) l op) where
  pub done : (v : ℕ) → answer ≡ Ok v → (next : State) (ram' : List ℕ) → next ≡ state_after s (seen_by in_use s ram) op
      → ram' ≡ ram_after (layout_of s.config) s ram op → Gives (record { answer = answer; state = next }) ram' (operation_of s ram l op)
  done v told next ram' p q =
      gives_below s ram l op lent ready.0 ready.1 (record { answer = answer; state = next }) ram'
      (rw (p, q)
      (gives_done answer (rows_of s (seen_by in_use s ram) l op) s (state_after s (seen_by in_use s ram) op) ram (ram_after (layout_of s.config) s ram op) right v told))

  pub refused : (q : Refusal) → answer ≡ Err q → Gives (record { answer = answer; state = s }) ram (operation_of s ram l op)
  refused q told =
      gives_below s ram l op lent ready.0 ready.1 (record { answer = answer; state = s }) ram
      (gives_refused answer (rows_of s (seen_by in_use s ram) l op) s (state_after s (seen_by in_use s ram) op) ram (ram_after (layout_of s.config) s ram op) right q told)
