-- What a contract's form asks of an operation that is done or refused.
-- Assumes nothing.
use Rattle.std.proofs.Common.{ℕ, ◌≡◌, refl, List, Ok, Err}
use Rattle.rules.specs.declared.State.{State}
use Rattle.rules.specs.declared.Refusal.{Refusal}
use Rattle.rules.specs.Answers.{Answer, give, Gives}

-- ---- what an operation gives, by its answer: the code answered `answer`, which is the rule's

module _ (answer rule : Answer) (s s' : State) (ram ram' : List ℕ) (right : answer ≡ rule) where
  pub gives_done : (v : ℕ) → answer ≡ Ok v → Gives (record { answer = answer; state = s' }) ram' (give rule s ram s' ram')
  gives_done v e = rw (← right, e) (refl, refl, refl)

  pub gives_refused : (r : Refusal) → answer ≡ Err r → Gives (record { answer = answer; state = s }) ram (give rule s ram s' ram')
  gives_refused r e = rw (← right, e) (refl, refl, refl)
