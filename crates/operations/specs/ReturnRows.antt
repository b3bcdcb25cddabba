-- The domain that a frame returns to, and what a return hands back for it.
use Rattle.std.specs.Prelude.{ℕ, Ok, Err}
use Rattle.rules.specs.declared.State.{State}
use Rattle.rules.specs.declared.Frame.{Frame}
use Rattle.rules.specs.declared.Frame.TheVariants.{Local, Cross, Damage}
use Rattle.rules.specs.Answers.{Answer}
use Rattle.rules.specs.declared.Outcome.{Outcome}
use Rattle.rules.specs.Return.{return_rows, returned}

abbrev pub caller_of : State → Frame → ℕ
caller_of s (Local site) = s.domain
caller_of s (Cross site bound d) = d
caller_of s Damage = s.domain

-- s after a refusal, s' when done
abbrev pub handed : Answer → State → State → Outcome
handed (Ok v) s s' = record { answer = Ok v; state = s' }
handed (Err r) s s' = record { answer = Err r; state = s }

-- a return looks at its frame and at no byte of RAM
abbrev pub returning : State → Frame → Outcome
returning s f = handed (return_rows s f) s (returned s f)
