-- Section 6: answer numbers and their order; and what an operation gives.
use Rattle.std.specs.Prelude.{ℕ, ◌≡◌, Bool, true, false, List, Result, Ok, Err}
use Rattle.rules.specs.declared.State.{State}
use Rattle.rules.specs.declared.Done.{Done}
use Rattle.rules.specs.declared.Outcome.{Outcome}
use Rattle.rules.specs.declared.Refusal.{Refusal}
use Rattle.rules.specs.declared.Refusal.TheVariants.{WrongSize, BrokenRule, BadState, PastRam, OtherOwner, AboveBound, SiteOutside, TargetOutside, PastTables, BadEntry, PointerOutside, PassesTop, NoFrame, DamagedFrame, TrustedMalloc, SizeZero, NoRun, NoSegment, NotOwner, DomainAbove}

-- "0 with its value", or a refusal
abbrev pub Answer : Type 0
Answer = Result ℕ Refusal

infixr 10 ◌⇒◌∣◌
-- a row of a table of refusals, and the rows below it: "no earlier applicable number does"
abbrev pub ◌⇒◌∣◌ : Bool → Refusal → Answer → Answer
◌⇒◌∣◌ true r below = Err r
◌⇒◌∣◌ false r below = below

abbrev pub number_of_refusal : Refusal → ℕ
number_of_refusal WrongSize = 1
number_of_refusal BrokenRule = 2
number_of_refusal BadState = 3
number_of_refusal PastRam = 4
number_of_refusal OtherOwner = 5
number_of_refusal AboveBound = 6
number_of_refusal SiteOutside = 7
number_of_refusal TargetOutside = 8
number_of_refusal PastTables = 9
number_of_refusal BadEntry = 10
number_of_refusal PointerOutside = 11
number_of_refusal PassesTop = 12
number_of_refusal NoFrame = 13
number_of_refusal DamagedFrame = 14
number_of_refusal TrustedMalloc = 15
number_of_refusal SizeZero = 16
number_of_refusal NoRun = 17
number_of_refusal NoSegment = 18
number_of_refusal NotOwner = 19
number_of_refusal DomainAbove = 20

-- 0 is done
abbrev pub number_of : Answer → ℕ
number_of (Ok v) = 0
number_of (Err r) = number_of_refusal r

-- "Every refusal has value 0"
abbrev pub value_of : Answer → ℕ
value_of (Ok v) = v
value_of (Err r) = 0

-- what an operation gives: its answer, the state and all of RAM
pub record Given : Type 0 where
  pub answer : Answer
  pub state : State
  pub ram : List ℕ

-- "leaves RAM unaltered and hands back the state given": s and ram after a refusal, s' and ram' when done
abbrev pub give : Answer → State → List ℕ → State → List ℕ → Given
give (Ok v) s ram s' ram' = record { answer = Ok v; state = s'; ram = ram' }
give (Err r) s ram s' ram' = record { answer = Err r; state = s; ram = ram }

-- the form of the contracts of set-up and the operations: a function handed back r and left ram, and that is what the rule gives
abbrev pub Gives : Outcome → List ℕ → Given → Type 0
Gives r ram g = (r.answer ≡ g.answer) × (r.state ≡ g.state) × (ram ≡ g.ram)

-- what an operation hands back in all: one that keeps the state, by its answer; one that changes it when done
abbrev pub kept : Answer → State → Outcome
kept a s = record { answer = a; state = s }

abbrev pub moved : Result Done Refusal → State → Outcome
moved (Ok d) s = record { answer = Ok d.value; state = d.state }
moved (Err r) s = record { answer = Err r; state = s }
