-- An answer in the paper's numbers, and as the rules give it; and what an operation's own rows say of one that is done.
-- Assumes nothing.
use Rattle.std.proofs.Common.{ℕ, ◌<◌, ◌≡◌, refl, sym, ap, ◌∙◌, List, arith, Ok, Err}
use Rattle.rules.specs.declared.State.{State}
use Rattle.rules.specs.declared.Operation.{Operation}
use Rattle.rules.specs.Answers.{Answer, number_of_refusal}
use Rattle.rules.specs.declared.Refusal.{Refusal}
use Rattle.rules.specs.declared.Refusal.TheVariants.{WrongSize, BrokenRule, BadState, PastRam, OtherOwner, AboveBound, SiteOutside, TargetOutside, PastTables, BadEntry, PointerOutside, PassesTop, NoFrame, DamagedFrame, TrustedMalloc, SizeZero, NoRun, NoSegment, NotOwner, DomainAbove}
use Rattle.rules.specs.Memory.{in_use, layout_of}
use Rattle.rules.specs.Operations.{Lent, seen_by, rows_of, state_after, ram_after, answer_by, operation_of}
use Rattle.laws.proofs.Rows.{give_answer}
use Rattle.laws.proofs.Operations.{done_below}
use Rattle.promises.specs.History.{Says}

-- no refusal has number 0
refusal_some : (r : Refusal) → 0 < number_of_refusal r
refusal_some WrongSize = omega arith
refusal_some BrokenRule = omega arith
refusal_some BadState = omega arith
refusal_some PastRam = omega arith
refusal_some OtherOwner = omega arith
refusal_some AboveBound = omega arith
refusal_some SiteOutside = omega arith
refusal_some TargetOutside = omega arith
refusal_some PastTables = omega arith
refusal_some BadEntry = omega arith
refusal_some PointerOutside = omega arith
refusal_some PassesTop = omega arith
refusal_some NoFrame = omega arith
refusal_some DamagedFrame = omega arith
refusal_some TrustedMalloc = omega arith
refusal_some SizeZero = omega arith
refusal_some NoRun = omega arith
refusal_some NoSegment = omega arith
refusal_some NotOwner = omega arith
refusal_some DomainAbove = omega arith

pub says_done : (a : Answer) (v : ℕ) → Says a 0 v → a ≡ Ok v
says_done (Ok w) v (_, e) = ap Ok e
says_done (Err r) v (n, _) = absurd (omega (arith, refusal_some r, n))

pub done_says : (a : Answer) (v : ℕ) → a ≡ Ok v → Says a 0 v
done_says a v e = rw e (refl, refl)

-- what an operation is answered
pub answer_by_lem : (s : State) (ram : List ℕ) (l : Lent) (op : Operation) → (operation_of s ram l op).answer ≡ answer_by in_use s ram l op
answer_by_lem s ram l op =
    give_answer (answer_by in_use s ram l op) s ram (state_after s (seen_by in_use s ram) op) (ram_after (layout_of s.config) s ram op)

pub rows_done : (s : State) (ram : List ℕ) (l : Lent) (op : Operation) (v : ℕ) → (operation_of s ram l op).answer ≡ Ok v
    → rows_of s (seen_by in_use s ram) l op ≡ Ok v
rows_done s ram l op v e = (done_below s ram l op v (sym (answer_by_lem s ram l op) ∙ e)).2
