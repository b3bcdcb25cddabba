-- A sequence of calls from C is a history of the rules, so what demand 3 promises holds of it.
-- Assumes nothing.
use Rattle.std.proofs.Common.{ℕ, ◌≡◌, refl, sym, ap, ◌∙◌, subst, Bool, true, false, cond, not, ◌⊎◌, List, arith, length, get_or, eqb, eq-eqb, Ok, Err}
use Rattle.std.proofs.Math.Bool.{or-true}
use borrow.Author.Tests.{not-true}
use Rattle.rules.specs.declared.Config.{Config}
use Rattle.rules.specs.declared.State.{State}
use Rattle.rules.specs.Answers.{Answer, ◌⇒◌∣◌, Given, give}
use Rattle.rules.specs.declared.Operation.{Operation}
use Rattle.rules.specs.declared.Refusal.TheVariants.{WrongSize, BrokenRule}
use Rattle.rules.specs.Memory.{ram_bytes, in_use, layout_of}
use Rattle.rules.specs.Code.{domains}
use Rattle.rules.specs.State.{good_config, fresh, zeros}
use Rattle.rules.specs.Bytes.{ranges_place}
use Rattle.rules.specs.SetUp.{set_up_answer, set_up_ram, set_up_of}
use Rattle.rules.specs.Operations.{Lent, lending, nothing, seen_by, state_after, ram_after, answer_by, operation_of}
use Rattle.rules.specs.Slot.{slot_bytes, config_part, zero_part, config_in, state_in, slot_of, packed, GivenToC, refused_to_c, to_c, wrong_size, table_in, wrong_table, c_set_up_of, c_operation}
use Rattle.laws.proofs.Tests.{by_test}
use Rattle.laws.proofs.Rows.{give_answer}
use Rattle.laws.proofs.Bytes.{length-ranges_at}
use Rattle.laws.proofs.Slot.{length-slot_of, slot_of-zero, state_in-slot_of}
use Rattle.laws.proofs.Operations.{config_stays}
use Rattle.laws.proofs.ToC.{no_table}
use Rattle.promises.specs.History.{after, config_of, answer_to, Says, InMap, InSafeStack, Assumed}
use Rattle.promises.specs.FromC.{AskedFromC, step_from_c, RunFromC, set_up_from_c, ◌next◌, after_from_c, lent_from_c, asked_from_c, history_from_c, Same, SetUpDone, PremiseFromC, Demand3FromC}
use Rattle.promises.proofs.Says.{done_says}
use Rattle.promises.proofs.Steps.{always}
use Rattle.promises.proofs.Theorem.{promise}

-- the configuration stays, so a state keeps its eight ranges
abbrev Eight : State → Type 0
Eight s = length s.config.ranges ≡ domains

-- ---- one call

same : (c : GivenToC) (g : Given) → Eight g.state → c.answer ≡ packed g.answer → c.slot ≡ slot_of g.state → c.ram ≡ g.ram → Same c g
same c g eight a e r = record { answer = a; slot = e; state = (rw e (state_in-slot_of g.state eight)); ram = r }

-- handed on behind the two tests, the first of which is also the operation's own first row: what is done is packed, and a refusal leaves
-- the slot that held the state
handed_on : (wrong : Bool) (a : Answer) (s s' : State) (slot ram done : List ℕ) → slot ≡ slot_of s → Eight s → s'.config ≡ s.config
    → (wrong ≡ true → a ≡ Err WrongSize) → Same (c_operation wrong slot ram (give a s ram s' done)) (give a s ram s' done)
handed_on true a s s' slot ram done e eight stays first = rw (first refl) (same _ _ eight refl e refl)
handed_on false a s s' slot ram done e eight stays first =
    rw (eq-eqb (get_or slot zero_part 0) 0 (rw e (slot_of-zero s eight))) (by a)
  where
    by : (a : Answer) → Same (to_c slot ram (give a s ram s' done)) (give a s ram s' done)
    by (Ok v) = same _ _ (rw stays eight) refl refl refl
    by (Err r) = same _ _ eight refl e refl

module _ (slot ram : List ℕ) (held : slot ≡ slot_of (state_in slot)) where
  eight : Eight (state_in slot)
  eight = length-ranges_at slot (ranges_place config_part) domains

  size : length slot ≡ slot_bytes
  size = ap length held ∙ length-slot_of (state_in slot) eight

  wrong_ram : wrong_size slot ram ≡ true → eqb (length ram) ram_bytes ≡ false
  wrong_ram w = not-true (eqb (length ram) ram_bytes) (rw (eq-eqb (length slot) slot_bytes size) at w)

  handed : (wrong : Bool) (l : Lent) (op : Operation) → (wrong ≡ true → answer_by in_use (state_in slot) ram l op ≡ Err WrongSize)
      → Same (c_operation wrong slot ram (operation_of (state_in slot) ram l op)) (operation_of (state_in slot) ram l op)
  handed wrong l op first =
      let s : State = state_in slot in
      handed_on wrong (answer_by in_use s ram l op) s (state_after s (seen_by in_use s ram) op) slot ram (ram_after (layout_of s.config) s ram op) held eight
      (config_stays s (seen_by in_use s ram) op) first

  same_step : (o : AskedFromC) → Same (step_from_c slot ram o) (operation_of (state_in slot) ram (lent_from_c o) o.operation)
  same_step o =
      by_test (wrong_table o.table o.operation)
      (λ h. rw h (handed true nothing o.operation (λ w. rw (no_table o.table o.operation h))))
      (λ h. rw h (handed (wrong_size slot ram) (lending (table_in o.table)) o.operation (λ w. rw (wrong_ram w, or-true))))

-- from any slot and RAM that hold what the rules have
next_step : (c : GivenToC) (g : Given) (o : AskedFromC) → Same c g
    → Same (step_from_c c.slot c.ram o) (operation_of g.state g.ram (lent_from_c o) o.operation)
next_step c g o m =
    rw (← m.state, ← m.ram) (same_step c.slot c.ram (m.slot ∙ ap slot_of (sym m.state)) o)

-- ---- set-up

-- answered 0 is accepted
answered_zero : (wrong sized good : Bool) (slot ram done : List ℕ) (s s' : State)
    → (cond wrong (refused_to_c WrongSize slot ram) (to_c slot ram (give (not sized ⇒ WrongSize ∣ not good ⇒ BrokenRule ∣ Ok 0) s ram s' done))).answer ≡ 0
    → (wrong ≡ false) × ((not sized ⇒ WrongSize ∣ not good ⇒ BrokenRule ∣ Ok 0) ≡ Ok 0)
answered_zero true sized good slot ram done s s' h = absurd (omega arith)
answered_zero false false good slot ram done s s' h = absurd (omega arith)
answered_zero false true false slot ram done s s' h = absurd (omega arith)
answered_zero false true true slot ram done s s' h = (refl, refl)

module _ (slot ram : List ℕ) (h : (c_set_up_of slot ram).answer ≡ 0) where
  accepted : (wrong_size slot ram ≡ false) × (set_up_answer (config_in slot) ram ≡ Ok 0)
  accepted =
      let c : Config = config_in slot in
      answered_zero (wrong_size slot ram) (eqb (length ram) ram_bytes) (good_config c) slot ram (set_up_ram (layout_of c) c ram) zeros (fresh c) h

  same-set_up : Same (c_set_up_of slot ram) (set_up_of (config_in slot) ram)
  same-set_up = rw (accepted.0, accepted.1) (same _ _ (length-ranges_at slot (ranges_place config_part) domains) refl refl refl)

-- ---- the run is a history

same_run : (r : RunFromC) → SetUpDone r → Same (after_from_c r) (after (history_from_c r))
unfolding after_from_c history_from_c after
same_run (set_up_from_c slot ram) a = same-set_up slot ram a
same_run (r next o) a = next_step (after_from_c r) (after (history_from_c r)) o (same_run r a)

-- ---- what is assumed in C's terms is what is assumed of the history

packed_zero : (a : Answer) → Says a 0 0 → packed a ≡ 0
packed_zero a (n, v) = rw (n, v)

zero_packed : (a : Answer) → packed a ≡ 0 → Says a 0 0
zero_packed a e = (omega arith, omega arith)

assumed : (r : RunFromC) → SetUpDone r → PremiseFromC r → Assumed (history_from_c r)
unfolding history_from_c
assumed (set_up_from_c slot ram) a n =
    done_says _ 0 (give_answer (set_up_answer (config_in slot) ram) zeros ram _ _ ∙ (accepted slot ram a).1)
assumed (r next o) a n =
    let before : Assumed (history_from_c r) = assumed r a n.0 in
    let now : Same (after_from_c r) (after (history_from_c r)) = same_run r a in
    let config : config_of (history_from_c r) ≡ config_in (after_from_c r).slot =
    sym (ap (λ (s : State). s.config) now.state ∙ (always (history_from_c r) before).0) in (
      before,
      λ x (b, e, says, d) place.
          n.1 x b e
          ((next_step (after_from_c r) (after (history_from_c r)) o now).answer ∙ packed_zero (answer_to (history_from_c r) (asked_from_c o)) says)
          (ap (λ (s : State). s.domain) now.state ∙ d)
          (subst (λ (c : Config). InMap c x ⊎ InSafeStack c x) config place),
    )

pub premise : (r : RunFromC) → SetUpDone r → Assumed (history_from_c r) → PremiseFromC r
unfolding history_from_c
premise (set_up_from_c slot ram) a n = tt
premise (r next o) a n =
    let now : Same (after_from_c r) (after (history_from_c r)) = same_run r a in
    let config : config_in (after_from_c r).slot ≡ config_of (history_from_c r) =
    ap (λ (s : State). s.config) now.state ∙ (always (history_from_c r) n.0).0 in (
      premise r a n.0,
      λ x b e done d place.
          n.1 x (
            b,
            e,
            zero_packed (answer_to (history_from_c r) (asked_from_c o)) (sym (next_step (after_from_c r) (after (history_from_c r)) o now).answer ∙ done),
            sym (ap (λ (s : State). s.domain) now.state) ∙ d,
          )
          (subst (λ (c : Config). InMap c x ⊎ InSafeStack c x) config place),
    )

-- ---- the theorem

pub from_c : Demand3FromC
from_c r a = record { same = same_run r a; promise = λ n. promise (history_from_c r) (assumed r a n) }
