-- `hmt_c::slot::good_state` meets its contract.
use Rattle.std.proofs.Common.{◌≡◌, true, false, sym, ◌∙◌}
use Rattle.rules.specs.Slot.{state_in}
use Rattle.good.proofs.Groups.{rest_good, not_rest, order_decides, not_config, not_run, config_decides}
use Rattle.hmt_c.proofs.slot.good_state.Goals as goal
use Rattle.hmt_c.proofs.slot.good_state.Goals.{then-usual, else-usual, then-unusual, else-unusual}

pub returns-then-good_run : goal.returns-then-good_run
returns-then-good_run c =
    let s = state_in c.args.slot.now in
    let rest : c.if-usual.value ≡ true → rest_good s.config ≡ true =
    λ h. elim c.if-usual.branch [ then-usual w ↦ c.usual.ensures w.if-usual.true | else-usual w ↦ sym w.unusual.ensures ∙ sym w.value-is ∙ h ] in
    let order = rw c.config_in.ensures at c.in_order.ensures in
    elim c.if-unusual.branch [
      | then-unusual w ↦ let run = rw w.state_in.ensures at (sym w.good_run.ensures ∙ sym w.value-is ∙ c.if-good_run.true) in order ∙ order_decides s.config (rest w.if-unusual.true) ∙ config_decides s run
      | else-unusual w ↦ cc
    ]

pub returns-else-good_run : goal.returns-else-good_run
returns-else-good_run c =
    let s = state_in c.args.slot.now in
    let rest : c.if-usual.value ≡ false → rest_good s.config ≡ false =
    λ h. elim c.if-usual.branch [ then-usual w ↦ cc | else-usual w ↦ sym w.unusual.ensures ∙ sym w.value-is ∙ h ] in
    c.if-good_run.false
    ∙ elim c.if-unusual.branch [
      | then-unusual w ↦ not_run s (rw w.state_in.ensures at (sym w.good_run.ensures ∙ sym w.value-is ∙ c.if-good_run.false))
      | else-unusual w ↦ not_config s (sym (not_rest s.config (rest w.if-unusual.false)))
    ]
