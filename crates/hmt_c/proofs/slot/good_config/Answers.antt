-- `hmt_c::slot::good_config` meets its contract.
use Rattle.std.proofs.Common.{sym, ◌∙◌}
use Rattle.good.proofs.Groups.{not_bounds, rest_decides}
use Rattle.hmt_c.proofs.slot.good_config.Goals as goal

pub returns-then-usual : goal.returns-then-usual
returns-then-usual c =
    let bounds = rw c.config_in.ensures at (sym c.good_bounds.ensures ∙ c.if-good_bounds.true) in
    c.if-usual.true ∙ sym (c.usual.ensures c.if-usual.true) ∙ rest_decides _ bounds

pub returns-else-usual : goal.returns-else-usual
returns-else-usual c =
    let bounds = rw c.config_in.ensures at (sym c.good_bounds.ensures ∙ c.if-good_bounds.true) in
    c.unusual.ensures ∙ rest_decides _ bounds

pub returns-else-good_bounds : goal.returns-else-good_bounds
returns-else-good_bounds c =
    let bounds = rw c.config_in.ensures at (sym c.good_bounds.ensures ∙ c.if-good_bounds.false) in
    c.if-good_bounds.false ∙ not_bounds _ bounds
