-- `script::put_run` meets its contract.
use Rattle.std.proofs.Common.{sym, ◌∙◌}
use Rattle.script.proofs.Texts.{adds_then}
use Rattle.script.proofs.Runs.{run_refused, run_done}
use Rattle.script.proofs.put_run.Goals as goal

pub returns-then-is_ok : goal.returns-then-is_ok
returns-then-is_ok c =
    rw (run_done _ c.args.header c.requires.told c.set_up-outcome.result c.set_up-outcome.ensures (sym c.is_ok.ensures.value ∙ c.if-is_ok.true))
    (adds_then c.set_up.ensures c.put_lines.ensures)

pub returns-else-is_ok : goal.returns-else-is_ok
returns-else-is_ok c =
    rw (run_refused _ c.args.header c.requires.told c.set_up-outcome.result c.set_up-outcome.ensures (sym c.is_ok.ensures.value ∙ c.if-is_ok.false))
    c.set_up.ensures
