-- `script::text::Text::set_up` meets its contract.
use Rattle.script.proofs.Texts.{adds_then}
use Rattle.script.proofs.text.Text.set_up.Goals as goal

pub returns : goal.returns
returns c =
    rw (← c.number_of.ensures, ← c.from.ensures) (adds_then (adds_then c.push.ensures c.decimal.ensures) c.push-2.ensures)
