-- `script::text::Text::line` meets its contract.
use Rattle.rules.specs.Script.{line_of}
use Rattle.script.proofs.Texts.{adds_then}
use Rattle.script.proofs.text.Text.line.Goals as goal

pub returns : goal.returns
unfolding line_of
returns c =
    rw (← c.number_of.ensures, ← c.from.ensures, ← c.value_of.ensures, ← c.from-2.ensures)
    (adds_then
    (adds_then
    (adds_then
    (adds_then (adds_then (adds_then c.decimal.ensures c.field.ensures) c.field-2.ensures) c.field-3.ensures)
    c.field-4.ensures)
    c.field-5.ensures)
    c.push.ensures)
