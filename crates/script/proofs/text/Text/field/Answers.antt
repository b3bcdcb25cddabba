-- `script::text::Text::field` meets its contract.
use Rattle.script.proofs.Texts.{adds_then}
use Rattle.script.proofs.text.Text.field.Goals as goal

pub returns : goal.returns
returns c = adds_then c.push.ensures c.decimal.ensures
