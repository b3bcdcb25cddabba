-- `codec::config::code_range` meets its contract.
use Rattle.std.proofs.Common.{sym, ◌∙◌, arith}
use Rattle.rules.specs.Code.{domains}
use Rattle.rules.specs.Bytes.{ranges_place}
use Rattle.laws.proofs.Bytes.{get_or-ranges_at}
use Rattle.codec.proofs.config.code_range.Goals as goal

pub returns : goal.returns
returns c =
    c.range_at.ensures ∙ sym (get_or-ranges_at c.args.bytes.now (ranges_place c.args.at) domains c.args.domain (omega arith))
