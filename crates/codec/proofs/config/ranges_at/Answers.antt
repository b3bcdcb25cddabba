-- `codec::config::ranges_at` meets its contract.
use Rattle.std.proofs.Common.{rules}
use Rattle.rules.specs.Code.{domains, empty_range}
use Rattle.rules.specs.Bytes.{ranges_place, ranges_at}
use Rattle.laws.proofs.Bytes.{length-ranges_at}
use Rattle.codec.proofs.FromFn.{from_fn_same}
use Rattle.codec.proofs.config.ranges_at.Goals as goal

pub returns : goal.returns
returns c =
    from_fn_same _ _ (ranges_at c.args.bytes.now (ranges_place c.args.at) domains) empty_range (λ i y f' k. search rules)
    _ domains (length-ranges_at c.args.bytes.now (ranges_place c.args.at) domains) c.from_fn.ensures.items
