-- `good::ranges::in_any_order_by`: the ranges from the one at `d` on decide, and for the range at `d` those from the one at `e` on.
use Rattle.std.proofs.Common.{List, ◌+◌, ◌≡◌, drop}
use Rattle.rules.specs.declared.Range.{Range}
use Rattle.rules.specs.Code.{apart_from}
use Rattle.good.specs.Reads.{Reads}
use Rattle.good.proofs.Groups.{ranges_good}
use Rattle.good.proofs.ranges.in_any_order_by.Given as goal

abbrev pub invariant-loop-d : goal.invariant-loop-d
invariant-loop-d g l = (rs : List Range) → Reads (goal.F-post g l.range_of) rs → ranges_good l.jt rs ≡ ranges_good l.jt (drop l.d rs)

abbrev pub invariant-loop-e : goal.invariant-loop-e
invariant-loop-e g l =
    (rs : List Range) → Reads (goal.F-post g l.range_of) rs → apart_from l.range (drop (l.d + 1) rs) ≡ apart_from l.range (drop l.e rs)
