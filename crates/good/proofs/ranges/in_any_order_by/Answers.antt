-- `good::ranges::in_any_order_by` meets its contract.
use Rattle.std.proofs.Common.{arith}
use Rattle.std.proofs.Math.Bool.{and-false}
use Rattle.good.proofs.Groups.{range_step, range_end, from_step, from_end}
use Rattle.good.proofs.ranges.in_any_order_by.Goals as goal

pub returns-then-not-ordered : goal.returns-then-not-ordered
returns-then-not-ordered g c = λ rs h.
    let step = range_step rs c.loop-d.d (omega arith) c.range_of-range.result (h.1 _ _ c.range_of-range.ensures) c.args.jt in
    rw (c.loop-d.invariant rs h, step, ← c.if-not-ordered.ensures)

pub returns-then-not-apart : goal.returns-then-not-apart
returns-then-not-apart g c = λ rs h.
    let step = range_step rs c.loop-d.d (omega arith) c.range_of-range.result (h.1 _ _ c.range_of-range.ensures) c.args.jt in
    let from = from_step rs c.loop-e.e (omega arith) c.range_of.result (h.1 _ _ c.range_of.ensures) c.range_of-range.result in
    rw (c.loop-d.invariant rs h, step, c.loop-e.invariant rs h, from, ← c.if-not-apart.ensures, and-false)

pub loop-e-preserved : goal.loop-e-preserved
loop-e-preserved g c = λ rs h.
    let from = from_step rs c.loop-e.e (omega arith) c.range_of.result (h.1 _ _ c.range_of.ensures) c.range_of-range.result in
    rw (c.loop-e.invariant rs h, from, ← c.if-not-apart.ensures)

pub loop-d-preserved : goal.loop-d-preserved
loop-d-preserved g c = λ rs h.
    let step = range_step rs c.loop-d.d (omega arith) c.range_of-range.result (h.1 _ _ c.range_of-range.ensures) c.args.jt in
    let end = from_end rs c.loop-e.e (omega arith) c.range_of-range.result in
    rw (c.loop-d.invariant rs h, step, ← c.if-not-ordered.ensures, c.loop-e.invariant rs h, end)

pub returns : goal.returns
returns g c = λ rs h. rw (c.loop-d.invariant rs h, range_end rs c.loop-d.d (omega arith) c.args.jt)
