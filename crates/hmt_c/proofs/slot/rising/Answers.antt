-- `hmt_c::slot::rising` meets its contract.
use Rattle.std.proofs.Common.{◌≡◌, ◌≤◌, arith, rules}
use Rattle.std.proofs.lemmas.List.{length-take}
use Rattle.rules.specs.Bytes.{word_at}
use Rattle.good.proofs.Rising.{after, before, next, empty, rises_good}
use Rattle.hmt_c.proofs.Ranges.{range_next, range_last}
use Rattle.hmt_c.proofs.slot.rising.Goals as goal
use Rattle.hmt_c.proofs.slot.rising.Goals.{then-le+else-lt, else-le+else-ne}

pub loop-bytes-init : goal.loop-bytes-init
loop-bytes-init c = λ h. rises_good _ _ _ (rw c.ranges-ranges.ensures.read at h)

pub loop-bytes-preserved : goal.loop-bytes-preserved
loop-bytes-preserved c =
    let l = c.loop-bytes in
    let code = c.range_at-code.result in
    let first = range_next 7 l.bytes-index c.ranges-ranges.result.now c.loop-bytes-test.true c.range_at-code.ensures in
    elim c.if-le.branch [
      | then-le+else-lt w ↦ λ h. l.invariant (rw first (next {last = l.last.0} {r = code} (search rules) (search rules) (rw w.last-is at h)))
      | else-le+else-ne w ↦ λ h. l.invariant (rw first (empty {last = l.last.0} {r = code} (search rules) (search rules) (rw w.last-is at h)))
    ]

pub returns-then-le-2 : goal.returns-then-le-2
returns-then-le-2 c =
    let l = c.loop-bytes in
    let trusted = c.range_at-trusted-2.result in
    let all = c.ranges-ranges.result.now in
    let i : l.bytes-index ≡ 7 = omega (arith, length-take 7 all) in
    λ h. let jt : trusted.end.0 ≤ word_at c.args.slot.now 8 = search rules in
    l.invariant
    (rw (range_last 7 l.bytes-index all c.ranges-ranges.ensures.eight i c.range_at-trusted-2.ensures)
    (after {last = l.last.0} {code = trusted} (search rules) (search rules) jt))

pub returns-then-le-3 : goal.returns-then-le-3
returns-then-le-3 c =
    let l = c.loop-bytes in
    let trusted = c.range_at-trusted-2.result in
    let all = c.ranges-ranges.result.now in
    let i : l.bytes-index ≡ 7 = omega (arith, length-take 7 all) in
    λ h. let jt : l.last.0 ≤ word_at c.args.slot.now 8 = search rules in
    l.invariant
    (rw (range_last 7 l.bytes-index all c.ranges-ranges.ensures.eight i c.range_at-trusted-2.ensures)
    (before {last = l.last.0} {code = trusted} (search rules) (search rules) jt))
