-- `operations::call_with` meets its contract.
use Rattle.std.proofs.Common.{sym, rules}
use Rattle.operations.proofs.CallRows.{local_call, cross_call}
use Rattle.operations.proofs.call_with.Goals as goal

pub returns-then-lt : goal.returns-then-lt
returns-then-lt c =
    let x = c.args in
    let from = rw c.requires.0 at (sym c.if-not-in_range.ensures) in
    rw (local_call x.good.state x.ram.now x.word x.target x.site x.pointer c.told-ram x.good.good from (search rules)) c.local.ensures

pub returns : goal.returns
returns c =
    let x = c.args in
    let from = rw c.requires.0 at (sym c.if-not-in_range.ensures) in
    rw (cross_call x.good.state x.ram.now x.word x.target x.site x.pointer c.told-ram x.good.good from (search rules)) c.cross.ensures
