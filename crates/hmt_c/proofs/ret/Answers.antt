-- `hmt_c::ret` meets its contract: a good state with an open call has its frame in the safe stack area.
use Rattle.std.proofs.Common.{◌≡◌, Err, refl, arith, rules}
use Rattle.laws.proofs.Good.{good_state-facts}
use Rattle.operations.proofs.SafeStack.{area}
use Rattle.operations.proofs.Returns.{caller≤trusted, frame_below, gives_no_frame, gives_returning}
use Rattle.hmt_c.proofs.ret.Goals as goal

pub top_frame-frame-requires : goal.top_frame-frame-requires
top_frame-frame-requires c = search (rules, good_state-facts c.args.good.state c.args.good.good)

pub code_range-code-requires : goal.code_range-code-requires
code_range-code-requires c = (omega arith, rw c.caller.ensures (caller≤trusted _ _ _ c.top_frame-frame.ensures c.args.good.good))

pub ret_with-requires : goal.ret_with-requires
ret_with-requires c = search (rules, c.requires, good_state-facts, frame_below, area)

pub returns-then-eq : goal.returns-then-eq
returns-then-eq c =
    let (a, s, r) = gives_no_frame c.args.good.state c.args.ram.now (search rules, c.args.good.good) (search rules) in
    (a, r, refl)

pub returns-in_err-done : goal.returns-in_err-done
returns-in_err-done c =
    let (a, s, r) = gives_returning c.args.good.state c.args.ram.now (search rules, c.args.good.good) _ c.top_frame-frame.ensures _ c.in_err-done.ensures in
    let err : c.from_residual.result ≡ Err c.in_err-done.field-0.0 = search rules in
    rw err (a, r, refl)

pub returns : goal.returns
returns c =
    let (a, s, r) = gives_returning c.args.good.state c.args.ram.now (search rules, c.args.good.good) _ c.top_frame-frame.ensures _ c.in_ok-done.ensures in
    (a, r, rw s at c.change.ensures)
