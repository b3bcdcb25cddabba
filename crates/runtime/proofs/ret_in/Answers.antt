-- `runtime::ret_in` meets its contract: a good state with an open call has its frame in the safe stack area.
use Rattle.std.proofs.Common.{rules}
use Rattle.laws.proofs.Good.{good_state-facts}
use Rattle.operations.proofs.SafeStack.{area}
use Rattle.operations.proofs.Returns.{caller≤trusted, frame_below}
use Rattle.runtime.proofs.ret_in.Goals as goal

pub top_frame-frame-requires : goal.top_frame-frame-requires
top_frame-frame-requires c = search (rules, good_state-facts c.args.good.state c.args.good.good)

pub bounds-state-caller : goal.bounds-state-caller
bounds-state-caller c = search (rules, caller≤trusted)

pub ret_with-requires : goal.ret_with-requires
ret_with-requires c = search (rules, good_state-facts, frame_below, area)
