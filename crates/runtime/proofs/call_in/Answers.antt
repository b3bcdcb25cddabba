-- `runtime::call_in` meets its contract: the word at the target's offset is all that a call looks at in its table.
use Rattle.std.proofs.Common.{rules, get_or, sym, ap}
use Rattle.laws.proofs.Good.{good_state-facts, domain≤trusted}
use Rattle.operations.proofs.CallRows.{call_by_word}
use Rattle.runtime.proofs.call_in.Goals as goal

pub bounds-config-good : goal.bounds-config-good
bounds-config-good c = search (rules, domain≤trusted (good_state-facts c.args.good.state c.args.good.good))

pub returns : goal.returns
returns c =
    let x = c.args in
    rw (call_by_word x.good.state x.ram.now x.table.now x.target x.site x.pointer _ c.requires
    (λ from to. ap (λ i. get_or x.table.now i 0) (sym (c.table_word-at.ensures.1 to))))
    c.call_with.ensures
