-- `hmt_c::hmt_call` meets its contract.
use Rattle.std.proofs.Common.{rules}
use Rattle.std.proofs.lemmas.Bool.{eq-eqb}
use Rattle.rules.specs.declared.Operation.TheVariants.{Call}
use Rattle.rules.specs.Code.{flash_word}
use Rattle.rules.specs.State.{ram_byte}
use Rattle.hmt_c.proofs.Step.{changed_step}
use Rattle.hmt_c.proofs.hmt_call.Goals as goal

pub returns : goal.returns
returns c =
    let table = c.in-Some.ensures.cases in
    changed_step c.args.table.now (Call (flash_word c.args.target) (flash_word c.args.site) (ram_byte c.args.pointer)) (simp (eq-eqb _ _ table.long)) (λ i. search rules)
    c.packed-2.ensures c.in_good_state.ensures (λ out. search (rules, table.same))
