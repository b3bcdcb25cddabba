-- `good::GoodState::config` meets its contract.
use Rattle.laws.proofs.Good.{good_state-facts, good_config-true}
use Rattle.good.proofs.GoodState.config.Goals as goal

pub invariant_of-result : goal.invariant_of-result
invariant_of-result c = record { good = good_config-true _ (good_state-facts _ c.args.self.good).config }
