-- What the check tries at each goal of this crate.
use mathlib.Core.Path.{◌≡◌, refl}
use mathlib.Core.Bool.{true}
use Rattle.rules.specs.declared.Config.{Config}
use Rattle.rules.specs.State.{good_config}
use Rattle.laws.proofs.Codes.{domain_le}
use Rattle.laws.proofs.Good.{GoodConfig, good_config-facts, to_safe_lem}
use Rattle.laws.proofs.Map.{code_lt}
use Rattle.laws.proofs.Search.{found_in_heap}
use Rattle.map.proofs.Runs.{run_even, run_odd, run_parts, run_first}

-- `grind` finds it by the first part, which says nothing
pub good_facts : (c : Config) → good_config c ≡ true → (good_config c ≡ good_config c) × GoodConfig c
good_facts c h = (refl, good_config-facts c h)

pub ruleset steps = (code_lt, domain_le, found_in_heap, good_facts, to_safe_lem, run_even, run_odd, run_parts, run_first)
