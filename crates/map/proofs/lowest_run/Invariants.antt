-- The loops of `map::lowest_run`: how far the search has come, and what is left of it.
use Rattle.std.proofs.Common.{suc, ◌-◌, ◌≡◌, ◌+◌, ◌≤◌}
use Rattle.map.proofs.Search.{Sought}
use Rattle.map.proofs.lowest_run.Given as goal

abbrev pub invariant-loop-run : goal.invariant-loop-run
invariant-loop-run l =
    record { same_start : l.start.0 ≡ l.initial.start.0; next : l.k.0 ≡ l.start.0 + l.run; few : l.run ≤ l.n + 1; sought : Sought l.fn.good.config l.ram l.n l.start.0 l.run l.at }

abbrev pub decreases-loop-run : goal.decreases-loop-run
decreases-loop-run l = l.n + 1 - l.run

abbrev pub invariant-search : goal.invariant-search
invariant-search l = record { few : l.run ≤ 1; sought : Sought l.fn.good.config l.ram l.n l.start.0 l.run l.at }

abbrev pub decreases-search : goal.decreases-search
decreases-search l = suc l.last - l.start.0
