-- The pairs so far have good indices, and stand in the table.
use Rattle.std.proofs.Common.{◌≡◌, true, replicate, take, fold}
use Rattle.std.specs.List.{list_all}
use Rattle.rules.specs.Code.{table_words}
use Rattle.script.specs.Header.{index_good, with_pair}
use Rattle.script.proofs.header.table_of.Given as goal

abbrev pub invariant-loop-pair : goal.invariant-loop-pair
invariant-loop-pair l =
    record {
      good : list_all index_good (take l.pair-index l.pairs) ≡ true;
      written : l.table ≡ fold with_pair (replicate table_words 0) (take l.pair-index l.pairs);
    }
