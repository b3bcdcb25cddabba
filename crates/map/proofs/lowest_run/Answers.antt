-- `map::lowest_run` meets its contract.
use Rattle.std.proofs.Common.{ap, arith, sym, ◌∙◌}
use Rattle.rules.specs.declared.Block.{Block}
use Rattle.rules.specs.Memory.{radix, per_byte, heap_block, safe_block, free_code}
use Rattle.address.specs.Places.{to_whole}
use Rattle.laws.proofs.Search.{search_past}
use Rattle.map.proofs.Search.{sought_first, sought_more, sought_anew, sought_found, sought_completed}
use Rattle.map.proofs.lowest_run.Goals as goal

pub search-init : goal.search-init
unfolding to_whole per_byte heap_block
search-init c =
    let run = c.free_to_even-run.ensures in record {
      few = omega arith;
      sought = rw (c.before-start.ensures, c.map_byte-at.ensures, c.further-even.ensures, c.to_whole.ensures)
          (sought_first _ _ _ _ _ (ap (λ (b : Block). b.0) c.block_of-first.ensures) c.requires.some run.at_most run.free run.not_free);
    }

pub loop-run-preserved : goal.loop-run-preserved
unfolding radix free_code
loop-run-preserved c =
    let inv = c.loop-run.invariant in
    record { same_start = inv.same_start; next = rw c.further-k-in-loop-run.ensures (omega arith); few = omega arith; sought = sought_more _ _ _ _ _ _ inv.sought (c.if-byte-free.true ∙ c.both-free.ensures) }

pub search-preserved : goal.search-preserved
unfolding radix free_code
search-preserved c =
    let inv = c.loop-run.invariant in
    let end = c.free_at_end-run.ensures in record {
      few = end.at_most;
      sought = rw (c.before-start-else-completes.ensures, c.further-k-in-loop-run.ensures, inv.next)
          (sought_anew _ _ _ _ _ _ inv.sought _ c.loop-run-test.true (c.fits-ram _) (λ e. c.if-byte-free.false (e ∙ sym c.both-free.ensures)) (c.completes.ensures.not_last c.if-completes.false) end.at_most end.one end.none);
    }

pub returns-then-start-last : goal.returns-then-start-last
unfolding safe_block
returns-then-start-last c = sym (c.search.invariant.sought.same ∙ search_past _ _ _ _ _ c.requires.some (grind arith))

pub returns-then-completes : goal.returns-then-completes
unfolding radix free_code safe_block
returns-then-completes c =
    let (last, low) = c.completes.ensures.last c.if-completes.true in
    sym (sought_completed _ _ _ _ _ _ c.loop-run.invariant.sought last low (grind arith))

pub returns-after-loop-run : goal.returns-after-loop-run
unfolding safe_block
returns-after-loop-run c = sym (sought_found _ _ _ _ _ _ c.loop-run.invariant.sought (omega arith) (grind arith) c.requires.some)
