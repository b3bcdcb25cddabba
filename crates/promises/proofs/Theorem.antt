-- Demand 3: every history that is as assumed has what is promised.
-- Assumes nothing.
use Rattle.std.proofs.Common.{ℕ, suc, ◌≤◌, ◌<◌, ◌≡◌, refl, sym, subst, ◌⊎◌, lt_of_not-le, arith}
use Rattle.rules.specs.declared.Config.{Config}
use Rattle.rules.specs.declared.Operation.{Operation}
use Rattle.rules.specs.declared.Operation.TheVariants.{Return}
use Rattle.rules.specs.Memory.{heap_block, safe_block, codes_of, trusted}
use Rattle.rules.specs.Operations.{operation_of}
use Rattle.laws.proofs.Good.{good_state-true, heap_block≤safe_block}
use Rattle.promises.specs.History.{Asked, History, ◌then◌, after, state_of, ram_of, config_of, StoredBy}
use Rattle.promises.specs.Ledger.{ledger, InSegment}
use Rattle.promises.specs.Calls.{open_calls, Returns}
use Rattle.promises.specs.Promise.{◌∈◌, IsHeapBlock, StoredByHolder, Demand3}
use Rattle.promises.proofs.Says.{says_done}
use Rattle.promises.proofs.Row.{row_apart, row_in_heap}
use Rattle.promises.proofs.Shown.{row_shown}
use Rattle.promises.proofs.Holds.{HoldsAfter}
use Rattle.promises.proofs.Return.{return_gives}
use Rattle.promises.proofs.Steps.{always, stays_bytes}
use Rattle.promises.proofs.Keeping.{segment_stays, given_segment, freed_segment, changed_segment}
use Rattle.promises.proofs.Change.{none_shared_lem, segment_step_lem, stack_step_lem, stretch_same, unchanged}

outside : (c : Config) (k : ℕ) → (IsHeapBlock c k → ⊥) → heap_block c ≤ k → safe_block c ≤ k
outside c k out l = let u : safe_block c < suc k = lt_of_not-le (λ u. out (l, u)) in omega arith

returns_after : (h : History) → HoldsAfter h → (o : Asked) → o.operation ≡ Return → Returns (open_calls h) (after (h then o))
unfolding after
returns_after h i o e =
    subst (λ (op : Operation). Returns (open_calls h) (operation_of (state_of h) (ram_of h) o.lent op)) (sym e)
    (return_gives (state_of h) (ram_of h) (ledger h) (open_calls h) i o.lent)

pub promise : Demand3
promise h a =
    let (e, i) = always h a in
    record {
      map_shows =
          rw (← e)
          (row_shown (state_of h).config (codes_of (state_of h).config (ram_of h)) (ledger h) (heap_block≤safe_block i.good.config) i.row i.heap);
      heap_codes = rw (← e) (λ k q. i.heap k q.0 q.1);
      other_codes = rw (← e) (λ k l out. i.other k l (outside (state_of h).config k out));
      apart = rw (← e) (row_apart (state_of h).config _ (ledger h) i.row);
      none_shared = none_shared_lem h (e, i);
      in_heap = rw (← e) (row_in_heap (state_of h).config _ (ledger h) i.row);
      stays = segment_stays h i;
      given = λ o size v q e. given_segment h i o size v q (says_done _ v e);
      freed = λ o a n q e. freed_segment h i o a n q (says_done _ n e);
      changed = λ o a d n q e. changed_segment h i o a n d q (says_done _ n e);
      safe_stack = rw (← e) i.frames;
      current = i.current;
      bound = i.bound;
      returns = returns_after h i;
      segment_step = λ g o. segment_step_lem h (e, i) o g;
      segment_stretch = λ g x q from.
          stretch_same (λ l o. ((g ∈ ledger l) ⊎ (g ∈ ledger (l then o))) × (StoredByHolder g x l o → ⊥)) x from (config_of h)
          (λ l o w b p.
          unchanged _ _ (segment_step_lem l (always l b) o g p.0 x (subst (λ (c : Config). InSegment c g x) (sym w) q)) p.1) refl a;
      stack_step = λ k o. stack_step_lem h (e, i) o k;
      stack_stretch = λ k x q from.
          stretch_same (λ l o. ((k ∈ open_calls l) ⊎ (k ∈ open_calls (l then o))) × (StoredBy l o x trusted → ⊥)) x from (config_of h)
          (λ l o w b p. unchanged _ _ (stack_step_lem l (always l b) o k p.0 x q) p.1) refl a;
      same_config = e;
      good = good_state-true (state_of h) i.good;
      size = i.size;
      bytes = stays_bytes h a;
    }
