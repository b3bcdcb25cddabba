-- What a domain has is out of every other module's reach; so the incident cannot happen.
-- Assumes nothing.
use Rattle.std.proofs.Common.{ℕ, ◌≡◌, refl, sym, ◌∙◌, subst, inl, ⊎_elim, ◌≢◌, arith, ne_eqb, lt-ltb, le-ltb, Ok, Err}
use borrow.Author.Tests.{lt-leb}
use Rattle.rules.specs.declared.RamByte.{RamByte}
use Rattle.rules.specs.declared.Config.{Config}
use Rattle.rules.specs.declared.Operation.TheVariants.{Store, Free}
use Rattle.rules.specs.declared.Refusal.TheVariants.{OtherOwner}
use Rattle.rules.specs.Memory.{ram_bytes, heap_block, trusted}
use Rattle.rules.specs.State.{ram_byte}
use Rattle.rules.specs.Operations.{operation_of}
use Rattle.laws.proofs.Codes.{module_lt}
use Rattle.laws.proofs.Good.{GoodConfig, good_state-true, bot<heap}
use Rattle.laws.proofs.Operations.{below}
use Rattle.promises.specs.History.{Asked, History, ◌then◌, state_of, ram_of, config_of, domain_of, byte_at, answer_to, Says, Assumed, Stretch, none, next}
use Rattle.promises.specs.Ledger.{Segment, ledger, InSegment}
use Rattle.promises.specs.Promise.{◌∈◌, GivesUp, StoredByHolder}
use Rattle.promises.specs.Incident.{NotGivenUp, Protected, NoIncident}
use Rattle.promises.proofs.Says.{says_done, answer_by_lem}
use Rattle.promises.proofs.Row.{row_in_heap}
use Rattle.promises.proofs.Steps.{Always, always, earlier, same_config_lem}
use Rattle.promises.proofs.Change.{segment_step_lem, segment_place, segment_owner, unchanged}
use Rattle.promises.proofs.Keeping.{segment_stays, freed_segment}

-- who frees is no trusted domain, which has no segment
freed_by_module : (h : History) → Assumed h → (o : Asked) (a : RamByte) (n : ℕ) → o.operation ≡ Free a → answer_to h o ≡ Ok n → domain_of h ≢ trusted
freed_by_module h assumed o a n q done d =
    let (_, i) = always h assumed in
    let c : Config = (state_of h).config in
    let (g, m, _, _, own) = freed_segment h i o a n q done in
    omega (arith, d, own, module_lt c g.owner (row_in_heap c (heap_block c) (ledger h) i.row g m).by_module)

module _ (h : History) (k : Always h) (g : Segment) (m : g ∈ ledger h)
    (other : domain_of h ≢ g.owner) (module_current : domain_of h ≢ trusted) where
  refused_store : (x : ℕ) → InSegment (config_of h) g x → (o : Asked) (b : ℕ) → o.operation ≡ Store (ram_byte x) b → Says (answer_to h o) 5 0
  refused_store x q o b e =
      let c : Config = (state_of h).config in
      let good : GoodConfig c = k.1.good.config in
      let (from, to) = segment_place h k g m x q in
      let answer : (operation_of (state_of h) (ram_of h) o.lent (Store (ram_byte x) b)).answer ≡ Err OtherOwner =
      answer_by_lem (state_of h) (ram_of h) o.lent (Store (ram_byte x) b)
      ∙ below (state_of h) (ram_of h) o.lent (Store (ram_byte x) b) refl k.1.size (good_state-true (state_of h) k.1.good)
      ∙ (rw (
        lt-leb ram_bytes x (omega (arith, good.safe≤top, good.top≤ram)),
        ne_eqb (domain_of h) trusted module_current,
        le-ltb x c.bot.0 (omega (arith, bot<heap good)),
        lt-ltb x c.top.0 (omega (arith, good.safe≤top)),
        segment_owner h k g m x q,
        ne_eqb g.owner (domain_of h) (λ e. other (sym e)),
      )) in
      rw (e, answer) (refl, refl)

  same_bytes : (x : ℕ) → InSegment (config_of h) g x → (o : Asked) → byte_at (h then o) x ≡ byte_at h x
  same_bytes x q o =
      unchanged _ _ (segment_step_lem h k o g (inl m) x q)
      (⊎_elim (λ w. other w.3) (λ w. module_current w.3))

-- ---- for any number of operations

held_on : (h : History) (g : Segment) → g ∈ ledger h → (P : History → Asked → Type 0) → ((k : History) (o : Asked) → P k o → GivesUp g k o → ⊥)
    → {l : History} → Assumed l → Stretch P h l → g ∈ ledger l
held_on h g m P keeps a none = m
held_on h g m P keeps a (next {h = k} {o = o} before p) =
    segment_stays k (always k a.0).1 g (held_on h g m P keeps a.0 before) o (keeps k o p)

same_on : (h : History) (g : Segment) → g ∈ ledger h → (x : ℕ) → InSegment (config_of h) g x → {l : History} → Assumed l
    → Stretch (λ k o. (GivesUp g k o → ⊥) × (StoredByHolder g x k o → ⊥)) h l → byte_at l x ≡ byte_at h x
same_on h g m x q a none = refl
same_on h g m x q a (next {h = k} {o = o} before (keeps, never)) =
    unchanged _ _
    (segment_step_lem k (always k a.0) o g (inl (held_on h g m _ (λ k o p. p.0) a.0 before)) x
    (subst (λ (c : Config). InSegment c g x) (sym (same_config_lem _ h before)) q)) never
    ∙ same_on h g m x q a.0 before

pub out_of_reach : Protected
out_of_reach h d g m other-module another =
    record {
      held = there;
      for_long = λ l a x q along. same_on h g m x q a along;
      powerless = λ l k now.
          let w : Always l = always l k.0 in
          record {
            refused = refused_store l w g (there l k) (other l now) (module_current l now);
            same = same_bytes l w g (there l k) (other l now) (module_current l now);
            stays = λ o. segment_stays l w.1 g (there l k) o (λ gives. other l now gives.0);
          };
    }
  where
    there : (l : History) → NotGivenUp g h l → g ∈ ledger l
    there l k = held_on h g m _ (λ _ _ keeps. keeps) k.0 k.1

    other : (l : History) → domain_of l ≡ d → domain_of l ≢ g.owner
    other l now e = another (sym e ∙ now)

    module_current : (l : History) → domain_of l ≡ d → domain_of l ≢ trusted
    module_current l now e = other-module (sym now ∙ e)

pub incident : NoIncident
incident h a d g p =
    out_of_reach h d g p.has
    (λ e.
    freed_by_module p.once (earlier _ _ a p.since).0 p.asked (ram_byte p.had.address) _ p.frees (says_done _ _ (p.freed, refl))
    (p.by_it ∙ e))
    p.another
