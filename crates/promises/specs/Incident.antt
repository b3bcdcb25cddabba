-- The incident: a module freed a segment, another module got it, and the first went on storing to it.
-- Here: a module that freed a segment, which another module then got, cannot change one byte of it, whatever it and others do, until that
-- module gives it up. The theorems are `out_of_reach` and `incident` of proofs/Incident.antt.
-- No axiom.
use Rattle.std.specs.Prelude.{ℕ, ◌≡◌, ◌≢◌}
use Rattle.rules.specs.declared.Operation.TheVariants.{Store, Free}
use Rattle.rules.specs.Memory.{trusted}
use Rattle.rules.specs.State.{ram_byte}
use Rattle.rules.specs.Answers.{number_of}
use Rattle.promises.specs.History.{Asked, History, ◌then◌, config_of, domain_of, byte_at, answer_to, Says, Assumed, Stretch}
use Rattle.promises.specs.Ledger.{Segment, ledger, InSegment}
use Rattle.promises.specs.Promise.{◌∈◌, GivesUp, StoredByHolder}

-- the domain that is current at the moment l can do nothing to g: a store to any byte of it is refused with 5,
pub record Powerless (g : Segment) (l : History) : Type 0 where
  pub refused : (x : ℕ) → InSegment (config_of l) g x → (o : Asked) (b : ℕ) → o.operation ≡ Store (ram_byte x) b → Says (answer_to l o) 5 0
  -- and whatever is asked changes no byte of it, and leaves it with the domain that has it
  pub same : (x : ℕ) → InSegment (config_of l) g x → (o : Asked) → byte_at (l then o) x ≡ byte_at l x
  pub stays : (o : Asked) → g ∈ ledger (l then o)

-- l is the moment h or a later one, and nothing that was asked in between, of whatever domains, gave g up
abbrev pub NotGivenUp : Segment → History → History → Type 0
NotGivenUp g h l = Assumed l × Stretch (λ k o. GivesUp g k o → ⊥) h l

-- from the moment h on the segment g is out of domain d's reach:
pub record OutOfReach (d : ℕ) (g : Segment) (h : History) : Type 0 where
  -- it stays with the domain that has it until that domain gives it up;
  pub held : (l : History) → NotGivenUp g h l → g ∈ ledger l
  -- each of its bytes stays as it is until then, or until that domain or the trusted one stores to the byte;
  pub for_long : (l : History) → Assumed l → (x : ℕ) → InSegment (config_of h) g x
      → Stretch (λ k o. (GivesUp g k o → ⊥) × (StoredByHolder g x k o → ⊥)) h l → byte_at l x ≡ byte_at h x
  -- and whenever d is current until then, it can do nothing to it
  pub powerless : (l : History) → NotGivenUp g h l → domain_of l ≡ d → Powerless g l

-- what a domain has is out of every other module's reach
abbrev pub Protected : Type 0
Protected = (h : History) (d : ℕ) (g : Segment) → g ∈ ledger h → d ≢ trusted → g.owner ≢ d → OutOfReach d g h

-- after the history h: domain d once had a segment and freed it, and now another domain has the segment g, with a byte of it
pub record Incident (d : ℕ) (g : Segment) (h : History) : Type 0 where
  pub once : History
  pub had : Segment
  pub own : had ∈ ledger once
  pub by_it : domain_of once ≡ d
  pub asked : Asked
  pub frees : asked.operation ≡ Free (ram_byte had.address)
  pub freed : number_of (answer_to once asked) ≡ 0
  -- whatever was asked since
  pub since : Stretch (λ l o. Unit {0}) (once then asked) h
  pub has : g ∈ ledger h
  pub another : g.owner ≢ d
  pub byte : ℕ
  pub in_both : InSegment (config_of h) had byte × InSegment (config_of h) g byte

-- what another domain has got of it is out of its reach
abbrev pub NoIncident : Type 0
NoIncident = (h : History) → Assumed h → (d : ℕ) (g : Segment) → Incident d g h → OutOfReach d g h
