-- The operations sorted, each time once: which are stores, and what each does to the ledger.
-- Assumes nothing.
use Rattle.std.proofs.Common.{ℕ, ◌≡◌, refl, ◌⊎◌, inl, inr, List, Ok, Err}
use Rattle.rules.specs.declared.RamByte.{RamByte}
use Rattle.rules.specs.declared.Config.{Config}
use Rattle.rules.specs.Answers.{Answer}
use Rattle.rules.specs.declared.Operation.{Operation}
use Rattle.rules.specs.declared.Operation.TheVariants.{Store, Call, Return, Malloc, Free, Change}
use Rattle.promises.specs.History.{Stores}
use Rattle.promises.specs.Ledger.{Segment, booked}

-- ---- a store, or none

abbrev pub NoStore : Operation → Type 0
NoStore op = (x b : ℕ) → Stores op x b → ⊥

unfoldable pub as_store : (op : Operation) → ((x : ℕ) × (b : ℕ) × Stores op x b) ⊎ NoStore op
as_store (Store a b) = inl (a.0, b, refl)
as_store (Call t site p) = inr (λ x b e. cc)
as_store Return = inr (λ x b e. cc)
as_store (Malloc size) = inr (λ x b e. cc)
as_store (Free a) = inr (λ x b e. cc)
as_store (Change a d) = inr (λ x b e. cc)

-- ---- what it does to the ledger when it is done

pub data Booking : Operation → Type 0 where
  enters : (size : ℕ) → Booking (Malloc size)
  strikes : (a : RamByte) → Booking (Free a)
  makes_over : (a : RamByte) (d : ℕ) → Booking (Change a d)
  -- nothing
  leaves : {op : Operation} → ((c : Config) (d v : ℕ) (gs : List Segment) → booked c d op (Ok v) gs ≡ gs) → Booking op

pub booking : (op : Operation) → Booking op
booking (Store a b) = leaves (λ c d v gs. refl)
booking (Call t site p) = leaves (λ c d v gs. refl)
booking Return = leaves (λ c d v gs. refl)
booking (Malloc size) = enters size
booking (Free a) = strikes a
booking (Change a d) = makes_over a d

-- what is refused does nothing to it: so what holds of the ledger, and of what is booked when it is done, holds of what is booked
pub by_answer : (P : List Segment → Type 0) (c : Config) (d : ℕ) (op : Operation) (gs : List Segment) → P gs → (x : Answer)
    → ((v : ℕ) → x ≡ Ok v → P (booked c d op (Ok v) gs)) → P (booked c d op x gs)
by_answer P c d op gs p (Err r) done = p
by_answer P c d op gs p (Ok v) done = done v refl
