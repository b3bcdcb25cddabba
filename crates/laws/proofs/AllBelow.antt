-- Lists whose numbers are all below a bound.
-- Assumes nothing.
use Rattle.std.proofs.Common.{ℕ, zero, suc, ◌<◌, List, [], ◌∷◌, replicate}

pub data AllBelow (r : ℕ) : List ℕ → Type 0 where
  none : AllBelow r []
  one : {v : ℕ} {vs : List ℕ} → v < r → AllBelow r vs → AllBelow r (v ∷ vs)

module _ (r : ℕ) where
  pub all_replicate : (n v : ℕ) → v < r → AllBelow r (replicate n v)
  all_replicate zero v h = none
  all_replicate (suc n) v h = one h (all_replicate n v h)
