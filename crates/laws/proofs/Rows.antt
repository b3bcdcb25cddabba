-- A table of refusals as a list of rows: what is done has passed each of them. And the answer that an operation gives.
-- Assumes nothing.
use Rattle.std.proofs.Common.{ℕ, ◌≡◌, refl, Bool, true, false, List, [], ◌∷◌, Ok, Err}
use Rattle.rules.specs.declared.State.{State}
use Rattle.rules.specs.Answers.{Answer, ◌⇒◌∣◌, give}
use Rattle.rules.specs.declared.Refusal.{Refusal}

-- where a table says that the operation is done, no row's test holds
pub row_passed : (t : Bool) (r : Refusal) (below : Answer) (v : ℕ) → (t ⇒ r ∣ below) ≡ Ok v → (t ≡ false) × (below ≡ Ok v)
row_passed true r below v h = absurd cc
row_passed false r below v h = (refl, h)

-- a table of refusals as a list of rows, above the answer below them
abbrev pub rows : List (Bool × Refusal) → Answer → Answer
rows [] last = last
rows (r ∷ rs) last = r.0 ⇒ r.1 ∣ rows rs last

abbrev pub NoRow : List (Bool × Refusal) → Type 0
NoRow [] = Unit {0}
NoRow (r ∷ rs) = (r.0 ≡ false) × NoRow rs

-- what is done has passed each row
pub passed : (rs : List (Bool × Refusal)) (last : Answer) (v : ℕ) → rows rs last ≡ Ok v → NoRow rs × (last ≡ Ok v)
passed [] last v h = (tt, h)
passed (r ∷ rs) last v h =
    let (e, g) = row_passed r.0 r.1 (rows rs last) v h in
    let (n, l) = passed rs last v g in
    ((e, n), l)

-- and what passes each row is answered below them
pub none_holds : (rs : List (Bool × Refusal)) (last : Answer) → NoRow rs → rows rs last ≡ last
none_holds [] last n = refl
none_holds (r ∷ rs) last n = rw n.0 (none_holds rs last n.1)

pub give_answer : (a : Answer) (s : State) (ram : List ℕ) (s' : State) (ram' : List ℕ) → (give a s ram s' ram').answer ≡ a
give_answer (Ok v) s ram s' ram' = refl
give_answer (Err r) s ram s' ram' = refl
