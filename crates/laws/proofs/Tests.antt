-- Tests: deciding by one, and taking a conjunction or a disjunction apart.
-- Assumes nothing.
use Rattle.std.proofs.Common.{◌≡◌, refl, sym, ◌∙◌, List, [], ◌∷◌, Bool, true, false, not, ◌&&◌, ◌||◌, true≢false}
use Rattle.std.proofs.Math.Bool.{and-false, false≢true}
use borrow.Author.Tests.{not-true, not-false}

-- a goal by the two outcomes of a test
pub by_test : {C : Type 0} (t : Bool) → (t ≡ true → C) → (t ≡ false → C) → C
by_test true y n = y refl
by_test false y n = n refl

pub both : (a b : Bool) → (a && b) ≡ true → (a ≡ true) × (b ≡ true)
both true b h = (refl, h)
both false b h = absurd (false≢true h)

pub and-true : (a b : Bool) → a ≡ true → b ≡ true → (a && b) ≡ true
and-true true b g h = h
and-true false b g h = absurd (false≢true g)

pub neither : (a b : Bool) → (a || b) ≡ false → (a ≡ false) × (b ≡ false)
neither true b h = absurd (true≢false h)
neither false b h = (refl, h)

pub or_false : (a b : Bool) → a ≡ false → b ≡ false → (a || b) ≡ false
or_false true b g h = absurd (true≢false g)
or_false false b g h = h

-- ---- a chain of tests, t && u && ..: where it holds, each of them does

abbrev pub chain : Bool → List Bool → Bool
chain t [] = t
chain t (u ∷ us) = chain (t && u) us

abbrev pub Each : Bool → List Bool → Type 0
Each t [] = t ≡ true
Each t (u ∷ us) = (t ≡ true) × Each u us

first : (t : Bool) (us : List Bool) → Each t us → t ≡ true
first t [] e = e
first t (u ∷ us) e = e.0

pub each : (t : Bool) (us : List Bool) → chain t us ≡ true → Each t us
each t [] h = h
each t (u ∷ us) h = split t u us (each (t && u) us h)
  where
    split : (t u : Bool) (us : List Bool) → Each (t && u) us → (t ≡ true) × Each u us
    split true u us e = (refl, e)
    split false u us e = absurd (false≢true (first false us e))

-- a function answered r, its rule says t, and the caller tested r
pub failed : {r t : Bool} → r ≡ t → not r ≡ true → t ≡ false
failed {r} e h = sym e ∙ not-true r h

pub passed : {r t : Bool} → r ≡ t → not r ≡ false → t ≡ true
passed {r} e h = sym e ∙ not-false r h

-- a conjunction by one of its sides
pub left_false : (a b : Bool) → a ≡ false → (a && b) ≡ false
left_false a b h = rw h

pub right_false : (a b : Bool) → b ≡ false → (a && b) ≡ false
right_false a b h = rw (h, and-false)

pub left_true : (a b : Bool) → a ≡ true → (a && b) ≡ b
left_true a b h = rw h
