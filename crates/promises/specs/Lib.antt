-- What is promised, to be read beside document 01. The files stand in the order in which they are read.
--
-- `A → B`              if A then B              `(x : ℕ) → ..`       for every number x
-- `A × B`              both                     `(x : ℕ) × ..`       there is a number x
-- `A ⊎ B`              at least one             `A → ⊥`, `a ≢ b`     not
-- `a ≡ b`              they are the same        `A ↔ B`              if and only if
-- `Unit`               nothing is asked         `⊥`                  what is never so
-- `[]`, `k ∷ ks`       the empty list; the one that starts with k and goes on with ks
-- `xs ++ ys`           the one list and behind it the other
-- `get_or xs i 0`        the number at place i of xs, counted from 0; 0 past its end
-- `slice a b xs`       the part of xs from place a up to but not including b
-- `a - b`              0 if b is larger         `zero`, `suc n`      0, and n + 1
-- `k.site`            the site of k; `a.0` is the number in an address
-- `record { a = x; }`  the one whose part a is x, and so on
-- `let x = a in ..`    what stands behind `in`, where x is a
-- `λ l o. ..`          for a history l and what is asked next, o, what stands behind the point
-- `cond t a b`         a if the test t holds, otherwise b; `eqb`, `ltb`, `leb` are the tests for equal, less, and less or equal,
--                      `t && u` for both
-- `f a b = ..`         f of a and b is ..; several such lines, one for each case
-- `h then o`           the history h, and then o was asked; `o.operation` is the operation, `o.lent` what was lent with it
-- `.. → Type 0`        a statement about what stands before the arrow
-- `{A : ..}`           for every A; what it is follows from the rest, and is not written
-- `abbrev`, `unfoldable` and `pub` are for the checker alone. Lines that begin with `use` say where words come from, and can be skipped.
-- The other words are of the rules, crates/rules/specs.

-- Demand 3: histories, the two ghosts that are made from them, and the promise
pub mod History
pub mod Calls
pub mod Ledger
pub mod Promise
pub mod FromC
pub mod Incident
-- demands 1 and 2, and section 10
pub mod Demand1
pub mod Room
pub mod Uniqueness
-- section 8
pub mod Sample
pub mod Limits
pub mod Instance
