-- The lines of a script's operations, one at a time: what the operation at a place decides.
-- Assumes nothing.
use Rattle.std.proofs.Common.{◌≡◌, ℕ, zero, suc, ◌+◌, ◌-◌, ◌≤◌, ◌<◌, Bool, true, false, cond, List, [], ◌++◌, length, leb, leb-true, refl, sym, ap, ◌∙◌, sub-one, arith}
use borrow.Author.Tests.{le-leb}
use Rattle.std.proofs.lemmas.Bool.Decides.{nat_tests}
use Rattle.rules.specs.declared.State.{State}
use Rattle.rules.specs.declared.Outcome.{Outcome}
use Rattle.rules.specs.declared.Operation.{Operation}
use Rattle.rules.specs.declared.Read.{Read}
use Rattle.rules.specs.declared.Read.TheVariants.{Whole, Cut, End}
use Rattle.rules.specs.Answers.{Given, Gives}
use Rattle.rules.specs.Operations.{lending, operation_of}
use Rattle.rules.specs.Script.{cut_text, up_to, operation_at, line_of, on_read, lines_from}
use Rattle.laws.proofs.Tests.{by_test}
use Rattle.script.specs.declared.text.Text.{Text}
use Rattle.script.specs.Text.{Adds, handed}
use Rattle.script.specs.Run.{lines_at}
use Rattle.script.proofs.Texts.{adds_then}

-- ---- where an operation ends

module _ (input : List ℕ) where
  -- a reading that starts at a place before the end of the input: what is whole ends behind its start, in the input
  abbrev Within : ℕ → Read → Type 0
  Within at (Whole op next) = (at < next) × (next ≤ length input)
  Within at Cut = at < length input
  Within at End = length input ≤ at

  up_to_within : (at next : ℕ) (op : Operation) → at < next → at < length input → Within at (up_to input next op)
  up_to_within at next op h l =
      by_test (leb next (length input)) (λ t. rw t (h, leb-true next (length input) t)) (λ t. rw t l)

  -- one number's row, above what the others give
  row_within : (t : Bool) (at next : ℕ) (op : Operation) (below : Read) → at < next → at < length input → Within at below
      → Within at (cond t (up_to input next op) below)
  row_within true at next op below h l w = up_to_within at next op h l
  row_within false at next op below h l w = w

  pub whole_within : (at : ℕ) (op : Operation) (next : ℕ) → operation_at input at ≡ Whole op next → (at < next) × (next ≤ length input)
  unfolding operation_at
  whole_within at op next e = (grind (arith, nat_tests), grind (arith, nat_tests))

  pub cut_within : (at : ℕ) → operation_at input at ≡ Cut → at < length input
  unfolding operation_at
  cut_within at e = grind (arith, nat_tests)

  pub end_within : (at : ℕ) → operation_at input at ≡ End → length input ≤ at
  unfolding operation_at
  end_within at e = grind (arith, nat_tests)

  read_within : (at : ℕ) (r : Read) → operation_at input at ≡ r → Within at r
  read_within at (Whole op next) e = whole_within at op next e
  read_within at Cut e = cut_within at e
  read_within at End e = end_within at e

  pub operation_within : (at : ℕ) → Within at (operation_at input at)
  operation_within at = read_within at (operation_at input at) refl

  past : (at : ℕ) → length input ≤ at → operation_at input at ≡ End
  unfolding operation_at
  past at h = rw (le-leb (length input) at h)

-- ---- lines

module _ (input table : List ℕ) where
  -- the lines behind an operation that was read, with a bound on their number
  abbrev behind : ℕ → State → List ℕ → ℕ → Operation → ℕ → List ℕ
  behind left s ram count op next =
      let g = operation_of s ram (lending table) op in
      line_of count g ++ lines_from left input table g.state g.ram next (count + 1)

  lines_past : (left : ℕ) (s : State) (ram : List ℕ) (at count : ℕ) → length input ≤ at → lines_from left input table s ram at count ≡ []
  unfolding lines_from
  lines_past zero s ram at count h = refl
  lines_past (suc left) s ram at count h = rw (past input at h)

  -- two continuations that agree at the operation that stands at a place
  same_behind : (at : ℕ) (j k : Operation → ℕ → List ℕ)
      → ((op : Operation) (next : ℕ) → operation_at input at ≡ Whole op next → j op next ≡ k op next)
      → (r : Read) → operation_at input at ≡ r → on_read r j ≡ on_read r k
  same_behind at j k same End e = refl
  same_behind at j k same Cut e = refl
  same_behind at j k same (Whole op next) e = same op next e

  -- as many as bytes are left are enough
  enough : (f g : ℕ) (s : State) (ram : List ℕ) (at count : ℕ) → length input - at ≤ f → length input - at ≤ g
      → lines_from f input table s ram at count ≡ lines_from g input table s ram at count
  unfolding lines_from
  enough zero g s ram at count p q = sym (lines_past g s ram at count (omega arith))
  enough (suc f) zero s ram at count p q = lines_past (suc f) s ram at count (omega arith)
  enough (suc f) (suc g) s ram at count p q =
      same_behind at (behind f s ram count) (behind g s ram count)
      (λ op next e.
      let (h, l) = whole_within input at op next e in
      let o = operation_of s ram (lending table) op in
      ap (λ (rest : List ℕ). line_of count o ++ rest) (enough f g o.state o.ram next (count + 1) (omega arith) (omega arith)))
      (operation_at input at) refl

  module _ (s : State) (ram : List ℕ) (at count : ℕ) where
    some : (left : ℕ) → 0 < left → lines_from left input table s ram at count ≡ on_read (operation_at input at) (behind (left - 1) s ram count)
    unfolding lines_from
    some zero h = absurd (omega arith)
    some (suc left) h = rw sub-one

    pub lines_end : operation_at input at ≡ End → lines_at input table s ram at count ≡ []
    unfolding lines_at
    lines_end e = lines_past (length input - at) s ram at count (end_within input at e)

    pub lines_cut : operation_at input at ≡ Cut → lines_at input table s ram at count ≡ cut_text
    unfolding lines_at
    lines_cut e =
        let l = cut_within input at e in
        some (length input - at) (omega arith) ∙ rw e

    pub lines_whole : (op : Operation) (next : ℕ) → operation_at input at ≡ Whole op next
        → let g = operation_of s ram (lending table) op in
        lines_at input table s ram at count ≡ line_of count g ++ lines_at input table g.state g.ram next (count + 1)
    unfolding lines_at
    lines_whole op next e =
        let (h, l) = whole_within input at op next e in
        let g = operation_of s ram (lending table) op in
        some (length input - at) (omega arith)
        ∙ ap (λ (r : Read). on_read r (behind (length input - at - 1) s ram count)) e
        ∙ ap (λ (rest : List ℕ). line_of count g ++ rest)
        (enough (length input - at - 1) (length input - next) g.state g.ram next (count + 1) (omega arith) (omega arith))

-- what an operation handed back makes the line that its rule gives
pub line_given_lem : (count : ℕ) (o : Outcome) (ram : List ℕ) (g : Given) → Gives o ram g → line_of count (handed o) ≡ line_of count g
unfolding line_of
line_given_lem count o ram g (a, s, r) = rw (a, s)

-- one turn: the line of the operation at a place is added, and then the lines behind it
pub turn : (input table : List ℕ) (s : State) (ram : List ℕ) (at count : ℕ) (op : Operation) (next : ℕ) → operation_at input at ≡ Whole op next
    → (o : Outcome) (ram' : List ℕ) → Gives o ram' (operation_of s ram (lending table) op)
    → {a b c : Text} → Adds a b (line_of count (handed o)) → Adds b c (lines_at input table o.state ram' next (count + 1))
    → Adds a c (lines_at input table s ram at count)
turn input table s ram at count op next e o ram' gives v w =
    let g = operation_of s ram (lending table) op in
    rw (lines_whole input table s ram at count op next e)
    (adds_then (rw (line_given_lem count o ram' g gives) at v) (rw (gives.1, gives.2) at w))
