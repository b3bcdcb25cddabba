-- Bytes added to a text, piece by piece, and how many they can be.
-- Assumes nothing.
use Rattle.std.proofs.Common.{◌≡◌, ℕ, zero, suc, ◌+◌, ◌/◌, ◌%◌, ◌^◌, ◌≤◌, ◌<◌, List, [], ◌∷◌, ◌++◌, length, get_or, drop, set, ltb, lt-ltb, le-ltb, add-one, sym, ap, ◌∙◌, append_assoc, append-nil, length-append, arith}
use Rattle.std.proofs.Math.Seq.{sets}
use lib.Seq.{drop-cons}
use native.Mathlib.Nat.{pow-suc, div-lt_iff_lt-mul}
use Rattle.std.specs.Fmt as std
use Rattle.std.proofs.lemmas.Bool.Decides.{nat_tests}
use Rattle.std.proofs.lemmas.List.{drop-drop}
use Rattle.std.proofs.lemmas.Fmt.{AppendsLastDigit, decimal_from_appends, length-decimal-le}
use Rattle.rules.specs.Script.{space, digit_text, last_digits, decimal, line_of, set_up_text}
use Rattle.rules.specs.Answers.{Given}
use Rattle.laws.proofs.Tests.{by_test}
use Rattle.script.specs.declared.text.Text.{Text}
use Rattle.script.specs.Text.{Adds, line_most, set_up_most}

-- ---- pieces

-- the next byte of a text
pub sets-next : (l : List ℕ) (at : ℕ) (text : List ℕ) (i : ℕ) → i < length text
    → sets l at (drop i text) ≡ sets (set l at (get_or text i 0)) (at + 1) (drop (i + 1) text)
sets-next l at text i h = rw (add-one at, add-one i, drop-cons text i 0)

pub adds_none : (t : Text) → Adds t t []
adds_none t = grind (arith, append-nil)

-- some bytes, and others behind them
pub adds_then : {a b c : Text} {xs ys : List ℕ} → Adds a b xs → Adds b c ys → Adds a c (xs ++ ys)
adds_then {a} {b} {c} {xs} {ys} v w =
    record {
      same_place = w.same_place ∙ v.same_place;
      same_length = w.same_length ∙ v.same_length;
      len = omega (arith, length-append xs ys, v.len, w.len);
      added = w.added ∙ ap (λ l. l ++ ys) v.added ∙ append_assoc _ xs ys;
      behind = w.behind ∙ rw (w.len, ← drop-drop (length ys) b.len b.place.now, ← drop-drop (length ys) b.len a.place.now, v.behind);
    }

-- ---- decimals

appends : AppendsLastDigit last_digits
unfolding last_digits
appends = record { one = λ k n h. grind (arith, nat_tests); more = λ k n h. grind (arith, nat_tests) }

-- a number of at most five digits in decimal is what the library prints of it
pub decimal_lem : (n : ℕ) → n < 100000 → std.decimal n ≡ decimal n
unfolding decimal
decimal_lem n h =
    sym (decimal_from_appends last_digits appends 5 n (omega arith) (length-decimal-le 5 n (omega arith) (omega arith) (omega arith)))

pub decimal_one : (n : ℕ) → n < 10 → decimal n ≡ digit_text n ∷ []
unfolding decimal last_digits
decimal_one n h = rw (lt-ltb n 10 h)

-- digits enough are as good as one more
enough : (most n : ℕ) → n < 10 ^ suc most → last_digits (suc (suc most)) n ≡ last_digits (suc most) n
unfolding last_digits
enough zero n h = rw (lt-ltb n 10 h)
enough (suc most) n h =
    let less : n / 10 < 10 ^ suc most = (div-lt_iff_lt-mul {k = 10} {x = n} {y = 10 ^ suc most} (omega arith)).1 (rw pow-suc at h) in
    by_test (ltb n 10) (λ t. rw t) (λ t. rw (t, enough most (n / 10) less))

digits_more : (most n : ℕ) → 10 ≤ n → last_digits (suc most) n ≡ last_digits most (n / 10) ++ (digit_text (n % 10) ∷ [])
unfolding last_digits
digits_more most n g = rw (le-ltb n 10 g)

pub decimal_more : (n : ℕ) → 10 ≤ n → n < 100000 → decimal n ≡ decimal (n / 10) ++ (digit_text (n % 10) ∷ [])
unfolding decimal
decimal_more n g h =
    digits_more 4 n g ∙ ap (λ (l : List ℕ). l ++ (digit_text (n % 10) ∷ [])) (sym (enough 3 (n / 10) (omega arith)))

digits_most : (most n : ℕ) → length (last_digits most n) ≤ most
unfolding last_digits
digits_most zero n = omega arith
digits_most (suc most) n = let h = digits_most most (n / 10) in grind (arith, nat_tests, length-append)

pub decimal_most : (n : ℕ) → length (decimal n) ≤ 5
unfolding decimal
decimal_most n = digits_most 5 n

pub decimal_short : (n : ℕ) → n < 10000 → length (decimal n) ≤ 4
unfolding decimal
decimal_short n h = rw (enough 3 n h) (digits_most 4 n)

-- how far a text of at most most bytes leads, and that the lent place stays as long as it was
pub record Step (before after : List ℕ) (at r most : ℕ) : Type 0 where
  pub near : r ≤ at + most
  pub kept : length after ≡ length before

pub step : {a b : Text} {text : List ℕ} (most : ℕ) → length text ≤ most → Adds a b text → Step a.place.now b.place.now a.len b.len most
step most h w = record { near = omega (arith, w.len); kept = w.same_length }

pub step_decimal : (n : ℕ) {a b : Text} → Adds a b (decimal n) → Step a.place.now b.place.now a.len b.len 5
step_decimal n w = step 5 (decimal_most n) w

pub step_field : (n : ℕ) {a b : Text} → Adds a b (space ∷ decimal n) → Step a.place.now b.place.now a.len b.len 6
step_field n w = step 6 (omega (arith, decimal_most n)) w

pub step_then : {l m n : List ℕ} {at q r j k : ℕ} → Step l m at q j → Step m n q r k → Step l n at r (j + k)
step_then v w = record { near = omega arith; kept = w.kept ∙ v.kept }

pub line_most_lem : (count : ℕ) (g : Given) → length (line_of count g) ≤ line_most
unfolding line_of
line_most_lem count g = simp length-append (omega (arith, decimal_most))

pub set_up_most_lem : (g : Given) → length (set_up_text g) ≤ set_up_most
set_up_most_lem g = simp length-append (omega (arith, decimal_most))
