-- What a run prints, by its tests.
-- Assumes nothing.
use Rattle.std.proofs.Common.{◌≡◌, ℕ, ◌≤◌, ◌<◌, Bool, true, false, cond, List, [], ◌++◌, length, replicate, eqb, lt-ltb, le-ltb, Some, sym, ap, subst, ◌∙◌, append-nil, arith}
use Rattle.std.specs.Result.{is_ok}
use Rattle.std.proofs.lemmas.List.{take-append-drop}
use Rattle.rules.specs.declared.Config.{Config}
use Rattle.rules.specs.declared.Outcome.{Outcome}
use Rattle.rules.specs.Memory.{ram_bytes}
use Rattle.rules.specs.Answers.{Answer, Gives, number_of}
use Rattle.rules.specs.SetUp.{set_up_answer, set_up_of}
use Rattle.rules.specs.Script.{most_bytes, header_config, table_at, header_good, long_text, bad_text, set_up_text, run_text, script_text}
use Rattle.laws.proofs.Rows.{give_answer}
use Rattle.script.specs.declared.text.Text.{Text}
use Rattle.script.specs.Text.{Adds, handed}
use Rattle.script.specs.declared.header.Header.{Header}
use Rattle.script.specs.Header.{header_with, header_of}
use Rattle.script.specs.Run.{lines_at, text_most, printed, Printed}
use Rattle.script.proofs.Headers.{header_told}

-- what was added to an empty text is printed at the start of its place
pub printed_whole : {a b : Text} {text : List ℕ} → a.len ≡ 0 → Adds a b text → Printed a.place.now b.place.now text b.len
printed_whole {a} {b} {text} e w = (
  omega (arith, w.len),
  sym (take-append-drop b.len b.place.now) ∙ rw (w.added, e, w.behind),
)

-- ---- the tests of a run

module _ (input : List ℕ) (room : ℕ) where
  pub printed_none : room < text_most → printed input room ≡ []
  unfolding printed
  printed_none h = rw (lt-ltb room text_most h)

  pub printed_text : text_most ≤ room → printed input room ≡ script_text input
  unfolding printed
  printed_text h = rw (le-ltb room text_most h)

module _ (input : List ℕ) where
  pub text_long : most_bytes < length input → script_text input ≡ long_text
  unfolding script_text
  text_long l = rw (lt-ltb most_bytes (length input) l)

  module _ (l : length input ≤ most_bytes) where
    by_header : script_text input ≡ cond (header_good input) (run_text input) bad_text
    unfolding script_text
    by_header = rw (le-ltb most_bytes (length input) l)

    pub text_bad : header_good input ≡ false → script_text input ≡ bad_text
    text_bad b = by_header ∙ ap (λ (t : Bool). cond t (run_text input) bad_text) b

    pub text_good : header_good input ≡ true → script_text input ≡ run_text input
    text_good b = by_header ∙ ap (λ (t : Bool). cond t (run_text input) bad_text) b

-- ---- set-up and the lines behind it

-- set-up is done where its number is 0
set_up_numbered : (c : Config) (ram : List ℕ) → eqb (number_of (set_up_answer c ram)) 0 ≡ is_ok (set_up_answer c ram)
set_up_numbered c ram = grind arith

-- set-up handed back o, on the configuration that a header tells and on zeros
module _ (input : List ℕ) (header : Header) (told : Some header ≡ header_of input)
    {ram : List ℕ} (o : Outcome) (gives : Gives o ram (set_up_of header.config (replicate ram_bytes 0))) where
  same : header ≡ header_with input (table_at input)
  same = header_told input header told

  given : Gives o ram (set_up_of (header_config input) (replicate ram_bytes 0))
  given = subst (λ (h : Header). Gives o ram (set_up_of h.config (replicate ram_bytes 0))) same gives

  numbered : eqb (number_of o.answer) 0 ≡ is_ok o.answer
  numbered =
      subst (λ (a : Answer). eqb (number_of a) 0 ≡ is_ok a) (sym (given.0 ∙ give_answer _ _ _ _ _))
      (set_up_numbered (header_config input) (replicate ram_bytes 0))

  pub run_refused : is_ok o.answer ≡ false → run_text input ≡ set_up_text (handed o)
  unfolding run_text
  run_refused n = rw (← given.0, numbered, n) (append-nil (set_up_text (handed o)))

  pub run_done : is_ok o.answer ≡ true
      → run_text input ≡ set_up_text (handed o) ++ lines_at input header.table o.state ram header.operations 1
  unfolding run_text lines_at
  run_done n = rw (same, ← given.0, ← given.1, ← given.2, numbered, n)
