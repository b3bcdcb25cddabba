-- What a run of a script writes.
use Rattle.std.specs.Prelude.{ℕ, ◌+◌, ◌*◌, ◌-◌, cond, ◌≡◌, List, [], ◌++◌, length, drop, ltb}
use Rattle.rules.specs.declared.State.{State}
use Rattle.rules.specs.Script.{most_bytes, pairs_place, lines_from, script_text}
use Rattle.script.specs.Text.{line_most, set_up_most}

-- the lines of the operations from place at on, as many as there are
unfoldable pub lines_at : List ℕ → List ℕ → State → List ℕ → ℕ → ℕ → List ℕ
lines_at input table s ram at count = lines_from (length input - at) input table s ram at count

-- the most that a script of at most 65,536 bytes prints: no header is shorter than that of version 1, and no operation than a byte
abbrev pub text_most : ℕ
text_most = set_up_most + line_most * (most_bytes - pairs_place 1)

-- what is printed to a place of room bytes: the script's text; nothing, where some script's text would not fit
unfoldable pub printed : List ℕ → ℕ → List ℕ
printed input room = cond (ltb room text_most) [] (script_text input)

-- a text stands at the start of a place, and all behind it is as it was; r is the text's length
abbrev pub Printed : List ℕ → List ℕ → List ℕ → ℕ → Type 0
Printed before after text r = (r ≡ length text) × (after ≡ text ++ drop r before)
