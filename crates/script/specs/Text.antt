-- Text added to a lent place, and the most that it can be.
use Rattle.std.specs.Prelude.{ℕ, ◌+◌, ◌-◌, ◌≡◌, List, [], ◌++◌, length, take, drop}
use Rattle.rules.specs.declared.Outcome.{Outcome}
use Rattle.rules.specs.Answers.{Given}
use Rattle.script.specs.declared.text.Text.{Text}

-- the text so far
abbrev pub so_far : Text → List ℕ
so_far t = take t.len t.place.now

-- how many bytes more there is room for
abbrev pub room : Text → ℕ
room t = length t.place.now - t.len

-- these bytes were added to a text, and all behind them is as it was
pub record Adds (before after : Text) (bytes : List ℕ) : Type 0 where
  pub same_place : after.place.ghost_name ≡ before.place.ghost_name
  pub same_length : length after.place.now ≡ length before.place.now
  pub len : after.len ≡ before.len + length bytes
  pub added : so_far after ≡ so_far before ++ bytes
  pub behind : drop after.len after.place.now ≡ drop after.len before.place.now

-- what an operation handed back beside RAM, of which no text speaks
abbrev pub handed : Outcome → Given
handed o = record { answer = o.answer; state = o.state; ram = [] }

-- six numbers of at most five digits, with a space before each but the first and a new line behind the last
abbrev pub line_most : ℕ
line_most = 36

-- "HMT 1", "setup" and a number of at most five digits, each a line
abbrev pub set_up_most : ℕ
set_up_most = 18
