-- Whoever adds the lines that are left has added them all. The measure is the bytes left.
use Rattle.std.proofs.Common.{◌+◌, ◌*◌, ◌-◌, ◌≤◌, ◌<◌, length}
use Rattle.script.specs.declared.text.Text.{Text}
use Rattle.script.specs.Text.{Adds, line_most, room}
use Rattle.script.specs.Run.{lines_at}
use Rattle.script.proofs.put_lines.Given as goal

abbrev pub invariant-loop-text : goal.invariant-loop-text
invariant-loop-text l =
    record {
      rest :
          (after : Text)
          → Adds l.text after (lines_at l.input l.table l.state l.ram l.place l.count)
          → Adds l.initial.text after (lines_at l.input l.table l.initial.state l.initial.ram l.initial.place l.initial.count);
      within : l.place ≤ length l.input;
      counted : l.count + (length l.input - l.place) < 65536;
      enough : line_most * (length l.input - l.place) ≤ room l.text;
    }

abbrev pub decreases-loop-text : goal.decreases-loop-text
decreases-loop-text l = length l.input - l.place
