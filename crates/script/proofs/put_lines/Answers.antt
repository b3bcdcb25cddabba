-- `script::put_lines` meets its contract.
use Rattle.std.proofs.Common.{sym, arith}
use Rattle.script.proofs.Lines.{whole_within, lines_end, lines_cut, turn}
use Rattle.script.proofs.Texts.{adds_none, line_most_lem}
use Rattle.script.proofs.put_lines.Goals as goal

pub returns-in-End : goal.returns-in-End
returns-in-End c =
    let l = c.loop-text in
    l.invariant.rest l.text (rw (lines_end _ _ l.state l.ram l.place l.count (sym c.in-End.ensures)) (adds_none l.text))

pub returns-in-Cut : goal.returns-in-Cut
returns-in-Cut c =
    let l = c.loop-text in
    l.invariant.rest _ (rw (lines_cut _ _ l.state l.ram l.place l.count (sym c.in-Cut.ensures)) c.push.ensures)

pub loop-text-preserved : goal.loop-text-preserved
loop-text-preserved c =
    let l = c.loop-text in
    let e = sym c.in-Whole.ensures in
    let here = whole_within _ _ _ _ e in
    record {
      rest = λ after v. l.invariant.rest after (turn _ _ l.state l.ram l.place l.count _ _ e _ _ c.operate-outcome.ensures c.line.ensures v);
      within = here.1;
      counted = omega arith;
      enough = omega (arith, c.line.ensures.len, c.line.ensures.same_length, line_most_lem);
    }
