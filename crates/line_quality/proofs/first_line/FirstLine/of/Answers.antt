use Rattle.std.proofs.Common.{arith, inr}
use Rattle.line_quality.proofs.LineStartLemmas.{first_closes}
use Rattle.line_quality.proofs.first_line.FirstLine.of.Goals as goal

pub returns-in-Some : goal.returns-in-Some
returns-in-Some c =
    let bytes = c.args.bytes.now in
    let at = c.in-Some.at in
    let found = c.in-Some.ensures in
    record {
      within = omega (arith, found.within);
      ends = omega arith;
      some = λ h. omega arith;
      lines = inr (omega arith, first_closes bytes at found.within found.cut found.first c.pieces_say_what_the_whole_says.ensures.lines);
    }
