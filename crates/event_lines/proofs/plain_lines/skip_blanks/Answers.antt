use Rattle.std.proofs.Common.{arith, sym, ◌∙◌}
use Rattle.event_lines.proofs.PlainTextLemmas.{blank_passed}
use Rattle.event_lines.proofs.plain_lines.skip_blanks.Goals as goal

pub loop-at-preserved : goal.loop-at-preserved
loop-at-preserved c = record {
  same = blank_passed c.args.text.now c.loop-at.at (omega arith) (sym c.is_blank_byte.ensures ∙ c.if-is_blank_byte.true) ∙ c.loop-at.invariant.same;
  rising = omega arith;
  within = omega arith;
}
