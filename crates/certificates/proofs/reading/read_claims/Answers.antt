use Rattle.std.proofs.Common.{arith, option_copied, sym, ◌∙◌, ◌+◌}
use Rattle.step_core.specs.LinesLeft.{lines_left}
use Rattle.certificates.proofs.ClaimLemmas.{claim_added}
use Rattle.certificates.proofs.reading.read_claims.Goals as goal

pub lines-preserved : goal.lines-preserved
lines-preserved c = record {
  told =
      rw c.in_ok-push.ensures.items (
      claim_added _ (lines_left (c.in-Some.next.number + 1) (option_copied c.in-Some.next.rest)) c.in-Some.next.number c.in-Some.next.line.now c.in-Some-2.claim c.lines.claims.items _ c.in-Some.ensures.lines
      (sym c.in-Some-2.is ∙ c.in_ok-claim.ensures) c.lines.invariant.told
      );
  room = omega (arith, c.in-Some.ensures.room, c.lines.invariant.room);
  few = omega (arith, c.in-Some.ensures.later, c.lines.invariant.few, c.in_ok-push.ensures.len);
}
