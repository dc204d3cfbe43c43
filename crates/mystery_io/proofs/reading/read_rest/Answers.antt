use Rattle.std.proofs.Common.{◌≡◌, ◌∙◌, arith, false, refl}
use Rattle.std.specs.Prelude.{◌==◌}
use Rattle.std.proofs.lemmas.Result.{err_from_is_err_and}
use Rattle.mystery_io.proofs.ContentLemmas.{cause_earlier, feeds_none, feeds_on}
use Rattle.mystery_io.proofs.FeedLemmas.{some_not_none}
use Rattle.mystery_io.proofs.reading.read_rest.Goals as goal

pub loop-count-init : goal.loop-count-init
loop-count-init g c = record {
  is_open = c.requires.open;
  opens = refl;
  tallied = refl;
  sound = c.requires.sound;
  takes = feeds_none g.I.Intake.took c.args.feeder.now (g.F.Files.given c.args.files.now);
}

pub loop-count-preserved : goal.loop-count-preserved
loop-count-preserved g c =
    let at = c.loop-count.invariant in
    let then = c.in_ok-count.ensures in
    let some : (c.in_ok-count.count == 0) ≡ false = some_not_none c.in_ok-count.count (omega (arith, c.if-count-eq0.false)) in
    record {
      is_open = then.is_open;
      opens = then.opens ∙ at.opens;
      tallied = then.tallied ∙ at.tallied;
      sound = then.sound;
      takes = feeds_on g.I.Intake.took _ _ _ _ _ _ _ at.takes (rw some at then.takes);
    }

pub returns-then-count-eq0-clause-takes : goal.returns-then-count-eq0-clause-takes
returns-then-count-eq0-clause-takes g c =
    let then = c.in_ok-count.ensures in
    feeds_on g.I.Intake.took _ _ _ _ _ _ _ c.loop-count.invariant.takes (rw c.if-count-eq0.true at then.takes)

pub returns-in_err-count-clause-cause : goal.returns-in_err-count-clause-cause
returns-in_err-count-clause-cause g c =
    let p = err_from_is_err_and c.from_residual.result c.from_residual.ensures.1 in
    let at = c.loop-count.invariant.takes in
    rw (p.1, p.2) (cause_earlier _ _ _ _ at.more _ _ _ at.given at.feeds.counted c.in_err-count.ensures.cause)
