use Rattle.std.proofs.Common.{◌≡◌, ◌+◌}
use Rattle.std.specs.List.{All}
use Rattle.refute_tests.specs.Clearing.{HaveNamesBelow}
use Rattle.word_rule.specs.Histories.{KnowsMore}
use Rattle.trace_pass.specs.States.{IsOfRecorder}
use Rattle.trace_pass.specs.inner.Parts.{recording_of, rest_of}
use Rattle.trace_pass.specs.inner.Working.{IsWatching}
use Rattle.trace_pass.proofs.workers.offer_each.Given as goal

abbrev pub invariant-loop-offered : goal.invariant-loop-offered
invariant-loop-offered g l = record {
  given : l.part.given ≡ l.fn.part.given;
  names : l.part.names ≡ l.fn.part.names;
  counted : l.part.recorded ≡ l.fn.part.recorded + l.offered;
  table : IsOfRecorder l.recorder (recording_of l.part);
  shares : l.part.pass.view.shares ≡ l.fn.part.pass.view.shares;
  named : All (HaveNamesBelow l.recorder.names) (rest_of l.part);
  more : KnowsMore l.fn.part.pass.pasts l.part.pass.pasts;
  watching : IsWatching l.every l.recorder.table.width l.worker l.offered (rest_of l.fn.part) l.fn.part.pass.view.readings l.part.pass.view.readings l.lines.items;
}
