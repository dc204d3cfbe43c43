use Rattle.std.proofs.Common.{◌≡◌, ◌∷◌, [], ◌∙◌, length, ap, append_assoc, arith}
use Rattle.std.specs.Vec.Iter.{into_iter_items}
use Rattle.trace_types.proofs.ZipLemmas.{zip_push}
use Rattle.batch_sheets.specs.Recorded.{AreLinesOfDay, IsSheetOfDay}
use Rattle.batch_sheets.proofs.recording.record_days.Goals as goal

pub loop-traces-preserved : goal.loop-traces-preserved
loop-traces-preserved g c =
    let at = c.loop-traces in
    let split = c.in-Some.traces in
    let one = c.in_ok-recorded.recorded in
    let steps : into_iter_items at.traces-iterator ≡ split ∷ into_iter_items c.next.new.self = c.in-Some.ensures.steps.0 in record {
      so_far = append_assoc at.yielded (split ∷ []) _ ∙ rw (← steps) at.invariant.so_far;
      left =
          let was = at.invariant.left in
          let gone = c.in-Some.ensures.steps.1 in
          let short = ap length steps in
          omega arith;
      recorded = record {
        all_sheets = rw c.in_ok-push.ensures.items (zip_push (IsSheetOfDay c.args.names) at.yielded at.sheets.items split one.sheet at.invariant.recorded.all_sheets c.in_ok-recorded.ensures.sheet);
        all_lines = rw c.in_ok-push-2.ensures.items (zip_push (AreLinesOfDay c.args.every c.args.workers) at.yielded at.watched.items split one.watched at.invariant.recorded.all_lines c.in_ok-recorded.ensures.watched);
      };
    }
