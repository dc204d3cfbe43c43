use Rattle.std.proofs.Common.{◌≡◌, ℕ, ap, sym, subst, ◌∙◌}
use Rattle.trace_pass.specs.Faults.{IsRecorderFault}
use Rattle.trace_pass.specs.Rows.{AreRowsWithin, LackOnlyRefuted}
use Rattle.trace_pass.specs.States.{RecorderState, RecordingState}
use Rattle.trace_pass.proofs.ClosingLemmas.{parts_back}
use Rattle.trace_pass.proofs.RowLemmas.{lack_refuted}
use Rattle.trace_pass.proofs.recorders.Recorder.close.Goals as goal

pub of_words-requires : goal.of_words-requires
of_words-requires c = c.met_rows_survive.ensures _ _ _ _ c.recording.invariant.whole c.in-Ok.ensures.words c.words-bound.ensures.bound

pub returns-in-Ok-clause-readings : goal.returns-in-Ok-clause-readings
returns-in-Ok-clause-readings c =
    subst (λ (r : RecordingState). LackOnlyRefuted r.pass.view.readings r.traces) c.recording.view_is
    (lack_refuted c.rows_clear_refuted.ensures _ _ _ c.recording.invariant.whole c.in-Ok.ensures.readings)

pub give_back-requires : goal.give_back-requires
give_back-requires c =
    let mine = c.self.inside in let r = c.recording.inside in
    let names : r.names ≡ mine.names = ap (λ (x : RecordingState). x.names) c.recording.view_is ∙ c.requires.names ∙ sym (ap (λ (s : RecorderState). s.names) c.self.view_is) in
    parts_back mine.names r.traces.items mine.table r.pass c.in-Err.fault c.in-Err.ensures.fault
    (record { few = c.self.invariant.0; width = c.self.invariant.1; rows = subst (λ (n : ℕ). AreRowsWithin n r.traces.items r.pass.view.done) names c.recording.invariant })

pub returns-in-Err-clause-fault : goal.returns-in-Err-clause-fault
returns-in-Err-clause-fault c =
    let mine = c.self.inside in let r = c.recording.inside in
    let names : r.names ≡ mine.names = ap (λ (x : RecordingState). x.names) c.recording.view_is ∙ c.requires.names ∙ sym (ap (λ (s : RecorderState). s.names) c.self.view_is) in
    let recorder : RecorderState = record { table = mine.table; names = mine.names } in
    let recording : ℕ → RecordingState = λ n. record { pass = r.pass; traces = r.traces.items; names = n } in
    let told : IsRecorderFault recorder (recording mine.names) c.give_back.result = c.give_back.ensures mine.table r.pass c.in-Err.ensures.fault in
    let of_recorder : IsRecorderFault c.args.self (recording mine.names) c.give_back.result = subst (λ (s : RecorderState). IsRecorderFault s (recording mine.names) c.give_back.result) c.self.view_is told in
    subst (λ (x : RecordingState). IsRecorderFault c.args.self x c.give_back.result) (ap recording (sym names) ∙ c.recording.view_is) of_recorder
