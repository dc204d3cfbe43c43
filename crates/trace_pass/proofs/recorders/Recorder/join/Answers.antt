use Rattle.std.proofs.Common.{rules, ◌≡◌, ℕ, List, ◌++◌, ap, sym, subst, ◌∙◌}
use Rattle.trace_types.specs.declared.named_trace.NamedTrace.{NamedTrace}
use Rattle.word_rows.specs.declared.entries.Entry.{Entry}
use Rattle.word_rule.specs.Holdings.{Holding}
use Rattle.trace_pass.specs.Rows.{AreRowsWithin}
use Rattle.trace_pass.specs.States.{RecordingState}
use Rattle.trace_pass.proofs.RowLemmas.{have_both}
use Rattle.trace_pass.proofs.recorders.Recorder.join.Goals as goal

pub invariant_of-recording-2 : goal.invariant_of-recording-2
invariant_of-recording-2 c =
    let mine = c.recording.inside in let other = c.other.inside in
    let items : c.append.new.self.items ≡ mine.traces.items ++ other.traces.items = search rules in
    let done : c.join.new.pass.view.done ≡ mine.pass.view.done ++ other.pass.view.done = ap (λ (h : Holding). h.view.done) c.join.ensures.together in
    let names : other.names ≡ mine.names = ap (λ (r : RecordingState). r.names) c.other.view_is ∙ c.requires.other.names ∙ sym c.requires.recording.names ∙ sym (ap (λ (r : RecordingState). r.names) c.recording.view_is) in
    subst (λ (ts : List NamedTrace). AreRowsWithin mine.names ts c.join.new.pass.view.done) (sym items)
    (subst (λ (rs : List (List Entry)). AreRowsWithin mine.names (mine.traces.items ++ other.traces.items) rs) (sym done)
    (have_both mine.names _ _ _ _ c.recording.invariant (subst (λ (n : ℕ). AreRowsWithin n other.traces.items other.pass.view.done) names c.other.invariant)))
