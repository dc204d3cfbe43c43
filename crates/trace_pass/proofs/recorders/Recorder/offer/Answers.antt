use Rattle.std.proofs.Common.{rules, ◌≡◌, ◌<◌, ℕ, true, length, List, [], ◌∷◌, ◌++◌, ap, sym, subst, ◌∙◌}
use Rattle.hypothesis_index.specs.Places.{width_of}
use Rattle.trace_types.specs.declared.named_trace.NamedTrace.{NamedTrace}
use Rattle.word_rows.specs.declared.entries.Entry.{Entry}
use Rattle.word_rows.specs.declared.views.View.{View}
use Rattle.word_rows.specs.Rows.{below}
use Rattle.word_rows.specs.declared.events.StepEvent.{StepEvent}
use Rattle.word_rule.specs.Histories.{IsClearBetween, offered_until}
use Rattle.trace_pass.specs.Rows.{AreRowsWithin}
use Rattle.trace_pass.specs.States.{RecorderState, RecordingState}
use Rattle.trace_pass.proofs.RowLemmas.{have_more}
use Rattle.trace_pass.proofs.recorders.Recorder.offer.Goals as goal

abbrev Stands : RecorderState → RecordingState → List Entry → List (List StepEvent) → Type 0
Stands s r row pasts = (k : ℕ) → k < length row → IsClearBetween s.table.width s.table.all r.pass.pasts (offered_until r.pass.view row k) row pasts

pub invariant_of-recording-2 : goal.invariant_of-recording-2
invariant_of-recording-2 c =
    let mine = c.recording.inside in let row = c.in-Ok.row in let t = c.args.trace in
    let items : c.push_reserved.new.self.items ≡ mine.traces.items ++ t ∷ [] = search rules in
    let done : c.offer.new.pass.view.done ≡ mine.pass.view.done ++ row ∷ [] = ap (λ (v : View). v.done) c.offer.ensures.done in
    let within : below (width_of mine.names) row ≡ true =
    subst (λ (n : ℕ). below (width_of n) row ≡ true) (sym c.requires.table.names ∙ sym (ap (λ (r : RecordingState). r.names) c.recording.view_is)) (c.in-Ok.ensures.fits c.args.self.now.names c.requires.names) in
    subst (λ (ts : List NamedTrace). AreRowsWithin mine.names ts c.offer.new.pass.view.done) (sym items)
    (subst (λ (rs : List (List Entry)). AreRowsWithin mine.names (mine.traces.items ++ t ∷ []) rs) (sym done)
    (have_more mine.names _ t _ row c.recording.invariant c.in-Ok.ensures.exact within))

pub returns-clause-ok : goal.returns-clause-ok
returns-clause-ok c = record {
  row = c.in-Ok.row;
  whole = c.in-Ok.ensures.exact;
  table_id = search rules;
  view = search rules;
  stands =
      subst (λ (s : RecorderState). Stands s c.args.recording.now c.in-Ok.row c.offer.new.pass.pasts) c.self.view_is
      (subst (λ (r : RecordingState). Stands (record { table = c.self.inside.table; names = c.self.inside.names }) r c.in-Ok.row c.offer.new.pass.pasts) c.recording.view_is
      c.offer.ensures.stands);
  more = search rules;
  one = search rules;
  traces = search rules;
  names = search rules;
}
