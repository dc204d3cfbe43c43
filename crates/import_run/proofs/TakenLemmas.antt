-- One file more, by what appending it gave.
use Rattle.std.proofs.Common.{◌≡◌, ◌+◌, ◌≤◌, ℕ, List, [], ◌∷◌, ◌++◌, Result, Ok, Err, length, refl, sym, subst, true}
use Rattle.std.specs.Prelude.{IfErr, OnOk, sum_by}
use Rattle.event_lines.specs.InputLines.{lines_said}
use Rattle.event_lines.specs.LineParts.{lines_of_runs}
use Rattle.event_lines.specs.declared.line.Line.{Line}
use Rattle.event_lines.specs.declared.line_run.LineRun.{LineRun}
use Rattle.span_files.specs.declared.file_spans.FileSpans.{FileSpans}
use Rattle.span_files.specs.declared.span_form.SpanForm.{SpanForm}
use Rattle.import_run.specs.Inputs.{files_said}
use Rattle.import_run.specs.declared.form.Form.TheVariants as forms
use Rattle.span_files.specs.SpansOfForms.{spans_by}
use Rattle.import_run.specs.inner.Taken.{HasTaken, IsFileFault, IsLineCause, IsSpanCause, MayStopTaking, TakesSpans, form_of_input, spans_view}
use Rattle.import_run.specs.inner.InputReadings.{HasOneCause, file_faults_after}
use Rattle.import_run.specs.Inputs.{input_limit}
use Rattle.mystery_io.specs.Readings.{Reading}
use Rattle.import_run.specs.declared.input.Input.{Input}
use Rattle.import_run.specs.declared.input.Input.TheVariants.{Spans}
use Rattle.import_run.specs.declared.outcome.Outcome.{Outcome}
use Rattle.import_run.specs.declared.outcome.Outcome.TheVariants.{Done, Memory, Arguments, BadLine, BadSpan, File, TooMany, Write, Size}
use Rattle.import_run.proofs.LineLemmas.{line_fault, lines_taken}
use Rattle.import_run.proofs.SpanLemmas.{span_fault, spans_taken}

abbrev HasLinesOf : List LineRun → List (List ℕ) → Type 0
HasLinesOf runs inputs = (files_said inputs ≡ Ok (lines_of_runs runs)) × (length (lines_of_runs runs) ≤ sum_by length inputs + length inputs)

pub lines_step : {T : Type 0} (r : Result T Outcome) (input : Input) (index : ℕ) (bytes : List ℕ) (old new : List LineRun) → ((inputs : List (List ℕ)) → HasTaken input inputs → HasLinesOf old inputs) → OnOk r ((more : List Line) × (lines_said bytes ≡ Ok more) × (lines_of_runs new ≡ lines_of_runs old ++ more) × (length more ≤ length bytes + 1))
    → OnOk r ((inputs : List (List ℕ)) → length inputs ≡ index → HasTaken input inputs → HasLinesOf new (inputs ++ bytes ∷ []))
lines_step (Err e) input index bytes old new was h = tt
lines_step (Ok x) input index bytes old new was (more, said, same, few) = λ inputs n taken. lines_taken inputs bytes (lines_of_runs old) (lines_of_runs new) more (was inputs taken) said same few

pub lines_stop : {T : Type 0} (r : Result T Outcome) (input : Input) (index : ℕ) (bytes : List ℕ) (old : List LineRun) → ((inputs : List (List ℕ)) → HasTaken input inputs → HasLinesOf old inputs) → form_of_input input ≡ forms.Events → IfErr r (IsLineCause index (lines_said bytes))
    → IfErr r (λ outcome. (inputs : List (List ℕ)) → length inputs ≡ index → HasTaken input inputs → IsFileFault (form_of_input input) index (inputs ++ bytes ∷ []) outcome)
lines_stop (Ok x) input index bytes old was is h = tt
lines_stop (Err o) input index bytes old was is h = λ inputs n taken. subst (λ f. IsFileFault f index (inputs ++ bytes ∷ []) o) (sym is) (line_fault inputs bytes index (lines_of_runs old) o (was inputs taken).0 n h)

pub spans_step : {T : Type 0} (r : Result T Outcome) (input : Input) (index : ℕ) (bytes : List ℕ) (form : SpanForm) (old new : FileSpans) → input ≡ Spans form old → OnOk r (TakesSpans index (spans_by form bytes) old new)
    → OnOk r ((inputs : List (List ℕ)) → length inputs ≡ index → HasTaken input inputs → HasTaken (Spans form new) (inputs ++ bytes ∷ []))
spans_step (Err e) input index bytes form old new is h = tt
spans_step (Ok x) input index bytes form old new is h = λ inputs n taken. spans_taken form inputs bytes index old new (subst (λ i. HasTaken i inputs) is taken) n h

pub spans_stop : {T : Type 0} (r : Result T Outcome) (input : Input) (index : ℕ) (bytes : List ℕ) (form : SpanForm) (old : FileSpans) → input ≡ Spans form old → IfErr r (IsSpanCause form index (spans_by form bytes))
    → IfErr r (λ outcome. (inputs : List (List ℕ)) → length inputs ≡ index → HasTaken input inputs → IsFileFault (form_of_input input) index (inputs ++ bytes ∷ []) outcome)
spans_stop (Ok x) input index bytes form old is h = tt
spans_stop (Err o) input index bytes form old is h = λ inputs n taken. subst (λ i. IsFileFault (form_of_input i) index (inputs ++ bytes ∷ []) o) (sym is) (span_fault form inputs bytes index (spans_view old) o (subst (λ i. HasTaken i inputs) is taken).0 n h)

-- ---- a file more was not taken

pub quiet_taking : (o : Outcome) → MayStopTaking o → (n : ℕ) → file_faults_after o n ≡ n
quiet_taking Memory m n = refl
quiet_taking (BadLine file line why) m n = refl
quiet_taking (BadSpan form at reason) m n = refl
quiet_taking (File i) m n = absurd m
quiet_taking Size m n = absurd m
quiet_taking TooMany m n = absurd m
quiet_taking Arguments m n = absurd m
quiet_taking (Done notes) m n = absurd m
quiet_taking Write m n = absurd m

pub stops_taking : (index size : ℕ) (old : Input) (r : Reading) (o : Outcome) → MayStopTaking o → r.at_end ≡ true → size + length r.bytes ≤ input_limit → ((inputs : List (List ℕ)) → length inputs ≡ index → HasTaken old inputs → IsFileFault (form_of_input old) index (inputs ++ r.bytes ∷ []) o)
    → HasOneCause index size old r o
stops_taking index size old r Memory m a f h = tt
stops_taking index size old r (BadLine file line why) m a f h = record { ended = a; fits = f; fault = h }
stops_taking index size old r (BadSpan form at reason) m a f h = record { ended = a; fits = f; fault = h }
stops_taking index size old r (File i) m a f h = absurd m
stops_taking index size old r Size m a f h = absurd m
stops_taking index size old r TooMany m a f h = absurd m
stops_taking index size old r Arguments m a f h = absurd m
stops_taking index size old r (Done notes) m a f h = absurd m
stops_taking index size old r Write m a f h = absurd m
