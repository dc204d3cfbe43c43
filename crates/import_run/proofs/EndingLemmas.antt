-- How runs end, by what was read and what was written.
use Rattle.std.proofs.Common.{◌≡◌, ℕ, ◌<◌, List, [], ◌∷◌, Option, Some, length, refl, sym, subst, arith, true, false, Bool, cond}
use Rattle.std.specs.Prelude.{position}
use Rattle.std.proofs.lemmas.List.{length-map}
use Rattle.std.proofs.lemmas.List.Quantifiers.{position-Some}
use Rattle.event_lines.specs.declared.line.Line.{Line}
use Rattle.event_rewrite.specs.WithoutWaits.{without_waits}
use Rattle.event_text.specs.LineTexts.{lines_text}
use Rattle.span_types.specs.declared.span.Span.{Span}
use Rattle.span_files.specs.InputSpans.{InputSpans}
use Rattle.span_files.specs.declared.span_form.SpanForm.{SpanForm}
use Rattle.span_lines.specs.FoldedSpans.{folded_span, folded_spans}
use Rattle.span_lines.specs.SpanTexts.{AreSpanLines}
use Rattle.span_lines.specs.declared.span_text.SpanText.{SpanText}
use Rattle.span_requests.specs.Callers.{is_endless}
use Rattle.span_requests.specs.SpansOnce.{repeats_id, spans_once}
use Rattle.span_requests.specs.Faults.{IsFaultOf}
use Rattle.span_requests.specs.declared.span_fault.SpanFault.{SpanFault}
use Rattle.span_requests.specs.declared.span_fault.SpanFault.TheVariants as faults
use Rattle.import_run.specs.CommandLines.{Asked, Call, call_of}
use Rattle.import_run.specs.Endings.{Explains, HasLines, HasSpans, IsText, Seen, StopsReading, named_spans}
use Rattle.import_run.specs.Messages.{no_notes}
use Rattle.import_run.specs.inner.Leaving.{IsFaultOutcome, IsWithin, WritesSpans, WritesText}
use Rattle.import_run.specs.declared.form.Form.TheVariants as forms
use Rattle.import_run.specs.declared.span_reason.SpanReason.TheVariants.{Unreadable, RepeatedId, Circle}
use Rattle.import_run.specs.declared.outcome.Outcome.{Outcome}
use Rattle.import_run.specs.declared.outcome.Outcome.TheVariants.{Done, Memory, Arguments, BadLine, BadSpan, File, TooMany, Write, Size}

-- ---- spans

pub named_count : (asked : Asked) (spans : List Span) → length (named_spans asked spans) ≡ length spans
named_count asked spans = by asked.fold
  where
    by : (b : Bool) → length (cond b (folded_spans spans) spans) ≡ length spans
    by true = length-map spans folded_span
    by false = refl

within : {X : Type 0} (p : X → Bool) (xs : List X) (i : ℕ) → position p xs ≡ Some i → i < length xs
within p [] i h = absurd (cc)
within p (x ∷ xs) i h = (position-Some p (x ∷ xs) i x h).0

-- the index of a fault is that of a span
pub fault_within : (asked : Asked) (spans : List Span) (count : ℕ) (fault : SpanFault) → length spans ≡ count → IsFaultOf (named_spans asked spans) fault → IsWithin count fault
fault_within asked spans count faults.Memory n f = tt
fault_within asked spans count (faults.RepeatedId i) n f = omega (arith, n, named_count asked spans, within (repeats_id (named_spans asked spans)) (named_spans asked spans) i f)
fault_within asked spans count (faults.Circle i) n f = omega (arith, n, named_count asked spans, within (is_endless (spans_once (named_spans asked spans))) (named_spans asked spans) i f.1)

-- the text of spans was written, or a prefix of it
pub text_written : (o : Outcome) (form : SpanForm) (asked : Asked) (spans : InputSpans) (t : SpanText) (before now : Option (List ℕ)) → AreSpanLines asked.grace asked.entry (named_spans asked spans.spans) t → WritesText o t.text.items (record { missing = t.missing; long = t.long }) before now
    → WritesSpans o form asked spans before now
text_written (Done told) form asked spans t before now lines w = (t.text.items, (t, lines, refl, w.0), w.1)
text_written Write form asked spans t before now lines w = (t.text.items, record { missing = t.missing; long = t.long }, (t, lines, refl, refl), w)
text_written Memory form asked spans t before now lines w = w
text_written Arguments form asked spans t before now lines w = absurd w
text_written (BadLine file line why) form asked spans t before now lines w = absurd w
text_written (BadSpan of_form at reason) form asked spans t before now lines w = absurd w
text_written (File index) form asked spans t before now lines w = absurd w
text_written Size form asked spans t before now lines w = absurd w
text_written TooMany form asked spans t before now lines w = absurd w

-- spans have a fault
pub fault_written : (form : SpanForm) (asked : Asked) (spans : InputSpans) (fault : SpanFault) (o : Outcome) (before : Option (List ℕ)) → IsFaultOf (named_spans asked spans.spans) fault → IsFaultOutcome form spans.places fault o → WritesSpans o form asked spans before before
fault_written form asked spans faults.Memory o before f h = subst (λ p. WritesSpans p form asked spans before before) (sym h) refl
fault_written form asked spans (faults.RepeatedId n) o before f (at, e, h) = subst (λ p. WritesSpans p form asked spans before before) (sym e) ((refl, (n, f, h)), refl)
fault_written form asked spans (faults.Circle n) o before f (at, e, h) = subst (λ p. WritesSpans p form asked spans before before) (sym e) ((refl, (n, f, h)), refl)

-- ---- runs

module _ (seen : Seen) (call : Call) (called : call_of seen.words ≡ Some call) where
  -- reading ended before all files were read
  pub stops_explained : (o : Outcome) → StopsReading call.form o seen.files call.names → seen.written_now ≡ seen.written_before → Explains o seen
  stops_explained Memory c w = record { call = call; called = called; reading = c; written = w }
  stops_explained (File index) c w = record { call = call; called = called; reading = c; written = w }
  stops_explained Size c w = record { call = call; called = called; reading = c; written = w }
  stops_explained (BadLine file line why) c w = record { call = call; called = called; reading = c; written = w }
  stops_explained (BadSpan form at (Unreadable why)) c w = record { call = call; called = called; reading = c; written = w }
  stops_explained (BadSpan form at RepeatedId) c w = absurd c.1
  stops_explained (BadSpan form at Circle) c w = absurd c.1
  stops_explained TooMany c w = absurd c
  stops_explained Arguments c w = absurd c
  stops_explained (Done notes) c w = absurd c
  stops_explained Write c w = absurd c

  -- event lines were read
  module _ (lines : List Line) (is_form : call.form ≡ forms.Events) (has : HasLines seen.files call.names lines) where
    abbrev text : List ℕ
    text = lines_text (without_waits lines)

    pub lines_explained : (o : Outcome) → WritesText o text no_notes seen.written_before seen.written_now → Explains o seen
    lines_explained (Done told) w = (text, record { call = call; called = called; told = subst (λ f. IsText f call.asked seen.files call.names text told) (sym is_form) (lines, has, refl, w.0) }, w.1)
    lines_explained Write w = (text, no_notes, record { call = call; called = called; told = subst (λ f. IsText f call.asked seen.files call.names text no_notes) (sym is_form) (lines, has, refl, refl) }, w)
    lines_explained Memory w = record { call = call; called = called; reading = (length call.names, has.read.opened); written = w }
    lines_explained Arguments w = absurd w
    lines_explained (BadLine file line why) w = absurd w
    lines_explained (BadSpan form at reason) w = absurd w
    lines_explained (File index) w = absurd w
    lines_explained Size w = absurd w
    lines_explained TooMany w = absurd w

  -- spans were read
  module _ (form : SpanForm) (spans : InputSpans) (is_form : call.form ≡ forms.Spans form) (has : HasSpans form seen.files call.names spans) where
    pub spans_explained : (o : Outcome) → WritesSpans o form call.asked spans seen.written_before seen.written_now → Explains o seen
    spans_explained (Done told) (text, h, w) = (text, record { call = call; called = called; told = subst (λ f. IsText f call.asked seen.files call.names text told) (sym is_form) (spans, has, h) }, w)
    spans_explained Write (text, told, h, w) = (text, told, record { call = call; called = called; told = subst (λ f. IsText f call.asked seen.files call.names text told) (sym is_form) (spans, has, h) }, w)
    spans_explained Memory w = record { call = call; called = called; reading = (length call.names, has.read.opened); written = w }
    spans_explained (BadSpan of_form at (Unreadable why)) w = absurd w.0
    spans_explained (BadSpan of_form at RepeatedId) w = record { call = call; called = called; form = form; is_form = is_form; spans = spans; read = has; cause = w.0; written = w.1 }
    spans_explained (BadSpan of_form at Circle) w = record { call = call; called = called; form = form; is_form = is_form; spans = spans; read = has; cause = w.0; written = w.1 }
    spans_explained TooMany w = record { call = call; called = called; form = form; is_form = is_form; spans = spans; read = has; cause = w.0; written = w.1 }
    spans_explained Arguments w = absurd w
    spans_explained (BadLine file line why) w = absurd w
    spans_explained (File index) w = absurd w
    spans_explained Size w = absurd w
