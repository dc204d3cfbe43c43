-- What a status says of the outcome.
use Rattle.std.proofs.Common.{◌≡◌, ◌⊎◌, ℕ, Option, Some, None, length, arith, inl, inr, ap, subst, sym, ◌∙◌}
use Rattle.event_lines.specs.declared.why.Why.{Why}
use Rattle.span_files.specs.declared.span_form.SpanForm.{SpanForm}
use Rattle.span_files.specs.declared.span_place.SpanPlace.{SpanPlace}
use Rattle.import_run.specs.CommandLines.{Call, call_of}
use Rattle.import_run.specs.Endings.{Explains, IsText, Seen}
use Rattle.import_run.specs.Messages.{message_of, notes_text, status_of}
use Rattle.import_run.specs.declared.form.Form.TheVariants as forms
use Rattle.import_run.specs.declared.notes.Notes.{Notes}
use Rattle.import_run.specs.declared.span_reason.SpanReason.{SpanReason}
use Rattle.import_run.specs.declared.outcome.Outcome.{Outcome}
use Rattle.import_run.specs.declared.outcome.Outcome.TheVariants.{Done, Memory, Arguments, BadLine, BadSpan, File, TooMany, Write, Size}

-- with 0 the run is done
pub of_done : (P : Outcome → Type 0) (o : Outcome) (n : ℕ) → n ≡ status_of o → P o → n ≡ 0 → (notes : Notes) × P (Done notes)
of_done P (Done notes) n e h k = (notes, h)
of_done P Memory n e h k = absurd (omega (arith, e, k))
of_done P Arguments n e h k = absurd (omega (arith, e, k))
of_done P (BadLine file line why) n e h k = absurd (omega (arith, e, k))
of_done P (BadSpan form at reason) n e h k = absurd (omega (arith, e, k))
of_done P (File index) n e h k = absurd (omega (arith, e, k))
of_done P Write n e h k = absurd (omega (arith, e, k))
of_done P Size n e h k = absurd (omega (arith, e, k))
of_done P TooMany n e h k = absurd (omega (arith, e, k))

-- with 3 a line or a span is bad
pub of_bad : (P : Outcome → Type 0) (o : Outcome) (n : ℕ) → n ≡ status_of o → P o → n ≡ 3
    → ((file line : ℕ) × (why : Why) × P (BadLine file line why)) ⊎ ((form : SpanForm) × (at : SpanPlace) × (reason : SpanReason) × P (BadSpan form at reason))
of_bad P (Done notes) n e h k = absurd (omega (arith, e, k))
of_bad P Memory n e h k = absurd (omega (arith, e, k))
of_bad P Arguments n e h k = absurd (omega (arith, e, k))
of_bad P (BadLine file line why) n e h k = inl (file, line, why, h)
of_bad P (BadSpan form at reason) n e h k = inr (form, at, reason, h)
of_bad P (File index) n e h k = absurd (omega (arith, e, k))
of_bad P Write n e h k = absurd (omega (arith, e, k))
of_bad P Size n e h k = absurd (omega (arith, e, k))
of_bad P TooMany n e h k = absurd (omega (arith, e, k))

some_is : {X : Type 0} {x y : X} → ◌≡◌ {A = Option X} (Some x) (Some y) → x ≡ y
some_is {X} {x} e = ap value e
  where
    value : Option X → X
    value (Some z) = z
    value None = x

-- nothing is told of event lines that were written
pub quiet : (o : Outcome) (n : ℕ) (seen : Seen) (call : Call) → n ≡ status_of o → n ≡ 0 → Explains o seen → call_of seen.words ≡ Some call → call.form ≡ forms.Events → length (message_of o) ≡ 0
quiet (Done notes) n seen call e k (text, h, w) is form =
    let same : h.call ≡ call = some_is (sym h.called ∙ is) in
    let told : IsText forms.Events h.call.asked seen.files h.call.names text notes = subst (λ f. IsText f h.call.asked seen.files h.call.names text notes) (ap (λ (c : Call). c.form) same ∙ form) h.told in
    ap (λ m. length (notes_text m)) told.3
quiet Memory n seen call e k h is form = absurd (omega (arith, e, k))
quiet Arguments n seen call e k h is form = absurd (omega (arith, e, k))
quiet (BadLine file line why) n seen call e k h is form = absurd (omega (arith, e, k))
quiet (BadSpan form_of at reason) n seen call e k h is form = absurd (omega (arith, e, k))
quiet (File index) n seen call e k h is form = absurd (omega (arith, e, k))
quiet Write n seen call e k h is form = absurd (omega (arith, e, k))
quiet Size n seen call e k h is form = absurd (omega (arith, e, k))
quiet TooMany n seen call e k h is form = absurd (omega (arith, e, k))
