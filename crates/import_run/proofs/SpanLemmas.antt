-- Spans of files that are taken one after another.
use Rattle.std.proofs.Common.{◌≡◌, ℕ, suc, ◌+◌, ◌++◌, List, [], ◌∷◌, Result, Ok, Err, length, map, refl, sym, ap, ◌∙◌, arith, append_assoc, append-nil}
use Rattle.std.proofs.lemmas.List.{length-append, length-map}
use Rattle.span_text.specs.declared.placed.Fault.{Fault}
use Rattle.span_text.specs.declared.placed.Placed.{Placed}
use Rattle.span_files.specs.SpansOfForms.{spans_by}
use Rattle.span_files.specs.InputSpans.{FileFault, InputSpans, input_said, place_in, said_after, said_from, span_of}
use Rattle.span_files.specs.declared.file_spans.FileSpans.{FileSpans}
use Rattle.span_files.specs.declared.span_form.SpanForm.{SpanForm}
use Rattle.import_run.specs.inner.Taken.{IsFileFault, IsSpanCause, TakesSpans, spans_view}
use Rattle.import_run.specs.declared.form.Form.TheVariants as forms
use Rattle.import_run.specs.declared.span_reason.SpanReason.TheVariants.{Unreadable, RepeatedId, Circle}
use Rattle.import_run.specs.declared.outcome.Outcome.{Outcome}
use Rattle.import_run.specs.declared.outcome.Outcome.TheVariants.{Done, Memory, Arguments, BadLine, BadSpan, File, TooMany, Write, Size}

abbrev none : InputSpans
none = record { spans = []; places = [] }

ok_is : {X E : Type 0} {x y : X} (other : X) → ◌≡◌ {A = Result X E} (Ok x) (Ok y) → x ≡ y
ok_is {X} {E} other e = ap value e
  where
    value : Result X E → X
    value (Ok z) = z
    value (Err z) = other

-- spans, and behind them those of the file with this index
abbrev with_more : ℕ → InputSpans → List Placed → InputSpans
with_more n s more = record { spans = s.spans ++ map span_of more; places = s.places ++ map (place_in n) more }

said_more : (form : SpanForm) (n : ℕ) (inputs : List (List ℕ)) (bytes : List ℕ) (s : InputSpans) (more : List Placed) → said_from form n inputs ≡ Ok s → spans_by form bytes ≡ Ok more → said_from form n (inputs ++ bytes ∷ []) ≡ Ok (with_more (n + length inputs) s more)
said_more form n [] bytes s more e f =
    let is : none ≡ s = ok_is none e in
    let at : n ≡ n + 0 = omega arith in
    ap (λ r. said_after n r (Ok none)) f ∙ (λ i. Ok (record { spans = append-nil (map span_of more) i; places = append-nil (map (place_in n) more) i })) ∙ (λ i. Ok (with_more (at i) (is i) more))
said_more form n (x ∷ inputs) bytes s more e f = by (spans_by form x) (said_from form (n + 1) inputs) refl refl (λ b h. said_more form (n + 1) inputs bytes b more h f)
  where
    by : (a : Result (List Placed) Fault) (t : Result InputSpans FileFault) → spans_by form x ≡ a → said_from form (n + 1) inputs ≡ t → ((b : InputSpans) → said_from form (n + 1) inputs ≡ Ok b → said_from form (n + 1) (inputs ++ bytes ∷ []) ≡ Ok (with_more (n + 1 + length inputs) b more))
        → said_from form n (x ∷ (inputs ++ bytes ∷ [])) ≡ Ok (with_more (n + suc (length inputs)) s more)
    by (Ok a) (Ok b) p q rest =
        let whole : said_record a b ≡ s = ok_is none (sym (λ i. said_after n (p i) (q i)) ∙ e) in
        let at : n + 1 + length inputs ≡ n + suc (length inputs) = omega arith in
        (λ i. said_after n (p i) (rest b q i)) ∙ (λ i. Ok (record { spans = sym (append_assoc (map span_of a) b.spans (map span_of more)) i; places = sym (append_assoc (map (place_in n) a) b.places (map (place_in (n + 1 + length inputs)) more)) i })) ∙ (λ i. Ok (with_more (at i) (whole i) more))
      where
        said_record : List Placed → InputSpans → InputSpans
        said_record u v = record { spans = map span_of u ++ v.spans; places = map (place_in n) u ++ v.places }
    by (Ok a) (Err z) p q rest = let w : ◌≡◌ {A = Result InputSpans FileFault} (Err z) (Ok s) = sym (λ i. said_after n (p i) (q i)) ∙ e in cc
    by (Err z) t p q rest = let w : ◌≡◌ {A = Result InputSpans FileFault} (Err (record { file = n; fault = z })) (Ok s) = sym (λ i. said_after n (p i) (q i)) ∙ e in cc

said_bad : (form : SpanForm) (n : ℕ) (inputs : List (List ℕ)) (bytes : List ℕ) (s : InputSpans) (fault : Fault) → said_from form n inputs ≡ Ok s → spans_by form bytes ≡ Err fault → said_from form n (inputs ++ bytes ∷ []) ≡ Err (record { file = n + length inputs; fault = fault })
said_bad form n [] bytes s fault e f =
    let at : n ≡ n + 0 = omega arith in
    ap (λ r. said_after n r (Ok none)) f ∙ ap (λ m. Err (record { file = m; fault = fault })) at
said_bad form n (x ∷ inputs) bytes s fault e f = by (spans_by form x) (said_from form (n + 1) inputs) refl refl (λ b h. said_bad form (n + 1) inputs bytes b fault h f)
  where
    by : (a : Result (List Placed) Fault) (t : Result InputSpans FileFault) → spans_by form x ≡ a → said_from form (n + 1) inputs ≡ t → ((b : InputSpans) → said_from form (n + 1) inputs ≡ Ok b → said_from form (n + 1) (inputs ++ bytes ∷ []) ≡ Err (record { file = n + 1 + length inputs; fault = fault }))
        → said_from form n (x ∷ (inputs ++ bytes ∷ [])) ≡ Err (record { file = n + suc (length inputs); fault = fault })
    by (Ok a) (Ok b) p q rest =
        let at : n + 1 + length inputs ≡ n + suc (length inputs) = omega arith in
        (λ i. said_after n (p i) (rest b q i)) ∙ ap (λ m. Err (record { file = m; fault = fault })) at
    by (Ok a) (Err z) p q rest = let w : ◌≡◌ {A = Result InputSpans FileFault} (Err z) (Ok s) = sym (λ i. said_after n (p i) (q i)) ∙ e in cc
    by (Err z) t p q rest = let w : ◌≡◌ {A = Result InputSpans FileFault} (Err (record { file = n; fault = z })) (Ok s) = sym (λ i. said_after n (p i) (q i)) ∙ e in cc

-- the spans of one file more were appended
pub spans_taken : (form : SpanForm) (inputs : List (List ℕ)) (bytes : List ℕ) (index : ℕ) (old new : FileSpans) → (input_said form inputs ≡ Ok (spans_view old)) × (length old.spans.items ≡ length old.places.items) → length inputs ≡ index → TakesSpans index (spans_by form bytes) old new
    → (input_said form (inputs ++ bytes ∷ []) ≡ Ok (spans_view new)) × (length new.spans.items ≡ length new.places.items)
spans_taken form inputs bytes index old new h n (more, said, is) =
    let at : 0 + length inputs ≡ index = omega (arith, n) in (
      said_more form 0 inputs bytes (spans_view old) more h.0 said ∙ (λ i. Ok (with_more (at i) (spans_view old) more)) ∙ (λ i. Ok (record { spans = sym is.spans i; places = sym is.places i })),
      omega (arith, h.1, ap length is.spans, ap length is.places, length-append old.spans.items (map span_of more), length-append old.places.items (map (place_in index) more), length-map more span_of, length-map more (place_in index)),
    )

-- a file more is bad
pub span_fault : (form : SpanForm) (inputs : List (List ℕ)) (bytes : List ℕ) (index : ℕ) (old : InputSpans) (o : Outcome) → input_said form inputs ≡ Ok old → length inputs ≡ index → IsSpanCause form index (spans_by form bytes) o → IsFileFault (forms.Spans form) index (inputs ++ bytes ∷ []) o
span_fault form inputs bytes index old Memory h n c = tt
span_fault form inputs bytes index old (BadSpan of_form at (Unreadable why)) h n c =
    let same : 0 + length inputs ≡ at.file = omega (arith, n, c.1) in
    (c.1, (ap (λ f. forms.Spans f) c.0, ap (λ f. input_said f (inputs ++ bytes ∷ [])) (sym c.0) ∙ said_bad form 0 inputs bytes old (record { place = at.place; why = why }) h c.2 ∙ ap (λ m. Err (record { file = m; fault = record { place = at.place; why = why } })) same))
span_fault form inputs bytes index old (BadSpan of_form at RepeatedId) h n c = absurd c
span_fault form inputs bytes index old (BadSpan of_form at Circle) h n c = absurd c
span_fault form inputs bytes index old (BadLine file line why) h n c = absurd c
span_fault form inputs bytes index old (File i) h n c = absurd c
span_fault form inputs bytes index old Size h n c = absurd c
span_fault form inputs bytes index old TooMany h n c = absurd c
span_fault form inputs bytes index old Arguments h n c = absurd c
span_fault form inputs bytes index old (Done notes) h n c = absurd c
span_fault form inputs bytes index old Write h n c = absurd c
