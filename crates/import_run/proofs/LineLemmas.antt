-- Event lines of files that are taken one after another.
use Rattle.std.proofs.Common.{◌≡◌, ℕ, suc, ◌+◌, ◌≤◌, ◌++◌, List, [], ◌∷◌, Result, Ok, Err, length, refl, sym, ap, ◌∙◌, arith, append_assoc, append-nil}
use Rattle.std.proofs.lemmas.List.{length-append}
use Rattle.std.proofs.lemmas.List.Sums.{sum_by-append, sum_by-cons}
use Rattle.std.specs.Prelude.{sum_by}
use Rattle.event_lines.specs.InputLines.{LineFault, lines_said}
use Rattle.event_lines.specs.declared.line.Line.{Line}
use Rattle.import_run.specs.Inputs.{FileFault, files_said, files_said_from, said_after}
use Rattle.import_run.specs.inner.Taken.{IsFileFault, IsLineCause}
use Rattle.import_run.specs.declared.form.Form.TheVariants as forms
use Rattle.import_run.specs.declared.outcome.Outcome.{Outcome}
use Rattle.import_run.specs.declared.outcome.Outcome.TheVariants.{Done, Memory, Arguments, BadLine, BadSpan, File, TooMany, Write, Size}

ok_is : {X E : Type 0} {x y : X} (none : X) → ◌≡◌ {A = Result X E} (Ok x) (Ok y) → x ≡ y
ok_is {X} {E} none e = ap value e
  where
    value : Result X E → X
    value (Ok z) = z
    value (Err z) = none

pub said_more : (n : ℕ) (inputs : List (List ℕ)) (bytes : List ℕ) (ls more : List Line) → files_said_from n inputs ≡ Ok ls → lines_said bytes ≡ Ok more → files_said_from n (inputs ++ bytes ∷ []) ≡ Ok (ls ++ more)
said_more n [] bytes ls more e f = ap (λ s. said_after n s (Ok [])) f ∙ ap (λ xs. Ok xs) (append-nil more ∙ ap (λ xs. xs ++ more) (ok_is [] e))
said_more n (x ∷ inputs) bytes ls more e f = by (lines_said x) (files_said_from (n + 1) inputs) refl refl (λ b h. said_more (n + 1) inputs bytes b more h f)
  where
    by : (s : Result (List Line) LineFault) (t : Result (List Line) FileFault) → lines_said x ≡ s → files_said_from (n + 1) inputs ≡ t → ((b : List Line) → files_said_from (n + 1) inputs ≡ Ok b → files_said_from (n + 1) (inputs ++ bytes ∷ []) ≡ Ok (b ++ more))
        → files_said_from n (x ∷ (inputs ++ bytes ∷ [])) ≡ Ok (ls ++ more)
    by (Ok a) (Ok b) p q rest =
        let whole : a ++ b ≡ ls = ok_is [] (sym (λ i. said_after n (p i) (q i)) ∙ e) in
        (λ i. said_after n (p i) (rest b q i)) ∙ ap (λ xs. Ok xs) (sym (append_assoc a b more) ∙ ap (λ xs. xs ++ more) whole)
    by (Ok a) (Err z) p q rest = let w : ◌≡◌ {A = Result (List Line) FileFault} (Err z) (Ok ls) = sym (λ i. said_after n (p i) (q i)) ∙ e in cc
    by (Err z) t p q rest = let w : ◌≡◌ {A = Result (List Line) FileFault} (Err (record { file = n; line = z.line; why = z.why })) (Ok ls) = sym (λ i. said_after n (p i) (q i)) ∙ e in cc

pub said_bad : (n : ℕ) (inputs : List (List ℕ)) (bytes : List ℕ) (ls : List Line) (fault : LineFault) → files_said_from n inputs ≡ Ok ls → lines_said bytes ≡ Err fault
    → files_said_from n (inputs ++ bytes ∷ []) ≡ Err (record { file = n + length inputs; line = fault.line; why = fault.why })
said_bad n [] bytes ls fault e f =
    let same : n ≡ n + 0 = omega arith in
    ap (λ s. said_after n s (Ok [])) f ∙ ap (λ m. Err (record { file = m; line = fault.line; why = fault.why })) same
said_bad n (x ∷ inputs) bytes ls fault e f = by (lines_said x) (files_said_from (n + 1) inputs) refl refl (λ b h. said_bad (n + 1) inputs bytes b fault h f)
  where
    by : (s : Result (List Line) LineFault) (t : Result (List Line) FileFault) → lines_said x ≡ s → files_said_from (n + 1) inputs ≡ t
        → ((b : List Line) → files_said_from (n + 1) inputs ≡ Ok b → files_said_from (n + 1) (inputs ++ bytes ∷ []) ≡ Err (record { file = n + 1 + length inputs; line = fault.line; why = fault.why }))
        → files_said_from n (x ∷ (inputs ++ bytes ∷ [])) ≡ Err (record { file = n + suc (length inputs); line = fault.line; why = fault.why })
    by (Ok a) (Ok b) p q rest =
        let same : n + 1 + length inputs ≡ n + suc (length inputs) = omega arith in
        (λ i. said_after n (p i) (rest b q i)) ∙ ap (λ m. Err (record { file = m; line = fault.line; why = fault.why })) same
    by (Ok a) (Err z) p q rest = let w : ◌≡◌ {A = Result (List Line) FileFault} (Err z) (Ok ls) = sym (λ i. said_after n (p i) (q i)) ∙ e in cc
    by (Err z) t p q rest = let w : ◌≡◌ {A = Result (List Line) FileFault} (Err (record { file = n; line = z.line; why = z.why })) (Ok ls) = sym (λ i. said_after n (p i) (q i)) ∙ e in cc

total_more : (inputs : List (List ℕ)) (bytes : List ℕ) → sum_by length (inputs ++ bytes ∷ []) ≡ sum_by length inputs + length bytes
total_more inputs bytes = omega (arith, sum_by-append length inputs (bytes ∷ []), sum_by-cons length bytes [])

-- the lines of one file more were appended
pub lines_taken : (inputs : List (List ℕ)) (bytes : List ℕ) (old new more : List Line) → (files_said inputs ≡ Ok old) × (length old ≤ sum_by length inputs + length inputs) → lines_said bytes ≡ Ok more → new ≡ old ++ more → length more ≤ length bytes + 1
    → (files_said (inputs ++ bytes ∷ []) ≡ Ok new) × (length new ≤ sum_by length (inputs ++ bytes ∷ []) + length (inputs ++ bytes ∷ []))
lines_taken inputs bytes old new more h said is few = (
  said_more 0 inputs bytes old more h.0 said ∙ ap (λ ls. Ok ls) (sym is),
  omega (arith, h.1, few, ap length is, length-append old more, total_more inputs bytes, length-append inputs (bytes ∷ [])),
)

-- a file more has a bad line
pub line_fault : (inputs : List (List ℕ)) (bytes : List ℕ) (index : ℕ) (old : List Line) (o : Outcome) → files_said inputs ≡ Ok old → length inputs ≡ index → IsLineCause index (lines_said bytes) o → IsFileFault forms.Events index (inputs ++ bytes ∷ []) o
line_fault inputs bytes index old Memory h n c = tt
line_fault inputs bytes index old (BadLine file line why) h n c =
    let same : 0 + length inputs ≡ file = omega (arith, n, c.0) in
    (c.0, (refl, said_bad 0 inputs bytes old (record { line = line; why = why }) h c.1 ∙ ap (λ m. Err (record { file = m; line = line; why = why })) same))
line_fault inputs bytes index old (BadSpan form at reason) h n c = absurd c
line_fault inputs bytes index old (File i) h n c = absurd c
line_fault inputs bytes index old Size h n c = absurd c
line_fault inputs bytes index old TooMany h n c = absurd c
line_fault inputs bytes index old Arguments h n c = absurd c
line_fault inputs bytes index old (Done notes) h n c = absurd c
line_fault inputs bytes index old Write h n c = absurd c
