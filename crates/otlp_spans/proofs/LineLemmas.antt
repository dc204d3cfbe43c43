-- Lines that are read one after another.
use Rattle.std.proofs.Common.{◌≡◌, ℕ, List, ◌∷◌, ◌++◌, Result, Ok, Err, refl, sym, ap, ◌∙◌, append_assoc}
use Rattle.span_text.specs.declared.placed.Placed.{Placed}
use Rattle.span_text.specs.declared.placed.Fault.{Fault}
use Rattle.span_text.specs.Outcomes.{◌>>=◌, after}
use Rattle.otlp_spans.specs.SpansOfFiles.{line_said, lines_said}

joins : (old new : List Placed) (first others : Result (List Placed) Fault) → after old first ≡ Ok new → after old (first >>= λ xs. others >>= λ ys. Ok (xs ++ ys)) ≡ after new others
joins old new (Ok xs) (Ok ys) e = let same : old ++ xs ≡ new = cc in ap Ok (sym (append_assoc old xs ys) ∙ ap (λ zs. zs ++ ys) same)
joins old new (Ok xs) (Err why) e = refl
joins old new (Err why) others e = absurd (cc)

-- the first of the lines that were left was read
pub line_read : (left later : List (ℕ × List ℕ)) (line : ℕ × List ℕ) (old new : List Placed) (all : Result (List Placed) Fault) → left ≡ line ∷ later → after old (line_said line) ≡ Ok new
    → after old (lines_said left) ≡ all → after new (lines_said later) ≡ all
line_read left later line old new all is read told = sym (joins old new (line_said line) (lines_said later) read) ∙ ap (λ ls. after old (lines_said ls)) (sym is) ∙ told
