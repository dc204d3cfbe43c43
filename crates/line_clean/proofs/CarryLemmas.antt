-- A line that has not ended, and the pieces that come to it.
use Rattle.std.proofs.Common.{◌≡◌, ◌≤◌, ◌<◌, ◌+◌, ℕ, List, [], ◌∷◌, ◌++◌, Bool, true, false, length, get_or, drop, ap, arith, sym, ◌∙◌, append_assoc}
use Rattle.std.specs.Prelude.{if◌then◌else◌, is_ok, OnOk, Ok, Err, Result}
use Rattle.std.proofs.lemmas.List.{length-append}
use Rattle.event_lines.specs.Cut.{input_lines}
use Rattle.mystery_io.specs.Input.{input_limit}
use Rattle.event_lines.proofs.ClearLineLemmas.{one_clear}
use Rattle.line_clean.specs.declared.carry.Carry.{Carry}
use Rattle.line_clean.specs.Lines.{clean_text}
use Rattle.line_clean.specs.inner.Carrying.{IsCarry, Passes, text_with}
use Rattle.line_clean.proofs.GoodLemmas.{clean_bad, long_bad}
use Rattle.line_clean.proofs.LineLemmas.{both_clear, clear_one, first_joined}

-- what will be printed of a line that is too long already, and of one that is not
pub with_long : (carry : Carry) (later : List ℕ) → carry.is_long ≡ true → text_with carry later ≡ clean_text (drop 1 (input_lines later))
with_long carry later e = ap (λ (b : Bool). if b then clean_text (drop 1 (input_lines later)) else clean_text (input_lines (carry.rest.items ++ later))) e

pub with_rest : (carry : Carry) (later : List ℕ) → carry.is_long ≡ false → text_with carry later ≡ clean_text (input_lines (carry.rest.items ++ later))
with_rest carry later e = ap (λ (b : Bool). if b then clean_text (drop 1 (input_lines later)) else clean_text (input_lines (carry.rest.items ++ later))) e

-- at the beginning of a line
pub with_none : (carry : Carry) (later : List ℕ) → carry.is_long ≡ false → carry.rest.items ≡ [] → text_with carry later ≡ clean_text (input_lines later)
with_none carry later e none = with_rest carry later e ∙ ap (λ (xs : List ℕ). clean_text (input_lines (xs ++ later))) none

-- ---- pieces without a line feed

module _ (old new : Carry) (piece : List ℕ) (h : IsCarry old) (one : input_lines piece ≡ piece ∷ []) where
  -- the line was too long, and stays so
  pub keep_long : old.is_long ≡ true → new ≡ old → Passes [] old piece [] new
  keep_long long same later =
      with_long old (piece ++ later) long ∙ ap (λ (ls : List (List ℕ)). clean_text (drop 1 ls)) (first_joined piece later (one_clear piece one))
      ∙ sym (ap (λ (c : Carry). text_with c later) same ∙ with_long old later long)

  -- it becomes too long
  pub keep_longer : old.is_long ≡ false → new.is_long ≡ true → input_limit < length old.rest.items + length piece → Passes [] old piece [] new
  keep_longer short long passes later =
      let both = old.rest.items ++ piece in
      let clear = both_clear old.rest.items piece (one_clear old.rest.items h.one) (one_clear piece one) in
      let line = both ++ get_or (input_lines later) 0 [] in
      let over : input_limit < length line = omega (arith, passes, length-append both (get_or (input_lines later) 0 []), length-append old.rest.items piece) in
      with_rest old (piece ++ later) short ∙ ap (λ (xs : List ℕ). clean_text (input_lines xs)) (sym (append_assoc old.rest.items piece later))
      ∙ ap clean_text (first_joined both later clear) ∙ clean_bad line (drop 1 (input_lines later)) (long_bad line over) ∙ sym (with_long new later long)

  -- its bytes are kept
  pub carry_more : new.rest.items ≡ old.rest.items ++ piece → length old.rest.items + length piece ≤ input_limit → IsCarry new
  carry_more is fits = record {
    one = ap input_lines is ∙ clear_one (old.rest.items ++ piece) (both_clear old.rest.items piece (one_clear old.rest.items h.one) (one_clear piece one)) ∙ ap (λ (xs : List ℕ). xs ∷ []) (sym is);
    short = omega (arith, ap length is, length-append old.rest.items piece, fits);
  }

-- what follows from what was appended holds where the call went well
pub appended_by : {T E : Type 0} (P : Type 0) (r : Result T E) (xs ys zs : List ℕ) → xs ≡ (if is_ok r then ys else zs) → (xs ≡ ys → P) → OnOk r P
appended_by P (Ok x) xs ys zs e f = f e
appended_by P (Err y) xs ys zs e f = tt

-- ---- one piece after another

pub passes_on : (text mid new : List ℕ) (c d e : Carry) (a b bytes : List ℕ) → bytes ≡ a ++ b → Passes text c a mid d → Passes mid d b new e → Passes text c bytes new e
passes_on text mid new c d e a b bytes is first second later =
    ap (λ (xs : List ℕ). text ++ text_with c xs) (ap (λ xs. xs ++ later) is ∙ append_assoc a b later) ∙ first (b ++ later) ∙ second later

-- nothing was printed
pub passes_kept : (text : List ℕ) (c d : Carry) (piece : List ℕ) → Passes [] c piece [] d → Passes text c piece text d
passes_kept text c d piece h later = ap (λ xs. text ++ xs) (h later)
