-- A line that loses its last characters, one by one.
use Rattle.std.proofs.Common.{◌≡◌, ℕ, ◌<◌, ◌≤◌, ◌*◌, List, [], ◌++◌, Option, Some, None, IfSome, IfNone, length, refl, sym, ap, ◌∙◌, arith}
use Rattle.std.proofs.lemmas.List.{append_assoc, append-nil, length-append}
use Rattle.std.proofs.lemmas.Str.{encode_same, len_utf8_bounds, length-encode}
use Rattle.std.specs.Prelude.{encode_utf8}
use Rattle.pretty_cli.specs.Lines.{width_of}

-- what is left is the beginning of the whole line, and all of one that is not too wide; with one
-- character more it is too wide
pub record IsShortened (limit : ℕ) (whole line : List ℕ) : Type 0 where
  pub rest : List ℕ
  pub split : whole ≡ line ++ rest
  pub uncut : width_of whole ≤ limit → line ≡ whole
  pub longest : (c : ℕ) (more : List ℕ) → rest ≡ encode_utf8 c ++ more → limit < width_of (line ++ encode_utf8 c)

no_character : (c : ℕ) (more : List ℕ) → [] ≡ encode_utf8 c ++ more → ⊥
no_character c more e = omega (arith, ap length e, length-append (encode_utf8 c) more, length-encode c, len_utf8_bounds c)

pub whole_line : (limit : ℕ) (line : List ℕ) → IsShortened limit line line
whole_line limit line = record {
  rest = [];
  split = sym (append-nil line);
  uncut = λ h. refl;
  longest = λ c more e. absurd (no_character c more e);
}

too_wide : (limit : ℕ) (whole line : List ℕ) → limit < width_of line → line ≡ whole → width_of whole ≤ limit → ⊥
too_wide limit whole line wide e h = omega (arith, ap width_of e)

pub shorter : (limit : ℕ) (whole line now : List ℕ) (popped : Option ℕ) → IsShortened limit whole line → limit < width_of line → width_of line ≤ 2 * length line
    → IfSome popped (λ c. line ≡ now ++ encode_utf8 c) → (n : ℕ) → n ≡ length line → IfNone popped (n ≡ 0) → IsShortened limit whole now
shorter limit whole line now None h wide bound some n is none = absurd (omega (arith, is, none))
shorter limit whole line now (Some ch) h wide bound some n is none = record {
  rest = encode_utf8 ch ++ h.rest;
  split = h.split ∙ ap (λ l. l ++ h.rest) some ∙ append_assoc now (encode_utf8 ch) h.rest;
  uncut = λ narrow. absurd (too_wide limit whole line wide (h.uncut narrow) narrow);
  longest = λ c more e.
      let same = encode_same ch c h.rest more e in
      let wider : width_of (now ++ encode_utf8 c) ≡ width_of line = ap (λ x. width_of (now ++ encode_utf8 x)) (sym same.0) ∙ ap width_of (sym some) in
      omega (arith, wider);
}
