use Rattle.std.proofs.Common.{◌∙◌, ◌++◌, List, ℕ, ap, sym}
use Rattle.std.specs.Prelude.{string_bytes}
use Rattle.span_names.specs.Folding.{folded_from}
use Rattle.span_names.proofs.FoldingLemmas.{in_word}
use Rattle.span_names.proofs.folding.take_character.Goals as goal

pub returns : goal.returns
returns c rest =
    ap (λ (w : List ℕ). string_bytes c.args.name.now ++ folded_from w rest) c.in_ok-push-2.ensures.bytes
    ∙ ap (λ (w : List ℕ). string_bytes c.args.name.now ++ w) (sym (in_word c.args.character (string_bytes c.args.word.now) rest (sym c.is_between.ensures ∙ c.if-is_between.false)))
