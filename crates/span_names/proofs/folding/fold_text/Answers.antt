use Rattle.std.proofs.Common.{◌∙◌, ◌+◌, ◌++◌, [], List, ℕ, ap, arith, drop, length, sym}
use Rattle.std.specs.Prelude.{string_bytes}
use Rattle.std.specs.Str.{chars}
use Rattle.std.proofs.lemmas.Iterator.{YieldsList-from_chars}
use Rattle.std.proofs.lemmas.Iterator.Consumers.{YieldsList-end, YieldsList-turn}
use Rattle.std.proofs.lemmas.List.{length_push}
use Rattle.std.proofs.lemmas.Str.{encodes-chars}
use lib.Utf8.{encodes}
use Rattle.span_names.specs.Folding.{folded_from, folded_word}
use Rattle.span_names.proofs.FoldingLemmas.{next_char, no_char}
use Rattle.span_names.proofs.folding.fold_text.Goals as goal

pub loop-character-init : goal.loop-character-init
loop-character-init c =
    ap (λ (f : List ℕ). f ++ folded_from (string_bytes c.new-word.result) (encodes (drop 0 (chars c.args.name.now)))) c.new-folded.ensures.bytes
    ∙ ap (λ (w : List ℕ). folded_from w (encodes (drop 0 (chars c.args.name.now)))) c.new-word.ensures.bytes
    ∙ ap (folded_from []) (encodes-chars c.args.name.now c.utf8.name)

pub loop-character-preserved : goal.loop-character-preserved
loop-character-preserved c =
    let t = YieldsList-turn (YieldsList-from_chars c.args.name.now c.utf8.name cc) c.loop-character.yielded _ c.loop-character.yielded_by _ _ c.in-Some.character c.in-Some.is c.next.ensures.steps in
    let cs = chars c.args.name.now in
    let n = length c.loop-character.yielded in
    ap (λ k. string_bytes c.take_character.new.name ++ folded_from (string_bytes c.take_character.new.word) (encodes (drop k cs))) (length_push c.loop-character.yielded c.in-Some.character)
    ∙ c.in_ok-take_character.ensures (encodes (drop (n + 1) cs))
    ∙ ap (λ (r : List ℕ). string_bytes c.loop-character.folded ++ folded_from (string_bytes c.loop-character.word) r) (sym (next_char cs n c.in-Some.character t.0 t.1))
    ∙ c.loop-character.invariant

pub returns : goal.returns
returns c =
    let t = YieldsList-end (YieldsList-from_chars c.args.name.now c.utf8.name cc) c.loop-character.yielded _ c.loop-character.yielded_by _ _ c.in-None.is c.next.ensures.steps in
    let cs = chars c.args.name.now in
    let w = string_bytes c.loop-character.word in
    c.in_ok-push_word.ensures ∙ ap (λ (x : List ℕ). string_bytes c.loop-character.folded ++ folded_word x) c.as_str.ensures.value
    ∙ ap (λ (x : List ℕ). string_bytes c.loop-character.folded ++ x) (sym (no_char cs w (length c.loop-character.yielded) (omega (arith, t.1))))
    ∙ c.loop-character.invariant
