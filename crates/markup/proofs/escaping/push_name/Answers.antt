use Rattle.std.proofs.Common.{List, ℕ, ◌++◌, ◌∙◌, ap, sym}
use Rattle.std.specs.Prelude.{encode_utf8_all}
use Rattle.std.specs.List.{flat_map}
use Rattle.std.proofs.lemmas.Iterator.{YieldsList-from_chars}
use Rattle.std.proofs.lemmas.Iterator.Consumers.{YieldsList-end}
use Rattle.std.proofs.lemmas.List.{append_assoc}
use Rattle.markup.specs.Escapes.{escaped, escaped_sign}
use Rattle.markup.proofs.EscapeLemmas.{map_id, signs_append}
use Rattle.markup.proofs.escaping.push_name.Goals as goal

pub loop-sign-preserved : goal.loop-sign-preserved
loop-sign-preserved c =
    let before = encode_utf8_all (flat_map escaped_sign c.loop-sign.yielded) in
    let now = encode_utf8_all (escaped_sign c.in-Some.sign) in
    c.in_ok-push_sign.ensures ∙ ap (λ (xs : List ℕ). xs ++ now) c.loop-sign.invariant ∙ append_assoc c.args.bytes.now.items before now
    ∙ ap (λ (xs : List ℕ). c.args.bytes.now.items ++ xs) (sym (signs_append c.loop-sign.yielded c.in-Some.sign))

pub returns : goal.returns
unfolding escaped
returns c =
    let t = YieldsList-end (YieldsList-from_chars c.args.name.now c.utf8.name cc) c.loop-sign.yielded _ c.loop-sign.yielded_by _ _ c.in-None.is c.next.ensures.steps in
    c.loop-sign.invariant ∙ ap (λ (xs : List ℕ). c.args.bytes.now.items ++ encode_utf8_all (flat_map escaped_sign xs)) (sym (map_id c.loop-sign.yielded) ∙ t.0)
