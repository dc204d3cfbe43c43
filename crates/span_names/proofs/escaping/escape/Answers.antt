use Rattle.std.proofs.Common.{◌∙◌, ap, sym}
use Rattle.std.specs.List.{flat_map}
use Rattle.std.proofs.lemmas.Iterator.{YieldsList-from_chars}
use Rattle.std.proofs.lemmas.Iterator.Consumers.{YieldsList-end}
use Rattle.span_names.specs.inner.Characters.{escaped_char}
use Rattle.span_names.proofs.CharacterLemmas.{escaped_chars, map_id}
use Rattle.span_names.proofs.escaping.escape.Goals as goal

pub returns : goal.returns
returns c =
    let t = YieldsList-end (YieldsList-from_chars c.args.text.now c.utf8.text cc) c.loop-character.yielded _ c.loop-character.yielded_by _ _ c.in-None.is c.next.ensures.steps in
    c.loop-character.invariant ∙ ap (flat_map escaped_char) (sym (map_id c.loop-character.yielded) ∙ t.0) ∙ escaped_chars c.args.text.now c.utf8.text
