use Rattle.std.proofs.Common.{◌≡◌, [], ◌∷◌, arith, rules, sym, ap, ◌∙◌}
use Rattle.json.specs.Token.{Token}
use Rattle.json.specs.Lex.{tokens}
use Rattle.event_lines.proofs.JsonValueLemmas.{json_value-utf8}
use Rattle.event_lines.proofs.FlatReadingLemmas.{flat_read}
use Rattle.event_lines.proofs.flat_lines.read_object.Goals as goal

pub returns : goal.returns
returns c =
    let text : c.in-Ok.text.now ≡ c.args.line.now = c.in-Ok.ensures.0 in
    let opened : tokens c.in-Ok.text.now ≡ Token.begin_object ∷ c.next.new.self = grind arith in
    let none : c.read_members.new.reader ≡ [] = search rules in
    let found = c.in-Some.ensures in
    (found.0, found.1, json_value-utf8 c.args.line.now c.in-Ok.ensures.1 ∙ flat_read c.args.line.now c.next.new.self found.0 (ap tokens (sym text) ∙ opened) (rw none at found.2))
