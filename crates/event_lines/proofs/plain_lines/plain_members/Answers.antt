use Rattle.std.proofs.Common.{◌≡◌, drop, get_or, sym, ap, ◌∙◌, subst}
use Rattle.json.specs.Lex.{lex, between}
use Rattle.event_lines.proofs.PlainObjectLemmas.{some_object}
use Rattle.event_lines.proofs.plain_lines.plain_members.Goals as goal

pub returns-clause-members : goal.returns-clause-members
returns-clause-members c =
    let d = c.args.text.now in
    let start = c.skip_blanks-start.result in
    let brace : get_or d 0 32 ≡ 123 = ap (λ t. get_or t 0 32) (sym c.as_bytes.ensures.value) ∙ sym c.byte_at.ensures ∙ c.if-byte_at-ne123.false in
    let same : lex between (drop start d) ≡ lex between (drop 1 d) = subst (λ t. lex between (drop start t) ≡ lex between (drop 1 t)) c.as_bytes-2.ensures.value c.skip_blanks-start.ensures.same in
    some_object d start brace same c.read_members.result c.read_members.ensures
