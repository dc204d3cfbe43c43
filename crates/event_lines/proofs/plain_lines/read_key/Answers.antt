use Rattle.std.proofs.Common.{◌≡◌, ◌+◌, ◌≤◌, length, drop, get_or, rules, sym, ap, ◌∙◌, subst}
use Rattle.json.specs.Lex.{lex, between}
use Rattle.event_lines.specs.inner.PlainObjects.{IsQuoted}
use Rattle.event_lines.proofs.PlainObjectLemmas.{key}
use Rattle.event_lines.proofs.plain_lines.read_key.Goals as goal

pub returns : goal.returns
returns c =
    let d = c.args.text.now in
    let stop = c.in_ok-key.end in
    let start = c.skip_blanks.result in
    let q : IsQuoted d c.args.at c.in_ok-key.key.now stop = search rules in
    let colon : get_or d stop 32 ≡ 58 = ap (λ t. get_or t stop 32) (sym c.as_bytes.ensures.value) ∙ sym c.byte_at.ensures ∙ c.if-byte_at-ne58.false in
    let same : lex between (drop start d) ≡ lex between (drop (stop + 1) d) = subst (λ t. lex between (drop start t) ≡ lex between (drop (stop + 1) t)) c.as_bytes-2.ensures.value c.skip_blanks.ensures.same in
    let within : start ≤ length d = subst (λ t. start ≤ length t) c.as_bytes-2.ensures.value c.skip_blanks.ensures.within in
    key d c.args.at stop start c.in_ok-key.key.now q colon same c.skip_blanks.ensures.rising within
