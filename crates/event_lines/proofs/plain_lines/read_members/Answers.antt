use Rattle.std.proofs.Common.{◌≡◌, ◌+◌, ◌≤◌, length, drop, get_or, arith, sym, ap, ◌∙◌, subst}
use Rattle.json.specs.Lex.{lex, between}
use Rattle.event_lines.proofs.PlainObjectLemmas.{reaches_start, reaches_next, reaches_end}
use Rattle.event_lines.proofs.plain_lines.read_members.Goals as goal

pub members-init : goal.members-init
members-init c = (reaches_start c.args.text.now c.args.start c.new-found.result c.new-found.ensures.none c.new-found.ensures.good, omega arith)

pub members-preserved : goal.members-preserved
members-preserved c =
    let d = c.args.text.now in
    let next = c.in_ok-next.next in
    let after = c.skip_blanks-at.result in
    let comma : get_or d next 32 ≡ 44 = ap (λ t. get_or t next 32) (sym c.as_bytes.ensures.value) ∙ sym c.byte_at-end.ensures ∙ c.if-end-eq44.true in
    let same : lex between (drop after d) ≡ lex between (drop (next + 1) d) = subst (λ t. lex between (drop after t) ≡ lex between (drop (next + 1) t)) c.as_bytes-then-end-eq44.ensures.value c.skip_blanks-at.ensures.same in
    let within : after ≤ length d = subst (λ t. after ≤ length t) c.as_bytes-then-end-eq44.ensures.value c.skip_blanks-at.ensures.within in
    (reaches_next d c.args.start c.members.at next c.members.found c.read_member.new.found c.members.invariant.0 c.in_ok-next.ensures after comma same, within)

pub returns-then-skip_blanks-text : goal.returns-then-skip_blanks-text
returns-then-skip_blanks-text c =
    let d = c.args.text.now in
    let next = c.in_ok-next.next in
    let after = c.skip_blanks.result in
    let brace : get_or d next 32 ≡ 125 = ap (λ t. get_or t next 32) (sym c.as_bytes.ensures.value) ∙ sym c.byte_at-end.ensures ∙ c.if-end-eq125.true in
    let same : lex between (drop after d) ≡ lex between (drop (next + 1) d) = subst (λ t. lex between (drop after t) ≡ lex between (drop (next + 1) t)) c.as_bytes-then-end-eq125.ensures.value c.skip_blanks.ensures.same in
    reaches_end d c.args.start c.members.at next c.members.found c.read_member.new.found c.members.invariant.0 c.in_ok-next.ensures after brace same (omega arith)
