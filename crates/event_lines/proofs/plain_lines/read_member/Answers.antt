use Rattle.std.proofs.Common.{◌≡◌, ◌==◌, length, false, nat_lt, arith, rules, sym, ◌∙◌, subst}
use Rattle.std.proofs.lemmas.Bool.{le-ltb}
use Rattle.event_lines.specs.inner.PlainObjects.{IsKey, IsQuoted, IsWhole}
use Rattle.event_lines.proofs.PlainObjectLemmas.{adds_text, adds_number}
use Rattle.event_lines.proofs.plain_lines.read_member.Goals as goal

pub returns-then-byte_at-eq34 : goal.returns-then-byte_at-eq34
returns-then-byte_at-eq34 c =
    let d = c.args.text.now in
    let t = c.in_ok-value.value.now in
    let named : IsKey d c.args.at c.in_ok-key.key.now c.in_ok-key.start = search rules in
    let q : IsQuoted d c.in_ok-key.start t c.in_ok-value.next = search rules in
    let some : (length t == 0) ≡ false = sym c.is_empty.ensures ∙ c.if-is_empty.false in
    let short : nat_lt 64 (length t) ≡ false = le-ltb 64 (length t) (omega arith) in
    adds_text d c.args.at c.in_ok-key.start c.in_ok-value.next c.in_ok-key.key.now named c.args.found.now c.put_text.new.self t q some short (c.put_text.ensures.put (grind arith)) (c.put_text.ensures.good (grind arith))

pub returns : goal.returns
returns c =
    let d = c.args.text.now in
    let named : IsKey d c.args.at c.in_ok-key.key.now c.in_ok-key.start = search rules in
    let w : IsWhole d c.in_ok-key.start c.in_ok-value-2.value c.in_ok-value-2.next = subst (λ b. IsWhole b c.in_ok-key.start c.in_ok-value-2.value c.in_ok-value-2.next) c.as_bytes-2.ensures.value c.in_ok-value-2.ensures in
    adds_number d c.args.at c.in_ok-key.start c.in_ok-value-2.next c.in_ok-key.key.now named c.args.found.now c.put_number.new.self c.in_ok-value-2.value w (c.put_number.ensures.put (grind arith)) (c.put_number.ensures.good (grind arith))
