use Rattle.std.proofs.Common.{◌≡◌, ◌+◌, drop, get_or, arith, sym, ap, ◌∙◌}
use Rattle.std.proofs.lemmas.List.{get_or_default}
use Rattle.std.proofs.lemmas.Str.{IsCharBoundary-after_ascii}
use Rattle.std.specs.List.{prefix_len}
use Rattle.event_lines.specs.inner.PlainObjects.{is_clear}
use Rattle.event_lines.proofs.PlainObjectLemmas.{quoted}
use Rattle.event_lines.proofs.PlainTextLemmas.{at_byte}
use Rattle.event_lines.proofs.plain_lines.read_quoted.Goals as goal

pub range-requires-clause-start_boundary : goal.range-requires-clause-start_boundary
range-requires-clause-start_boundary c some =
    let d = c.args.text.now in
    let first : get_or d c.args.at 32 ≡ 34 = ap (λ t. get_or t c.args.at 32) (sym c.as_bytes-bytes.ensures.value) ∙ sym c.byte_at.ensures ∙ c.if-byte_at-ne34.false in
    let byte = at_byte d c.args.at 34 first (λ z. omega (arith, z)) in
    IsCharBoundary-after_ascii d c.args.at c.utf8.text byte.0 (omega (arith, first, get_or_default d c.args.at 0 32 byte.0))

pub returns : goal.returns
returns c =
    let d = c.args.text.now in
    let stop = c.find_clear_end-end.result in
    let first : get_or d c.args.at 32 ≡ 34 = ap (λ t. get_or t c.args.at 32) (sym c.as_bytes-bytes.ensures.value) ∙ sym c.byte_at.ensures ∙ c.if-byte_at-ne34.false in
    let last : get_or d stop 32 ≡ 34 = ap (λ t. get_or t stop 32) (sym c.as_bytes-bytes.ensures.value) ∙ sym c.byte_at-2.ensures ∙ c.if-byte_at-ne34-2.false in
    let is : stop ≡ c.args.at + 1 + prefix_len is_clear (drop (c.args.at + 1) d) = c.find_clear_end-end.ensures.value ∙ ap (λ t. c.args.at + 1 + prefix_len is_clear (drop (c.args.at + 1) t)) c.as_bytes-bytes.ensures.value in
    quoted d c.args.at stop c.range.result.now first is last c.range.ensures.value
