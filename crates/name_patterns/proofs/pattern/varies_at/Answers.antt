use Rattle.std.proofs.Common.{◌∙◌, ◌+◌, ◌&&◌, ◌||◌, ap, drop, get_or}
use Rattle.std.specs.Prelude.{nat_le}
use Rattle.std.specs.Char.{is_ascii_digit, is_ascii_hexdigit}
use Rattle.std.specs.List.{prefix_len}
use Rattle.name_patterns.specs.Patterns.{is_behind_sign, is_in_row, is_uuid_byte}
use Rattle.name_patterns.proofs.pattern.varies_at.Goals as goal

pub returns : goal.returns
returns c =
    let bytes = c.args.bytes.now in
    let at = c.args.at in
    let byte = get_or bytes at 0 in
    let hex = c.is_in_row-hex.result in
    let uuid = c.is_in_row-uuid.result in
    c.is_any.ensures
    ∙ ap (λ b. b || (c.is_ascii_digit-digit.result || (hex || uuid))) c.requires.before.sign_is
    ∙ ap (λ b. is_behind_sign bytes at || (b || (hex || uuid))) c.is_ascii_digit-digit.ensures.value
    ∙ ap (λ b. is_behind_sign bytes at || (is_ascii_digit byte || (b || uuid)))
    (c.is_in_row-hex.ensures ∙ ap (λ n. is_ascii_hexdigit byte && nat_le 8 (n + prefix_len is_ascii_hexdigit (drop at bytes))) c.requires.before.hex_is)
    ∙ ap (λ b. is_behind_sign bytes at || (is_ascii_digit byte || (is_in_row is_ascii_hexdigit 8 bytes at || b)))
    (c.is_in_row-uuid.ensures ∙ ap (λ n. is_uuid_byte byte && nat_le 36 (n + prefix_len is_uuid_byte (drop at bytes))) c.requires.before.uuid_is)
