-- Printed numbers are read back.
use Rattle.std.proofs.Common.{◌≡◌, ℕ, ◌^◌, ◌<◌, ◌≤◌, ◌==◌, List, [], ◌∷◌, true, false, decimal, refl, arith}
use Rattle.std.specs.Prelude.{nat_lt, nat_le}
use Rattle.std.specs.Char.{is_ascii_digit}
use Rattle.std.specs.List.{list_all, list_any}
use Rattle.std.proofs.lemmas.Bool.{and_parts, or_from, leb-true, le-ltb, ne_eqb}
use Rattle.std.proofs.lemmas.Fmt.{digits_decimal}
use Rattle.event_lines.specs.EventFaults.{is_control_character}
use Rattle.trace_types.proofs.DecimalLemmas.{decimal_numerals}
use Rattle.certificate_laws.proofs.RowLemmas.{IsClean}

digit_clean : (b : ℕ) → is_ascii_digit b ≡ true → is_control_character b ≡ false
digit_clean b h =
    let p = and_parts (nat_le 48 b) (nat_le b 57) h in
    let low : 48 ≤ b = leb-true 48 b p.0 in
    let high : b ≤ 57 = leb-true b 57 p.1 in
    or_from (nat_lt b 32) (b == 127) (le-ltb b 32 (omega arith)) (ne_eqb b 127 (λ e. omega arith))

digits_clean : (ds : List ℕ) → list_all is_ascii_digit ds ≡ true → IsClean ds
digits_clean [] h = refl
digits_clean (b ∷ ds) h =
    let p = and_parts (is_ascii_digit b) (list_all is_ascii_digit ds) h in
    or_from (is_control_character b) (list_any is_control_character ds) (digit_clean b p.0) (digits_clean ds p.1)

-- digits are no control characters
pub decimal_clean : (n : ℕ) → n < 2 ^ 32 → IsClean (decimal n)
decimal_clean n h = digits_clean (decimal n) (digits_decimal decimal_numerals n (omega arith))
