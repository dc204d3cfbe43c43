-- Numbers as decimal digits.
use Rattle.std.proofs.Common.{◌≡◌, true, rules}
use Rattle.std.specs.List.{list_all}
use Rattle.std.specs.Char.{is_ascii_digit}
use Rattle.std.proofs.lemmas.Str.Parse.{IsDigitsTest, IsNumeralModel, numerals_by_value}
use Rattle.std.specs.Str.Parse.{digits_value}

pub digits_tell : IsDigitsTest (λ ds. list_all is_ascii_digit ds ≡ true)
digits_tell = search rules

pub decimal_numerals : IsNumeralModel (λ ds. list_all is_ascii_digit ds ≡ true) (digits_value 10)
decimal_numerals = numerals_by_value _ digits_tell
