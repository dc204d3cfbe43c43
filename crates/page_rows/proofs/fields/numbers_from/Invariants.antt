use Rattle.std.proofs.Common.{◌≡◌, map, take}
use Rattle.page_rows.specs.Fields.{number_of, texts_of}
use Rattle.page_rows.proofs.fields.numbers_from.Given as goal

-- the numbers so far
abbrev pub invariant-fields : goal.invariant-fields
invariant-fields l = l.numbers.items ≡ map number_of (texts_of (take l.field-index l.rest))
