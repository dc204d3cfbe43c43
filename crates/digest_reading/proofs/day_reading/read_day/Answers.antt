use Rattle.std.proofs.Common.{ℕ, List, map, ap, ◌∙◌}
use Rattle.std.specs.Borrow.{Bor}
use Rattle.certificates.specs.Claims.{line_fields}
use Rattle.digest_reading.specs.DigestRows.{day_of_fields}
use Rattle.digest_reading.proofs.FieldLemmas.{day_first}
use Rattle.digest_reading.proofs.day_reading.read_day.Goals as goal

pub returns : goal.returns
returns c =
    let same = ap (day_of_fields c.args.earlier.now) (ap (map (λ (f : Bor (List ℕ)). f.now)) c.deref.ensures.value ∙ c.in_ok-fields.ensures) ∙ day_first c.args.earlier.now (line_fields c.args.line.now) in
    c.day_of_fields.ensures ∙ same
