use Rattle.std.proofs.Common.{ℕ, List, map, ap, ◌∙◌}
use Rattle.std.specs.Borrow.{Bor}
use Rattle.certificates.specs.Claims.{line_fields}
use Rattle.digest_reading.specs.DigestRows.{name_of_fields}
use Rattle.digest_reading.proofs.FieldLemmas.{name_first}
use Rattle.digest_reading.proofs.name_reading.read_name_row.Goals as goal

pub returns : goal.returns
returns c =
    let same = ap (name_of_fields c.args.tasks.now c.args.earlier.now) (ap (map (λ (f : Bor (List ℕ)). f.now)) c.deref.ensures.value ∙ c.in_ok-fields.ensures) ∙ name_first c.args.tasks.now c.args.earlier.now (line_fields c.args.line.now) in
    rw same at c.read_fields.ensures
