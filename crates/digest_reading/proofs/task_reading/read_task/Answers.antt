use Rattle.std.proofs.Common.{ℕ, List, map, ap, ◌∙◌}
use Rattle.std.specs.Borrow.{Bor}
use Rattle.certificates.specs.Claims.{line_fields}
use Rattle.digest_reading.specs.DigestRows.{task_of_fields}
use Rattle.digest_reading.proofs.FieldLemmas.{task_first}
use Rattle.digest_reading.proofs.task_reading.read_task.Goals as goal

pub returns : goal.returns
returns c =
    let same = ap (task_of_fields c.args.earlier.now) (ap (map (λ (f : Bor (List ℕ)). f.now)) c.deref.ensures.value ∙ c.in_ok-fields.ensures) ∙ task_first c.args.earlier.now (line_fields c.args.line.now) in
    rw same at c.read_fields.ensures
