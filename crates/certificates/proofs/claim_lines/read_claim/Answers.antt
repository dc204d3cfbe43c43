use Rattle.std.proofs.Common.{ℕ, List, map, ap, ◌∙◌}
use Rattle.std.specs.Borrow.{Bor}
use Rattle.certificates.specs.Claims.{line_fields}
use Rattle.certificates.specs.inner.ClaimParts.{parted_claim}
use Rattle.certificates.proofs.FieldLemmas.{claim_first}
use Rattle.certificates.proofs.PartedLemmas.{same_claim}
use Rattle.certificates.proofs.claim_lines.read_claim.Goals as goal

pub returns : goal.returns
returns c =
    let fields = line_fields c.args.line.now in
    let same = ap (parted_claim c.args.number) (ap (map (λ (f : Bor (List ℕ)). f.now)) c.deref.ensures.value ∙ c.in_ok-fields.ensures) ∙ claim_first c.args.number fields ∙ same_claim c.args.number fields in
    rw same at c.read_fields.ensures
