use Rattle.std.proofs.Common.{ℕ, List, map, ap, ◌∙◌}
use Rattle.std.specs.Borrow.{Bor}
use Rattle.certificates.specs.Claims.{are_header_fields, line_fields}
use Rattle.certificates.proofs.FieldLemmas.{header_first}
use Rattle.certificates.proofs.headers.is_header.Goals as goal

pub returns : goal.returns
returns c =
    c.are_header_fields.ensures ∙ ap are_header_fields (ap (map (λ (f : Bor (List ℕ)). f.now)) c.deref.ensures.value ∙ c.in_ok-fields.ensures) ∙ header_first (line_fields c.args.line.now)
