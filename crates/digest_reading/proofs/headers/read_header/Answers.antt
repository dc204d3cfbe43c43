use Rattle.std.proofs.Common.{ℕ, List, map, ap, ◌∙◌}
use Rattle.std.specs.Borrow.{Bor}
use Rattle.certificates.specs.Claims.{line_fields}
use Rattle.digest_reading.specs.Headers.{counts_said}
use Rattle.digest_reading.proofs.FieldLemmas.{header_first}
use Rattle.digest_reading.proofs.headers.read_header.Goals as goal

pub returns : goal.returns
returns c =
    let same = ap (counts_said) (ap (map (λ (f : Bor (List ℕ)). f.now)) c.deref.ensures.value ∙ c.in_ok-fields.ensures) ∙ header_first (line_fields c.args.line.now) in
    c.read_counts.ensures ∙ same
