use Rattle.std.proofs.Common.{◌≡◌, ◌++◌, ◌∙◌, ap, codes, refl, sym}
use Rattle.std.specs.Prelude.{decimal}
use Rattle.std.specs.Fmt.{digits}
use Rattle.mystery_run.proofs.outcome.make_trace_line.Goals as goal

too_many : decimal 18446744073709551616 ≡ codes "18446744073709551616"
unfolding digits
too_many = refl

pub returns : goal.returns
returns c = c.make_line.ensures ∙ ap (λ number. codes "limit: " ++ number ++ codes " " ++ codes "traces" ++ codes "\n") (sym too_many)
