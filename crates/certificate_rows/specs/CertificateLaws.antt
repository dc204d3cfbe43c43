-- What kept traces refute can be listed, and each claim has its verdict: statements that laws
-- prove.
use Rattle.std.specs.Prelude.{Bool, List}
use Rattle.std.specs.List.{AllZip}
use Rattle.certificates.specs.declared.claim.Claim.{Claim}
use Rattle.session_rules.specs.KeptTraces.{Kept}
use Rattle.session_rules.specs.Refutations.{AreRefutations, IsVerdict, Refutations}

-- there are lists of exactly the relations that kept traces refute
abbrev pub RefutationsAreListed : Type 0
RefutationsAreListed = (kept : List Kept) → (refuted : Refutations) × AreRefutations kept refuted

-- each claim is shown by the kept traces or not
abbrev pub ClaimsHaveVerdicts : Type 0
ClaimsHaveVerdicts = (kept : List Kept) (claims : List Claim)
    → (verdicts : List Bool) × AllZip (IsVerdict kept) claims verdicts
