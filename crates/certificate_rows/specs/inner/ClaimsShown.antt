-- A book shows the claims that the kept traces show: a statement that a law proves.
use Rattle.std.specs.Prelude.{◌↔◌, List}
use Rattle.book_laws.specs.Shown.{AreShown}
use Rattle.certificates.specs.declared.claim.Claim.{Claim}
use Rattle.counterexamples.specs.ShownClaims.{IsShownClaim}
use Rattle.day_partitions.specs.Books.{BookState, IsBook, all_traces}
use Rattle.segment_names.specs.Known.{Known}
use Rattle.segment_names.specs.Limits.{IsKept}
use Rattle.session_rules.specs.KeptTraces.{Kept}
use Rattle.session_rules.specs.Refutations.{IsClaimShown}

-- a book shows a claim exactly where the kept traces do
abbrev pub ClaimsAreShown : Type 0
ClaimsAreShown = (known : Known) (b : BookState) (kept : List Kept) (claim : Claim) → IsKept known
    → IsBook b → AreShown known (all_traces b.days) kept
    → IsShownClaim known b.days claim ↔ IsClaimShown kept claim
