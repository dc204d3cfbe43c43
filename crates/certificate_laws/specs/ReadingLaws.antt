-- What a printed certificate says when it is read again: a statement that a law proves.
use Rattle.std.specs.Prelude.{◌≡◌, ℕ, ◌<◌, ◌^◌, List, All, Ok, length}
use Rattle.std.specs.List.{AllZip, enumerate_from}
use Rattle.certificates.specs.Certificates.{certificate_said}
use Rattle.certificates.specs.declared.claim.Claim.{Claim}
use Rattle.certificates.specs.declared.matter.Matter.{Matter}
use Rattle.session_rules.specs.KeptTraces.{Kept, day_of}
use Rattle.session_rules.specs.Parts.{IsPart}
use Rattle.session_rules.specs.Refutations.{IsFirstToRefute, IsClaimShown, Refutations, matters_of}
use Rattle.session_rules.specs.Sessions.{why_parts}
use Rattle.text_rows.specs.TextsOfParts.{AreTexts}
use Rattle.certificate_laws.specs.Printable.{IsPrintable}

-- the text is a certificate of the kept traces for these relations, and it can be read again: the
-- traces are printable, and the numbers of traces and of relations fit 32 bits
pub record IsCertificate (kept : List Kept) (refuted : Refutations) (text : List ℕ) : Type 0 where
  pub printable : All IsPrintable kept
  pub few_traces : length kept < 2 ^ 32
  pub few_relations : length (matters_of refuted) < 2 ^ 32
  pub printed : AreTexts IsPart (why_parts kept refuted) text

-- the claim of this line that this relation is refuted: it names the first kept trace that refutes
-- it, by its day, its index there and its request
pub record IsClaimOf (kept : List Kept) (line : ℕ × Matter) (claim : Claim) : Type 0 where
  pub number : claim.line ≡ line.0
  pub matter : claim.matter ≡ line.1
  pub trace : Kept
  pub first : IsFirstToRefute kept line.1 trace claim.index
  pub day : claim.day ≡ day_of trace
  pub request : claim.request ≡ trace.trace.request

-- one claim for each relation, in order, by line; the first line is the header
abbrev pub AreClaimsOf : List Kept → List Matter → List Claim → Type 0
AreClaimsOf kept matters claims = AllZip (IsClaimOf kept) (enumerate_from 2 matters) claims

-- a certificate is read as one claim for each of its relations, and the kept traces show each
abbrev pub ACertificateIsRead : Type 0
ACertificateIsRead = (kept : List Kept) (refuted : Refutations) (text : List ℕ)
    → IsCertificate kept refuted text
    → (claims : List Claim) × (certificate_said text ≡ Ok claims)
    × AreClaimsOf kept (matters_of refuted) claims × All (IsClaimShown kept) claims
