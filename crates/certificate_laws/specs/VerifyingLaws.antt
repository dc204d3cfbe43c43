-- What a check of a printed certificate prints: a statement that a law proves.
use Rattle.std.specs.Prelude.{◌≡◌, ℕ, List, [], ◌∷◌, ◌++◌, Ok, true, length, map}
use Rattle.std.specs.List.{enumerate_from}
use Rattle.certificates.specs.Certificates.{certificate_said}
use Rattle.certificates.specs.declared.claim.Claim.{Claim}
use Rattle.certificates.specs.declared.matter.Matter.{Matter}
use Rattle.session_rules.specs.KeptTraces.{Kept}
use Rattle.session_rules.specs.Parts.{Part, Verdict, Verified}
use Rattle.session_rules.specs.Refutations.{Refutations, matters_of}
use Rattle.session_rules.specs.Sessions.{Does, State}
use Rattle.session_rules.specs.declared.job.Job.TheVariants.{Verify}
use Rattle.certificate_laws.specs.ReadingLaws.{IsCertificate}

-- each relation is shown, by line from the second on, and all are
abbrev pub all_shown : List Matter → List Part
all_shown matters =
    map (λ (line : ℕ × Matter). Verdict true line.0) (enumerate_from 2 matters)
    ++ Verified (length matters) (length matters) ∷ []

-- a check of the claims that a certificate makes, over the traces that it was printed of, prints
-- that each relation is shown
abbrev pub APrintedCertificateVerifies : Type 0
APrintedCertificateVerifies = (kept : List Kept) (refuted : Refutations) (text : List ℕ)
    (claims : List Claim) (workers : ℕ) (s next : State) (parts : List Part)
    → IsCertificate kept refuted text → certificate_said text ≡ Ok claims
    → s.kept ≡ kept → Does workers (Verify claims) s parts next
    → parts ≡ all_shown (matters_of refuted)
