-- What a check of the certificate of an input prints: a statement that a law proves.
use Rattle.std.specs.Prelude.{◌≡◌, ℕ, ◌<◌, ◌^◌, List, Ok, length}
use Rattle.certificates.specs.Certificates.{certificate_said}
use Rattle.certificates.specs.declared.claim.Claim.{Claim}
use Rattle.event_lines.specs.declared.line.Line.{Line}
use Rattle.session_rules.specs.Parts.{IsPart, Part}
use Rattle.session_rules.specs.Refutations.{AreRefutations, Refutations, matters_of}
use Rattle.session_rules.specs.Sessions.{Does, State, why_parts}
use Rattle.session_rules.specs.declared.job.Job.TheVariants.{Verify}
use Rattle.text_rows.specs.TextsOfParts.{AreTexts}
use Rattle.certificate_laws.specs.PrintableLaws.{IsLastState}
use Rattle.certificate_laws.specs.VerifyingLaws.{all_shown}

-- a certificate of the traces that are kept of an input of fewer than 2^32 lines is read as claims,
-- and a check of these in the same state prints that each relation is shown
abbrev pub WhatWhyPrintsVerifies : Type 0
WhatWhyPrintsVerifies = (input : List ℕ) (lines : List Line) (last : State)
    (refuted : Refutations) (text : List ℕ)
    → IsLastState input lines last → AreRefutations last.kept refuted
    → AreTexts IsPart (why_parts last.kept refuted) text → length lines < 2 ^ 32
    → (claims : List Claim) × (certificate_said text ≡ Ok claims)
    × ((workers : ℕ) (next : State) (parts : List Part)
    → Does workers (Verify claims) last parts next → parts ≡ all_shown (matters_of refuted))
