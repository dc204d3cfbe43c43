-- What a certificate says: its claims, or the first line outside the form.
use Rattle.std.specs.Prelude.{ℕ, ◌≡◌, List, [], ◌∷◌, map, ⊤, Result, Ok, Err, if◌then◌else◌}
use Rattle.std.specs.Option.{option_map_or}
use Rattle.event_lines.specs.Cut.{input_lines}
use Rattle.event_lines.specs.InputLines.{numbered_lines, all_or_first_error}
use Rattle.certificates.specs.Claims.{claim_said, is_header}
use Rattle.certificates.specs.declared.claim.Claim.{Claim}
use Rattle.certificates.specs.declared.cert_fault.CertFault.{CertFault}
use Rattle.certificates.specs.declared.cert_fault.CertFault.TheVariants.{Memory, Bad}

-- the claims of numbered lines, or the number of the first line that makes none
abbrev pub claims_of_lines : List (ℕ × List ℕ) → Result (List Claim) ℕ
claims_of_lines lines =
    all_or_first_error (map (λ line. option_map_or Ok (claim_said line.0 line.1) (Err line.0)) lines)

-- the claims of a certificate with these numbered lines: the first is the header, and each other
-- one makes a claim; or the number of the first that does not
abbrev pub certificate_of_lines : List (ℕ × List ℕ) → Result (List Claim) ℕ
certificate_of_lines [] = Ok []
certificate_of_lines (first ∷ others) =
    if is_header first.1 then claims_of_lines others else Err first.0

-- the claims that the bytes of a certificate make, or the number of the first line outside the
-- form; lines that are blank are counted, and otherwise ignored
abbrev pub certificate_said : List ℕ → Result (List Claim) ℕ
certificate_said bytes = certificate_of_lines (numbered_lines 1 (input_lines bytes))

-- the error is that of a call that is out of memory
abbrev pub IsOutOfMemory : CertFault → Type 0
IsOutOfMemory e = e ≡ Memory

-- why a certificate was not read: out of memory, or its first line outside the form
abbrev pub IsCertFault : Result (List Claim) ℕ → CertFault → Type 0
IsCertFault said Memory = ⊤
IsCertFault said (Bad line) = said ≡ Err line
