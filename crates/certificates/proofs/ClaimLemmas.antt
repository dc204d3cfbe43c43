-- Claims of a certificate, one line after another.
use Rattle.std.proofs.Common.{◌≡◌, ℕ, List, [], ◌∷◌, ◌++◌, Some, None, Result, Ok, Err, refl, sym, ap, ◌∙◌, append_assoc}
use Rattle.std.proofs.lemmas.List.{append-nil}
use Rattle.std.specs.Result.{result_map_both}
use Rattle.certificates.specs.Certificates.{claims_of_lines}
use Rattle.certificates.specs.Claims.{claim_said}
use Rattle.certificates.specs.declared.claim.Claim.{Claim}

-- these claims, and then those of the lines after them, or the number of the first bad line
abbrev pub after_claims : List Claim → Result (List Claim) ℕ → Result (List Claim) ℕ
after_claims first rest = result_map_both (λ more. first ++ more) (λ n. n) rest

pub after_none : (rest : Result (List Claim) ℕ) → after_claims [] rest ≡ rest
after_none (Ok more) = refl
after_none (Err n) = refl

-- a good line's claim follows those before it
pub claim_added : (lines others : List (ℕ × List ℕ)) (n : ℕ) (line : List ℕ) (claim : Claim) (claims : List Claim) (all : Result (List Claim) ℕ) → lines ≡ (n, line) ∷ others → Some claim ≡ claim_said n line → after_claims claims (claims_of_lines lines) ≡ all
    → after_claims (claims ++ claim ∷ []) (claims_of_lines others) ≡ all
claim_added lines others n line claim claims all cut said told = by (claims_of_lines others) refl
  where
    by : (rest : Result (List Claim) ℕ) → claims_of_lines others ≡ rest → after_claims (claims ++ claim ∷ []) (claims_of_lines others) ≡ all
    by (Ok more) e = rw e (ap Ok (append_assoc claims (claim ∷ []) more) ∙ rw (cut, ← said, e) at told)
    by (Err k) e = rw e (rw (cut, ← said, e) at told)

-- a bad line is the first bad line of all
pub claim_missing : (lines others : List (ℕ × List ℕ)) (n : ℕ) (line : List ℕ) (claims : List Claim) (all : Result (List Claim) ℕ) → lines ≡ (n, line) ∷ others → None ≡ claim_said n line → after_claims claims (claims_of_lines lines) ≡ all → all ≡ Err n
claim_missing lines others n line claims all cut said told = sym (rw (cut, ← said) at told)

-- no line is left
pub claims_done : (lines : List (ℕ × List ℕ)) (claims : List Claim) (all : Result (List Claim) ℕ) → lines ≡ [] → after_claims claims (claims_of_lines lines) ≡ all → all ≡ Ok claims
claims_done lines claims all cut told = sym (rw cut at told) ∙ ap Ok (append-nil claims)
