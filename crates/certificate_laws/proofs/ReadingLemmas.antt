-- A printed certificate is read as its claims.
use Rattle.std.proofs.Common.{◌≡◌, ℕ, ◌+◌, ◌^◌, ◌<◌, not, List, [], ◌∷◌, ◌++◌, Bool, true, false, Option, Some, Ok, Err, length, map, refl, sym, ap, ◌∙◌, subst, arith, length-append}
use Rattle.std.specs.Prelude.{All, Result, slice_get, if◌then◌else◌}
use Rattle.std.specs.List.{AllZip, enumerate_from, join_with_byte}
use Rattle.std.specs.Option.{option_map_or}
use Rattle.std.specs.Result.{result_map_both}
use Rattle.std.proofs.lemmas.Bool.{cond-true, eq-eqb}
use Rattle.std.proofs.lemmas.List.Filters.{length-filter_both}
use Rattle.std.proofs.lemmas.List.Elements.{All-cons, All-nil, filter-append}
use Rattle.certificates.specs.Certificates.{certificate_of_lines, certificate_said, claims_of_lines}
use Rattle.certificates.specs.Claims.{claim_said, is_header}
use Rattle.certificates.specs.declared.claim.Claim.{Claim}
use Rattle.certificates.specs.declared.matter.Matter.{Matter}
use Rattle.event_lines.specs.Cut.{input_lines, is_blank_line}
use Rattle.event_lines.specs.InputLines.{all_or_first_error, numbered_lines}
use Rattle.session_rules.specs.CertificateTexts.{IsRefutedText}
use Rattle.session_rules.specs.KeptTraces.{Kept, day_of, is_of_day, traces_on}
use Rattle.session_rules.specs.Parts.{IsPart, RefutedOf}
use Rattle.session_rules.specs.Refutations.{IsFirstToRefute, IsClaimShown, Refutations, RefutesMatter, matters_of}
use Rattle.text_rows.specs.TextsOfParts.{AreTexts}
use Rattle.trace_types.proofs.ElementLemmas.{all_middle}
use Rattle.certificate_laws.specs.Printable.{IsPrintable}
use Rattle.certificate_laws.specs.ReadingLaws.{AreClaimsOf, IsCertificate, IsClaimOf}
use Rattle.certificate_laws.proofs.ClaimLemmas.{ArePrintable, claim_for, header_clean, header_fields, header_not_blank, header_read, matter_printable, row_clean, row_fields, row_not_blank, row_said}
use Rattle.certificate_laws.proofs.RowLemmas.{row_cut}

-- the claim of a numbered line, or the number of the line
abbrev numbered_claim : ℕ × List ℕ → Result Claim ℕ
numbered_claim line = option_map_or Ok (claim_said line.0 line.1) (Err line.0)

-- ---- the trace of a claim

get_after : {X : Type 0} (xs ys : List X) (x : X) → slice_get (xs ++ x ∷ ys) (length xs) ≡ Some x
get_after [] ys x = refl
get_after (z ∷ xs) ys x = get_after xs ys x

module _ (kept : List Kept) (matter : Matter) (k : Kept) (index : ℕ) (first : IsFirstToRefute kept matter k index) where
  -- it is at its index among those of its day
  stands : slice_get (traces_on (day_of k) kept) index ≡ Some k
  stands =
      let day = day_of k in
      ap (λ (ts : List Kept). slice_get (traces_on day ts) index) first.split
      ∙ ap (λ (n : ℕ). slice_get (traces_on day (first.before ++ k ∷ first.after)) n) first.counted
      ∙ ap (λ (ts : List Kept). slice_get ts (length (traces_on day first.before)))
      (filter-append (is_of_day day) first.before (k ∷ first.after)
      ∙ ap (λ (ts : List Kept). traces_on day first.before ++ ts) (cond-true (is_of_day day k) (k ∷ traces_on day first.after) (traces_on day first.after) (eq-eqb day day refl)))
      ∙ get_after (traces_on day first.before) (traces_on day first.after) k

  -- there are fewer before it than traces
  index_below : index < length kept
  index_below =
      let of_day = length-filter_both (is_of_day (day_of k)) (λ t. not (is_of_day (day_of k) t)) (λ t. refl) first.before in
      omega (arith, first.counted, of_day, ap length first.split, length-append first.before (k ∷ first.after))

  -- it is one of the traces
  holds_of : (P : Kept → Type 0) → All P kept → P k
  holds_of P h = all_middle P first.before first.after k (subst (All P) first.split h)

claim_shown : (kept : List Kept) (line : ℕ × Matter) (claim : Claim) → IsClaimOf kept line claim → IsClaimShown kept claim
claim_shown kept line claim c = record {
  trace = c.trace;
  stands = ap (λ (day : ℕ). slice_get (traces_on day kept) claim.index) c.day ∙ stands kept line.1 c.trace claim.index c.first;
  request = sym c.request;
  refutes = subst (λ (m : Matter). RefutesMatter m c.trace) (sym c.matter) c.first.refutes;
}

pub claims_shown : (kept : List Kept) (lines : List (ℕ × Matter)) (claims : List Claim) → AllZip (IsClaimOf kept) lines claims → All (IsClaimShown kept) claims
claims_shown kept [] [] h = All-nil (IsClaimShown kept)
claims_shown kept [] (claim ∷ claims) h = absurd h
claims_shown kept (line ∷ lines) [] h = absurd h
claims_shown kept (line ∷ lines) (claim ∷ claims) h = All-cons (IsClaimShown kept) claim claims (claim_shown kept line claim h.0) (claims_shown kept lines claims h.1)

-- ---- line after line

-- a line that is not blank and makes a claim
line_read : (n : ℕ) (line : List ℕ) (lines : List (List ℕ)) (claim : Claim) (claims : List Claim) → is_blank_line line ≡ false → claim_said n line ≡ Some claim
    → claims_of_lines (numbered_lines (n + 1) lines) ≡ Ok claims → claims_of_lines (numbered_lines n (line ∷ lines)) ≡ Ok (claim ∷ claims)
line_read n line lines claim claims some said more =
    let others : List (ℕ × List ℕ) = numbered_lines (n + 1) lines in
    ap (λ (blank : Bool). claims_of_lines (if not blank then (n, line) ∷ others else others)) some
    ∙ ap (λ (c : Option Claim). all_or_first_error (option_map_or Ok c (Err n) ∷ map numbered_claim others)) said
    ∙ ap (result_map_both (λ (cs : List Claim). claim ∷ cs) (λ (e : ℕ). e)) more

-- the claims that rows make, the first of which has this number
record AreRead (kept : List Kept) (n : ℕ) (matters : List Matter) (text : List ℕ) : Type 0 where
  pub claims : List Claim
  pub said : claims_of_lines (numbered_lines n (input_lines text)) ≡ Ok claims
  pub each : AllZip (IsClaimOf kept) (enumerate_from n matters) claims

module _ (kept : List Kept) (printable : All IsPrintable kept) (few : length kept < 2 ^ 32) where
  row_read : (n : ℕ) (matter : Matter) (matters : List Matter) (row rest text : List ℕ) → IsRefutedText kept matter row → text ≡ row ++ rest → AreRead kept (n + 1) matters rest → AreRead kept n (matter ∷ matters) text
  row_read n matter matters row rest text told cut more =
      let k = told.trace in
      let index = told.index in
      let first = told.first in
      let good : IsPrintable k = holds_of kept matter k index first IsPrintable printable in
      let small : index < 2 ^ 32 = omega (arith, index_below kept matter k index first) in
      let texts : ArePrintable matter = matter_printable matter k good first.refutes in
      let clean = row_clean matter k index texts good small in
      let line : List ℕ = join_with_byte 9 (row_fields matter k index) in
      let lines : input_lines text ≡ line ∷ input_lines rest = ap input_lines (cut ∙ ap (λ (r : List ℕ). r ++ rest) told.text) ∙ row_cut (row_fields matter k index) rest clean in
      record {
        claims = claim_for n matter k index ∷ more.claims;
        said = ap (λ (ls : List (List ℕ)). claims_of_lines (numbered_lines n ls)) lines
            ∙ line_read n line (input_lines rest) (claim_for n matter k index) more.claims (row_not_blank matter k index) (row_said n matter k index texts good small) more.said;
        each = (record { number = refl; matter = refl; trace = k; first = first; day = refl; request = refl }, more.each);
      }

  rows_read : (n : ℕ) (matters : List Matter) (text : List ℕ) → AreTexts IsPart (map (RefutedOf kept) matters) text → AreRead kept n matters text
  rows_read n [] text h = record { claims = []; said = ap (λ (t : List ℕ). claims_of_lines (numbered_lines n (input_lines t))) h; each = tt }
  rows_read n (matter ∷ matters) text h = row_read n matter matters h.0 h.1 text h.2 h.4 (rows_read (n + 1) matters h.1 h.3)

-- the header, and then claims
header_then : (line : List ℕ) (lines : List (List ℕ)) → is_blank_line line ≡ false → is_header line ≡ true → certificate_of_lines (numbered_lines 1 (line ∷ lines)) ≡ claims_of_lines (numbered_lines 2 lines)
header_then line lines some head =
    let others : List (ℕ × List ℕ) = numbered_lines 2 lines in
    ap (λ (blank : Bool). certificate_of_lines (if not blank then (1, line) ∷ others else others)) some
    ∙ ap (λ (is : Bool). if is then claims_of_lines others else Err 1) head

pub certificate_read : (kept : List Kept) (refuted : Refutations) (text : List ℕ) → IsCertificate kept refuted text
    → (claims : List Claim) × (certificate_said text ≡ Ok claims) × AreClaimsOf kept (matters_of refuted) claims × All (IsClaimShown kept) claims
certificate_read kept refuted text h =
    let traces : ℕ = length kept in
    let count : ℕ = length (matters_of refuted) in
    let fields : List (List ℕ) = header_fields traces count in
    let line : List ℕ = join_with_byte 9 fields in
    let rest : List ℕ = h.printed.1 in
    let clean = header_clean traces count h.few_traces h.few_relations in
    let lines : input_lines text ≡ line ∷ input_lines rest = ap input_lines (h.printed.4 ∙ ap (λ (r : List ℕ). r ++ rest) h.printed.2) ∙ row_cut fields rest clean in
    let read = rows_read kept h.printable h.few_traces 2 (matters_of refuted) rest h.printed.3 in (
      read.claims,
      ap (λ (ls : List (List ℕ)). certificate_of_lines (numbered_lines 1 ls)) lines
          ∙ header_then line (input_lines rest) (header_not_blank traces count) (header_read traces count h.few_traces h.few_relations) ∙ read.said,
      read.each,
      claims_shown kept (enumerate_from 2 (matters_of refuted)) read.claims read.each,
    )
