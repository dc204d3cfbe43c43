-- A check of a printed certificate prints that each relation is shown.
use Rattle.std.proofs.Common.{◌≡◌, ℕ, suc, ◌+◌, ◌++◌, List, [], ◌∷◌, Bool, true, Ok, length, map, refl, sym, ap, ◌∙◌, subst}
use Rattle.std.specs.Prelude.{All, filter, if◌then◌else◌}
use Rattle.std.specs.List.{AllZip, enumerate_from, zip}
use Rattle.std.proofs.lemmas.List.Elements.{All-head, All-tail}
use Rattle.certificates.specs.Certificates.{certificate_said}
use Rattle.certificates.specs.declared.claim.Claim.{Claim}
use Rattle.certificates.specs.declared.matter.Matter.{Matter}
use Rattle.session_rules.specs.KeptTraces.{Kept}
use Rattle.session_rules.specs.Parts.{Part, Verdict, Verified}
use Rattle.session_rules.specs.Refutations.{IsClaimShown, IsVerdict, Refutations, matters_of}
use Rattle.session_rules.specs.Sessions.{Does, State, verdict_part}
use Rattle.session_rules.specs.declared.job.Job.TheVariants.{Verify}
use Rattle.certificate_laws.specs.ReadingLaws.{IsCertificate, IsClaimOf}
use Rattle.certificate_laws.specs.VerifyingLaws.{all_shown}
use Rattle.certificate_laws.proofs.ReadingLemmas.{certificate_read}

abbrev true_of : Bool → Bool
true_of v = v

-- the verdicts of claims that are shown: each is that, and there are as many as relations
record AreAllShown (lines : List (ℕ × Matter)) (claims : List Claim) (verdicts : List Bool) : Type 0 where
  each : map verdict_part (zip claims verdicts) ≡ map (λ (line : ℕ × Matter). Verdict true line.0) lines
  shown : length (filter true_of verdicts) ≡ length lines
  count : length claims ≡ length lines

verdicts_true : (kept : List Kept) (lines : List (ℕ × Matter)) (claims : List Claim) (verdicts : List Bool) → AllZip (IsClaimOf kept) lines claims → All (IsClaimShown kept) claims → AllZip (IsVerdict kept) claims verdicts → AreAllShown lines claims verdicts
verdicts_true kept [] [] [] of shown told = record { each = refl; shown = refl; count = refl }
verdicts_true kept [] [] (v ∷ verdicts) of shown told = absurd told
verdicts_true kept [] (claim ∷ claims) verdicts of shown told = absurd of
verdicts_true kept (line ∷ lines) [] verdicts of shown told = absurd of
verdicts_true kept (line ∷ lines) (claim ∷ claims) [] of shown told = absurd told
verdicts_true kept (line ∷ lines) (claim ∷ claims) (v ∷ verdicts) of shown told =
    let is : v ≡ true = told.0.1 (All-head (IsClaimShown kept) claim claims shown) in
    let more = verdicts_true kept lines claims verdicts of.1 (All-tail (IsClaimShown kept) claim claims shown) told.1 in
    record {
      each = λ i. Verdict (is i) (of.0.number i) ∷ more.each i;
      shown = ap (λ (b : Bool). length (if b then b ∷ filter true_of verdicts else filter true_of verdicts)) is ∙ ap suc more.shown;
      count = ap suc more.count;
    }

length-enumerate : {X : Type 0} (n : ℕ) (xs : List X) → length (enumerate_from n xs) ≡ length xs
length-enumerate n [] = refl
length-enumerate n (x ∷ xs) = ap suc (length-enumerate (n + 1) xs)

pub certificate_verified : (kept : List Kept) (refuted : Refutations) (text : List ℕ) (claims : List Claim) (workers : ℕ) (s next : State) (parts : List Part)
    → IsCertificate kept refuted text → certificate_said text ≡ Ok claims → s.kept ≡ kept → Does workers (Verify claims) s parts next → parts ≡ all_shown (matters_of refuted)
certificate_verified kept refuted text claims workers s next parts printed said is does =
    let read = certificate_read kept refuted text printed in
    let both : Ok read.0 ≡ Ok claims = sym read.1 ∙ said in
    let same : read.0 ≡ claims = cc in
    let matters : List Matter = matters_of refuted in
    let verdicts : List Bool = does.1.0 in
    let of = subst (λ (cs : List Claim). AllZip (IsClaimOf kept) (enumerate_from 2 matters) cs) same read.2 in
    let shown = subst (All (IsClaimShown kept)) same read.3 in
    let told = subst (λ (ks : List Kept). AllZip (IsVerdict ks) claims verdicts) is does.1.1 in
    let all = verdicts_true kept (enumerate_from 2 matters) claims verdicts of shown told in
    let count = length-enumerate 2 matters in
    let yes : length (filter true_of verdicts) ≡ length matters = all.shown ∙ count in
    let whole : length claims ≡ length matters = all.count ∙ count in
    does.1.2 ∙ (λ i. all.each i ++ Verified (yes i) (whole i) ∷ [])
