-- The verdicts of claims, one after another.
use Rattle.std.proofs.Common.{◌≡◌, ◌↔◌, ℕ, zero, suc, ◌+◌, ◌<◌, ◌≤◌, Bool, true, false, List, [], ◌∷◌, ◌++◌, length, drop, filter, map, get_or, refl, sym, ap, ◌∙◌, subst, arith, if◌then◌else◌}
use Rattle.std.specs.List.{AllZip, zip}
use Rattle.std.proofs.lemmas.Bool.Decides.{same_from_decides}
use Rattle.std.proofs.lemmas.List.{drop_all, drop_more}
use Rattle.certificates.specs.declared.claim.Claim.{Claim}
use Rattle.session_rules.specs.KeptTraces.{Kept}
use Rattle.session_rules.specs.Parts.{Part, Verdict, Verified}
use Rattle.session_rules.specs.Refutations.{IsClaimShown, IsVerdict}
use Rattle.session_rules.specs.Sessions.{verdict_part}

-- what is told of an item at a place, and of what comes after it
zip_at : {A B : Type 0} (R : A → B → Type 0) (xs : List A) (ys : List B) (i : ℕ) (x : A) → AllZip R xs ys → i < length xs → x ≡ get_or xs i x → (y : B) × (drop i ys ≡ y ∷ drop (suc i) ys) × R x y
zip_at R [] ys i x z lt at = absurd (omega arith)
zip_at R (a ∷ xs) [] i x z lt at = absurd z
zip_at R (a ∷ xs) (b ∷ ys) zero x z lt at = (b, refl, subst (λ v. R v b) (sym at) z.0)
zip_at R (a ∷ xs) (b ∷ ys) (suc i) x z lt at = zip_at R xs ys i x z.1 (omega arith) at

-- how many of the verdicts from a place on are true
abbrev pub shown_from : List Bool → ℕ → ℕ
shown_from verdicts i = length (filter (λ v. v) (drop i verdicts))

-- the parts that are still to be printed
abbrev pub parts_from : List Claim → List Bool → ℕ → List Part
parts_from claims verdicts i = map verdict_part (zip (drop i claims) (drop i verdicts)) ++ Verified (shown_from verdicts 0) (length claims) ∷ []

module _ (kept : List Kept) (claims : List Claim) (verdicts : List Bool) (are : AllZip (IsVerdict kept) claims verdicts) (i : ℕ) where
  module _ (claim : Claim) (lt : i < length claims) (at : claim ≡ get_or claims i claim) where
    here : (v : Bool) × (drop i verdicts ≡ v ∷ drop (i + 1) verdicts) × IsVerdict kept claim v
    here =
        let h = zip_at (IsVerdict kept) claims verdicts i claim are lt at in
        let next : suc i ≡ i + 1 = omega arith in
        (h.0, h.1 ∙ ap (λ (k : ℕ). h.0 ∷ drop k verdicts) next, h.2)

    verdict_is : (b : Bool) → (b ≡ true) ↔ IsClaimShown kept claim → here.0 ≡ b
    verdict_is b tells = same_from_decides here.0 b here.2 tells

    pub parts_next : (b : Bool) → (b ≡ true) ↔ IsClaimShown kept claim → parts_from claims verdicts i ≡ Verdict b claim.line ∷ parts_from claims verdicts (i + 1)
    parts_next b tells =
        let first : drop i claims ≡ claim ∷ drop (i + 1) claims = drop_more claims i claim lt ∙ ap (λ (x : Claim). x ∷ drop (i + 1) claims) (sym at) in
        let last = Verified (shown_from verdicts 0) (length claims) ∷ [] in
        ap (λ (cs : List Claim). map verdict_part (zip cs (drop i verdicts)) ++ last) first
        ∙ (ap (λ (vs : List Bool). map verdict_part (zip (claim ∷ drop (i + 1) claims) vs) ++ last) here.1
        ∙ ap (λ (v : Bool). Verdict v claim.line ∷ parts_from claims verdicts (i + 1)) (verdict_is b tells))

    pub shown_next : (b : Bool) → (b ≡ true) ↔ IsClaimShown kept claim → (count more : ℕ) → count + shown_from verdicts i ≡ shown_from verdicts 0 → more ≡ (if b then count + 1 else count) → more + shown_from verdicts (i + 1) ≡ shown_from verdicts 0
    shown_next b tells count more so_far is =
        let step : shown_from verdicts i ≡ length (if b then b ∷ filter (λ v. v) (drop (i + 1) verdicts) else filter (λ v. v) (drop (i + 1) verdicts)) =
        ap (λ (vs : List Bool). length (filter (λ v. v) vs)) here.1 ∙ ap (λ (v : Bool). length (if v then v ∷ filter (λ w. w) (drop (i + 1) verdicts) else filter (λ w. w) (drop (i + 1) verdicts))) (verdict_is b tells) in
        by b (filter (λ v. v) (drop (i + 1) verdicts)) step is
      where
        by : (c : Bool) (rest : List Bool) → shown_from verdicts i ≡ length (if c then c ∷ rest else rest) → more ≡ (if c then count + 1 else count) → more + length rest ≡ shown_from verdicts 0
        by true rest step is = omega (arith, so_far, step, is)
        by false rest step is = omega (arith, so_far, step, is)

  module _ (past : length claims ≤ i) where
    pub parts_end : parts_from claims verdicts i ≡ Verified (shown_from verdicts 0) (length claims) ∷ []
    parts_end = ap (λ (cs : List Claim). map verdict_part (zip cs (drop i verdicts)) ++ Verified (shown_from verdicts 0) (length claims) ∷ []) (drop_all i claims past)

    long : (cs : List Claim) (vs : List Bool) → AllZip (IsVerdict kept) cs vs → length vs ≡ length cs
    long [] [] z = refl
    long [] (v ∷ vs) z = absurd z
    long (c ∷ cs) [] z = absurd z
    long (c ∷ cs) (v ∷ vs) z = let h = long cs vs z.1 in omega arith

    pub shown_end : (count : ℕ) → count + shown_from verdicts i ≡ shown_from verdicts 0 → count ≡ shown_from verdicts 0
    shown_end count so_far =
        let size = long claims verdicts are in
        let none : shown_from verdicts i ≡ 0 = ap (λ (vs : List Bool). length (filter (λ v. v) vs)) (drop_all i verdicts (omega arith)) in
        omega (arith, so_far, none)
