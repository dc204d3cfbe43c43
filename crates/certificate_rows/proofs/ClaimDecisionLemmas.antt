-- Each claim has its verdict.
use Rattle.std.proofs.Common.{◌≡◌, Bool, true, false, Option, Some, None, List, [], ◌∷◌, refl, sym, ◌∙◌, subst, inr, ⊎_elim, ap}
use Rattle.std.specs.List.{AllZip, slice_get}
use Rattle.std.proofs.lemmas.Bool.{false≢true}
use Rattle.std.proofs.lemmas.Option.{none-some, same_Some}
use Rattle.certificates.specs.declared.claim.Claim.{Claim}
use Rattle.session_rules.specs.KeptTraces.{Kept, traces_on}
use Rattle.session_rules.specs.Refutations.{IsClaimShown, IsVerdict, RefutesMatter}
use Rattle.certificate_rows.proofs.DecideLemmas.{IsDecided, decided_and, decided_like, refutes_decided, text_decided}

shown_decided : (kept : List Kept) (claim : Claim) → IsDecided (IsClaimShown kept claim)
shown_decided kept claim = by (slice_get (traces_on claim.day kept) claim.index) refl
  where
    by : (o : Option Kept) → slice_get (traces_on claim.day kept) claim.index ≡ o → IsDecided (IsClaimShown kept claim)
    by None none = inr (λ s. none-some s.trace (sym none ∙ s.stands))
    by (Some k) some = decided_like
        (λ (h : (k.trace.request ≡ claim.request) × RefutesMatter claim.matter k). record { trace = k; stands = some; request = h.0; refutes = h.1 })
        (λ s.
        let same : s.trace ≡ k = same_Some s.trace k (sym s.stands ∙ some) in
        (ap (λ (v : Kept). v.trace.request) (sym same) ∙ s.request, subst (RefutesMatter claim.matter) same s.refutes))
        (decided_and (text_decided k.trace.request claim.request) (refutes_decided k claim.matter))

verdict_of : (kept : List Kept) (claim : Claim) → (b : Bool) × IsVerdict kept claim b
verdict_of kept claim = ⊎_elim
    (λ (s : IsClaimShown kept claim). (true, ((λ e. s), (λ h. refl))))
    (λ (n : IsClaimShown kept claim → ⊥). (false, ((λ e. absurd (false≢true e)), (λ h. absurd (n h)))))
    (shown_decided kept claim)

pub verdicts_of : (kept : List Kept) (claims : List Claim) → (verdicts : List Bool) × AllZip (IsVerdict kept) claims verdicts
verdicts_of kept [] = ([], tt)
verdicts_of kept (claim ∷ claims) =
    let first = verdict_of kept claim in
    let rest = verdicts_of kept claims in
    (first.0 ∷ rest.0, (first.1, rest.1))
