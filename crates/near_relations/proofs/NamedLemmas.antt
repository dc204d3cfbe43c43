-- The traces of a batch by numbers.
use Rattle.std.proofs.Common.{◌≡◌, ℕ, ◌≤◌, List, [], ◌∷◌, All, Bor, Result, Ok, Err, ap, arith, length, map, refl, subst, sym}
use Rattle.std.specs.Result.{IfErr}
use Rattle.std.proofs.lemmas.List.{get_or-map, length-map}
use Rattle.std.proofs.lemmas.Slice.Zip.{AllZip-long}
use Rattle.book_laws.specs.Shown.{AreShown, IsShown}
use Rattle.refute_tests.specs.Clearing.{HaveNamesBelow}
use Rattle.segment_cut.specs.declared.trace_fault.TraceFault.{TraceFault}
use Rattle.segment_names.specs.Known.{Known}
use Rattle.segment_names.specs.Limits.{HasCause}
use Rattle.segment_names.specs.declared.name_fault.NameFault.{NameFault}
use Rattle.segment_names.specs.declared.name_fault.NameFault.TheVariants.{Memory, Over}
use Rattle.segment_names.specs.declared.name_fault.NameLimit.{NameLimit}
use Rattle.session_rules.specs.Batches.{AreJudged, IsJudged, valid_of}
use Rattle.session_rules.specs.KeptTraces.{kept_with}
use Rattle.session_rules.specs.declared.refused.Refused.{Refused}
use Rattle.trace_types.specs.Batch.{PlainTrace}
use Rattle.trace_types.specs.declared.named_trace.NamedTrace.{NamedTrace}
use Rattle.trace_types.specs.declared.trace.Trace.{Trace}
use Rattle.near_relations.specs.NearRelations.{named_request, trace_request, without_grace}
use Rattle.near_relations.specs.inner.Naming.{borrowed}

-- what holds of traces holds of those that are lent
pub below_lent : (names : ℕ) (lent : List (Bor NamedTrace)) (traces : List NamedTrace) → map borrowed lent ≡ traces → All (HaveNamesBelow names) traces → All (λ (b : Bor NamedTrace). HaveNamesBelow names b.now) lent
below_lent names lent traces e all =
    let here : All (HaveNamesBelow names) (map borrowed lent) = subst (All (HaveNamesBelow names)) (sym e) all in
    λ k d lt. subst (HaveNamesBelow names) (get_or-map borrowed lent k d (borrowed d) lt) (here k (borrowed d) (omega (arith, lt, length-map lent borrowed)))

-- a cause that follows from another
cause_weaker : (P Q : NameLimit → Type 0) → ((limit : NameLimit) → P limit → Q limit) → (fault : NameFault) → HasCause P fault → HasCause Q fault
cause_weaker P Q make Memory h = tt
cause_weaker P Q make (Over limit) h = make limit h

pub cause_of : {T : Type 0} (r : Result T NameFault) (P Q : NameLimit → Type 0) → ((limit : NameLimit) → P limit → Q limit) → IfErr r (HasCause P) → IfErr r (HasCause Q)
cause_of (Ok v) P Q make h = tt
cause_of (Err fault) P Q make h = cause_weaker P Q make fault h

-- the named traces have the requests of the valid ones
pub requests_shown : (known : Known) (named : List NamedTrace) (valid : List Trace) → AreShown known named (without_grace valid) → map named_request named ≡ map trace_request valid
requests_shown known [] [] h = refl
requests_shown known [] (t ∷ ts) h = absurd h
requests_shown known (n ∷ ns) [] h = absurd h
requests_shown known (n ∷ ns) (t ∷ ts) h = λ i. h.0.request i ∷ requests_shown known ns ts h.1 i

few_valid : (verdicts : List (Result Trace TraceFault)) → length (valid_of verdicts) ≤ length verdicts
few_valid [] = omega arith
few_valid (Ok t ∷ verdicts) = let rest = few_valid verdicts in omega (arith, rest)
few_valid (Err fault ∷ verdicts) = let rest = few_valid verdicts in omega (arith, rest)

-- there are no more of them than traces
pub few_named : (known : Known) (raws : List PlainTrace) (valid : List Trace) (refused : List Refused) (named : List NamedTrace) → AreJudged raws valid refused → AreShown known named (without_grace valid) → length named ≤ length raws
few_named known raws valid refused named judged shown =
    omega (arith, AllZip-long (IsShown known) named (without_grace valid) shown, length-map valid (kept_with 0), ap length judged.valid_are, few_valid judged.verdicts, AllZip-long IsJudged raws judged.verdicts judged.each)
