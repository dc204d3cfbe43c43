-- Traces that are named, and those with new names, which are added: all are named then.
use Rattle.std.proofs.Common.{◌≡◌, ℕ, List, [], ◌∷◌, ◌++◌, All, refl, sym, ap, ◌∙◌, subst, append_assoc}
use Rattle.std.proofs.lemmas.List.Elements.{All-nil, All-cons, All-head, All-tail}
use Rattle.std.specs.List.{AllZip}
use Rattle.book_laws.specs.BookLaws.{GrownShows}
use Rattle.book_laws.specs.Shown.{AreShown}
use Rattle.segment_names.specs.Known.{Known}
use Rattle.segment_names.specs.Limits.{HasCause, IsKept, PassesLimit}
use Rattle.segment_names.specs.declared.name_fault.NameFault.{NameFault}
use Rattle.session_rules.specs.KeptTraces.{kept_with}
use Rattle.trace_types.specs.declared.named_trace.NamedTrace.{NamedTrace}
use Rattle.trace_types.specs.declared.trace.Trace.{Trace}
use Rattle.batch_sheets.specs.declared.known_names.NamedOrNew.{NamedOrNew}
use Rattle.batch_sheets.specs.declared.known_names.NamedOrNew.TheVariants.{Named, New}
use Rattle.batch_sheets.specs.Named.{HasFewSegments}
use Rattle.batch_sheets.specs.inner.Growth.{AddsAndNames, AppendsNamed, CompletesOne, HasFewIfNew, IsNamedOrNew, PassesIfNew}
use Rattle.batch_sheets.proofs.GrowthLemmas.{adds_one, appends_more, back_passes, cause_weaker, front_passes, shown_after}
use Rattle.batch_sheets.proofs.ZipLemmas.{zip_head, zip_parts}

-- where traces have few segments, those with new names have
pub few_new : (known : Known) (grace : ℕ) (traces : List Trace) (list : List NamedOrNew) → AllZip (IsNamedOrNew known grace) traces list → All HasFewSegments traces → All HasFewIfNew list
few_new known grace [] [] z few = All-nil HasFewIfNew
few_new known grace [] (y ∷ ys) z few = absurd z
few_new known grace (t ∷ ts) [] z few = absurd z
few_new known grace (t ∷ ts) (Named named ∷ ys) z few = All-cons HasFewIfNew (Named named) ys tt (few_new known grace ts ys z.1 (All-tail HasFewSegments t ts few))
few_new known grace (t ∷ ts) (New cut ∷ ys) z few = All-cons HasFewIfNew (New cut) ys (subst HasFewSegments (sym z.0.0) (All-head HasFewSegments t ts few)) (few_new known grace ts ys z.1 (All-tail HasFewSegments t ts few))

-- no traces
pub new_none : (old : Known) (grace : ℕ) (before : List NamedTrace) → AppendsNamed old old grace [] before before → (traces : List Trace) → AllZip (IsNamedOrNew old grace) traces [] → AppendsNamed old old grace traces before before
new_none old grace before a [] z = a
new_none old grace before a (t ∷ ts) z = absurd z

module _ (grown : GrownShows) (old now : Known) (was : IsKept old) (grace : ℕ) where
  -- one of them adds and names its trace, after others
  one_completed : (front : List Trace) (ns : List NamedTrace) → AddsAndNames old now grace front ns → (trace : Trace) (one : NamedOrNew) (next : Known) (result : NamedTrace) → IsNamedOrNew old grace trace one → CompletesOne grace now next one result
      → AddsAndNames now next grace (trace ∷ []) (result ∷ [])
  one_completed front ns a trace (Named named) next result t (same, is) =
      let kept = kept_with grace trace in
      let late : AreShown now (named ∷ []) (kept ∷ []) = subst (λ (k : Known). AreShown k (named ∷ []) (kept ∷ [])) (sym a.added) (grown old front (named ∷ []) (kept ∷ []) was (t, tt)) in
      let one : AddsAndNames now now grace (trace ∷ []) (named ∷ []) = adds_one now now grace trace named a.kept a.kept (sym (shown_after now named grace trace a.kept late.0)) late.0 in
      subst (λ (k : Known). AddsAndNames now k grace (trace ∷ []) (result ∷ [])) (sym same) (subst (λ (n : NamedTrace). AddsAndNames now now grace (trace ∷ []) (n ∷ [])) (sym is) one)
  one_completed front ns a trace (New cut) next result t s = subst (λ (x : Trace). AddsAndNames now next grace (x ∷ []) (result ∷ [])) t.0 s

  -- a limit that the names of its trace pass
  one_cause : (trace : Trace) (one : NamedOrNew) (fault : NameFault) → IsNamedOrNew old grace trace one → HasCause (PassesIfNew now one) fault → HasCause (PassesLimit now (trace ∷ [])) fault
  one_cause trace (Named named) fault t c = cause_weaker (PassesIfNew now (Named named)) (PassesLimit now (trace ∷ [])) (λ f p. absurd p) fault c
  one_cause trace (New cut) fault t c = subst (λ (x : Trace). HasCause (PassesLimit now (x ∷ [])) fault) t.0 c

  -- one more, where those so far are added and named
  module _ (yielded : List NamedOrNew) (before names : List NamedTrace) (so_far : (traces : List Trace) → AllZip (IsNamedOrNew old grace) traces yielded → AppendsNamed old now grace traces before names) where
    pub new_more : (one : NamedOrNew) (next : Known) (result : NamedTrace) (then : List NamedTrace) → CompletesOne grace now next one result → then ≡ names ++ result ∷ []
        → (traces : List Trace) → AllZip (IsNamedOrNew old grace) traces (yielded ++ one ∷ []) → AppendsNamed old next grace traces before then
    new_more one next result then done is traces z =
        let p = zip_parts (IsNamedOrNew old grace) traces yielded (one ∷ []) z in
        let h = zip_head (IsNamedOrNew old grace) p.back one [] p.late in
        let a = so_far p.front p.early in
        let step = one_completed p.front a.0 a.2 h.head one next result h.first done in
        let all : AppendsNamed old next grace (p.front ++ h.head ∷ []) before then = appends_more grown old now grace p.front a.0 a.2 next (h.head ∷ []) before names then a.1 (result ∷ [], is, step) in
        subst (λ (ts : List Trace). AppendsNamed old next grace ts before then) (sym (p.joined ∙ ap (λ l. p.front ++ l) (h.joined ∙ ap (λ l. h.head ∷ l) (no_more h.rest h.later)))) all
      where
        no_more : (rest : List Trace) → AllZip (IsNamedOrNew old grace) rest [] → rest ≡ []
        no_more [] z = refl
        no_more (t ∷ ts) z = absurd z

    pub new_cause : (one : NamedOrNew) (rest : List NamedOrNew) (fault : NameFault) → HasCause (PassesIfNew now one) fault → (traces : List Trace) → AllZip (IsNamedOrNew old grace) traces (yielded ++ one ∷ rest) → HasCause (PassesLimit old traces) fault
    new_cause one rest fault c traces z =
        let p = zip_parts (IsNamedOrNew old grace) traces yielded (one ∷ rest) z in
        let h = zip_head (IsNamedOrNew old grace) p.back one rest p.late in
        let a = so_far p.front p.early in
        let cause = front_passes old (p.front ++ h.head ∷ []) h.rest fault (back_passes grown old now grace p.front a.0 a.2 (h.head ∷ []) fault (one_cause h.head one fault h.first c)) in
        subst (λ (ts : List Trace). HasCause (PassesLimit old ts) fault) (append_assoc p.front (h.head ∷ []) h.rest ∙ sym (p.joined ∙ ap (λ l. p.front ++ l) h.joined)) cause
