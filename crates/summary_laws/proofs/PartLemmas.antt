-- Two parts of an input, one under the digest of the other, print what the whole prints.
use Rattle.std.proofs.Common.{◌≡◌, ◌↔◌, ℕ, ◌*◌, List, [], ◌∷◌, ◌++◌, Result, Ok, Err, length, map, refl, sym, ap, ◌∙◌, subst}
use Rattle.std.specs.List.{AllZip, Contains}
use Rattle.std.specs.Cmp.Lexicographic.{slice_cmp}
use Rattle.std.specs.Ordering.{nat_cmp}
use Rattle.std.proofs.lemmas.List.{map-append}
use Rattle.digest_facts.specs.Digests.{Digest, merged}
use Rattle.digest_facts.specs.SplitLaws.{TracesOfParts}
use Rattle.segment_cut.specs.Cutting.{IsCut}
use Rattle.segment_cut.specs.Faults.{IsTraceFault}
use Rattle.segment_cut.specs.declared.trace_fault.TraceFault.{TraceFault}
use Rattle.session_rules.specs.Batches.{AreJudged, IsJudged, valid_of}
use Rattle.session_rules.specs.GivenDigests.{SurvivesUnder}
use Rattle.session_rules.specs.KeptTraces.{Kept, kept_with, with_taken}
use Rattle.session_rules.specs.Sessions.{State}
use Rattle.session_rules.specs.declared.refused.Refused.{Refused}
use Rattle.trace_types.specs.Batch.{PlainTrace, traces_of}
use Rattle.trace_types.specs.NameOrder.{name_cmp}
use Rattle.trace_types.specs.Segments.{SegmentName}
use Rattle.trace_types.specs.declared.event.Event.{Event}
use Rattle.trace_types.specs.declared.trace.Trace.{Trace}
use Rattle.summary_laws.specs.AlikeTexts.{JudgeAlike, PrintAlike}
use Rattle.summary_laws.specs.PartLaws.{PartsPrintWhatTheWholePrints}
use Rattle.summary_laws.proofs.StandingLemmas.{any_order, merged_stands}
use Rattle.summary_laws.proofs.TakenLemmas.{parts_have, parts_length}

-- a trace has one verdict
pub record OneVerdict : Type 0 where
  pub trace : (request : List ℕ) (events : List Event) (t u : Trace) → IsCut request events t → IsCut request events u → t ≡ u
  pub fault : (events : List Event) (f g : TraceFault) → IsTraceFault events f → IsTraceFault events g → f ≡ g
  pub not_both : (request : List ℕ) (events : List Event) (t : Trace) (f : TraceFault) → IsCut request events t → IsTraceFault events f → ⊥

-- ---- what is alike with what is alike
judge_both : (P Q R : SegmentName → SegmentName → Type 0) → JudgeAlike P Q → JudgeAlike Q R → JudgeAlike P R
judge_both P Q R h k = record {
  paths = λ t b. ((λ x. (k.paths t b).0 ((h.paths t b).0 x)), (λ x. (h.paths t b).1 ((k.paths t b).1 x)));
  slacks = λ t b. ((λ x. (k.slacks t b).0 ((h.slacks t b).0 x)), (λ x. (h.slacks t b).1 ((k.slacks t b).1 x)));
  graphs = λ t b. ((λ x. (k.graphs t b).0 ((h.graphs t b).0 x)), (λ x. (h.graphs t b).1 ((k.graphs t b).1 x)));
  report_heads = λ ts b. ((λ x. (k.report_heads ts b).0 ((h.report_heads ts b).0 x)), (λ x. (h.report_heads ts b).1 ((k.report_heads ts b).1 x)));
  report_rows = λ ts n b. ((λ x. (k.report_rows ts n b).0 ((h.report_rows ts n b).0 x)), (λ x. (h.report_rows ts n b).1 ((k.report_rows ts n b).1 x)));
  tail_rows = λ ts n b. ((λ x. (k.tail_rows ts n b).0 ((h.tail_rows ts n b).0 x)), (λ x. (h.tail_rows ts n b).1 ((k.tail_rows ts n b).1 x)));
  forecast_heads = λ c ts b. ((λ x. (k.forecast_heads c ts b).0 ((h.forecast_heads c ts b).0 x)), (λ x. (h.forecast_heads c ts b).1 ((k.forecast_heads c ts b).1 x)));
  forecasts = λ c t b. ((λ x. (k.forecasts c t b).0 ((h.forecasts c t b).0 x)), (λ x. (h.forecasts c t b).1 ((k.forecasts c t b).1 x)));
}

print_both : (s t u : Digest SegmentName (List ℕ)) (xs ys zs : List Kept) → PrintAlike s xs t ys → PrintAlike t ys u zs → PrintAlike s xs u zs
print_both s t u xs ys zs h k = record {
  heads = λ b. ((λ x. (k.heads b).0 ((h.heads b).0 x)), (λ x. (h.heads b).1 ((k.heads b).1 x)));
  models = λ b. ((λ x. (k.models b).0 ((h.models b).0 x)), (λ x. (h.models b).1 ((k.models b).1 x)));
  digests = λ b. ((λ x. (k.digests b).0 ((h.digests b).0 x)), (λ x. (h.digests b).1 ((k.digests b).1 x)));
}

-- ---- verdicts of two parts
valid_append : (vs ws : List (Result Trace TraceFault)) → valid_of (vs ++ ws) ≡ valid_of vs ++ valid_of ws
valid_append [] ws = refl
valid_append (Ok t ∷ vs) ws = ap (λ (ts : List Trace). t ∷ ts) (valid_append vs ws)
valid_append (Err f ∷ vs) ws = valid_append vs ws

zip_append : {X Y : Type 0} (R : X → Y → Type 0) (xs us : List X) (ys vs : List Y) → AllZip R xs ys → AllZip R us vs → AllZip R (xs ++ us) (ys ++ vs)
zip_append R [] us [] vs h k = k
zip_append R [] us (y ∷ ys) vs h k = absurd h
zip_append R (x ∷ xs) us [] vs h k = absurd h
zip_append R (x ∷ xs) us (y ∷ ys) vs h k = (h.0, zip_append R xs us ys vs h.1 k)

zip_one : {X Y : Type 0} (R : X → Y → Type 0) → ((x : X) (y z : Y) → R x y → R x z → y ≡ z) → (xs : List X) (ys zs : List Y) → AllZip R xs ys → AllZip R xs zs → ys ≡ zs
zip_one R one [] [] [] h k = refl
zip_one R one [] (y ∷ ys) zs h k = absurd h
zip_one R one [] [] (z ∷ zs) h k = absurd k
zip_one R one (x ∷ xs) [] zs h k = absurd h
zip_one R one (x ∷ xs) (y ∷ ys) [] h k = absurd k
zip_one {X} {Y} R one (x ∷ xs) (y ∷ ys) (z ∷ zs) h k = ap (λ (e : Y). e ∷ ys) (one x y z h.0 k.0) ∙ ap (λ (es : List Y). z ∷ es) (zip_one R one xs ys zs h.1 k.1)

module _ (verdict : OneVerdict) (split : TracesOfParts) where
  one_verdict : (raw : PlainTrace) (v w : Result Trace TraceFault) → IsJudged raw v → IsJudged raw w → v ≡ w
  one_verdict raw (Ok t) (Ok u) h k = ap Ok (verdict.trace raw.request raw.events t u h k)
  one_verdict raw (Err f) (Err g) h k = ap Err (verdict.fault raw.events f g h k)
  one_verdict raw (Ok t) (Err f) h k = absurd (verdict.not_both raw.request raw.events t f h k)
  one_verdict raw (Err f) (Ok t) h k = absurd (verdict.not_both raw.request raw.events t f k h)

  -- the valid traces of both are those of the one and those of the other
  valid_parts : (batch more : List Event) (valid others all : List Trace) (p q r : List Refused) → traces_of (batch ++ more) ≡ traces_of batch ++ traces_of more
      → AreJudged (traces_of batch) valid p → AreJudged (traces_of more) others q → AreJudged (traces_of (batch ++ more)) all r → all ≡ valid ++ others
  valid_parts batch more valid others all p q r parts h k w =
      let each : AllZip IsJudged (traces_of batch ++ traces_of more) w.verdicts = subst (λ (raws : List PlainTrace). AllZip IsJudged raws w.verdicts) parts w.each in
      let both : AllZip IsJudged (traces_of batch ++ traces_of more) (h.verdicts ++ k.verdicts) = zip_append IsJudged (traces_of batch) (traces_of more) h.verdicts k.verdicts h.each k.each in
      let same : w.verdicts ≡ h.verdicts ++ k.verdicts = zip_one IsJudged one_verdict (traces_of batch ++ traces_of more) w.verdicts (h.verdicts ++ k.verdicts) each both in
      w.valid_are ∙ ap valid_of same ∙ valid_append h.verdicts k.verdicts ∙ ap (λ (ts : List Trace). ts ++ valid_of k.verdicts) (sym h.valid_are) ∙ ap (λ (ts : List Trace). valid ++ ts) (sym k.valid_are)

  -- the traces that a session keeps that adds these first
  abbrev first_kept : List Trace → List Kept
  first_kept valid = with_taken [] (map (kept_with (1000 * 0)) valid)

  pub parts_print : PartsPrintWhatTheWholePrints
  parts_print given digest batch more first second whole apart form one is other both =
      let adds = one.3 in
      let adds_more = other.3 in
      let adds_all = both.3 in
      let first_is : first ≡ first_kept adds.valid = one.4 ∙ ap (λ (s : State). s.kept) adds.after in
      let second_is : second ≡ first_kept adds_more.valid = other.4 ∙ ap (λ (s : State). s.kept) adds_more.after in
      let valid : adds_all.valid ≡ adds.valid ++ adds_more.valid = valid_parts batch more adds.valid adds_more.valid adds_all.valid adds.refused adds_more.refused adds_all.refused (split batch more apart) adds.judged adds_more.judged adds_all.judged in
      let ts : List Kept = map (kept_with (1000 * 0)) adds.valid in
      let us : List Kept = map (kept_with (1000 * 0)) adds_more.valid in
      let whole_is : whole ≡ with_taken [] (ts ++ us) = both.4 ∙ ap (λ (s : State). s.kept) adds_all.after ∙ ap first_kept valid ∙ ap (with_taken []) (map-append (kept_with (1000 * 0)) adds.valid adds_more.valid) in
      let halves : first ++ second ≡ with_taken [] ts ++ with_taken [] us = ap (λ (ks : List Kept). ks ++ second) first_is ∙ ap (λ (ks : List Kept). with_taken [] ts ++ ks) second_is in
      let count : length (first ++ second) ≡ length whole = ap (λ (ks : List Kept). length ks) halves ∙ parts_length ts us ∙ ap (λ (ks : List Kept). length ks) (sym whole_is) in
      let same : (k : Kept) → Contains (first ++ second) k ↔ Contains whole k = λ k. (
        (λ c. subst (λ (ks : List Kept). Contains ks k) (sym whole_is) ((parts_have ts us k).0 (subst (λ (ks : List Kept). Contains ks k) halves c))),
        (λ c. subst (λ (ks : List Kept). Contains ks k) (sym halves) ((parts_have ts us k).1 (subst (λ (ks : List Kept). Contains ks k) whole_is c))),
      ) in
      let stands = merged_stands given digest first second form is in
      let ordered = any_order given (first ++ second) whole count same in (
        print_both (merged name_cmp (slice_cmp nat_cmp) given digest) given given second (first ++ second) whole stands.0 ordered.0,
        judge_both (SurvivesUnder (merged name_cmp (slice_cmp nat_cmp) given digest) second) (SurvivesUnder given (first ++ second)) (SurvivesUnder given whole) stands.1 ordered.1,
      )
