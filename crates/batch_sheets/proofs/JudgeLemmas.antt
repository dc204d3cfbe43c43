-- One trace of a batch after another.
use Rattle.std.proofs.Common.{◌≡◌, ◌≤◌, ℕ, List, [], ◌∷◌, ◌++◌, length, map, Result, Ok, Err, refl, sym, ◌∙◌, ap, ap₂, subst, append-nil, arith}
use Rattle.std.specs.Prelude.{All, IfOk}
use Rattle.std.specs.List.{AllZip}
use Rattle.std.proofs.lemmas.List.{map-append}
use Rattle.std.proofs.lemmas.List.Elements.{filter_map-append, All-append, All-nil, All-cons}
use Rattle.trace_types.specs.declared.trace.Trace.{Trace}
use Rattle.trace_types.specs.Batch.{PlainTrace}
use Rattle.event_table.specs.Texts.{TextLists}
use Rattle.segment_cut.specs.Cutting.{IsCut}
use Rattle.segment_cut.specs.Faults.{IsTraceFault}
use Rattle.segment_cut.specs.NumberedCuts.{NumberedCut}
use Rattle.segment_cut.specs.declared.trace_fault.TraceFault.{TraceFault}
use Rattle.session_rules.specs.declared.refused.Refused.{Refused}
use Rattle.trace_types.proofs.ZipLemmas.{zip_push}
use Rattle.batch_sheets.specs.declared.judging.JudgedTraces.{JudgedTraces}
use Rattle.session_rules.specs.Batches.{IsJudged, AreJudged, valid_in, valid_of, refused_of}
use Rattle.batch_sheets.specs.inner.Judging.{AreCut, AreJudgedSoFar, Judges}
use Rattle.batch_sheets.specs.Named.{HasFewSegments, cut_trace}
use Rattle.batch_sheets.proofs.CutLemmas.{traces_next}
use Rattle.batch_sheets.proofs.ZipLemmas.{zip_append}

-- ---- cut traces

cut_none : (texts : TextLists) → AreCut texts []
cut_none texts = record { few = All-nil HasFewSegments; same_texts = All-nil (λ (c : NumberedCut). c.texts ≡ texts) }

cut_join : (texts : TextLists) (xs ys : List NumberedCut) → AreCut texts xs → AreCut texts ys → AreCut texts (xs ++ ys)
cut_join texts xs ys a b = record {
  few = subst (All HasFewSegments) (sym (map-append cut_trace xs ys)) (All-append HasFewSegments (map cut_trace xs) (map cut_trace ys) a.few b.few);
  same_texts = All-append (λ (c : NumberedCut). c.texts ≡ texts) xs ys a.same_texts b.same_texts;
}

cut_one : (texts : TextLists) (c : NumberedCut) → HasFewSegments c.trace → c.texts ≡ texts → AreCut texts (c ∷ [])
cut_one texts c few is = record {
  few = All-cons HasFewSegments (cut_trace c) [] few (All-nil HasFewSegments);
  same_texts = All-cons (λ (d : NumberedCut). d.texts ≡ texts) c [] is (All-nil (λ (d : NumberedCut). d.texts ≡ texts));
}

-- ---- one trace

-- a trace that is valid
pub judges_valid : (texts : TextLists) (raw : PlainTrace) (old new : JudgedTraces) (c : NumberedCut) → IsCut raw.request raw.events c.trace → c.texts ≡ texts → length c.trace.segments ≤ length raw.events
    → new.valid.items ≡ old.valid.items ++ c ∷ [] → new.refused.items ≡ old.refused.items → Judges texts raw old new
judges_valid texts raw old new c cut is few valid refused = let short = cut.valid.short in record {
  verdict = Ok c.trace;
  judged = cut;
  valid = ap (map cut_trace) valid ∙ traces_next old.valid.items c;
  refused = refused ∙ sym (append-nil old.refused.items);
  cut = λ are. subst (AreCut texts) (sym valid) (cut_join texts old.valid.items (c ∷ []) are (cut_one texts c (omega arith) is));
}

-- one that is refused
pub judges_refused : (texts : TextLists) (raw : PlainTrace) (old new : JudgedTraces) (request : List ℕ) (fault : TraceFault) → IsTraceFault raw.events fault → request ≡ raw.request
    → new.valid.items ≡ old.valid.items → new.refused.items ≡ old.refused.items ++ record { request = request; fault = fault } ∷ [] → Judges texts raw old new
judges_refused texts raw old new request fault is own valid refused = record {
  verdict = Err fault;
  judged = is;
  valid = ap (map cut_trace) valid ∙ sym (append-nil (map cut_trace old.valid.items));
  refused = refused ∙ ap (λ (r : List ℕ). old.refused.items ++ record { request = r; fault = fault } ∷ []) own;
  cut = λ are. subst (AreCut texts) (sym valid) are;
}

-- ---- one after another

pub judged_none : AreJudged [] [] []
judged_none = record { verdicts = []; each = tt; valid_are = refl; refused_are = refl }

refused_join : (raws raws' : List PlainTrace) (vs vs' : List (Result Trace TraceFault)) → AllZip IsJudged raws vs → refused_of (raws ++ raws') (vs ++ vs') ≡ refused_of raws vs ++ refused_of raws' vs'
refused_join [] raws' [] vs' h = refl
refused_join [] raws' (v ∷ vs) vs' h = absurd h
refused_join (r ∷ raws) raws' [] vs' h = absurd h
refused_join (r ∷ raws) raws' (Ok trace ∷ vs) vs' h = refused_join raws raws' vs vs' h.1
refused_join (r ∷ raws) raws' (Err fault ∷ vs) vs' h = ap (λ (rest : List Refused). record { request = r.request; fault = fault } ∷ rest) (refused_join raws raws' vs vs' h.1)

pub so_far_none : (texts : TextLists) (raws : List PlainTrace) (judged : JudgedTraces) → raws ≡ [] → judged.valid.items ≡ [] → judged.refused.items ≡ [] → AreJudgedSoFar texts raws judged
so_far_none texts raws judged none valid refused = record {
  all = rw (none, valid, refused) judged_none;
  cut = subst (AreCut texts) (sym valid) (cut_none texts);
}

pub so_far_next : (texts : TextLists) (raws then : List PlainTrace) (raw : PlainTrace) (old new : JudgedTraces) → then ≡ raws ++ raw ∷ [] → AreJudgedSoFar texts raws old → Judges texts raw old new → AreJudgedSoFar texts then new
so_far_next texts raws then raw old new is h s =
    let vs = h.all.verdicts in
    subst (λ (l : List PlainTrace). AreJudgedSoFar texts l new) (sym is) (record {
      all = record {
        verdicts = vs ++ s.verdict ∷ [];
        each = zip_push IsJudged raws vs raw s.verdict h.all.each s.judged;
        valid_are = s.valid ∙ ap (λ (ts : List Trace). ts ++ valid_of (s.verdict ∷ [])) h.all.valid_are ∙ sym (filter_map-append valid_in vs (s.verdict ∷ []));
        refused_are = s.refused ∙ ap (λ (rs : List Refused). rs ++ refused_of (raw ∷ []) (s.verdict ∷ [])) h.all.refused_are ∙ sym (refused_join raws (raw ∷ []) vs (s.verdict ∷ []) h.all.each);
      };
      cut = s.cut h.cut;
    })

-- ---- in parts

-- what a part is judged and then the part behind it is what both are
so_far_join : (texts : TextLists) (front back : List PlainTrace) (a b j : JudgedTraces) → AreJudgedSoFar texts front a → AreJudgedSoFar texts back b
    → j.valid.items ≡ a.valid.items ++ b.valid.items → j.refused.items ≡ a.refused.items ++ b.refused.items → AreJudgedSoFar texts (front ++ back) j
so_far_join texts front back a b j early late valid refused =
    let vs = early.all.verdicts in
    let ws = late.all.verdicts in record {
      all = record {
        verdicts = vs ++ ws;
        each = zip_append IsJudged front back vs ws early.all.each late.all.each;
        valid_are = ap (map cut_trace) valid ∙ map-append cut_trace a.valid.items b.valid.items ∙ ap₂ (λ (x y : List Trace). x ++ y) early.all.valid_are late.all.valid_are ∙ sym (filter_map-append valid_in vs ws);
        refused_are = refused ∙ ap₂ (λ (x y : List Refused). x ++ y) early.all.refused_are late.all.refused_are ∙ sym (refused_join front back vs ws early.all.each);
      };
      cut = subst (AreCut texts) (sym valid) (cut_join texts a.valid.items b.valid.items early.cut late.cut);
    }

pub joined_parts : {E : Type 0} (texts : TextLists) (all front back : List PlainTrace) (a b : JudgedTraces) (r : Result JudgedTraces E) → all ≡ front ++ back → AreJudgedSoFar texts front a → AreJudgedSoFar texts back b
    → IfOk r (λ j. j.valid.items ≡ a.valid.items ++ b.valid.items) → IfOk r (λ j. j.refused.items ≡ a.refused.items ++ b.refused.items) → IfOk r (AreJudgedSoFar texts all)
joined_parts texts all front back a b (Ok j) is early late valid refused = subst (λ (l : List PlainTrace). AreJudgedSoFar texts l j) (sym is) (so_far_join texts front back a b j early late valid refused)
joined_parts texts all front back a b (Err e) is early late valid refused = tt

-- what holds of all traces by their range holds of them as traces of the batch
pub judged_all : {E : Type 0} (texts : TextLists) (range all : List PlainTrace) (r : Result JudgedTraces E) → range ≡ all → IfOk r (AreJudgedSoFar texts range) → IfOk r (AreJudgedSoFar texts all)
judged_all texts range all r is h = subst (λ (l : List PlainTrace). IfOk r (AreJudgedSoFar texts l)) is h
