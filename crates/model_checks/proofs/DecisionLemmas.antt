-- From what is refuted to the lines of the model.
use Rattle.std.proofs.Common.{◌≡◌, ◌≢◌, ◌↔◌, Bool, true, false, not, ◌&&◌, List, get_or, map, sym, ◌∙◌}
use Rattle.std.specs.declared.cmp.Ordering.TheVariants.{Less}
use Rattle.std.specs.List.{Contains}
use Rattle.std.proofs.lemmas.Bool.{iff_false, and_parts, and_from, not-true, not_from_false, false_from_ne_true}
use Rattle.std.proofs.lemmas.List.{get_or_default}
use Rattle.std.proofs.lemmas.List.Elements.{All-contains}
use Rattle.trace_types.specs.declared.trace.Trace.{Trace}
use Rattle.trace_types.specs.Parts.{by_text}
use Rattle.trace_types.specs.Refuting.{RefutesBefore, RefutesExclusive, RefutesApart}
use Rattle.trace_types.specs.Segments.{name_of}
use Rattle.trace_types.specs.Surviving.{Survives, IsRefuted}
use Rattle.trace_types.specs.Segments.{SegmentName}
use Rattle.trace_types.specs.NameOrder.{name_cmp}
use Rattle.trace_types.specs.Parts.{segments_of}
use Rattle.trace_types.specs.Relations.{HappensBefore, ExcludesUnordered}
use Rattle.trace_types.proofs.ElementLemmas.{Contains-map, Contains-flat_map}

-- a relation survives exactly where the test that tells of its refutation fails
survives_from : {T : Type 0} (P : T → Type 0) (xs : List T) (r : Bool) → (r ≡ true) ↔ IsRefuted P xs → r ≡ false → Survives P xs
survives_from P xs r told off k d lt p = iff_false told off (k, get_or xs k d, lt, get_or_default xs k (get_or xs k d) d lt, p)

fails_from : {T : Type 0} (P : T → Type 0) (xs : List T) (r : Bool) → (r ≡ true) ↔ IsRefuted P xs → Survives P xs → r ≡ false
fails_from P xs r told survives = false_from_ne_true r (λ h. let a = told.0 h in All-contains (λ t. P t → ⊥) xs a.1 survives (a.0, a.2, a.3) a.4)

module _ (traces : List Trace) (a b : SegmentName) (apart before : Bool) (together : (apart ≡ true) ↔ IsRefuted (RefutesApart by_text a b) traces) (not_before : (before ≡ true) ↔ IsRefuted (RefutesBefore by_text a b) traces) where
  pub told_before : (differ r : Bool) → r ≡ (differ && apart && not before) → (differ ≡ true) ↔ (a ≢ b) → (r ≡ true) ↔ HappensBefore by_text traces a b
  told_before differ r e apart_names = (
    (λ h.
        let t = and_parts (differ && apart) (not before) (sym e ∙ h) in
        let u = and_parts differ apart t.0 in
        record {
          differ = apart_names.0 u.0;
          together = together.0 u.1;
          survives = survives_from (RefutesBefore by_text a b) traces before not_before (not-true before t.1);
        }),
    (λ h. e ∙ and_from (differ && apart) (not before) (and_from differ apart (apart_names.1 h.differ) (together.1 h.together))
        (not_from_false before (fails_from (RefutesBefore by_text a b) traces before not_before h.survives))),
  )

  pub told_exclusive : (exclusive after : Bool) → (exclusive ≡ true) ↔ IsRefuted (RefutesExclusive by_text a b) traces → (after ≡ true) ↔ IsRefuted (RefutesBefore by_text b a) traces
      → (rises r : Bool) → r ≡ (rises && apart && not exclusive && before && after) → (rises ≡ true) ↔ (name_cmp a b ≡ Less) → (r ≡ true) ↔ ExcludesUnordered by_text name_cmp traces a b
  told_exclusive exclusive after not_exclusive not_after rises r e order = (
    (λ h.
        let t = and_parts (rises && apart && not exclusive && before) after (sym e ∙ h) in
        let u = and_parts (rises && apart && not exclusive) before t.0 in
        let v = and_parts (rises && apart) (not exclusive) u.0 in
        let w = and_parts rises apart v.0 in
        record {
          rises = order.0 w.0;
          together = together.0 w.1;
          survives = survives_from (RefutesExclusive by_text a b) traces exclusive not_exclusive (not-true exclusive v.1);
          not_before = not_before.0 u.1;
          not_after = not_after.0 t.1;
        }),
    (λ h. e ∙ and_from (rises && apart && not exclusive && before) after
        (and_from (rises && apart && not exclusive) before
        (and_from (rises && apart) (not exclusive) (and_from rises apart (order.1 h.rises) (together.1 h.together))
        (not_from_false exclusive (fails_from (RefutesExclusive by_text a b) traces exclusive not_exclusive h.survives)))
        (not_before.1 h.not_before))
        (not_after.1 h.not_after)),
  )

-- names that meet are names of segments
pub first_named : (traces : List Trace) (a b : SegmentName) → IsRefuted (RefutesApart by_text a b) traces → Contains (map name_of (segments_of by_text traces)) a
first_named traces a b r = let both = r.4 in
    Contains-map name_of (segments_of by_text traces) both.0 a (Contains-flat_map (λ (t : Trace). t.segments) traces r.1 both.0 (r.0, r.2, r.3) both.2) both.4

pub second_named : (traces : List Trace) (a b : SegmentName) → IsRefuted (RefutesApart by_text a b) traces → Contains (map name_of (segments_of by_text traces)) b
second_named traces a b r = let both = r.4 in
    Contains-map name_of (segments_of by_text traces) both.1 b (Contains-flat_map (λ (t : Trace). t.segments) traces r.1 both.1 (r.0, r.2, r.3) both.3) both.5
