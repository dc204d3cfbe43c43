-- Names by their numbers, gathered and compared.
use Rattle.std.proofs.Common.{◌≡◌, ◌⊎◌, inl, inr, ℕ, ◌+◌, ◌<◌, ◌≤◌, ◌&&◌, List, [], ◌∷◌, ◌++◌, Bool, true, false, All, eqb, length, get_or, map, take, ap, refl, sym, subst, ◌∙◌, append-nil, Some}
use Rattle.std.specs.Prelude.{slice_get}
use Rattle.std.specs.List.{AllZip, flat_map}
use Rattle.std.specs.Str.{bytes_eq}
use Rattle.std.proofs.lemmas.Bool.{cases_order, eq-eqb, eqb-true}
use Rattle.std.proofs.lemmas.List.{map-append, take_all, take_more}
use Rattle.std.proofs.lemmas.List.Concat.{flat_map-append}
use Rattle.std.proofs.lemmas.List.Elements.{All-append, All-map, All-nil}
use Rattle.std.proofs.lemmas.Option.{get_or_from_slice_get, slice_get_within}
use Rattle.std.proofs.lemmas.Slice.Eq.{bytes_eq-Decides}
use Rattle.std.proofs.lemmas.Simd.{map-map}
use Rattle.alike_groups.proofs.LawLemmas.{groups_under}
use Rattle.alike_groups.specs.Groups.{groups_of}
use Rattle.event_table.specs.Gathered.{NumberedTrace}
use Rattle.event_table.specs.Numbers.{text_under}
use Rattle.event_table.specs.Texts.{AreDifferent, TextLists}
use Rattle.segment_cut.specs.Cutting.{IsCut}
use Rattle.segment_cut.specs.Faults.{IsTraceFault}
use Rattle.segment_cut.specs.NumberedCuts.{HasTexts as SegmentHasTexts, segment_under, segments_under}
use Rattle.segment_cut.specs.declared.cut_segment.CutSegment.{CutSegment}
use Rattle.segment_cut.specs.declared.trace_fault.TraceFault.{TraceFault}
use Rattle.segment_names.specs.Known.{same_name}
use Rattle.trace_types.specs.declared.trace.Trace.{Trace}
use Rattle.trace_types.specs.Batch.{PlainTrace}
use Rattle.trace_types.specs.Segments.{SegmentName, name_of}
use Rattle.name_quality.specs.Names.{AreNames, HasNames, HasTexts, name_under, names_under, numbers_of, tasks_in}
use Rattle.name_quality.specs.inner.Adding.{AddsNames, task_number}

-- ---- one trace more

-- the names of a trace that was cut
pub cut_added : (raw : NumberedTrace) (texts : TextLists) (trace : Trace) (segments : List CutSegment) (old new : List (ℕ × ℕ × ℕ)) → texts ≡ raw.texts → IsCut raw.trace.request raw.trace.events trace → segments_under texts segments ≡ trace.segments
    → All (SegmentHasTexts texts) segments → new ≡ old ++ map numbers_of segments → AddsNames raw old new
cut_added raw texts trace segments old new same is under within e =
    let under_raw : segments_under raw.texts segments ≡ trace.segments = subst (λ t. segments_under t segments ≡ trace.segments) same under in
    let within_raw : All (SegmentHasTexts raw.texts) segments = subst (λ t. All (SegmentHasTexts t) segments) same within in
    record {
      more = map numbers_of segments;
      appended = e;
      known = All-map (HasTexts raw.texts) numbers_of segments (λ k d lt. let h = within_raw k d lt in record { task = h.task; start_event = h.start_event; end_event = h.end_event });
      named = inl (trace, is, map-map (name_under raw.texts) numbers_of segments ∙ sym (map-map name_of (segment_under raw.texts) segments) ∙ ap (map name_of) under_raw);
    }

-- a refused trace has none
pub fault_added : (raw : NumberedTrace) (old : List (ℕ × ℕ × ℕ)) (fault : TraceFault) → IsTraceFault raw.trace.events fault → AddsNames raw old old
fault_added raw old fault is = record {
  more = [];
  appended = sym (append-nil old);
  known = All-nil (HasTexts raw.texts);
  named = inr (fault, is, refl);
}

zip_push : {A B : Type 0} (R : A → B → Type 0) (xs : List A) (ys : List B) (x : A) (y : B) → AllZip R xs ys → R x y → AllZip R (xs ++ x ∷ []) (ys ++ y ∷ [])
zip_push R [] [] x y h r = (r, tt)
zip_push R [] (z ∷ ys) x y h r = absurd h
zip_push R (z ∷ xs) [] x y h r = absurd h
zip_push R (w ∷ xs) (z ∷ ys) x y h r = (h.0, zip_push R xs ys x y h.1 r)

pub names_more : (texts : TextLists) (traces : List PlainTrace) (i : ℕ) (t : PlainTrace) (old new : List (ℕ × ℕ × ℕ)) → slice_get traces i ≡ Some t → AreNames texts (take i traces) old → AddsNames (record { texts = texts; trace = t }) old new → AreNames texts (take (i + 1) traces) new
names_more texts traces i t old new at h add =
    let read = get_or_from_slice_get traces i t t at in
    let names = names_under texts add.more in
    let whole : List SegmentName → List SegmentName = λ ns. ns in
    record {
      named = h.named ++ names ∷ [];
      each = subst (λ ts. AllZip HasNames ts (h.named ++ names ∷ [])) (sym (take_more traces i t (slice_get_within traces i t at)))
          (zip_push HasNames (take i traces) h.named (get_or traces i t) names h.each (subst (λ u. HasNames u names) (sym read) add.named));
      known = subst (All (HasTexts texts)) (sym add.appended) (All-append (HasTexts texts) old add.more h.known add.known);
      are =
          ap (names_under texts) add.appended ∙ map-append (name_under texts) old add.more
          ∙ ap (λ (l : List SegmentName). l ++ names) h.are
          ∙ sym (flat_map-append whole h.named (names ∷ []) ∙ ap (λ (l : List SegmentName). flat_map whole h.named ++ l) (append-nil names));
    }

pub names_all : (texts : TextLists) (traces : List PlainTrace) (i : ℕ) (ks : List (ℕ × ℕ × ℕ)) → length traces ≤ i → AreNames texts (take i traces) ks → AreNames texts traces ks
names_all texts traces i ks ge h = subst (λ ts. AreNames texts ts ks) (take_all i traces ge) h

-- ---- equal numbers, equal texts

same_bool : (a b : Bool) → (a ≡ true → b ≡ true) → (b ≡ true → a ≡ true) → a ≡ b
same_bool true b to from = sym (to refl)
same_bool false true to from = from refl
same_bool false false to from = refl

text_agree : (texts : List (List ℕ)) → AreDifferent texts → (a b : ℕ) → a < length texts → b < length texts → eqb a b ≡ bytes_eq (text_under texts a) (text_under texts b)
text_agree texts differ a b la lb =
    same_bool (eqb a b) (bytes_eq (get_or texts a []) (get_or texts b []))
    (λ e. (bytes_eq-Decides (get_or texts a []) (get_or texts b [])).1 (ap (λ k. get_or texts k []) (eqb-true a b e)))
    (λ e. by ((bytes_eq-Decides (get_or texts a []) (get_or texts b [])).0 e) (cases_order a b))
  where
    by : get_or texts a [] ≡ get_or texts b [] → (a ≡ b) ⊎ ((a < b) ⊎ (b < a)) → eqb a b ≡ true
    by e (inl same) = eq-eqb a b same
    by e (inr (inl less)) = absurd (differ a b [] less lb e)
    by e (inr (inr more)) = absurd (differ b a [] more la (sym e))

and_turn : (a b c : Bool) → ((a && b) && c) ≡ (a && (b && c))
and_turn true b c = refl
and_turn false b c = refl

-- the test of three numbers
abbrev pub same_numbers : ℕ × ℕ × ℕ → ℕ × ℕ × ℕ → Bool
same_numbers x y = (eqb x.0 y.0 && eqb x.1 y.1) && eqb x.2 y.2

module _ (texts : TextLists) (tasks : AreDifferent texts.tasks) (names : AreDifferent texts.names) where
  name_agree : (x y : ℕ × ℕ × ℕ) → HasTexts texts x → HasTexts texts y → same_numbers x y ≡ same_name (name_under texts x) (name_under texts y)
  name_agree x y px py =
      and_turn (eqb x.0 y.0) (eqb x.1 y.1) (eqb x.2 y.2)
      ∙ ap (λ b. b && (eqb x.1 y.1 && eqb x.2 y.2)) (text_agree texts.tasks tasks x.0 y.0 px.task py.task)
      ∙ ap (λ b. bytes_eq (text_under texts.tasks x.0) (text_under texts.tasks y.0) && (b && eqb x.2 y.2)) (text_agree texts.names names x.1 y.1 px.start_event py.start_event)
      ∙ ap (λ b. bytes_eq (text_under texts.tasks x.0) (text_under texts.tasks y.0) && (bytes_eq (text_under texts.names x.1) (text_under texts.names y.1) && b)) (text_agree texts.names names x.2 y.2 px.end_event py.end_event)

  pub names_grouped : (ks : List (ℕ × ℕ × ℕ)) → All (HasTexts texts) ks → groups_of same_numbers ks ≡ groups_of same_name (names_under texts ks)
  names_grouped ks all = groups_under same_numbers same_name (name_under texts) (HasTexts texts) name_agree ks all

pub tasks_grouped : (texts : TextLists) → AreDifferent texts.tasks → (ks : List (ℕ × ℕ × ℕ)) → All (HasTexts texts) ks → groups_of eqb (map task_number ks) ≡ groups_of bytes_eq (tasks_in (names_under texts ks))
tasks_grouped texts tasks ks all =
    let within : ℕ → Type 0 = λ n. n < length texts.tasks in
    groups_under eqb bytes_eq (text_under texts.tasks) within (λ x y px py. text_agree texts.tasks tasks x y px py) (map task_number ks) (All-map within task_number ks (λ k d lt. (all k d lt).task))
    ∙ ap (groups_of bytes_eq) (map-map (text_under texts.tasks) task_number ks ∙ sym (map-map (λ (n : SegmentName). n.0) (name_under texts) ks))
