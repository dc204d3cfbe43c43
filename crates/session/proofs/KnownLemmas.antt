-- How many names there are once the traces of a batch are added, and how many traces a batch has.
use Rattle.std.proofs.Common.{◌≡◌, ◌≢◌, suc, ◌≤◌, inl, inr, Bool, true, false, not, Option, Some, None, List, [], ◌∷◌, ◌++◌, length, map, filter, All, AllPairs, refl, ap, ◌∙◌, arith}
use Rattle.std.proofs.lemmas.Bool.{cases_Bool, not_from_false, cond-true}
use Rattle.std.proofs.lemmas.List.{length-append}
use Rattle.std.proofs.lemmas.List.Elements.{All-head, All-tail, All-weaker, filter-append}
use Rattle.std.specs.List.{flat_map, filter_map}
use Rattle.segment_names.specs.Known.{Known, same_name, with_traces}
use Rattle.segment_names.specs.Limits.{IsKept}
use Rattle.trace_types.specs.Firsts.{firsts_of}
use Rattle.trace_types.specs.Segments.{name_of}
use Rattle.trace_types.specs.declared.trace.Trace.{Trace}
use Rattle.trace_types.specs.declared.event.Event.{Event}
use Rattle.trace_types.specs.Batch.{requests_of, trace_of, traces_of}
use Rattle.session_rules.specs.Batches.{AreJudged, IsJudged, valid_in}
use Rattle.session_rules.specs.declared.refused.Refused.{Refused}
use Rattle.std.proofs.lemmas.List.{length-map}
use Rattle.segment_names.proofs.TextLemmas.{name_means}
use Rattle.trace_types.proofs.ZipLemmas.{zip_length}

-- known things stay where more are noted
module _ {X : Type 0} (same : X → X → Bool) (means : (x y : X) → same x y ≡ true → x ≡ y) where
  all_pass : (p : X → Bool) (xs : List X) → All (λ x. p x ≡ true) xs → filter p xs ≡ xs
  all_pass p [] h = refl
  all_pass p (x ∷ xs) h = cond-true (p x) (x ∷ filter p xs) (filter p xs) (All-head (λ y. p y ≡ true) x xs h) ∙ ap (λ l. x ∷ l) (all_pass p xs (All-tail (λ y. p y ≡ true) x xs h))

  differ : (x y : X) → x ≢ y → same x y ≡ false
  differ x y other = elim (cases_Bool (same x y)) [
    | inl good ↦ absurd (other (means x y good))
    | inr bad ↦ bad
  ]

  no_fewer : (xs ys : List X) → AllPairs (λ x y. x ≢ y) xs → length xs ≤ length (firsts_of same (xs ++ ys))
  no_fewer xs ys p = let f = firsts_prefix xs ys p in rw f.1 (rw (length-append xs f.0) (omega arith))
    where
      firsts_prefix : (xs ys : List X) → AllPairs (λ x y. x ≢ y) xs → (more : List X) × (firsts_of same (xs ++ ys) ≡ xs ++ more)
      firsts_prefix [] ys p = (firsts_of same ys, refl)
      firsts_prefix (x ∷ xs) ys p =
          let rest = firsts_prefix xs ys (λ i j d l m. p (suc i) (suc j) d (omega (arith, l)) (omega (arith, m))) in
          let others : All (λ y. x ≢ y) xs = λ k d l. p 0 (suc k) d (omega arith) (omega (arith, l)) in
          let test : X → Bool = λ y. not (same x y) in
          let stay : filter test xs ≡ xs = all_pass test xs (All-weaker (λ y. x ≢ y) (λ y. test y ≡ true) (λ y o. not_from_false (same x y) (differ x y o)) xs others) in
          (filter test rest.0, ap (λ l. x ∷ filter test l) rest.1 ∙ ap (λ l. x ∷ l) (filter-append test xs rest.0) ∙ ap (λ l. x ∷ (l ++ filter test rest.0)) stay)

pub names_grow : (known : Known) (valid : List Trace) → IsKept known → length known.names ≤ length (with_traces known valid).names
names_grow known valid h = no_fewer same_name name_means known.names (map name_of (flat_map (λ (v : Trace). v.segments) valid)) h.names_differ

-- a batch has no more valid traces than traces
filtered : {X Y : Type 0} (h : X → Option Y) (xs : List X) → length (filter_map h xs) ≤ length xs
filtered h [] = omega arith
filtered h (x ∷ xs) = by (h x) refl (filtered h xs)
  where
    by : (o : Option _) → h x ≡ o → length (filter_map h xs) ≤ length xs → length (filter_map h (x ∷ xs)) ≤ length (x ∷ xs)
    by None e l = rw e (omega (arith, l))
    by (Some y) e l = rw e (omega (arith, l))

pub valid_few : (events : List Event) (valid : List Trace) (refused : List Refused) → AreJudged (traces_of events) valid refused → length valid ≤ length (requests_of events)
valid_few events valid refused j =
    let a = ap length j.valid_are in
    let b = filtered valid_in j.verdicts in
    let c = zip_length IsJudged (traces_of events) j.verdicts j.each in
    let d = length-map (requests_of events) (trace_of events) in
    omega (arith, a, b, c, d)
