-- What is printed of a digest is read again.
use Rattle.std.proofs.Common.{◌≡◌, ◌≢◌, ℕ, ◌+◌, ◌≤◌, ◌-◌, ◌^◌, List, [], ◌∷◌, AllPairs, length, get_or, Some, None, refl, ap, ◌∙◌, subst, inr, arith, Ordering}
use Rattle.std.specs.Prelude.{All, Contains, nat_lt}
use Rattle.std.specs.Cmp.Lexicographic.{slice_cmp}
use Rattle.std.specs.Ordering.{nat_cmp}
use Rattle.std.proofs.lemmas.Bool.{le-ltb, ltb-false}
use Rattle.std.proofs.lemmas.List.Elements.{All-contains}
use Rattle.certificate_laws.specs.Printable.{HasPrintableName}
use Rattle.certificates.specs.Claims.{name_of_texts, text_of}
use Rattle.digest_facts.specs.Digests.{Digest, Rises, TellsApart, union}
use Rattle.digest_facts.proofs.FactLemmas.{rises_apart}
use Rattle.digest_facts.proofs.MergeLemmas.{name_apart, text_apart}
use Rattle.digest_facts.proofs.UnionLemmas.{union_has}
use Rattle.digest_laws.specs.ReadableDigests.{IsReadable}
use Rattle.digest_laws.specs.ReadingLaws.{DigestOfTracesIsReadable, MergeIsReadable, PrintedDigestIsRead}
use Rattle.digest_laws.proofs.MergedLemmas.{within}
use Rattle.digest_merging.specs.Limits.{limit_passed}
use Rattle.digest_merging.specs.Merges.{merged_digest}
use Rattle.digest_reading.specs.DigestRows.{latest_day}
use Rattle.digest_reading.specs.Readings.{digests_said}
use Rattle.session_rules.specs.GivenDigests.{IsKeptDigest}
use Rattle.session_rules.specs.KeptTraces.{Kept, by_kept, day_of}
use Rattle.trace_types.proofs.ElementLemmas.{from_flat_map, from_map}
use Rattle.trace_types.proofs.ListingLemmas.{few_different}
use Rattle.trace_types.proofs.PuttingLemmas.{all_contained}
use Rattle.trace_types.specs.NameOrder.{name_cmp}
use Rattle.trace_types.specs.Parts.{segments_of}
use Rattle.trace_types.specs.Segments.{SegmentName, name_of}
use Rattle.summary_laws.specs.PrintedLaws.{IsPrintableTrace, WhatSummarizePrintsIsRead}

abbrev TheDigest : Type 0
TheDigest = Digest SegmentName (List ℕ)

rising_differ : {X : Type 0} (cmp : X → X → Ordering) → TellsApart cmp → (xs : List X) → Rises cmp xs → AllPairs (λ x y. x ≢ y) xs
rising_differ cmp o xs up = λ i j d lt within. rises_apart cmp o (get_or xs i d) (get_or xs j d) (up i j d lt within)

name_text : (a b c : List ℕ) → text_of a ≡ Some a → text_of b ≡ Some b → text_of c ≡ Some c → name_of_texts a b c ≡ Some (a, b, c)
name_text a b c p q r = rw (p, q, r) refl

fits : (s : TheDigest) → length s.names ≤ 512 → length s.tasks ≤ 64 → s.traces ≤ 2 ^ 64 - 1 → limit_passed s ≡ None
fits s names tasks traces = rw (le-ltb 512 (length s.names) names, le-ltb 64 (length s.tasks) tasks, le-ltb (2 ^ 64 - 1) s.traces traces) refl

module _ (kept : List Kept) (digest : TheDigest) (good : All IsPrintableTrace kept) (is : IsKeptDigest kept digest) where
  names_read : All (λ (n : SegmentName). name_of_texts n.0 n.1 n.2 ≡ Some n) digest.names
  names_read = all_contained (λ (n : SegmentName). name_of_texts n.0 n.1 n.2 ≡ Some n) digest.names (λ n c.
      let r = from_map name_of (segments_of by_kept kept) n ((is.names.exactly n).0 c) in
      let t = from_flat_map by_kept.segments kept r.0 r.1 in
      let p = All-contains HasPrintableName t.0.trace.segments r.0 (All-contains IsPrintableTrace kept t.0 good t.1).names t.2 in
      subst (λ (v : SegmentName). name_of_texts v.0 v.1 v.2 ≡ Some v) r.2 (name_text r.0.task r.0.start_event r.0.end_event p.task p.start p.end))

  days_read : All (λ (d : ℕ). d ≤ latest_day) digest.days
  days_read = all_contained (λ (d : ℕ). d ≤ latest_day) digest.days (λ d c.
      let r = from_map day_of kept d ((is.days.exactly d).0 c) in
      subst (λ (v : ℕ). v ≤ latest_day) r.2 (All-contains IsPrintableTrace kept r.0 good r.1).day)

  -- a merge that passes no limit is of digests that pass none
  none_passed : (given : TheDigest) → limit_passed (merged_digest given digest) ≡ None → limit_passed digest ≡ None
  none_passed given few =
      let all_names : List SegmentName = union name_cmp given.names digest.names in
      let all_tasks : List (List ℕ) = union (slice_cmp nat_cmp) given.tasks digest.tasks in
      let limits = within (nat_lt 512 (length all_names)) (nat_lt 64 (length all_tasks)) (nat_lt (2 ^ 64 - 1) (given.traces + digest.traces)) (length all_names) (length all_tasks) few in
      let more_names = few_different digest.names all_names (rising_differ name_cmp name_apart digest.names is.names.rising) (λ n c. (union_has name_cmp name_apart given.names digest.names n).1 (inr c)) in
      let more_tasks = few_different digest.tasks all_tasks (rising_differ (slice_cmp nat_cmp) text_apart digest.tasks is.tasks.rising) (λ t c. (union_has (slice_cmp nat_cmp) text_apart given.tasks digest.tasks t).1 (inr c)) in
      let n : length all_names ≤ 512 = ltb-false 512 (length all_names) limits.0 in
      let t : length all_tasks ≤ 64 = ltb-false 64 (length all_tasks) limits.1 in
      let c : given.traces + digest.traces ≤ 2 ^ 64 - 1 = ltb-false (2 ^ 64 - 1) (given.traces + digest.traces) limits.2 in
      fits digest (omega (arith, more_names, n)) (omega (arith, more_tasks, t)) (omega (arith, c))

pub printed_is_read : DigestOfTracesIsReadable by_kept → MergeIsReadable → PrintedDigestIsRead → WhatSummarizePrintsIsRead
printed_is_read own merge read given kept bytes known good text few =
    let whole : TheDigest = merged_digest given text.digest in
    let kept_read : IsReadable text.digest = own day_of kept text.digest (λ x. refl) text.of_kept (names_read kept text.digest good text.of_kept) (days_read kept text.digest good text.of_kept) (none_passed kept text.digest good text.of_kept given few) in
    let again : IsReadable whole = merge given text.digest known kept_read few in
    (again, ap digests_said text.text ∙ read whole again)
