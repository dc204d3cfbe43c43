-- The digest of traces can be read, where its texts and days are as event lines give them.
use Rattle.std.proofs.Common.{◌≡◌, ℕ, ◌-◌, ◌<◌, ◌≤◌, ◌^◌, List, [], ◌∷◌, length, get_or, map, nat_eq, Some, rules, refl, sym, ap, ◌∙◌, subst, arith}
use Rattle.std.specs.Prelude.{Contains, nat_lt}
use Rattle.std.specs.Cmp.{IsEquivalence}
use Rattle.std.specs.Cmp.Rules.{comparing}
use Rattle.std.specs.Cmp.Lexicographic.{slice_cmp}
use Rattle.std.specs.Ordering.{nat_cmp}
use Rattle.std.proofs.lemmas.Bool.{ltb-false}
use Rattle.std.proofs.lemmas.Bool.Decides.{Decides-eqb}
use Rattle.std.proofs.lemmas.List.{length-map}
use Rattle.std.proofs.lemmas.List.Elements.{All-contains, Contains-get_or}
use Rattle.std.proofs.lemmas.Map.Made.{IsDistinct-from_AllPairs, is_member-Decides, length-le_from_is_member}
use Rattle.certificates.specs.Claims.{name_of_texts, text_of}
use Rattle.trace_types.specs.NameOrder.{name_cmp}
use Rattle.trace_types.specs.Parts.{Parts, segments_of}
use Rattle.trace_types.specs.Segments.{SegmentName}
use Rattle.digest_facts.specs.Digests.{Rises}
use Rattle.digest_facts.proofs.CoherenceLemmas.{coherent}
use Rattle.digest_facts.proofs.ListLemmas.{from_map, to_map}
use Rattle.digest_facts.proofs.MergeLemmas.{nat_apart}
use Rattle.digest_facts.proofs.UnionLemmas.{cons_here, nil_has}
use Rattle.digest_laws.specs.ReadingLaws.{DigestOfTracesIsReadable}
use Rattle.digest_laws.proofs.CountLemmas.{possible_from}
use Rattle.digest_laws.proofs.MergedLemmas.{all_differ, no_more_tasks, no_names, none_of, within}
use Rattle.digest_laws.proofs.NumberLemmas.{name_is}

nat_laws : IsEquivalence nat_eq
nat_laws = search (comparing, rules)

-- different days, each of which some trace has, are no more than traces
no_more_days : {A : Type 0} (day : A → ℕ) (traces : List A) (days : List ℕ) → Rises nat_cmp days → ((d : ℕ) → Contains days d → Contains (map day traces) d) → length days ≤ length traces
no_more_days day traces days up there =
    let le : length days ≤ length (map day traces) = length-le_from_is_member nat_laws days (map day traces) (IsDistinct-from_AllPairs Decides-eqb days (all_differ nat_cmp nat_apart days up))
    (λ q e. (is_member-Decides Decides-eqb (map day traces) q).1 (there q ((is_member-Decides Decides-eqb days q).0 e))) in
    omega (arith, le, length-map traces day)

no_traces : {A : Type 0} (traces : List A) → length traces ≡ 0 → traces ≡ []
no_traces [] e = refl
no_traces (t ∷ ts) e = absurd (omega (arith, e))

module _ {A S E : Type 0} (p : Parts A S SegmentName (List ℕ) E) where
  pub traces_readable : DigestOfTracesIsReadable p
  traces_readable day traces s tasked is good late few =
      let limits = within (nat_lt 512 (length s.names)) (nat_lt 64 (length s.tasks)) (nat_lt (2 ^ 64 - 1) s.traces) (length s.names) (length s.tasks) few in
      record {
        coherent = coherent p day name_cmp (slice_cmp nat_cmp) traces s is;
        task_texts = λ k d lt.
            let n = named (get_or s.tasks k d) (Contains-get_or s.tasks k d lt) in
            subst (λ (t : List ℕ). text_of t ≡ Some t) n.2 (name_is n.0.0 n.0.1 n.0.2 n.0 (All-contains (λ (m : SegmentName). name_of_texts m.0 m.1 m.2 ≡ Some m) s.names n.0 good n.1)).good.task;
        name_texts = good;
        listed = listed;
        named = named;
        possible = possible_from (record { traces = s.traces; days = length s.days; tasks = length s.tasks; names = length s.names }) (record {
          tasks = ltb-false 64 (length s.tasks) limits.1;
          names = ltb-false 512 (length s.names) limits.0;
          no_fewer = no_more_tasks s.tasks s.names is.tasks.rising named;
          some_task = no_names s.names s.tasks listed;
          some_trace = λ none. none_of (length s.names) (λ some. no_segment none (get_or s.names 0 ([], [], [])) (Contains-get_or s.names 0 ([], [], []) some));
          no_more_days = omega (arith, no_more_days day traces s.days is.days.rising (λ d c. (is.days.exactly d).0 c), is.count);
          some_day = λ none. none_of s.traces (λ some. no_day none (omega (arith, some, is.count)));
        });
        traces = omega (arith, ltb-false (2 ^ 64 - 1) s.traces limits.2);
        days = late;
      }
    where
      listed : (name : SegmentName) → Contains s.names name → Contains s.tasks name.0
      listed name c =
          let r = from_map p.name (segments_of p traces) name ((is.names.exactly name).0 c) in
          let t : p.task r.0 ≡ name.0 = tasked r.0 ∙ ap (λ (n : SegmentName). n.0) r.2 in
          (is.tasks.exactly name.0).1 (subst (λ (v : List ℕ). Contains (map p.task (segments_of p traces)) v) t (to_map p.task (segments_of p traces) r.0 r.1))

      named : (task : List ℕ) → Contains s.tasks task → (name : SegmentName) × Contains s.names name × (name.0 ≡ task)
      named task c =
          let r = from_map p.task (segments_of p traces) task ((is.tasks.exactly task).0 c) in
          (p.name r.0, (is.names.exactly (p.name r.0)).1 (to_map p.name (segments_of p traces) r.0 r.1), sym (tasked r.0) ∙ r.2)

      no_segment : s.traces ≡ 0 → (name : SegmentName) → Contains s.names name → ⊥
      no_segment none name c =
          let empty : traces ≡ [] = no_traces traces (sym is.count ∙ none) in
          nil_has name (subst (λ (ts : List A). Contains (map p.name (segments_of p ts)) name) empty ((is.names.exactly name).0 c))

      no_day : length s.days ≡ 0 → 0 < length traces → ⊥
      no_day none some = by traces some (λ d. (is.days.exactly d).1)
        where
          by : (ts : List A) → 0 < length ts → ((d : ℕ) → Contains (map day ts) d → Contains s.days d) → ⊥
          by [] lt there = absurd (omega (arith, lt))
          by (t ∷ ts) lt there = let c = there (day t) (cons_here (day t) (map day ts)) in absurd (omega (arith, c.1, none))
