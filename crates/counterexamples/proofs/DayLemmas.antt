-- The first refuter among the traces of all days.
use Rattle.std.proofs.Common.{◌≡◌, ℕ, zero, suc, ◌+◌, ◌<◌, ◌≤◌, List, [], ◌∷◌, ◌++◌, Some, None, Option, length, slice_get, take, arith, refl, sym, ap, ◌∙◌, subst, ⊎_elim}
use Rattle.std.specs.Option.{option_map}
use Rattle.std.proofs.lemmas.Bool.{cases_lt}
use Rattle.std.proofs.lemmas.List.{length-append}
use Rattle.std.proofs.lemmas.List.Elements.{All-nil, All-append}
use Rattle.std.proofs.lemmas.Option.{get_or_from_slice_get, same_Some, slice_get_within}
use Rattle.day_partitions.specs.Books.{KeptDay, all_traces}
use Rattle.hypothesis_index.specs.Refuting.{Refutes}
use Rattle.hypothesis_index.specs.declared.relation.Relation.{Relation}
use Rattle.trace_types.specs.Surviving.{Survives}
use Rattle.trace_types.specs.declared.named_trace.NamedTrace.{NamedTrace}
use Rattle.counterexamples.specs.Findings.{IsFirstRefuter, StandsAt}
use Rattle.counterexamples.specs.declared.finding.Finding.{Finding}
use Rattle.counterexamples.specs.inner.Firsts.{IsFirstOf}

-- the relation survives the traces of each of the first days
abbrev pub SurvivesBefore : Relation → List KeptDay → ℕ → Type 0
SurvivesBefore r days n = (k : ℕ) (d : KeptDay) → k < n → slice_get days k ≡ Some d → Survives (Refutes r) d.traces

-- one more day
pub survives_more : (r : Relation) (days : List KeptDay) (n : ℕ) (traces : List NamedTrace) → option_map (λ (d : KeptDay). d.traces) (slice_get days n) ≡ Some traces → Survives (Refutes r) traces → SurvivesBefore r days n → SurvivesBefore r days (n + 1)
survives_more r days n traces are survives so_far k d within at = ⊎_elim
    (λ (earlier : k < n). so_far k d earlier at)
    (λ (here : n ≤ k).
    let same : k ≡ n = omega arith in
    let e : traces ≡ d.traces = same_Some traces d.traces (sym are ∙ ap (option_map (λ (x : KeptDay). x.traces)) (ap (slice_get days) (sym same) ∙ at)) in
    subst (Survives (Refutes r)) e survives)
    (cases_lt k n)

-- so it survives all traces once all days are passed
pub survives_all : (r : Relation) (days : List KeptDay) → SurvivesBefore r days (length days) → Survives (Refutes r) (all_traces days)
survives_all r [] all = All-nil (λ t. Refutes r t → ⊥)
survives_all r (d ∷ ds) all = All-append (λ t. Refutes r t → ⊥) d.traces (all_traces ds) (all 0 d (omega arith) refl) (survives_all r ds (λ k e within at. all (suc k) e (omega arith) at))

-- a kept trace is one of all
pub refuted_by_one : (r : Relation) (days : List KeptDay) (f : Finding) (t : NamedTrace) → StandsAt days f t → Refutes r t → Survives (Refutes r) (all_traces days) → ⊥
refuted_by_one r days f t stands refutes survives = parts days f.place f.index stands.day stands.kept stands.trace survives
  where
    front : (xs ys : List NamedTrace) (i : ℕ) → slice_get xs i ≡ Some t → slice_get (xs ++ ys) i ≡ Some t
    front [] ys i at = absurd (let lt = slice_get_within [] i t at in omega arith)
    front (x ∷ xs) ys zero at = at
    front (x ∷ xs) ys (suc i) at = front xs ys i at

    at_index : (xs : List NamedTrace) (i : ℕ) → slice_get xs i ≡ Some t → Survives (Refutes r) xs → ⊥
    at_index xs i at alive = alive i t (slice_get_within xs i t at) (subst (Refutes r) (sym (get_or_from_slice_get xs i t t at)) refutes)

    rest : (xs ys : List NamedTrace) → Survives (Refutes r) (xs ++ ys) → Survives (Refutes r) ys
    rest [] ys alive = alive
    rest (x ∷ xs) ys alive = rest xs ys (λ j y lt. alive (suc j) y (omega arith))

    parts : (days : List KeptDay) (k i : ℕ) (d : KeptDay) → slice_get days k ≡ Some d → slice_get d.traces i ≡ Some t → Survives (Refutes r) (all_traces days) → ⊥
    parts [] k i d kept at alive = let lt = slice_get_within [] k d kept in omega arith
    parts (e ∷ es) zero i d kept at alive =
        let same : e ≡ d = same_Some e d kept in
        at_index (e.traces ++ all_traces es) i (front e.traces (all_traces es) i (subst (λ (x : KeptDay). slice_get x.traces i ≡ Some t) (sym same) at)) alive
    parts (e ∷ es) (suc k) i d kept at alive = parts es k i d kept at (rest e.traces (all_traces es) alive)

-- a trace of a list that a relation survives does not refute it
survivor_at : (r : Relation) (xs : List NamedTrace) (i : ℕ) (t : NamedTrace) → slice_get xs i ≡ Some t → Refutes r t → Survives (Refutes r) xs → ⊥
survivor_at r xs i t seen refutes alive = alive i t (slice_get_within xs i t seen) (subst (Refutes r) (sym (get_or_from_slice_get xs i t t seen)) refutes)

taken : (xs : List NamedTrace) (n i : ℕ) (t : NamedTrace) → slice_get xs i ≡ Some t → i < n → slice_get (take n xs) i ≡ Some t
taken [] n i t seen less = absurd (let lt = slice_get_within [] i t seen in omega arith)
taken (x ∷ xs) zero i t seen less = absurd (omega arith)
taken (x ∷ xs) (suc n) zero t seen less = seen
taken (x ∷ xs) (suc n) (suc i) t seen less = taken xs n i t seen (omega arith)

-- the first refuter of the first day with one
pub first_found : (r : Relation) (days : List KeptDay) (place index : ℕ) (traces : List NamedTrace) → option_map (λ (d : KeptDay). d.traces) (slice_get days place) ≡ Some traces → IsFirstOf r traces index → SurvivesBefore r days place → (f : Finding) → f.place ≡ place → f.index ≡ index → IsFirstRefuter days r f
first_found r days place index traces are here so_far f at_place at_index = by (slice_get days place) refl
  where
    by : (o : Option KeptDay) → slice_get days place ≡ o → IsFirstRefuter days r f
    by None none = absurd (none_some (sym (ap (option_map (λ (d : KeptDay). d.traces)) none) ∙ are))
      where
        none_some : None ≡ Some traces → ⊥
        none_some e = cc
    by (Some day) kept =
        let same : day.traces ≡ traces = same_Some day.traces traces (sym (ap (option_map (λ (d : KeptDay). d.traces)) kept) ∙ are) in
        record {
          trace = here.trace;
          stands = record {
            day = day;
            kept = ap (slice_get days) at_place ∙ kept;
            trace = ap (slice_get day.traces) at_index ∙ (ap (λ (l : List NamedTrace). slice_get l index) same ∙ here.here);
          };
          refutes = here.refutes;
          first = λ g t stands before refutes. ⊎_elim
              (λ (earlier : g.place < f.place). let alive = so_far g.place stands.day (omega arith) stands.kept in survivor_at r stands.day.traces g.index t stands.trace refutes alive)
              (λ (on_day, less).
              let one : stands.day ≡ day = same_Some stands.day day (sym stands.kept ∙ (ap (slice_get days) (on_day ∙ at_place) ∙ kept)) in
              let seen : slice_get traces g.index ≡ Some t = sym (ap (λ (l : List NamedTrace). slice_get l g.index) (ap (λ (d : KeptDay). d.traces) one ∙ same)) ∙ stands.trace in
              survivor_at r (take index traces) g.index t (taken traces index g.index t seen (omega arith)) refutes here.none)
              before;
        }

-- the traces of a day are no more than all
pub day_within : (days : List KeptDay) (place : ℕ) (traces : List NamedTrace) → option_map (λ (d : KeptDay). d.traces) (slice_get days place) ≡ Some traces → length traces ≤ length (all_traces days)
day_within [] place traces are = absurd (none_some are)
  where
    none_some : None ≡ Some traces → ⊥
    none_some e = cc
day_within (d ∷ ds) zero traces are =
    let same : d.traces ≡ traces = same_Some d.traces traces are in
    omega (arith, ap length same, length-append d.traces (all_traces ds))
day_within (d ∷ ds) (suc place) traces are =
    let rest = day_within ds place traces are in
    omega (arith, length-append d.traces (all_traces ds))
