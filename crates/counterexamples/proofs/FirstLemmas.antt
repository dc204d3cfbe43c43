-- The first refuters of all relations, from one kept trace to the next.
use Rattle.std.proofs.Common.{◌≡◌, ◌↔◌, ℕ, ◌+◌, ◌<◌, ◌≤◌, Bool, true, false, cond, List, length, Option, Some, None, MatchOption, arith, refl, sym, ap, ◌∙◌, subst, ⊎_elim, inl, inr}
use Rattle.std.specs.Option.{option_or}
use Rattle.std.specs.Prelude.{option_map, slice_get}
use Rattle.std.proofs.lemmas.Bool.{cases_lt}
use Rattle.std.proofs.lemmas.Option.{get_or_from_slice_get, same_Some, slice_get_cases, slice_get_within}
use Rattle.day_partitions.specs.Books.{BookState, KeptDay, all_traces}
use Rattle.hypothesis_index.specs.Places.{IsRelation, NamesBelow, place_of, width_of}
use Rattle.hypothesis_index.specs.Refuting.{Refutes}
use Rattle.hypothesis_index.specs.declared.relation.Relation.{Relation}
use Rattle.pipeline_tests.specs.Rows.{IsWholeRow}
use Rattle.trace_types.specs.Surviving.{Survives}
use Rattle.trace_types.specs.declared.named_trace.NamedTrace.{NamedTrace}
use Rattle.word_rows.specs.Rows.{clears}
use Rattle.word_rows.specs.declared.entries.Entry.{Entry}
use Rattle.counterexamples.proofs.DayLemmas.{refuted_by_one, survives_all}
use Rattle.counterexamples.specs.Findings.{IsFirstRefuter, StandsAt}
use Rattle.counterexamples.proofs.TableLemmas.{table_tells}
use Rattle.counterexamples.specs.FirstRefuters.{AreFirstRefuters, IsRefuterOf}
use Rattle.counterexamples.specs.declared.finding.Finding.{Finding}
use Rattle.counterexamples.specs.declared.word_refuters.WordRefuters.{WordRefuters}
use Rattle.counterexamples.specs.inner.Tables.{AreFirstBefore, AreNoted, IsTraceAt, SurvivesBefore, noted_at, table_of}

-- what the laws on places say
abbrev pub PlacesDiffer : Type 0
PlacesDiffer = (r s : Relation) → IsRelation r → IsRelation s → place_of r ≡ place_of s → r ≡ s

abbrev pub PlacesFit : Type 0
PlacesFit = (names : ℕ) (r : Relation) → names ≤ 512 → IsRelation r → NamesBelow names r → ((place_of r).word < width_of names) × ((place_of r).bit < 64)

-- a whole row clears the place of a relation exactly where its trace refutes it
row_tells : PlacesDiffer → (t : NamedTrace) (row : List Entry) → IsWholeRow t row → (r : Relation) → IsRelation r → (clears row (place_of r).word (place_of r).bit ≡ true) ↔ Refutes r t
row_tells differ t row whole r is = (
  (λ e. let s = (whole (place_of r).word (place_of r).bit).0 e in subst (λ (x : Relation). Refutes x t) (differ s.0 r s.1 is s.2) s.3),
  (λ refutes. (whole (place_of r).word (place_of r).bit).1 (r, is, refl, refutes)),
)

module _ (days : List KeptDay) (r : Relation) where
  -- one more trace, which does not refute it
  one_more : (f : Finding) (t : NamedTrace) → StandsAt days f t → (Refutes r t → ⊥) → SurvivesBefore days r f.place f.index → SurvivesBefore days r f.place (f.index + 1)
  one_more f t stands not alive g u at before refutes = ⊎_elim
      (λ (earlier : g.place < f.place). alive g u at (inl earlier) refutes)
      (λ (on_day, less). ⊎_elim
      (λ (lower : g.index < f.index). alive g u at (inr (on_day, lower)) refutes)
      (λ (not_lower : f.index ≤ g.index).
      let same : g.index ≡ f.index = omega arith in
      let day : at.day ≡ stands.day = same_Some at.day stands.day (sym at.kept ∙ (ap (slice_get days) on_day ∙ stands.kept)) in
      let trace : u ≡ t = same_Some u t (sym at.trace ∙ (ap (λ (d : KeptDay). slice_get d.traces g.index) day ∙ (ap (slice_get stands.day.traces) same ∙ stands.trace))) in
      not (subst (Refutes r) trace refutes))
      (cases_lt g.index f.index))
      before

  -- one more trace: a relation that survived until then and is refuted has it as first refuter
  cell_step : (f : Finding) (t : NamedTrace) → StandsAt days f t → (c : Bool) → (c ≡ true) ↔ Refutes r t → (o : Option Finding) → MatchOption o (SurvivesBefore days r f.place f.index) (IsFirstRefuter days r)
      → MatchOption (cond c (option_or o (Some f)) o) (SurvivesBefore days r f.place (f.index + 1)) (IsFirstRefuter days r)
  cell_step f t stands true tells (Some g) first = first
  cell_step f t stands false tells (Some g) first = first
  cell_step f t stands true tells None alive = record { trace = t; stands = stands; refutes = tells.0 refl; first = λ g u at before refutes. alive g u at before refutes }
  cell_step f t stands false tells None alive = one_more f t stands (λ refutes. let e : false ≡ true = tells.1 refutes in cc) alive

  -- the day after, once all traces of a day are passed
  day_step : (place : ℕ) (traces : List NamedTrace) → option_map (λ (d : KeptDay). d.traces) (slice_get days place) ≡ Some traces → (index : ℕ) → length traces ≤ index → SurvivesBefore days r place index → SurvivesBefore days r (place + 1) 0
  day_step place traces are index past alive g u at before refutes = ⊎_elim
      (λ (less : g.place < place + 1). ⊎_elim
      (λ (earlier : g.place < place). alive g u at (inl earlier) refutes)
      (λ (not_earlier : place ≤ g.place).
      let same : g.place ≡ place = omega arith in
      let list : at.day.traces ≡ traces = same_Some at.day.traces traces (sym (ap (option_map (λ (d : KeptDay). d.traces)) (sym (ap (slice_get days) same) ∙ at.kept)) ∙ are) in
      let within : g.index < length at.day.traces = slice_get_within at.day.traces g.index u at.trace in
      alive g u at (inr (same, omega (arith, within, past, ap length list))) refutes)
      (cases_lt g.place place))
      (λ (on_day, none). absurd (omega (arith, none)))
      before

  cell_day : (place : ℕ) (traces : List NamedTrace) → option_map (λ (d : KeptDay). d.traces) (slice_get days place) ≡ Some traces → (index : ℕ) → length traces ≤ index → (o : Option Finding) → MatchOption o (SurvivesBefore days r place index) (IsFirstRefuter days r)
      → MatchOption o (SurvivesBefore days r (place + 1) 0) (IsFirstRefuter days r)
  cell_day place traces are index past (Some g) first = first
  cell_day place traces are index past None alive = day_step place traces are index past alive

  -- nothing stands before the first trace
  nothing_before : SurvivesBefore days r 0 0
  nothing_before g u at before refutes = ⊎_elim (λ (less : g.place < 0). absurd (omega arith)) (λ (on_day, less). absurd (omega (arith, less))) before

  -- all traces are before the end
  alive_at_end : SurvivesBefore days r (length days) 0 → Survives (Refutes r) (all_traces days)
  alive_at_end alive = survives_all r days (λ k d less kept i x inside refutes.
      ⊎_elim
      (λ (y, within, at, is).
      let same : slice_get d.traces i ≡ Some y = at in
      alive (record { place = k; index = i }) y (record { day = d; kept = kept; trace = same }) (inl less) (subst (Refutes r) (get_or_from_slice_get d.traces i y x same) refutes))
      (λ (past, none). absurd (omega (arith, past, inside)))
      (slice_get_cases d.traces i).1)

  cell_end : (o : Option Finding) → MatchOption o (SurvivesBefore days r (length days) 0) (IsFirstRefuter days r) → IsRefuterOf days r o
  cell_end None alive = record { none = ((λ e. alive_at_end alive), (λ survives. refl)); first = tt }
  cell_end (Some f) first = record {
    none = ((λ e. absurd (some_none f e)), (λ survives. absurd (refuted_by_one r days f first.trace first.stands first.refutes survives)));
    first = first;
  }
    where
      some_none : (f : Finding) → Some f ≡ None → ⊥
      some_none f e = cc

-- a row is noted
pub trace_noted : PlacesDiffer → PlacesFit → (b : BookState) → b.names ≤ 512 → (words new : List WordRefuters) (f : Finding) (t : NamedTrace) (row : List Entry) → StandsAt b.days f t → IsWholeRow t row → AreFirstBefore b words f.place f.index → AreNoted words row f new → AreFirstBefore b new f.place (f.index + 1)
trace_noted differ fit b few words new f t row stands whole before noted = record {
  width = noted.long ∙ before.width;
  each = λ r is below.
      let at = fit b.names r few is below in
      let inside : (place_of r).word < length words = subst (λ (n : ℕ). (place_of r).word < n) (sym before.width) at.0 in
      subst (λ (o : Option Finding). MatchOption o (SurvivesBefore b.days r f.place (f.index + 1)) (IsFirstRefuter b.days r))
      (sym (noted.each (place_of r).word (place_of r).bit inside at.1))
      (cell_step b.days r f t stands (clears row (place_of r).word (place_of r).bit) (row_tells differ t row whole r is) (noted_at words (place_of r).word (place_of r).bit) (before.each r is below));
}

-- a day is passed
pub day_noted : (b : BookState) (words : List WordRefuters) (place index : ℕ) (traces : List NamedTrace) → option_map (λ (d : KeptDay). d.traces) (slice_get b.days place) ≡ Some traces → length traces ≤ index → AreFirstBefore b words place index → AreFirstBefore b words (place + 1) 0
day_noted b words place index traces are past before = record {
  width = before.width;
  each = λ r is below. cell_day b.days r place traces are index past (noted_at words (place_of r).word (place_of r).bit) (before.each r is below);
}

-- before the first trace nothing is noted
pub none_noted : PlacesFit → (b : BookState) → b.names ≤ 512 → (words : List WordRefuters) → length words ≡ width_of b.names → ((i bit : ℕ) → bit < 64 → noted_at words i bit ≡ None) → AreFirstBefore b words 0 0
none_noted fit b few words long none = record {
  width = long;
  each = λ r is below.
      let at = fit b.names r few is below in
      subst (λ (o : Option Finding). MatchOption o (SurvivesBefore b.days r 0 0) (IsFirstRefuter b.days r)) (sym (none (place_of r).word (place_of r).bit at.1)) (nothing_before b.days r);
}

-- at the end the words note the first refuters of all
pub all_noted : PlacesFit → (b : BookState) → b.names ≤ 512 → (words : List WordRefuters) (place : ℕ) → place ≡ length b.days → AreFirstBefore b words place 0 → AreFirstRefuters b.names b.days (table_of words)
all_noted fit b few words place end before r is below =
    let found : Option Finding = noted_at words (place_of r).word (place_of r).bit in
    rw (table_tells words (place_of r).word (place_of r).bit (fit b.names r few is below).1)
    (cell_end b.days r found (subst (λ (n : ℕ). MatchOption found (SurvivesBefore b.days r n 0) (IsFirstRefuter b.days r)) end (before.each r is below)))

-- the trace with this index of the day at this place is kept there
pub stands_at : (days : List KeptDay) (f : Finding) (traces : List NamedTrace) → option_map (λ (d : KeptDay). d.traces) (slice_get days f.place) ≡ Some traces → (t : NamedTrace) → slice_get traces f.index ≡ Some t → StandsAt days f t
stands_at days f traces are t at = by (slice_get days f.place) refl
  where
    by : (o : Option KeptDay) → slice_get days f.place ≡ o → StandsAt days f t
    by None none = absurd (none_some (sym (ap (option_map (λ (d : KeptDay). d.traces)) none) ∙ are))
      where
        none_some : None ≡ Some traces → ⊥
        none_some e = cc
    by (Some d) kept =
        let same : d.traces ≡ traces = same_Some d.traces traces (sym (ap (option_map (λ (d : KeptDay). d.traces)) kept) ∙ are) in
        record { day = d; kept = kept; trace = ap (λ (l : List NamedTrace). slice_get l f.index) same ∙ at }

pub some_trace_at : (days : List KeptDay) (f : Finding) (traces : List NamedTrace) → option_map (λ (d : KeptDay). d.traces) (slice_get days f.place) ≡ Some traces → f.index < length traces → IsTraceAt days f
some_trace_at days f traces are inside = ⊎_elim
    (λ (t, within, at, is). (t, stands_at days f traces are t at))
    (λ (past, none). absurd (omega (arith, past, inside)))
    (slice_get_cases traces f.index).1

-- the trace that stands there is the one with this index of the day's
pub trace_at : (days : List KeptDay) (f : Finding) (traces : List NamedTrace) → option_map (λ (d : KeptDay). d.traces) (slice_get days f.place) ≡ Some traces → (t : NamedTrace) → StandsAt days f t → slice_get traces f.index ≡ Some t
trace_at days f traces are t stands =
    let same : stands.day.traces ≡ traces = same_Some stands.day.traces traces (sym (ap (option_map (λ (d : KeptDay). d.traces)) stands.kept) ∙ are) in
    ap (λ (l : List NamedTrace). slice_get l f.index) (sym same) ∙ stands.trace
