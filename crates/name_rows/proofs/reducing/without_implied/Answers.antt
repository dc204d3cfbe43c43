use Rattle.std.proofs.Common.{◌≡◌, ◌↔◌, ◌<◌, ℕ, Bool, true, All, List, length, map, sym, ap, ◌∙◌, subst}
use Rattle.std.specs.List.{AllZip}
use Rattle.std.proofs.lemmas.Result.{IfOk-weaker}
use Rattle.evidence_rules.specs.EvidenceRows.{places_of}
use Rattle.evidence_rules.specs.Reaching.{IsImplied}
use Rattle.evidence_rules.specs.declared.between.Between.{Between}
use Rattle.evidence_rules.specs.declared.pair_row.PairRow.{PairRow}
use Rattle.name_rows.specs.inner.Reducing.{unmarked}
use Rattle.name_rows.proofs.RowLemmas.{places_below, reduced_from, verdict_count}
use Rattle.name_rows.proofs.reducing.without_implied.Goals as goal

pub implied_pairs-requires-clause-below : goal.implied_pairs-requires-clause-below
implied_pairs-requires-clause-below c =
    subst (λ (l : List (ℕ × ℕ)). All (λ (pair : ℕ × ℕ). (pair.0 < c.args.count) × (pair.1 < c.args.count)) l) (sym (c.deref.ensures.value ∙ c.in_ok-pairs.ensures))
    (places_below c.args.count c.args.rows.now c.requires.below)

pub unmarked_rows-requires : goal.unmarked_rows-requires
unmarked_rows-requires c =
    let rows : List (PairRow Between) = c.args.rows.now in
    let marks : List Bool = c.in_ok-marks.marks.items in
    let told = subst (λ (l : List (ℕ × ℕ)). AllZip (λ (pair : ℕ × ℕ) v. (v ≡ true) ↔ IsImplied l pair.0 pair.1) l marks) (c.deref.ensures.value ∙ c.in_ok-pairs.ensures) c.in_ok-marks.ensures in
    ap length c.deref-2.ensures.value ∙ verdict_count (λ (pair : ℕ × ℕ) v. (v ≡ true) ↔ IsImplied (map places_of rows) pair.0 pair.1) rows marks told

pub returns : goal.returns
returns c =
    let rows : List (PairRow Between) = c.args.rows.now in
    let marks : List Bool = c.in_ok-marks.marks.items in
    let told = subst (λ (l : List (ℕ × ℕ)). AllZip (λ (pair : ℕ × ℕ) v. (v ≡ true) ↔ IsImplied l pair.0 pair.1) l marks) (c.deref.ensures.value ∙ c.in_ok-pairs.ensures) c.in_ok-marks.ensures in
    IfOk-weaker c.unmarked_rows.result _ _ (λ left are. reduced_from rows marks left.items told (are ∙ ap (λ (l : List Bool). unmarked rows l) c.deref-2.ensures.value)) c.unmarked_rows.ensures
