-- The names of traces, counted trace after trace.
use Rattle.std.proofs.Common.{◌≡◌, ◌⊎◌, inl, inr, ℕ, ◌+◌, ◌<◌, ◌≤◌, ◌&&◌, List, [], ◌∷◌, ◌++◌, Bool, true, false, Some, length, get_or, take, All, ap, refl, sym, subst, ◌∙◌, arith}
use Rattle.std.specs.Prelude.{count_by, slice_get}
use Rattle.std.specs.List.{list_any}
use Rattle.std.proofs.lemmas.Bool.{and_parts, cases_lt}
use Rattle.std.proofs.lemmas.List.{length-take-le, take_all, take_more}
use Rattle.std.proofs.lemmas.List.Elements.{All-push}
use Rattle.std.proofs.lemmas.List.Folds.{Any-from_list_any}
use Rattle.std.proofs.lemmas.List.Sums.{count_by-le-length}
use Rattle.std.proofs.lemmas.Option.{get_or_from_slice_get, slice_get_within}
use Rattle.indexmap.specs.IndexMap.{IndexMap}
use Rattle.event_table.specs.Texts.{TextLists}
use Rattle.trace_types.specs.Batch.{PlainTrace}
use Rattle.trace_quality.specs.Measures.{one_if}
use Rattle.trace_quality.proofs.CountLemmas.{count_more}
use Rattle.trace_groups.specs.inner.Counts.{AreCounted, count_in}
use Rattle.trace_groups.specs.inner.Names.{AreNames, IsKnown, IsNumbered, begins_with, has_name, is_name}
use Rattle.trace_groups.proofs.PairLemmas.{name_true}

-- no row is counted more often than there are traces
pub counts_few : {S : Type 0} (texts : TextLists) (traces : List PlainTrace) (i : ℕ) (counts : IndexMap ((ℕ × ℕ) × (ℕ × ℕ)) ℕ S) → i ≤ length traces → AreCounted texts (take i traces) counts → (row : (ℕ × ℕ) × (ℕ × ℕ)) → count_in counts row ≤ i
counts_few texts traces i counts le h row = by (cases_lt 0 (count_in counts row))
  where
    by : (0 < count_in counts row) ⊎ (count_in counts row ≤ 0) → count_in counts row ≤ i
    by (inl more) =
        let k = h.known row more in
        omega (arith, h.exactly row k.0 k.1, count_by-le-length (λ t. begins_with texts row.0 t && has_name texts row.1 t) (take i traces), length-take-le i traces le)
    by (inr none) = omega (arith, none)

passed : (b : Bool) → 0 < one_if b → b ≡ true
passed true h = refl
passed false h = absurd (omega (arith, h))

module _ {S : Type 0} (texts : TextLists) (traces : List PlainTrace) (i : ℕ) (t : PlainTrace) (old new : IndexMap ((ℕ × ℕ) × (ℕ × ℕ)) ℕ S) (names : List (ℕ × ℕ)) (begin : ℕ × ℕ) (at : slice_get traces i ≡ Some t) (h : AreCounted texts (take i traces) old)
    (are : AreNames (record { texts = texts; trace = t }) names) (known : IsKnown texts begin) (begins : (k : ℕ × ℕ) → IsKnown texts k → is_name begin k ≡ begins_with texts k t)
    (put : (row : (ℕ × ℕ) × (ℕ × ℕ)) → count_in new row ≡ count_in old row + one_if (is_name begin row.0 && list_any (is_name row.1) names)) where
  lt : i < length traces
  lt = slice_get_within traces i t at

  is : get_or traces i t ≡ t
  is = get_or_from_slice_get traces i t t at

  new_known : (row : (ℕ × ℕ) × (ℕ × ℕ)) → (is_name begin row.0 && list_any (is_name row.1) names) ≡ true → IsKnown texts row.0 × IsKnown texts row.1
  new_known row e =
      let p = and_parts (is_name begin row.0) (list_any (is_name row.1) names) e in
      let some = Any-from_list_any (is_name row.1) names p.1 in (
        subst (IsKnown texts) (name_true begin row.0 p.0) known,
        subst (IsKnown texts) (some.3 ∙ sym (name_true row.1 some.1 some.4)) (are.known some.0 some.1 some.2),
      )

  pub counted_more : AreCounted texts (take (i + 1) traces) new
  counted_more = record {
    numbered = subst (All (IsNumbered texts)) (sym (take_more traces i t lt)) (All-push (IsNumbered texts) (take i traces) (get_or traces i t) h.numbered (subst (IsNumbered texts) (sym is) are.numbered));
    known = λ row more. elim (cases_lt 0 (count_in old row)) [
      | inl before ↦ h.known row before
      | inr none ↦ new_known row (passed (is_name begin row.0 && list_any (is_name row.1) names) (omega (arith, put row, more, none)))
    ];
    exactly = λ row one other.
        count_more (λ u. begins_with texts row.0 u && has_name texts row.1 u) traces i t t (count_in old row) (count_in new row) lt (h.exactly row one other) (sym is)
        (put row ∙ ap (λ b. count_in old row + one_if (b && list_any (is_name row.1) names)) (begins row.0 one) ∙ ap (λ b. count_in old row + one_if (begins_with texts row.0 t && b)) (are.exactly row.1 other));
  }

pub counted_all : {S : Type 0} (texts : TextLists) (traces : List PlainTrace) (i : ℕ) (counts : IndexMap ((ℕ × ℕ) × (ℕ × ℕ)) ℕ S) → length traces ≤ i → AreCounted texts (take i traces) counts → AreCounted texts traces counts
counted_all texts traces i counts ge h = subst (λ ts. AreCounted texts ts counts) (take_all i traces ge) h
