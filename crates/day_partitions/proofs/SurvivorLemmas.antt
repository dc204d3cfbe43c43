-- Which relations the traces of all days leave.
use Rattle.std.proofs.Common.{◌≡◌, ℕ, ◌<◌, List, [], length, get_or, Option, Some, None, IsSome, unwrap_or, refl, ap, ◌∙◌, subst, arith}
use Rattle.std.proofs.lemmas.Bool.{false≢true}
use Rattle.std.proofs.lemmas.List.{get_or_default}
use Rattle.hypothesis_index.specs.Refuting.{IsPlaceOfSome, Refutes}
use Rattle.hypothesis_index.specs.declared.relation.Relation.{Relation}
use Rattle.trace_types.specs.declared.named_trace.NamedTrace.{NamedTrace}
use Rattle.trace_types.specs.Surviving.{IsRefuted}
use Rattle.word_rows.specs.Words.{bit_of}
use Rattle.day_partitions.specs.Books.{all_traces}
use Rattle.day_partitions.specs.inner.Trees.{TreeState, AreCommon, leaf_bit, leaf_words}
use Rattle.refute_tests.specs.Survivors.{LackRefuted}
use Rattle.day_partitions.specs.inner.Slots.{HasLeaf, AreInSlots, shown_days}
use Rattle.day_partitions.specs.declared.day.Day.{Day}
use Rattle.day_partitions.proofs.AnyLemmas.{any_of_days, days_of_any}

-- a place of a relation that the traces refute
abbrev pub IsRefutedAt : List NamedTrace → ℕ → ℕ → Type 0
IsRefutedAt traces i b = IsPlaceOfSome (λ (r : Relation). IsRefuted (Refutes r) traces) i b

pub some_leaf : (o : Option (List ℕ)) → IsSome o → o ≡ Some (unwrap_or o [])
some_leaf None h = absurd (false≢true h)
some_leaf (Some x) h = refl

leaf_zero : (i b : ℕ) (o : Option (List ℕ)) → leaf_bit i b o ≡ 0 → (words : List ℕ) × (o ≡ Some words) × (bit_of words i b ≡ 0)
leaf_zero i b None e = absurd (let one : 1 ≡ 0 = e in omega arith)
leaf_zero i b (Some words) e = (words, refl, e)

-- what the leaves have in common lacks what the traces of all days refute
pub common_lacks : (t : TreeState) (days : List Day) (words : List ℕ) → AreInSlots t days → AreCommon t.leaves words → length words ≡ t.width → LackRefuted (all_traces (shown_days days)) words
common_lacks t days words s c wide = λ i b h l. (
  λ e.
      let leaf = (c.bits i b h l).0 e in
      let z = leaf_zero i b leaf.1 leaf.4 in
      let at : get_or t.leaves leaf.0 None ≡ Some z.0 = get_or_default t.leaves leaf.0 None leaf.1 leaf.2 ∙ leaf.3 ∙ z.1 in
      let owner = s.owned leaf.0 z.0 at in
      let d = owner.1 in
      let kept : HasLeaf t d = subst (λ x. HasLeaf t x) owner.3 (s.kept owner.0 d owner.2) in
      let is : leaf_words t.leaves d.slot ≡ z.0 = ap (λ k. leaf_words t.leaves k) owner.4 ∙ ap (λ o. unwrap_or o []) at in
      let size : i < length (leaf_words t.leaves d.slot) = omega (arith, kept.width) in
      let r = (kept.bits i b size l).0 (ap (λ ws. bit_of ws i b) is ∙ z.2) in
      (r.0, r.1, r.2, days_of_any (Refutes r.0) days (owner.0, d, owner.2, owner.3, r.3)),
  λ r.
      let owner = any_of_days (Refutes r.0) days r.3 in
      let d = owner.1 in
      let kept : HasLeaf t d = subst (λ x. HasLeaf t x) owner.3 (s.kept owner.0 d owner.2) in
      let size : i < length (leaf_words t.leaves d.slot) = omega (arith, kept.width) in
      let zero_there : bit_of (leaf_words t.leaves d.slot) i b ≡ 0 = (kept.bits i b size l).1 (r.0, r.1, r.2, owner.4) in
      let o = get_or t.leaves d.slot None in
      let value : leaf_bit i b o ≡ 0 = ap (leaf_bit i b) (some_leaf o kept.there) ∙ zero_there in
      let within : d.slot < length t.leaves = omega (arith, s.leaves, kept.slot) in
      (c.bits i b h l).1 (d.slot, o, within, get_or_default t.leaves d.slot o None within, value),
)
