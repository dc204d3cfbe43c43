-- Digests are merged in any order and in any steps.
use Rattle.std.proofs.Common.{◌≡◌, ℕ, List, [], ◌∷◌, ◌++◌, sym, ap, ◌∙◌}
use Rattle.std.specs.Prelude.{All}
use Rattle.std.specs.Cmp.Lexicographic.{slice_cmp}
use Rattle.std.specs.Ordering.{nat_cmp}
use Rattle.std.proofs.lemmas.List.Elements.{All-cons, All-head, All-nil, All-tail}
use Rattle.digest_facts.specs.Digests.{Digest, IsInForm, empty_digest}
use Rattle.digest_facts.specs.MergeLaws.{MergesFreely}
use Rattle.digest_merging.specs.Merges.{merged_digest, merged_of}
use Rattle.trace_types.specs.NameOrder.{name_cmp}
use Rattle.trace_types.specs.Segments.{SegmentName}
use Rattle.summary_laws.specs.MergeOrders.{AreInForm, DigestsAreMergedInAnyOrder, DigestsAreMergedInSteps}

abbrev TheDigest : Type 0
TheDigest = Digest SegmentName (List ℕ)

abbrev Form : TheDigest → Type 0
Form s = IsInForm name_cmp (slice_cmp nat_cmp) s

module _ (free : MergesFreely name_cmp (slice_cmp nat_cmp)) where
  merged_form : (ss : List TheDigest) → AreInForm ss → Form (merged_of ss)
  merged_form [] h = free.starts
  merged_form (s ∷ ss) h = free.form s (merged_of ss) (All-head Form s ss h) (merged_form ss (All-tail Form s ss h))

  first_of : (ss ts : List TheDigest) → AreInForm (ss ++ ts) → AreInForm ss
  first_of [] ts h = All-nil Form
  first_of (s ∷ ss) ts h = All-cons Form s ss (All-head Form s (ss ++ ts) h) (first_of ss ts (All-tail Form s (ss ++ ts) h))

  last_of : (ss ts : List TheDigest) → AreInForm (ss ++ ts) → AreInForm ts
  last_of [] ts h = h
  last_of (s ∷ ss) ts h = last_of ss ts (All-tail Form s (ss ++ ts) h)

  pub in_steps : DigestsAreMergedInSteps
  in_steps [] ts h = sym (free.begins (merged_of ts))
  in_steps (s ∷ ss) ts h =
      let rest : AreInForm (ss ++ ts) = All-tail Form s (ss ++ ts) h in
      ap (merged_digest s) (in_steps ss ts rest)
      ∙ sym (free.associates s (merged_of ss) (merged_of ts) (All-head Form s (ss ++ ts) h) (merged_form ss (first_of ss ts rest)) (merged_form ts (last_of ss ts rest)))

  pub in_any_order : DigestsAreMergedInAnyOrder
  in_any_order [] after s t h =
      let rest : AreInForm (t ∷ after) = All-tail Form s (t ∷ after) h in
      let fs : Form s = All-head Form s (t ∷ after) h in
      let ft : Form t = All-head Form t after rest in
      let fm : Form (merged_of after) = merged_form after (All-tail Form t after rest) in
      sym (free.associates s t (merged_of after) fs ft fm) ∙ ap (λ (d : TheDigest). merged_digest d (merged_of after)) (free.commutes s t fs ft) ∙ free.associates t s (merged_of after) ft fs fm
  in_any_order (b ∷ before) after s t h = ap (merged_digest b) (in_any_order before after s t (All-tail Form b (before ++ (s ∷ t ∷ after)) h))
