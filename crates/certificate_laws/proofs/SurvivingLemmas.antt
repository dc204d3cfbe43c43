-- What a certificate leaves out survives.
use Rattle.std.proofs.Common.{◌≡◌, ◌≢◌, ℕ, ◌<◌, List, length, map, refl, sym, ap, ◌∙◌, Ordering}
use Rattle.std.specs.declared.cmp.Ordering.TheVariants.{Less, Equal, Greater}
use Rattle.std.specs.Prelude.{Contains, slice_index_or}
use Rattle.std.specs.Cmp.{IsTotalOrder}
use Rattle.std.specs.Ordering.{ordering_reverse}
use Rattle.std.proofs.lemmas.List.{get_or_default}
use Rattle.std.proofs.lemmas.List.Elements.{Contains-append_left, Contains-append_right}
use Rattle.certificates.specs.declared.matter.Matter.{Matter}
use Rattle.certificates.specs.declared.matter.Matter.TheVariants.{Before, Exclusive, Pipe}
use Rattle.session_rules.specs.KeptTraces.{Kept}
use Rattle.session_rules.specs.Refutations.{AreRefutations, Refutations, RefutesMatter, matters_of}
use Rattle.trace_types.specs.NameOrder.{name_cmp}
use Rattle.trace_types.specs.Segments.{SegmentName}
use Rattle.trace_types.specs.Surviving.{IsRefuted, Survives}
use Rattle.trace_types.proofs.ComparingLemmas.{name_exact}
use Rattle.trace_types.proofs.ElementLemmas.{contains_map}
use Rattle.certificate_laws.specs.SurvivingLaws.{HasNoLine}

-- ---- names in order

-- ---- lists of relations

-- one trace that refutes is enough
refuted_by : {A : Type 0} (refutes : A → Type 0) (traces : List A) (k : ℕ) (d : A) → k < length traces → refutes (slice_index_or traces k d) → IsRefuted refutes traces
refuted_by refutes traces k d within h = (k, slice_index_or traces k d, within, get_or_default traces k (slice_index_or traces k d) d within, h)

module _ (kept : List Kept) (refuted : Refutations) (are : AreRefutations kept refuted) where
  before_listed : (a b : SegmentName) → IsRefuted (RefutesMatter (Before a b)) kept → Contains (matters_of refuted) (Before a b)
  before_listed a b h =
      let f = λ (p : SegmentName × SegmentName). Before p.0 p.1 in
      Contains-append_left (map f refuted.before) _ (Before a b) (contains_map f refuted.before (a, b) ((are.before.exactly (a, b)).1 h))

  exclusive_listed : (a b : SegmentName) → name_cmp a b ≡ Less → IsRefuted (RefutesMatter (Exclusive a b)) kept → Contains (matters_of refuted) (Exclusive a b)
  exclusive_listed a b less h =
      let f = λ (p : SegmentName × SegmentName). Exclusive p.0 p.1 in
      Contains-append_right (map (λ (p : SegmentName × SegmentName). Before p.0 p.1) refuted.before) _ (Exclusive a b)
      (Contains-append_left (map f refuted.exclusive) _ (Exclusive a b) (contains_map f refuted.exclusive (a, b) ((are.exclusive.exactly (a, b)).1 (less, h))))

  pipe_listed : (t u : List ℕ) → IsRefuted (RefutesMatter (Pipe t u)) kept → Contains (matters_of refuted) (Pipe t u)
  pipe_listed t u h =
      let f = λ (p : List ℕ × List ℕ). Pipe p.0 p.1 in
      Contains-append_right (map (λ (p : SegmentName × SegmentName). Before p.0 p.1) refuted.before) _ (Pipe t u)
      (Contains-append_right (map (λ (p : SegmentName × SegmentName). Exclusive p.0 p.1) refuted.exclusive) (map f refuted.pipe) (Pipe t u)
      (contains_map f refuted.pipe (t, u) ((are.pipe.exactly (t, u)).1 h)))

-- what refutes that two names are exclusive refutes it in the other order
turned : (a b : SegmentName) (k : Kept) → RefutesMatter (Exclusive a b) k → RefutesMatter (Exclusive b a) k
turned a b k h = (λ e. h.0 (sym e), (h.1.1, h.1.0, h.1.3, h.1.2, h.1.5, h.1.4, (h.1.6.1, h.1.6.0)))

module _ (total : IsTotalOrder name_cmp) (kept : List Kept) (refuted : Refutations) (are : AreRefutations kept refuted) where
  exclusive_left : (a b : SegmentName) (o : Ordering) → name_cmp a b ≡ o → a ≢ b → IsRefuted (RefutesMatter (Exclusive a b)) kept → IsRefuted (RefutesMatter (Exclusive b a)) kept → HasNoLine (matters_of refuted) (Exclusive a b) → ⊥
  exclusive_left a b Less e differ one other none = none.0 (exclusive_listed kept refuted are a b e one)
  exclusive_left a b Equal e differ one other none = differ (name_exact a b e)
  exclusive_left a b Greater e differ one other none = none.1 (exclusive_listed kept refuted are b a (total.antisymm b a ∙ ap ordering_reverse e) other)

  pub left_out_survives : (matter : Matter) → HasNoLine (matters_of refuted) matter → Survives (RefutesMatter matter) kept
  left_out_survives (Before a b) none = λ k d within h. none (before_listed kept refuted are a b (refuted_by (RefutesMatter (Before a b)) kept k d within h))
  left_out_survives (Exclusive a b) none = λ k d within h.
      exclusive_left a b (name_cmp a b) refl h.0 (refuted_by (RefutesMatter (Exclusive a b)) kept k d within h)
      (refuted_by (RefutesMatter (Exclusive b a)) kept k d within (turned a b (slice_index_or kept k d) h)) none
  left_out_survives (Pipe t u) none = λ k d within h. none (pipe_listed kept refuted are t u (refuted_by (RefutesMatter (Pipe t u)) kept k d within h))
