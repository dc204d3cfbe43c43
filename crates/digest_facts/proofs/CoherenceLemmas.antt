-- Digests of traces hang together, and so do merges.
use Rattle.std.proofs.Common.{◌≡◌, ℕ, List, map, sym, subst, ⊎_elim, inl, inr, Ordering}
use Rattle.std.specs.List.{Any, Contains}
use Rattle.std.proofs.lemmas.Option.{get_or_from_slice_get, slice_get_within}
use Rattle.trace_types.specs.NameOrder.{pair_cmp}
use Rattle.trace_types.specs.Parts.{Parts, segments_of}
use Rattle.trace_types.specs.Pipelines.{HandlesAt, RefutesPipe, RefutesUnshared, TakesOutOfOrder, TakesUnfinished}
use Rattle.trace_types.specs.Refuting.{RefutesApart, RefutesBefore, RefutesExclusive}
use Rattle.digest_facts.specs.Coherence.{AreAmong, ArePairsOf, MergedIsCoherent, DigestIsCoherent}
use Rattle.digest_facts.specs.Digests.{TellsApart, union}
use Rattle.digest_facts.proofs.ListLemmas.{to_flat, to_map}
use Rattle.digest_facts.proofs.MergeLemmas.{is_formed, merges_freely, pair_apart}
use Rattle.digest_facts.proofs.UnionLemmas.{union_has}

any_to : {A : Type 0} (P Q : A → Type 0) (xs : List A) → ((x : A) → P x → Q x) → Any P xs → Any Q xs
any_to P Q xs f (k, x, lt, is, h) = (k, x, lt, is, f x h)

module _ {A S N T E : Type 0} (p : Parts A S N T E) where
  name_in : (traces : List A) (trace : A) (s : S) (a : N) → Contains traces trace → Contains (p.segments trace) s → p.name s ≡ a → Contains (map p.name (segments_of p traces)) a
  name_in traces trace s a c d e = subst (λ (v : N). Contains (map p.name (segments_of p traces)) v) e (to_map p.name (segments_of p traces) s (to_flat p.segments traces trace s c d))

  task_in : (traces : List A) (trace : A) (t : T) (e : E) (k : ℕ) (s : S) → Contains traces trace → HandlesAt p trace t e k s → Contains (map p.task (segments_of p traces)) t
  task_in traces trace t e k s c h =
      let xs = p.segments trace in
      let at : Contains xs s = (k, slice_get_within xs k s h.segment, get_or_from_slice_get xs k s s h.segment) in
      subst (λ (v : T). Contains (map p.task (segments_of p traces)) v) h.task (to_map p.task (segments_of p traces) s (to_flat p.segments traces trace s c at))

  pipe_shares : (t u : T) (trace : A) → RefutesPipe p t u trace → RefutesUnshared p t u trace
  pipe_shares t u trace r = ⊎_elim
      (λ (h : TakesUnfinished p t u trace). record { element = h.element; k = h.giver; l = h.taker; s = h.given; r = h.taken; one = h.ends.handles; other = h.starts.handles })
      (λ (h : TakesOutOfOrder p t u trace). record { element = h.one; k = h.in_order.earlier; l = h.turned.later; s = h.in_order.s; r = h.turned.r; one = h.in_order.first.handles; other = h.turned.second.handles })
      r

  pub coherent : DigestIsCoherent p
  coherent day by_name by_task traces s is = record {
    form = is_formed p day by_name by_task traces s is;
    together = record {
      differ = λ a b c. ((is.together.exactly (a, b)).0 c).0;
      first = λ a b c. let r = ((is.together.exactly (a, b)).0 c).1 in (is.names.exactly a).1 (name_in traces r.1 r.4.0 a (r.0, r.2, r.3) r.4.2 r.4.4);
      second = λ a b c. let r = ((is.together.exactly (a, b)).0 c).1 in (is.names.exactly b).1 (name_in traces r.1 r.4.1 b (r.0, r.2, r.3) r.4.3 r.4.5);
      turned = λ a b c. let h = (is.together.exactly (a, b)).0 c in (is.together.exactly (b, a)).1 ((λ e. h.0 (sym e)), any_to (RefutesApart p a b) (RefutesApart p b a) traces (λ x r. (r.1, r.0, r.3, r.2, r.5, r.4, tt)) h.1);
    };
    before = λ a b c. let h = (is.before.exactly (a, b)).0 c in (is.together.exactly (a, b)).1 (h.0, any_to (RefutesBefore p a b) (RefutesApart p a b) traces (λ x r. (r.0, r.1, r.2, r.3, r.4, r.5, tt)) h.1);
    exclusive = λ a b c. let h = (is.exclusive.exactly (a, b)).0 c in (is.before.exactly (a, b)).1 (h.0, any_to (RefutesExclusive p a b) (RefutesBefore p a b) traces (λ x r. (r.0, r.1, r.2, r.3, r.4, r.5, r.6.1)) h.1);
    turned = λ a b c. let h = (is.exclusive.exactly (a, b)).0 c in (is.exclusive.exactly (b, a)).1 ((λ e. h.0 (sym e)), any_to (RefutesExclusive p a b) (RefutesExclusive p b a) traces (λ x r. (r.1, r.0, r.3, r.2, r.5, r.4, (r.6.1, r.6.0))) h.1);
    shared = record {
      differ = λ a b c. ((is.shared.exactly (a, b)).0 c).0;
      first = λ a b c. let r = ((is.shared.exactly (a, b)).0 c).1 in (is.tasks.exactly a).1 (task_in traces r.1 a r.4.element r.4.k r.4.s (r.0, r.2, r.3) r.4.one);
      second = λ a b c. let r = ((is.shared.exactly (a, b)).0 c).1 in (is.tasks.exactly b).1 (task_in traces r.1 b r.4.element r.4.l r.4.r (r.0, r.2, r.3) r.4.other);
      turned = λ a b c. let h = (is.shared.exactly (a, b)).0 c in (is.shared.exactly (b, a)).1 ((λ e. h.0 (sym e)), any_to (RefutesUnshared p a b) (RefutesUnshared p b a) traces (λ x r. record { element = r.element; k = r.l; l = r.k; s = r.r; r = r.s; one = r.other; other = r.one }) h.1);
    };
    pipe = λ a b c. let h = (is.pipe.exactly (a, b)).0 c in (is.shared.exactly (a, b)).1 (h.0, any_to (RefutesPipe p a b) (RefutesUnshared p a b) traces (pipe_shares a b) h.1);
  }

-- ---- merges
module _ {X : Type 0} (cmp : X → X → Ordering) (o : TellsApart cmp) where
  pub union_either : (Q : X → Type 0) (xs ys : List X) (x : X) → Contains (union cmp xs ys) x → (Contains xs x → Q x) → (Contains ys x → Q x) → Q x
  union_either Q xs ys x c f g = ⊎_elim f g ((union_has cmp o xs ys x).0 c)

  pub in_left : (xs ys : List X) (x : X) → Contains xs x → Contains (union cmp xs ys) x
  in_left xs ys x c = (union_has cmp o xs ys x).1 (inl c)

  pub in_right : (xs ys : List X) (x : X) → Contains ys x → Contains (union cmp xs ys) x
  in_right xs ys x c = (union_has cmp o xs ys x).1 (inr c)

  -- pairs of what is listed, in two lists
  pairs_of : (listed others : List X) (pairs mates : List (X × X)) → ArePairsOf listed pairs → ArePairsOf others mates → ArePairsOf (union cmp listed others) (union (pair_cmp cmp) pairs mates)
  pairs_of listed others pairs mates h k =
      let both = λ (a b : X) (c : Contains (union (pair_cmp cmp) pairs mates) (a, b)). (union_has (pair_cmp cmp) (pair_apart cmp o) pairs mates (a, b)).0 c in
      record {
        differ = λ a b c. ⊎_elim (λ (l : Contains pairs (a, b)). h.differ a b l) (λ (r : Contains mates (a, b)). k.differ a b r) (both a b c);
        first = λ a b c. (union_has cmp o listed others a).1 (⊎_elim (λ (l : Contains pairs (a, b)). inl (h.first a b l)) (λ (r : Contains mates (a, b)). inr (k.first a b r)) (both a b c));
        second = λ a b c. (union_has cmp o listed others b).1 (⊎_elim (λ (l : Contains pairs (a, b)). inl (h.second a b l)) (λ (r : Contains mates (a, b)). inr (k.second a b r)) (both a b c));
        turned = λ a b c. (union_has (pair_cmp cmp) (pair_apart cmp o) pairs mates (b, a)).1 (⊎_elim (λ (l : Contains pairs (a, b)). inl (h.turned a b l)) (λ (r : Contains mates (a, b)). inr (k.turned a b r)) (both a b c));
      }

  -- and pairs among pairs
  among : (pairs mates others more : List (X × X)) → AreAmong pairs others → AreAmong mates more → AreAmong (union (pair_cmp cmp) pairs mates) (union (pair_cmp cmp) others more)
  among pairs mates others more h k a b c = (union_has (pair_cmp cmp) (pair_apart cmp o) others more (a, b)).1
      (⊎_elim (λ (l : Contains pairs (a, b)). inl (h a b l)) (λ (r : Contains mates (a, b)). inr (k a b r)) ((union_has (pair_cmp cmp) (pair_apart cmp o) pairs mates (a, b)).0 c))

  turns : (pairs mates : List (X × X)) → ((a b : X) → Contains pairs (a, b) → Contains pairs (b, a)) → ((a b : X) → Contains mates (a, b) → Contains mates (b, a)) → (a b : X) → Contains (union (pair_cmp cmp) pairs mates) (a, b) → Contains (union (pair_cmp cmp) pairs mates) (b, a)
  turns pairs mates h k a b c = (union_has (pair_cmp cmp) (pair_apart cmp o) pairs mates (b, a)).1
      (⊎_elim (λ (l : Contains pairs (a, b)). inl (h a b l)) (λ (r : Contains mates (a, b)). inr (k a b r)) ((union_has (pair_cmp cmp) (pair_apart cmp o) pairs mates (a, b)).0 c))

pub merged_coherent : {N T : Type 0} (by_name : N → N → Ordering) (by_task : T → T → Ordering) → TellsApart by_name → TellsApart by_task → MergedIsCoherent by_name by_task
merged_coherent by_name by_task n t x y h k = record {
  form = (merges_freely by_name by_task n t).form x y h.form k.form;
  together = pairs_of by_name n x.names y.names x.together y.together h.together k.together;
  before = among by_name n x.before y.before x.together y.together h.before k.before;
  exclusive = among by_name n x.exclusive y.exclusive x.before y.before h.exclusive k.exclusive;
  turned = turns by_name n x.exclusive y.exclusive h.turned k.turned;
  shared = pairs_of by_task t x.tasks y.tasks x.shared y.shared h.shared k.shared;
  pipe = among by_task t x.pipe y.pipe x.shared y.shared h.pipe k.pipe;
}
