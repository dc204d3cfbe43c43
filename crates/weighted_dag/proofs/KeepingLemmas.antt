-- The edges of one vertex, taken in rising order: which are kept, and which vertices they lead to.
use Rattle.std.proofs.Common.{◌≡◌, ◌≢◌, ℕ, ◌+◌, ◌<◌, List, [], ◌∷◌, ◌++◌, length, get_or, take, All, Contains, ◌⊎◌, ◌↔◌, inl, inr, ⊎_elim, refl, sym, ap, ◌∙◌, subst, arith}
use Rattle.std.proofs.lemmas.Bool.{cases_order}
use Rattle.std.proofs.lemmas.List.{get_or-take, length-take-le, take_more, get_or_default, length-set}
use Rattle.std.proofs.lemmas.List.Elements.{Contains-append_left, Contains-push, Contains-push_cases, Contains-get_or}
use Rattle.std.proofs.lemmas.List.Kept.{AllPairs-from_increasing}
use Rattle.weighted_dag.specs.Graphs.{Graph, IsGraph, IsEdge, order_of, successors_of, with_edge}
use Rattle.weighted_dag.specs.inner.BitSets.{Has, words_for}
use Rattle.weighted_dag.specs.Reductions.{IsReachable, HasDetour}
use Rattle.weighted_dag.specs.inner.ReductionSteps.{IsReducedAt, IsReachOf}
use Rattle.weighted_dag.proofs.EdgeLemmas.{with_edge_same, with_edge_other}
use Rattle.weighted_dag.proofs.PathLemmas.{IsReachable-cases, reachable_by_edge, reachable_by_detour, detour_by_edge, reachable_later, reachable_trans}

-- what holds once the prefix of the successors of v is done
pub record IsKept (g before r : Graph) (v : ℕ) (prefix set : List ℕ) : Type 0 where
  pub room : length set ≡ words_for (order_of g)
  pub members : (b : ℕ) → Has set b ↔ ((x : ℕ) × Contains prefix x × ((x ≡ b) ⊎ IsReachable g x b))
  pub kept : (x : ℕ) → IsEdge r v x → Contains prefix x × ¬ HasDetour g v x
  pub others : (x : ℕ) → Contains prefix x → IsEdge r v x ⊎ HasDetour g v x
  pub elsewhere : (a : ℕ) → a ≢ v → successors_of r a ≡ successors_of before a
  pub weights : r.weights ≡ g.weights
  pub form : IsGraph r

module _ (g before r : Graph) (form : IsGraph g) (v i : ℕ) (set : List ℕ) (inside : i < length (successors_of g v)) (so : IsKept g before r v (take i (successors_of g v)) set) where
  pub prefix_below : (y : ℕ) → Contains (take i (successors_of g v)) y → y < get_or (successors_of g v) i 0
  prefix_below y h =
      let k : ℕ = h.0 in
      let n = length-take-le i (successors_of g v) (omega arith) in
      let low : k < i = let l = h.1 in omega arith in
      let is : get_or (successors_of g v) k y ≡ y = sym (get_or-take i (successors_of g v) k y low) ∙ h.2 in
      let rises = AllPairs-from_increasing (successors_of g v) (form.rising v) k i y low inside in
      let same = get_or_default (successors_of g v) i y 0 inside in
      omega arith

  prefix_in : (y : ℕ) → Contains (take i (successors_of g v)) y → IsEdge g v y
  prefix_in y h =
      let k : ℕ = h.0 in
      let n = length-take-le i (successors_of g v) (omega arith) in
      let low : k < i = let l = h.1 in omega arith in
      (k, omega arith, sym (get_or-take i (successors_of g v) k y low) ∙ h.2)

  in_prefix : (y : ℕ) → IsEdge g v y → y < get_or (successors_of g v) i 0 → Contains (take i (successors_of g v)) y
  in_prefix y h below =
      let k : ℕ = h.0 in
      let within : k < length (successors_of g v) = h.1 in
      let is : get_or (successors_of g v) k y ≡ y = h.2 in
      let n = length-take-le i (successors_of g v) (omega arith) in
      let same = get_or_default (successors_of g v) i y 0 inside in
      ⊎_elim
      (λ (e : k ≡ i). absurd (let f : get_or (successors_of g v) k y ≡ get_or (successors_of g v) i y = ap (λ (j : ℕ). get_or (successors_of g v) j y) e in omega arith))
      (⊎_elim
      (λ (l : k < i). (k, omega arith, get_or-take i (successors_of g v) k y l ∙ is))
      (λ (l : i < k). absurd (let rises = AllPairs-from_increasing (successors_of g v) (form.rising v) i k y l within in omega arith)))
      (cases_order k i)

  next : take (i + 1) (successors_of g v) ≡ take i (successors_of g v) ++ get_or (successors_of g v) i 0 ∷ []
  next = take_more (successors_of g v) i 0 inside

  -- a successor that an earlier one leads to has a detour
  pub IsKept-dropped : Has set (get_or (successors_of g v) i 0) → IsKept g before r v (take (i + 1) (successors_of g v)) set
  IsKept-dropped has =
      let x : ℕ = get_or (successors_of g v) i 0 in
      let prefix : List ℕ = take i (successors_of g v) in
      let by = (so.members x).0 has in
      let y : ℕ = by.0 in
      let in_y : Contains prefix y = by.1 in
      let reach : IsReachable g y x = ⊎_elim
      (λ (e : y ≡ x). absurd (let l = prefix_below y in_y in omega arith))
      (λ (p : IsReachable g y x). p) by.2 in
      let detour : HasDetour g v x = detour_by_edge g form v y x (prefix_in y in_y) reach in
      let P : List ℕ → Type 0 = λ (f : List ℕ). IsKept g before r v f set in
      subst P (sym next) (record {
        room = so.room;
        members = λ b. (
          λ h. let s = (so.members b).0 h in (s.0, Contains-append_left prefix (x ∷ []) s.0 s.1, s.2),
          λ s. ⊎_elim
              (λ (old : Contains prefix s.0). (so.members b).1 (s.0, old, s.2))
              (λ (e : x ≡ s.0). (so.members b).1 (
                y,
                in_y,
                inr (⊎_elim
                    (λ (f : s.0 ≡ b). subst (λ (z : ℕ). IsReachable g y z) (e ∙ f) reach)
                    (λ (p : IsReachable g s.0 b). reachable_trans g y x b reach (subst (λ (z : ℕ). IsReachable g z b) (sym e) p))
                    s.2),
              ))
              (Contains-push_cases prefix x s.0 s.1),
        );
        kept = λ z e. let k = so.kept z e in (Contains-append_left prefix (x ∷ []) z k.0, k.1);
        others = λ z h. ⊎_elim
            (λ (old : Contains prefix z). so.others z old)
            (λ (e : x ≡ z). inr (subst (λ (w : ℕ). HasDetour g v w) e detour))
            (Contains-push_cases prefix x z h);
        elsewhere = so.elsewhere;
        weights = so.weights;
        form = so.form;
      })

  -- a successor that no earlier one leads to is kept
  pub IsKept-kept : IsGraph (with_edge r v (get_or (successors_of g v) i 0)) → ¬ Has set (get_or (successors_of g v) i 0) → v < length r.successors → (reach mid new : List ℕ) → IsReachOf g (get_or (successors_of g v) i 0) reach → length new ≡ length set → ((k : ℕ) → Has mid k ↔ (Has set k ⊎ (k ≡ get_or (successors_of g v) i 0))) → ((k : ℕ) → Has new k ↔ (Has mid k ⊎ Has reach k)) → IsKept g before (with_edge r v (get_or (successors_of g v) i 0)) v (take (i + 1) (successors_of g v)) new
  IsKept-kept form' hasnt row reach mid new of room inserted united =
      let x : ℕ = get_or (successors_of g v) i 0 in
      let prefix : List ℕ = take i (successors_of g v) in
      let r' : Graph = with_edge r v x in
      let grown : successors_of r' v ≡ successors_of r v ++ x ∷ [] = with_edge_same r v x row in
      let direct : HasDetour g v x → ⊥ = λ (d : HasDetour g v x).
      let y : ℕ = d.0 in
      let e : IsEdge g v y = d.2.1 in
      let p : IsReachable g y x = (d.1, d.2.2) in
      hasnt ((so.members x).1 (y, in_prefix y e (reachable_later g form y x p), inr p)) in
      let P : List ℕ → Type 0 = λ (f : List ℕ). IsKept g before r' v f new in
      subst P (sym next) (record {
        room = room ∙ so.room;
        members = λ b. (
          λ h. ⊎_elim
              (λ (m : Has mid b). ⊎_elim
              (λ (o : Has set b). let s = (so.members b).0 o in (s.0, Contains-append_left prefix (x ∷ []) s.0 s.1, s.2))
              (λ (e : b ≡ x). (x, Contains-push prefix x, inl (sym e)))
              ((inserted b).0 m))
              (λ (m : Has reach b). (x, Contains-push prefix x, inr ((of.members b).0 m)))
              ((united b).0 h),
          λ s. ⊎_elim
              (λ (old : Contains prefix s.0). (united b).1 (inl ((inserted b).1 (inl ((so.members b).1 (s.0, old, s.2))))))
              (λ (e : x ≡ s.0). ⊎_elim
              (λ (f : s.0 ≡ b). (united b).1 (inl ((inserted b).1 (inr (sym (e ∙ f))))))
              (λ (p : IsReachable g s.0 b). (united b).1 (inr ((of.members b).1 (subst (λ (z : ℕ). IsReachable g z b) (sym e) p))))
              s.2)
              (Contains-push_cases prefix x s.0 s.1),
        );
        kept = λ z e.
            let Q : List ℕ → Type 0 = λ (l : List ℕ). Contains l z in
            ⊎_elim
            (λ (old : IsEdge r v z). let k = so.kept z old in (Contains-append_left prefix (x ∷ []) z k.0, k.1))
            (λ (f : x ≡ z). subst (λ (w : ℕ). Contains (prefix ++ x ∷ []) w × ¬ HasDetour g v w) f (Contains-push prefix x, direct))
            (Contains-push_cases (successors_of r v) x z (subst Q grown e));
        others = λ z h.
            let Q : List ℕ → Type 0 = λ (l : List ℕ). Contains l z in
            ⊎_elim
            (λ (old : Contains prefix z). ⊎_elim
            (λ (e : IsEdge r v z). inl (subst Q (sym grown) (Contains-append_left (successors_of r v) (x ∷ []) z e)))
            (λ (d : HasDetour g v z). inr d)
            (so.others z old))
            (λ (e : x ≡ z). inl (subst Q (sym grown) (subst (λ (w : ℕ). Contains (successors_of r v ++ x ∷ []) w) e (Contains-push (successors_of r v) x))))
            (Contains-push_cases prefix x z h);
        elsewhere = λ a e. with_edge_other r v x a e ∙ so.elsewhere a e;
        weights = so.weights;
        form = form';
      })

  -- the edges that stand so far lead below the successor that is looked at
  pub kept_below : All (λ s. s < get_or (successors_of g v) i 0) (successors_of r v)
  kept_below k d h = prefix_below (get_or (successors_of r v) k d) (so.kept (get_or (successors_of r v) k d) (Contains-get_or (successors_of r v) k d h)).0

-- after the last successor the set has what can be reached, and the edges are those that are kept
module _ (g before r : Graph) (form : IsGraph g) (v : ℕ) (set : List ℕ) (so : IsKept g before r v (successors_of g v) set) where
  pub IsReachOf-all : IsReachOf g v set
  IsReachOf-all = record {
    room = so.room;
    members = λ b. (
      λ h. let s = (so.members b).0 h in let e : IsEdge g v s.0 = s.1 in ⊎_elim
          (λ (f : s.0 ≡ b). subst (λ (z : ℕ). IsReachable g v z) f (reachable_by_edge g form v s.0 e))
          (λ (p : IsReachable g s.0 b). reachable_by_detour g v b (detour_by_edge g form v s.0 b e p))
          s.2,
      λ p. ⊎_elim
          (λ (e : IsEdge g v b). (so.members b).1 (b, e, inl refl))
          (λ (d : HasDetour g v b). (so.members b).1 (d.0, d.2.1, inr (d.1, d.2.2)))
          (IsReachable-cases g v b p),
    );
  }

  pub IsReducedAt-all : IsReducedAt g r v
  IsReducedAt-all = record { kept = so.kept; others = so.others }

-- an edge leads to each successor that is looked at
pub edge_at : (g : Graph) (v : ℕ) (items : List ℕ) (i : ℕ) → items ≡ successors_of g v → i < length items → IsEdge g v (get_or items i 0)
edge_at g v items i e h = subst (λ (l : List ℕ). Contains l (get_or items i 0)) e (Contains-get_or items i 0 h)

-- a vertex has its list of successors
pub row_of : (g r r' : Graph) (v x : ℕ) → r' ≡ with_edge r v x → IsGraph r' → r.weights ≡ g.weights → v < order_of g → v < length r.successors
row_of g r r' v x is form same within =
    let lists = form.lists in
    let rows : length r'.successors ≡ length r.successors = ap (λ (q : Graph). length q.successors) is ∙ length-set r.successors v (successors_of r v ++ x ∷ []) in
    let order : order_of r' ≡ order_of r = ap (λ (q : Graph). order_of q) is in
    let order' : order_of r ≡ order_of g = ap length same in
    omega arith

-- one more successor of v, named x
module _ (g before r : Graph) (form : IsGraph g) (v i : ℕ) (set : List ℕ) (inside : i < length (successors_of g v)) (so : IsKept g before r v (take i (successors_of g v)) set) (x : ℕ) (is : x ≡ get_or (successors_of g v) i 0) where
  pub kept_step : (r' : Graph) → r' ≡ with_edge r v x → IsGraph r' → v < order_of g → ¬ Has set x → (reach mid new : List ℕ) → IsReachOf g x reach → length new ≡ length set → ((k : ℕ) → Has mid k ↔ (Has set k ⊎ (k ≡ x))) → ((k : ℕ) → Has new k ↔ (Has mid k ⊎ Has reach k)) → IsKept g before r' v (take (i + 1) (successors_of g v)) new
  kept_step r' grown form' within hasnt reach mid new of room inserted united =
      let row = row_of g r r' v x grown form' so.weights within in
      let step : IsKept g before (with_edge r v x) v (take (i + 1) (successors_of g v)) new =
      subst (λ (y : ℕ). IsGraph (with_edge r v y) → ¬ Has set y → v < length r.successors → (reach mid new : List ℕ) → IsReachOf g y reach → length new ≡ length set → ((k : ℕ) → Has mid k ↔ (Has set k ⊎ (k ≡ y))) → ((k : ℕ) → Has new k ↔ (Has mid k ⊎ Has reach k)) → IsKept g before (with_edge r v y) v (take (i + 1) (successors_of g v)) new)
      (sym is) (IsKept-kept g before r form v i set inside so) (subst IsGraph grown form') hasnt row reach mid new of room inserted united in
      let P : Graph → Type 0 = λ (q : Graph). IsKept g before q v (take (i + 1) (successors_of g v)) new in
      subst P (sym grown) step

  pub dropped_step : Has set x → IsKept g before r v (take (i + 1) (successors_of g v)) set
  dropped_step has = IsKept-dropped g before r form v i set inside so (subst (λ (y : ℕ). Has set y) is has)
