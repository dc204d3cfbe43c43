-- Levels given link by link.
use Rattle.std.proofs.Common.{◌≡◌, ℕ, ◌+◌, ◌<◌, Bool, true, false, cond, Option, Some, None, IsSome, is_none, is_some, not, List, [], ◌∷◌, ◌++◌, length, get_or, set, arith, refl, sym, subst, ap, ◌∙◌, ⊎_elim, inl, inr, ◌⊎◌, Contains, Vec}
use Rattle.std.specs.declared.alloc.Global.{Global}
use Rattle.std.proofs.lemmas.Bool.{cases_eq, false≢true}
use Rattle.std.proofs.lemmas.List.{length-set, get_or-set_same, get_or-set_other}
use Rattle.std.proofs.lemmas.List.Elements.{Contains-get_or, Contains-append_left, Contains-push, Contains-push_cases}
use Rattle.std.proofs.lemmas.List.Sums.{sum_by-set}
use Rattle.clock_offsets.specs.declared.link.Link.{Link}
use Rattle.clock_offsets.specs.inner.Links.{links_at, LeadBelow}
use Rattle.clock_offsets.specs.inner.Search.{depth_at, IsFrontier, LinksTo, FrontierLinksTo, Visits, unvisited}
use Rattle.clock_offsets.proofs.SearchLemmas.{option_cases}

pub none_at : {X : Type 0} (o : Option X) (b : Bool) → is_some o ≡ not b → b ≡ true → o ≡ None
none_at None b e h = refl
none_at (Some x) b e h = absurd (false≢true (sym (e ∙ ap not h)))

pub some_at : {X : Type 0} (o : Option X) (b : Bool) → is_some o ≡ not b → b ≡ false → IsSome o
some_at None b e h = absurd (false≢true (e ∙ ap not h))
some_at (Some x) b e h = refl

is_some_at : {X : Type 0} (o : Option X) (x : X) → o ≡ Some x → IsSome o
is_some_at o x e = subst (λ p. IsSome p) (sym e) refl

-- nothing is asked, and nothing changed
pub visits_none : (T : ℕ → Type 0) (k : ℕ) (depths : List (Option ℕ)) → ((v : ℕ) → T v → ⊥) → Visits T k depths depths
visits_none T k depths none = record {
  each = refl;
  kept = λ v j h. h;
  fresh = λ v j h. inl h;
  found = λ v h. absurd (none v h);
}

-- more is asked, that had been found
pub visits_grow : (T U : ℕ → Type 0) (k : ℕ) (old new : List (Option ℕ)) → Visits T k old new → ((v : ℕ) → T v → U v) → ((v : ℕ) → U v → T v ⊎ IsSome (depth_at new v)) → Visits U k old new
visits_grow T U k old new w more only = record {
  each = w.each;
  kept = w.kept;
  fresh = λ v j h. ⊎_elim (λ (a : depth_at old v ≡ Some j). inl a) (λ (b : (depth_at old v ≡ None) × (j ≡ k) × T v). inr (b.0, b.1, more v b.2)) (w.fresh v j h);
  found = λ v u. ⊎_elim (λ (t : T v). w.found v t) (λ (s : IsSome (depth_at new v)). s) (only v u);
}

-- one machine more gets the depth
pub visits_set : (T U : ℕ → Type 0) (k : ℕ) (old new : List (Option ℕ)) (x : ℕ) → Visits T k old new → x < length new → depth_at new x ≡ None → ((v : ℕ) → T v → U v) → U x → ((v : ℕ) → U v → T v ⊎ (v ≡ x)) → Visits U k old (set new x (Some k))
visits_set T U k old new x w lt none more here only = record {
  each = length-set new x (Some k) ∙ w.each;
  kept = λ v j h. stays v j (w.kept v j h);
  fresh = λ v j h. ⊎_elim
      (λ (same : v ≡ x). fresh_here v j same h)
      (λ (apart : v ≡ x → ⊥). fresh_other v j (w.fresh v j (sym (get_or-set_other new x v (Some k) None apart) ∙ h)))
      (cases_eq v x);
  found = λ v u. ⊎_elim (λ (t : T v). still v (w.found v t)) (λ (same : v ≡ x). is_some_at (depth_at (set new x (Some k)) v) k (at_x v same)) (only v u);
}
  where
    at_x : (v : ℕ) → v ≡ x → depth_at (set new x (Some k)) v ≡ Some k
    at_x v same = ap (depth_at (set new x (Some k))) same ∙ get_or-set_same new x (Some k) None lt

    stays : (v j : ℕ) → depth_at new v ≡ Some j → depth_at (set new x (Some k)) v ≡ Some j
    stays v j h = ⊎_elim
        (λ (same : v ≡ x). let e : depth_at new v ≡ depth_at new x = ap (depth_at new) same in cc)
        (λ (apart : v ≡ x → ⊥). get_or-set_other new x v (Some k) None apart ∙ h)
        (cases_eq v x)

    still : (v : ℕ) → IsSome (depth_at new v) → IsSome (depth_at (set new x (Some k)) v)
    still v s = ⊎_elim
        (λ (same : v ≡ x). is_some_at (depth_at (set new x (Some k)) v) k (at_x v same))
        (λ (apart : v ≡ x → ⊥). subst (λ (o : Option ℕ). IsSome o) (sym (get_or-set_other new x v (Some k) None apart)) s)
        (cases_eq v x)

    fresh_here : (v j : ℕ) → v ≡ x → depth_at (set new x (Some k)) v ≡ Some j → (depth_at old v ≡ Some j) ⊎ ((depth_at old v ≡ None) × (j ≡ k) × U v)
    fresh_here v j same h =
        let is : depth_at (set new x (Some k)) v ≡ Some k = at_x v same in
        let jk : j ≡ k = cc in
        ⊎_elim
        (λ (away : depth_at old v ≡ None). inr (away, jk, subst (λ (i : ℕ). U i) (sym same) here))
        (λ (h : (i : ℕ) × (depth_at old v ≡ Some i)). let e : depth_at new v ≡ Some h.0 = w.kept v h.0 h.1 in let f : depth_at new v ≡ depth_at new x = ap (depth_at new) same in cc)
        (option_cases (depth_at old v))

    fresh_other : (v j : ℕ) → (depth_at old v ≡ Some j) ⊎ ((depth_at old v ≡ None) × (j ≡ k) × T v) → (depth_at old v ≡ Some j) ⊎ ((depth_at old v ≡ None) × (j ≡ k) × U v)
    fresh_other v j h = ⊎_elim (λ (a : depth_at old v ≡ Some j). inl a) (λ (b : (depth_at old v ≡ None) × (j ≡ k) × T v). inr (b.0, b.1, more v b.2)) h

-- one after another
pub visits_then : (T S U : ℕ → Type 0) (k : ℕ) (a b c : List (Option ℕ)) → Visits T k a b → Visits S k b c → ((v : ℕ) → T v → U v) → ((v : ℕ) → S v → U v) → ((v : ℕ) → U v → T v ⊎ S v) → Visits U k a c
visits_then T S U k a b c w x from_t from_s only = record {
  each = x.each ∙ w.each;
  kept = λ v j h. x.kept v j (w.kept v j h);
  fresh = λ v j h. ⊎_elim
      (λ (at_b : depth_at b v ≡ Some j). by_t v j (w.fresh v j at_b))
      (λ (n : (depth_at b v ≡ None) × (j ≡ k) × S v). by_s v j n)
      (x.fresh v j h);
  found = λ v u. ⊎_elim (λ (t : T v). on v (depth_at b v) refl (w.found v t)) (λ (s : S v). x.found v s) (only v u);
}
  where
    by_t : (v j : ℕ) → (depth_at a v ≡ Some j) ⊎ ((depth_at a v ≡ None) × (j ≡ k) × T v) → (depth_at a v ≡ Some j) ⊎ ((depth_at a v ≡ None) × (j ≡ k) × U v)
    by_t v j h = ⊎_elim (λ (e : depth_at a v ≡ Some j). inl e) (λ (n : (depth_at a v ≡ None) × (j ≡ k) × T v). inr (n.0, n.1, from_t v n.2)) h

    by_s : (v j : ℕ) → (depth_at b v ≡ None) × (j ≡ k) × S v → (depth_at a v ≡ Some j) ⊎ ((depth_at a v ≡ None) × (j ≡ k) × U v)
    by_s v j (none, jk, s) = ⊎_elim
        (λ (away : depth_at a v ≡ None). inr (away, jk, from_s v s))
        (λ (h : (i : ℕ) × (depth_at a v ≡ Some i)). let e : depth_at b v ≡ Some h.0 = w.kept v h.0 h.1 in cc)
        (option_cases (depth_at a v))

    on : (v : ℕ) (o : Option ℕ) → depth_at b v ≡ o → IsSome (depth_at b v) → IsSome (depth_at c v)
    on v None e s = let is : IsSome {T = ℕ} None = subst (λ (p : Option ℕ). IsSome p) e s in absurd (false≢true is)
    on v (Some j) e s = is_some_at (depth_at c v) j (x.kept v j e)

-- the frontier gets the machine that got the depth
pub frontier_push : (k : ℕ) (depths : List (Option ℕ)) (frontier : List ℕ) (x : ℕ) → IsFrontier k depths frontier → x < length depths → depth_at depths x ≡ None → IsFrontier k (set depths x (Some k)) (frontier ++ x ∷ [])
frontier_push k depths frontier x f lt none = record {
  right = λ v h. ⊎_elim
      (λ (old : Contains frontier v). ⊎_elim
      (λ (same : v ≡ x). at_x v same)
      (λ (apart : v ≡ x → ⊥). get_or-set_other depths x v (Some k) None apart ∙ f.right v old)
      (cases_eq v x))
      (λ (new : x ≡ v). at_x v (sym new))
      (Contains-push_cases frontier x v h);
  all = λ v h. ⊎_elim
      (λ (same : v ≡ x). subst (λ (i : ℕ). Contains (frontier ++ x ∷ []) i) (sym same) (Contains-push frontier x))
      (λ (apart : v ≡ x → ⊥). Contains-append_left frontier (x ∷ []) v (f.all v (sym (get_or-set_other depths x v (Some k) None apart) ∙ h)))
      (cases_eq v x);
}
  where
    at_x : (v : ℕ) → v ≡ x → depth_at (set depths x (Some k)) v ≡ Some k
    at_x v same = ap (depth_at (set depths x (Some k))) same ∙ get_or-set_same depths x (Some k) None lt

-- and one less has not been found
pub unvisited_set : (depths : List (Option ℕ)) (x k : ℕ) → x < length depths → depth_at depths x ≡ None → unvisited (set depths x (Some k)) + 1 ≡ unvisited depths
unvisited_set depths x k lt none =
    let change : unvisited (set depths x (Some k)) + cond {A = ℕ} (is_none (depth_at depths x)) 1 0 ≡ unvisited depths + 0 = sum_by-set (λ (o : Option ℕ). cond (is_none o) 1 0) depths x (Some k) None lt in
    let was : is_none (depth_at depths x) ≡ true = ap is_none none in
    let weight : cond {A = ℕ} (is_none (depth_at depths x)) 1 0 ≡ 1 = ap (λ b. cond {A = ℕ} b 1 0) was in
    omega arith

-- a link of the list leads below the bound
pub link_below : (n : ℕ) (links : List Link) (i : ℕ) (d : Link) → LeadBelow n links → i < length links → (get_or links i d).to < n
link_below n links i d a lt = a (get_or links i d) (Contains-get_or links i d lt)

links_more : (links : List Link) (x : Link) (v : ℕ) → LinksTo links v → LinksTo (links ++ x ∷ []) v
links_more links x v (l, h, to) = (l, Contains-append_left links (x ∷ []) l h, to)

links_cases : (links : List Link) (x : Link) (v : ℕ) → LinksTo (links ++ x ∷ []) v → LinksTo links v ⊎ (v ≡ x.to)
links_cases links x v (l, h, to) = ⊎_elim (λ (old : Contains links l). inl (l, old, to)) (λ (new : x ≡ l). inr (sym (ap (λ (k : Link). k.to) new ∙ to))) (Contains-push_cases links x l h)

-- a link more, to a machine that had been found
pub links_seen : (links : List Link) (x : Link) (k : ℕ) (old new : List (Option ℕ)) → Visits (LinksTo links) k old new → IsSome (depth_at new x.to) → Visits (LinksTo (links ++ x ∷ [])) k old new
links_seen links x k old new w seen = visits_grow (LinksTo links) (LinksTo (links ++ x ∷ [])) k old new w (links_more links x) (λ v u. ⊎_elim (λ (t : LinksTo links v). inl t) (λ (same : v ≡ x.to). inr (subst (λ (i : ℕ). IsSome (depth_at new i)) (sym same) seen)) (links_cases links x v u))

-- a link more, to a machine that gets the depth
pub links_new : (links : List Link) (x : Link) (k : ℕ) (old new : List (Option ℕ)) → Visits (LinksTo links) k old new → x.to < length new → depth_at new x.to ≡ None → Visits (LinksTo (links ++ x ∷ [])) k old (set new x.to (Some k))
links_new links x k old new w lt none = visits_set (LinksTo links) (LinksTo (links ++ x ∷ [])) k old new x.to w lt none (links_more links x) (x, Contains-push links x, refl) (links_cases links x)

-- a machine of the frontier more
pub frontier_more : (links : List (Vec Link Global)) (frontier : List ℕ) (x : ℕ) (k : ℕ) (a b c : List (Option ℕ)) → Visits (FrontierLinksTo links frontier) k a b → Visits (LinksTo (links_at links x)) k b c → Visits (FrontierLinksTo links (frontier ++ x ∷ [])) k a c
frontier_more links frontier x k a b c w y = visits_then (FrontierLinksTo links frontier) (LinksTo (links_at links x)) (FrontierLinksTo links (frontier ++ x ∷ [])) k a b c w y
    (λ v (u, h, to). (u, Contains-append_left frontier (x ∷ []) u h, to))
    (λ v to. (x, Contains-push frontier x, to))
    (λ v (u, h, to). ⊎_elim (λ (old : Contains frontier u). inl (u, old, to)) (λ (new : x ≡ u). inr (subst (λ (i : ℕ). LinksTo (links_at links i) v) (sym new) to)) (Contains-push_cases frontier x u h))
