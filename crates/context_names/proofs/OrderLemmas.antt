-- Contexts in order: each one is there, and below the one above it.
use Rattle.std.proofs.Common.{◌≡◌, inl, inr, ℕ, zero, suc, ◌<◌, List, [], All, Bool, true, false, Option, Some, None, length, get_or, map, filter, slice_get, refl, sym, ap, ◌∙◌, subst, arith, eq-eqb}
use Rattle.std.specs.Prelude.{is_none, slice_index_or, IfSome}
use Rattle.std.specs.List.{flat_map, range_with_len}
use Rattle.std.proofs.lemmas.List.{get_or-map, length-map}
use Rattle.std.proofs.lemmas.List.Elements.{All-filter, All-map}
use Rattle.std.proofs.lemmas.Option.{get_or_from_slice_get, slice_get-get_or, slice_get_within}
use Rattle.call_trees.specs.Below.{below_all, below_one, is_number}
use Rattle.call_trees.specs.Walks.{walk_from}
use Rattle.call_trees.proofs.GroupLemmas.{group_at, groups_length}
use Rattle.call_trees.proofs.OrderLemmas.{order_within}
use Rattle.call_contexts.specs.ContextOrder.{AreOrdered, all_above, first_of, title_cmp, title_of}
use Rattle.call_contexts.specs.declared.context.Context.{Context}
use Rattle.call_contexts.specs.Contexts.{Frame, HaveAbove, frame_of, frames_of}
use Rattle.context_names.specs.inner.Groups.{AreBelow}
use Rattle.context_names.proofs.MemberLemmas.{In, flat-in, in-filter, in-flat, in-permutation}

-- ---- the context above

pub above_low : (contexts : List Context) (x : ℕ) (d : Context) (n : ℕ) → HaveAbove (frames_of contexts) → x < length contexts → n ≡ length contexts → IfSome (get_or contexts x d).above (λ a. a < n)
above_low contexts x d n above lt is = by (get_or contexts x d).above refl
  where
    here : slice_get (frames_of contexts) x ≡ Some (frame_of (get_or contexts x d))
    here = slice_get-get_or (frames_of contexts) x (frame_of d) (omega (arith, lt, length-map contexts frame_of)) ∙ ap (λ (f : Frame). Some f) (get_or-map frame_of contexts x d (frame_of d) lt)

    by : (o : Option ℕ) → (get_or contexts x d).above ≡ o → IfSome o (λ a. a < n)
    by None e = tt
    by (Some a) e = omega (arith, above x a (frame_of (get_or contexts x d)) here e, lt, is)

-- ---- walks

module _ (below : List (List ℕ)) where
  walk_one : (m x : ℕ) → 0 < m → In x (walk_from below m x)
  walk_one zero x pos = absurd (omega (arith, pos))
  walk_one (suc m) x pos = inl refl

  deeper : (m y a x : ℕ) → In a (walk_from below m y) → In x (get_or below a []) → In x (walk_from below (suc m) y)
  deeper zero y a x h g = absurd h
  deeper (suc m) y a x (inl e) g = inr (in-flat (walk_from below (suc m)) (get_or below y []) x x (subst (λ z. In x (get_or below z [])) (sym e) g) (walk_one (suc m) x (omega arith)))
  deeper (suc m) y a x (inr h) g =
      let w = flat-in (walk_from below m) (get_or below y []) a h in
      inr (in-flat (walk_from below (suc m)) (get_or below y []) w.0 x w.1 (deeper m w.0 a x w.2 g))

-- ---- contexts in order

module _ (contexts : List Frame) (order : List ℕ) (below : List (List ℕ)) (h : AreOrdered contexts order below) where
  pub above_length : length (all_above contexts) ≡ length contexts
  above_length = length-map contexts (λ (f : Frame). f.above)

  pub below_length : length below ≡ length contexts
  below_length = ap length h.lists ∙ groups_length (all_above contexts) h.titled ∙ above_length

  pub titled_within : All (λ j. j < length contexts) h.titled
  titled_within = order_within title_cmp (map title_of contexts) h.titled (length contexts) (sym (length-map contexts title_of)) h.rise

  pub below_low : AreBelow (length contexts) below
  below_low = subst (AreBelow (length contexts)) (sym h.lists)
      (All-map (λ (ns : List ℕ). All (λ y. y < length contexts) ns) (below_one (all_above contexts) h.titled) (range_with_len 0 (length (all_above contexts)))
      (λ k d lt. All-filter (λ j. is_number (get_or (range_with_len 0 (length (all_above contexts))) k d) (slice_index_or (all_above contexts) j None)) (λ y. y < length contexts) h.titled titled_within))

  titled_all : (x : ℕ) → x < length contexts → In x h.titled
  titled_all x lt = in-permutation (length (map title_of contexts)) x h.titled h.rise.all (omega (arith, lt, length-map contexts title_of))

  below_has : (x a : ℕ) → x < length contexts → a < length contexts → get_or (all_above contexts) x None ≡ Some a → In x (get_or (below_all (all_above contexts) h.titled) a [])
  below_has x a lt low e =
      subst (In x) (sym (group_at (all_above contexts) h.titled a [] (omega (arith, low, above_length))))
      (in-filter (λ j. is_number a (get_or (all_above contexts) j None)) h.titled x (titled_all x lt) (ap (is_number a) e ∙ eq-eqb a a refl))

  module _ (before : HaveAbove contexts) where
    pub above_less : (x a : ℕ) → get_or (all_above contexts) x None ≡ Some a → x < length contexts → a < x
    above_less x a e lt = by (slice_get contexts x) refl
      where
        none_some : {y : Frame} → None ≡ Some y → ⊥
        none_some q = cc

        by : (o : Option Frame) → slice_get contexts x ≡ o → a < x
        by None q = absurd (none_some (sym q ∙ slice_get-get_or contexts x no lt))
          where
            no : Frame
            no = record { above = None; service = []; name = []; ordinal = 0 }
        by (Some f) q = before x a f q (sym (get_or-map (λ (g : Frame). g.above) contexts x f None lt ∙ ap (λ (g : Frame). g.above) (get_or_from_slice_get contexts x f f q)) ∙ e)

    reach : (k x : ℕ) → x < k → x < length contexts → (m : ℕ) → x < m → In x (flat_map (walk_from (below_all (all_above contexts) h.titled) m) (first_of (all_above contexts) h.titled))
    reach zero x lt low m less = absurd (omega (arith, lt))
    reach (suc k) x lt low m less = by (get_or (all_above contexts) x None) refl (λ a small. reach k a (omega (arith, small, lt)) (omega (arith, small, low)))
      where
        by : (o : Option ℕ) → get_or (all_above contexts) x None ≡ o → ((a : ℕ) → a < x → (i : ℕ) → a < i → In a (flat_map (walk_from (below_all (all_above contexts) h.titled) i) (first_of (all_above contexts) h.titled)))
            → In x (flat_map (walk_from (below_all (all_above contexts) h.titled) m) (first_of (all_above contexts) h.titled))
        by None e rest =
            in-flat (walk_from (below_all (all_above contexts) h.titled) m) (first_of (all_above contexts) h.titled) x x
            (in-filter (λ i. is_none (slice_index_or (all_above contexts) i None)) h.titled x (titled_all x low) (ap is_none e)) (walk_one (below_all (all_above contexts) h.titled) m x (omega (arith, less)))
        by (Some a) e rest = go m less
          where
            small : a < x
            small = above_less x a e low

            go : (i : ℕ) → x < i → In x (flat_map (walk_from (below_all (all_above contexts) h.titled) i) (first_of (all_above contexts) h.titled))
            go zero l = absurd (omega (arith, l))
            go (suc i) l =
                let w = flat-in (walk_from (below_all (all_above contexts) h.titled) i) (first_of (all_above contexts) h.titled) a (rest a small i (omega (arith, l, small))) in
                in-flat (walk_from (below_all (all_above contexts) h.titled) (suc i)) (first_of (all_above contexts) h.titled) w.0 x w.1
                (deeper (below_all (all_above contexts) h.titled) i w.0 a x w.2 (below_has x a low (omega (arith, small, low)) e))

    -- each context is in the order
    pub order_has : (x : ℕ) → x < length contexts → In x order
    order_has x lt = subst (In x) (sym h.walk) (reach (suc x) x (omega arith) lt (length (below_all (all_above contexts) h.titled)) (omega (arith, lt, groups_length (all_above contexts) h.titled, above_length)))

    -- a forked context is found below the one above it
    pub forked_has : (forked : List Bool) (x a : ℕ) (f : Frame) → slice_get contexts x ≡ Some f → f.above ≡ Some a → get_or forked x false ≡ true
        → In x (flat_map (λ y. filter (λ z. get_or forked z false) (get_or below y [])) order)
    forked_has forked x a f there up holds =
        in-flat (λ y. filter (λ z. get_or forked z false) (get_or below y [])) order a x (order_has a (omega (arith, small, low)))
        (in-filter (λ z. get_or forked z false) (get_or below a []) x (subst (λ (ls : List (List ℕ)). In x (get_or ls a [])) (sym h.lists) (below_has x a low (omega (arith, small, low)) e)) holds)
      where
        low : x < length contexts
        low = slice_get_within contexts x f there

        small : a < x
        small = before x a f there up

        e : get_or (all_above contexts) x None ≡ Some a
        e = get_or-map (λ (g : Frame). g.above) contexts x f None low ∙ ap (λ (g : Frame). g.above) (get_or_from_slice_get contexts x f f there) ∙ up
