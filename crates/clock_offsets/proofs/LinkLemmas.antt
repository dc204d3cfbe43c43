-- The links that least delays give, way by way.
use Rattle.std.proofs.Common.{◌≡◌, ℕ, zero, suc, ◌<◌, ℤ, ◌-ℤ◌, Option, Some, None, IsSome, List, [], ◌∷◌, ◌++◌, length, get_or, set, arith, refl, sym, subst, ap, ◌∙◌, ⊎_elim, Contains, Vec}
use Rattle.std.specs.declared.alloc.Global.{Global}
use Rattle.std.specs.Prelude.{slice_get}
use Rattle.std.specs.BTreeMap.{BTreeMap, is_at}
use Rattle.std.proofs.lemmas.Bool.{cases_eq}
use Rattle.std.proofs.lemmas.List.{length-map, length-set, get_or-set_same, get_or-set_other}
use Rattle.std.proofs.lemmas.List.Elements.{Contains-append_left, Contains-push, Contains-push_cases}
use Rattle.std.proofs.lemmas.Map.Entries.{place_from_lookup}
use Rattle.std.proofs.lemmas.Option.{same_Some}
use Rattle.trace_types.specs.declared.event.Event.{Event}
use Rattle.trace_types.specs.Events.{machine_at}
use Rattle.clock_offsets.specs.declared.link.Link.{Link}
use Rattle.clock_offsets.specs.Messages.{IsHalf, IsLeastDelay}
use Rattle.clock_offsets.specs.inner.Links.{AreNumbers, IsNumber, links_of, links_at, IsLink, AreLinks}
use Rattle.clock_offsets.specs.inner.Delays.{least_in, way_cmp, AreLeastDelays}
use Rattle.clock_offsets.proofs.DelayLemmas.{way_exact}

-- a way and its least delay
abbrev pub Entry : Type 0
Entry = (ℕ × ℕ) × ℤ

-- the links are those that these entries of the map give
pub record AreLinksTo (events : List Event) (numbers : List ℕ) (entries : List Entry) (least : BTreeMap (ℕ × ℕ) ℤ) (links : List (Vec Link Global)) : Type 0 where
  pub each : length links ≡ length events
  pub right : (v : ℕ) (l : Link) → v < length events → Contains (links_at links v) l → IsLink events numbers v l
  pub all : (v w : ℕ) (d : ℤ) → Contains entries ((v, w), d) → IsSome (least_in least w v) → (l : Link) × Contains (links_at links w) l × (l.to ≡ v)

-- a way more that has no way back
pub links_skip : (events : List Event) (numbers : List ℕ) (entries : List Entry) (least : BTreeMap (ℕ × ℕ) ℤ) (links : List (Vec Link Global)) (e : Entry) → AreLinksTo events numbers entries least links → least_in least e.0.1 e.0.0 ≡ None → AreLinksTo events numbers (entries ++ e ∷ []) least links
links_skip events numbers entries least links e a none = record {
  each = a.each;
  right = a.right;
  all = λ v w d h back. ⊎_elim
      (λ (old : Contains entries ((v, w), d)). a.all v w d old back)
      (λ (new : e ≡ ((v, w), d)).
      let there : least_in least w v ≡ None = subst (λ (x : Entry). least_in least x.0.1 x.0.0 ≡ None) new none in
      absurd (some_none (least_in least w v) back there))
      (Contains-push_cases entries e ((v, w), d) h);
}
  where
    some_none : (o : Option ℤ) → IsSome o → o ≡ None → ⊥
    some_none None s n = cc
    some_none (Some x) s n = cc

-- a way more, with its link
pub links_push : (events : List Event) (numbers : List ℕ) (entries : List Entry) (least : BTreeMap (ℕ × ℕ) ℤ) (links new : List (Vec Link Global)) (v w : ℕ) (d : ℤ) (l : Link) → AreLinksTo events numbers entries least links → w < length events → l.to ≡ v
    → IsLink events numbers w l → links_of new ≡ set (links_of links) w (links_at links w ++ l ∷ []) → AreLinksTo events numbers (entries ++ ((v, w), d) ∷ []) least new
links_push events numbers entries least links new v w d l a within to link is = record {
  each = sym (length-map new (λ (x : Vec Link Global). x.items)) ∙ (ap length is ∙ (length-set (links_of links) w (links_at links w ++ l ∷ []) ∙ (length-map links (λ (x : Vec Link Global). x.items) ∙ a.each)));
  right = λ u k lt h. ⊎_elim
      (λ (same : u ≡ w). right_here u k lt same (subst (λ (ls : List Link). Contains ls k) (at_here u same) h))
      (λ (apart : u ≡ w → ⊥). a.right u k lt (subst (λ (ls : List Link). Contains ls k) (at_other u apart) h))
      (cases_eq u w);
  all = λ u x e h back. ⊎_elim
      (λ (old : Contains entries ((u, x), e)). kept u x (a.all u x e old back))
      (λ (newer : ((v, w), d) ≡ ((u, x), e)).
      let from : v ≡ u = ap (λ (y : Entry). y.0.0) newer in
      let at : w ≡ x = ap (λ (y : Entry). y.0.1) newer in
      (l, subst (λ (ls : List Link). Contains ls l) (sym (at_here x (sym at))) (Contains-push (links_at links w) l), to ∙ from))
      (Contains-push_cases entries ((v, w), d) ((u, x), e) h);
}
  where
    lists : length (links_of links) ≡ length events
    lists = length-map links (λ (x : Vec Link Global). x.items) ∙ a.each

    at_here : (u : ℕ) → u ≡ w → links_at new u ≡ links_at links w ++ l ∷ []
    at_here u same = ap (λ (i : ℕ). links_at new i) same ∙ (ap (λ ls. get_or ls w []) is ∙ get_or-set_same (links_of links) w (links_at links w ++ l ∷ []) [] (let e = lists in omega arith))

    at_other : (u : ℕ) → (u ≡ w → ⊥) → links_at new u ≡ links_at links u
    at_other u apart = ap (λ ls. get_or ls u []) is ∙ get_or-set_other (links_of links) w u (links_at links w ++ l ∷ []) [] apart

    right_here : (u : ℕ) (k : Link) → u < length events → u ≡ w → Contains (links_at links w ++ l ∷ []) k → IsLink events numbers u k
    right_here u k lt same h = ⊎_elim
        (λ (older : Contains (links_at links w) k). a.right u k lt (subst (λ (i : ℕ). Contains (links_at links i) k) (sym same) older))
        (λ (newer : l ≡ k). subst (λ (i : ℕ). IsLink events numbers i k) (sym same) (subst (λ (j : Link). IsLink events numbers w j) newer link))
        (Contains-push_cases (links_at links w) l k h)

    kept : (u x : ℕ) → ((k : Link) × Contains (links_at links x) k × (k.to ≡ u)) → (k : Link) × Contains (links_at new x) k × (k.to ≡ u)
    kept u x (k, h, k_to) = (
      k,
      ⊎_elim
          (λ (same : x ≡ w). subst (λ (ls : List Link). Contains ls k) (sym (at_here x same)) (Contains-append_left (links_at links w) (l ∷ []) k (subst (λ (i : ℕ). Contains (links_at links i) k) same h)))
          (λ (apart : x ≡ w → ⊥). subst (λ (ls : List Link). Contains ls k) (sym (at_other x apart)) h)
          (cases_eq x w),
      k_to,
    )

-- the least delays of a way and of the way back make a link
pub link_of : (events : List Event) (numbers : List ℕ) (least : BTreeMap (ℕ × ℕ) ℤ) (v w : ℕ) (d e : ℤ) (l : Link) → AreLeastDelays events numbers least → least_in least v w ≡ Some d → least_in least w v ≡ Some e → l.to ≡ v → IsHalf (d -ℤ e) l.offset → IsLink events numbers w l
link_of events numbers least v w d e l a there back to half =
    let t = a.some v w d there in
    let b = a.some w v e back in
    let there_least : IsLeastDelay events (machine_at events v) (machine_at events w) d = (t.0.2, λ x delay. t.1 x (t.0.0, t.0.1, delay)) in
    let back_least : IsLeastDelay events (machine_at events w) (machine_at events v) e = (b.0.2, λ x delay. b.1 x (b.0.0, b.0.1, delay)) in
    subst (λ (i : ℕ). IsNumber numbers w × IsNumber numbers i × ((f : ℤ) × (g : ℤ) × IsLeastDelay events (machine_at events i) (machine_at events w) f × IsLeastDelay events (machine_at events w) (machine_at events i) g × IsHalf (f -ℤ g) l.offset)) (sym to)
    (t.0.1, t.0.0, (d, e, there_least, back_least, half))

-- what a map has for a way is one of its entries
entry_of : (least : BTreeMap (ℕ × ℕ) ℤ) (v w : ℕ) (d : ℤ) → least_in least v w ≡ Some d → Contains least.entries ((v, w), d)
entry_of least v w d is =
    let p = place_from_lookup (is_at (way_cmp (v, w))) least.entries d is in
    let same = way_exact v w p.1.0 p.1.1 p.3 in
    contains_at least.entries p.0 ((v, w), d) (p.2 ∙ ap (λ (x : ℕ × ℕ). Some (x, d)) (sym (pair_is (v, w) p.1 same.0 same.1)))
  where
    pair_is : (x y : ℕ × ℕ) → x.0 ≡ y.0 → x.1 ≡ y.1 → x ≡ y
    pair_is x y a b = λ i. (a i, b i)

    contains_at : (xs : List Entry) (i : ℕ) (x : Entry) → slice_get xs i ≡ Some x → Contains xs x
    contains_at [] i x h = cc
    contains_at (y ∷ xs) zero x h = (0, omega arith, same_Some y x h)
    contains_at (y ∷ xs) (suc i) x h = let c = contains_at xs i x h in (suc c.0, (let lt : c.0 < length xs = c.1 in omega arith), c.2)

-- where every way has been looked at, the links are all
pub links_done : (events : List Event) (numbers : List ℕ) (least : BTreeMap (ℕ × ℕ) ℤ) (entries : List Entry) (links : List (Vec Link Global)) → AreLeastDelays events numbers least → entries ≡ least.entries → AreLinksTo events numbers entries least links → AreLinks events numbers links
links_done events numbers least entries links m all a = record {
  each = a.each;
  right = a.right;
  all = λ v w num_v num_w (d, e, there, back).
      let to_w : (x : ℤ) × (least_in least v w ≡ Some x) = there_is (least_in least v w) (λ none. m.none v w d none (num_v, num_w, there)) in
      let to_v : (x : ℤ) × (least_in least w v ≡ Some x) = there_is (least_in least w v) (λ none. m.none w v e none (num_w, num_v, back)) in
      a.all w v to_v.0 (subst (λ (es : List Entry). Contains es ((w, v), to_v.0)) (sym all) (entry_of least w v to_v.0 to_v.1)) (some_from (least_in least v w) to_w);
}
  where
    some_from : (o : Option ℤ) → ((x : ℤ) × (o ≡ Some x)) → IsSome o
    some_from None (x, e) = cc
    some_from (Some y) h = refl

    there_is : (o : Option ℤ) → (o ≡ None → ⊥) → (x : ℤ) × (o ≡ Some x)
    there_is None n = absurd (n refl)
    there_is (Some x) n = (x, refl)

-- the machines of a way have links
pub below : (events : List Event) (numbers : List ℕ) (least : BTreeMap (ℕ × ℕ) ℤ) (v w : ℕ) (d : ℤ) → AreNumbers events numbers → AreLeastDelays events numbers least → least_in least v w ≡ Some d → v < length events
below events numbers least v w d n m is =
    let num = (m.some v w d is).0.0 in
    let within : v < length numbers = num.0 in
    let all : length numbers ≡ length events = n.each in
    omega arith
