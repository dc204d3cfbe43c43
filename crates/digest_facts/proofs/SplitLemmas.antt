-- The traces of a batch in two parts.
use Rattle.std.proofs.Common.{◌≡◌, ◌≢◌, ℕ, not, Bool, true, false, cond, List, [], ◌∷◌, ◌++◌, map, refl, sym, ap, ◌∙◌, subst, ⊎_elim, append-nil}
use Rattle.std.specs.Prelude.{All, filter}
use Rattle.std.specs.List.{Contains}
use Rattle.std.specs.Str.{bytes_eq}
use Rattle.std.proofs.lemmas.List.{map-append}
use Rattle.std.proofs.lemmas.List.Elements.{All-contains, filter-append}
use Rattle.std.proofs.lemmas.Slice.Eq.{bytes_eq-Decides}
use Rattle.trace_types.specs.declared.event.Event.{Event}
use Rattle.trace_types.specs.Batch.{PlainTrace, events_of, is_of_request, requests_of, trace_of}
use Rattle.trace_types.specs.Firsts.{firsts_of}
use Rattle.digest_facts.specs.SplitLaws.{AreOfOtherRequests, TracesOfParts}
use Rattle.digest_facts.proofs.ListLemmas.{from_map}
use Rattle.digest_facts.proofs.UnionLemmas.{cons_cases, cons_here, cons_there}

-- ---- what a filter leaves
module _ {X : Type 0} (p : X → Bool) where
  pub all_left : (xs : List X) → ((x : X) → Contains xs x → p x ≡ true) → filter p xs ≡ xs
  all_left [] h = refl
  all_left (x ∷ xs) h =
      ap (λ (b : Bool). cond b (x ∷ filter p xs) (filter p xs)) (h x (cons_here x xs))
      ∙ ap (λ (l : List X). x ∷ l) (all_left xs (λ y c. h y (cons_there x xs y c)))

  pub none_left : (xs : List X) → ((x : X) → Contains xs x → p x ≡ false) → filter p xs ≡ []
  none_left [] h = refl
  none_left (x ∷ xs) h =
      ap (λ (b : Bool). cond b (x ∷ filter p xs) (filter p xs)) (h x (cons_here x xs))
      ∙ none_left xs (λ y c. h y (cons_there x xs y c))

  pub filter_in : (xs : List X) (x : X) → Contains (filter p xs) x → Contains xs x
  filter_in [] x c = c
  filter_in (y ∷ ys) x c = by (p y) (λ d. filter_in ys x d) c
    where
      by : (b : Bool) → (Contains (filter p ys) x → Contains ys x) → Contains (cond b (y ∷ filter p ys) (filter p ys)) x → Contains (y ∷ ys) x
      by true more d = ⊎_elim
          (λ (e : y ≡ x). subst (λ (v : X). Contains (y ∷ ys) v) e (cons_here y ys))
          (λ (h : Contains (filter p ys) x). cons_there y ys x (more h))
          (cons_cases y (filter p ys) x d)
      by false more d = cons_there y ys x (more d)

-- ---- first occurrences
module _ {X : Type 0} (same : X → X → Bool) where
  pub firsts_in : (xs : List X) (x : X) → Contains (firsts_of same xs) x → Contains xs x
  firsts_in [] x c = c
  firsts_in (y ∷ ys) x c = ⊎_elim
      (λ (e : y ≡ x). subst (λ (v : X). Contains (y ∷ ys) v) e (cons_here y ys))
      (λ (h : Contains (filter (λ z. not (same y z)) (firsts_of same ys)) x). cons_there y ys x (firsts_in ys x (filter_in (λ z. not (same y z)) (firsts_of same ys) x h)))
      (cons_cases y (filter (λ z. not (same y z)) (firsts_of same ys)) x c)

  -- of two lists that have nothing in common
  pub firsts_append : (xs ys : List X) → ((x y : X) → Contains xs x → Contains ys y → same x y ≡ false) → firsts_of same (xs ++ ys) ≡ firsts_of same xs ++ firsts_of same ys
  firsts_append [] ys h = refl
  firsts_append (x ∷ xs) ys h =
      let p : X → Bool = λ z. not (same x z) in
      let rest = firsts_append xs ys (λ a b c d. h a b (cons_there x xs a c) d) in
      ap (λ (l : List X). x ∷ filter (λ z. not (same x z)) l) rest
      ∙ ap (λ (l : List X). x ∷ l) (filter-append (λ z. not (same x z)) (firsts_of same xs) (firsts_of same ys)
      ∙ ap (λ (l : List X). filter (λ z. not (same x z)) (firsts_of same xs) ++ l)
      (all_left (λ z. not (same x z)) (firsts_of same ys) (λ z c. ap not (h x z (cons_here x xs) (firsts_in ys z c)))))

-- ---- requests
differ_false : (x y : List ℕ) → x ≢ y → bytes_eq x y ≡ false
differ_false x y ne = by (bytes_eq x y) refl
  where
    by : (b : Bool) → bytes_eq x y ≡ b → bytes_eq x y ≡ false
    by true e = absurd (ne ((bytes_eq-Decides x y).0 e))
    by false e = e

apart_at : (batch more : List Event) → AreOfOtherRequests batch more → (e f : Event) → Contains batch e → Contains more f → e.request ≢ f.request
apart_at batch more apart e f c d =
    All-contains (λ (g : Event). e.request ≢ g.request) more f (All-contains (λ (g : Event). All (λ (k : Event). g.request ≢ k.request) more) batch e apart c) d

map_alike : {X Y : Type 0} (f g : X → Y) (xs : List X) → ((x : X) → Contains xs x → f x ≡ g x) → map f xs ≡ map g xs
map_alike f g [] h = refl
map_alike {X} {Y} f g (x ∷ xs) h =
    let head : f x ≡ g x = h x (cons_here x xs) in
    let tail : map f xs ≡ map g xs = map_alike f g xs (λ y c. h y (cons_there x xs y c)) in
    λ i. head i ∷ tail i

request_of : Event → List ℕ
request_of e = e.request

pub traces_of_parts : TracesOfParts
traces_of_parts batch more apart =
    let rs = requests_of batch in
    let qs = requests_of more in
    let left : (r : List ℕ) → Contains rs r → (e : Event) × Contains batch e × (e.request ≡ r) = λ r c.
    from_map (λ (e : Event). e.request) batch r (firsts_in bytes_eq (map (λ (e : Event). e.request) batch) r c) in
    let right : (r : List ℕ) → Contains qs r → (e : Event) × Contains more e × (e.request ≡ r) = λ r c.
    from_map (λ (e : Event). e.request) more r (firsts_in bytes_eq (map (λ (e : Event). e.request) more) r c) in
    let split : requests_of (batch ++ more) ≡ rs ++ qs =
    ap (firsts_of bytes_eq) (map-append (λ (e : Event). e.request) batch more)
    ∙ firsts_append bytes_eq (map (λ (e : Event). e.request) batch) (map (λ (e : Event). e.request) more) (λ x y c d.
    let a = from_map (λ (e : Event). e.request) batch x c in
    let b = from_map (λ (e : Event). e.request) more y d in
    differ_false x y (λ q. apart_at batch more apart a.0 b.0 a.1 b.1 (a.2 ∙ q ∙ sym b.2))) in
    let of_left : (r : List ℕ) → Contains rs r → trace_of (batch ++ more) r ≡ trace_of batch r = λ r c.
    let a = left r c in
    let events : events_of r (batch ++ more) ≡ events_of r batch =
    filter-append (is_of_request r) batch more
    ∙ ap (λ (l : List Event). events_of r batch ++ l) (none_left (is_of_request r) more (λ f d. differ_false f.request r (λ q. apart_at batch more apart a.0 f a.1 d (a.2 ∙ sym q))))
    ∙ append-nil (events_of r batch) in
    λ i. record { request = r; events = events i } in
    let of_right : (r : List ℕ) → Contains qs r → trace_of (batch ++ more) r ≡ trace_of more r = λ r c.
    let b = right r c in
    let events : events_of r (batch ++ more) ≡ events_of r more =
    filter-append (is_of_request r) batch more
    ∙ ap (λ (l : List Event). l ++ events_of r more) (none_left (is_of_request r) batch (λ f d. differ_false f.request r (λ q. apart_at batch more apart f b.0 d b.1 (q ∙ sym b.2)))) in
    λ i. record { request = r; events = events i } in
    ap (map (trace_of (batch ++ more))) split
    ∙ map-append (trace_of (batch ++ more)) rs qs
    ∙ ap (λ (l : List PlainTrace). l ++ map (trace_of (batch ++ more)) qs) (map_alike (trace_of (batch ++ more)) (trace_of batch) rs of_left)
    ∙ ap (λ (l : List PlainTrace). map (trace_of batch) rs ++ l) (map_alike (trace_of (batch ++ more)) (trace_of more) qs of_right)
