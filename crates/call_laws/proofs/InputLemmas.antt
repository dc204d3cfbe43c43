-- The spans of an input, each once, are all of them, where no id is repeated with other content.
use Rattle.std.proofs.Common.{◌≡◌, ◌⊎◌, inl, inr, ℕ, zero, suc, ◌<◌, List, [], ◌∷◌, Bool, true, false, cond, eqb, Option, Some, None, length, get_or, filter, refl, sym, ap, ◌∙◌, subst, arith, true≢false}
use Rattle.std.specs.Prelude.{◌&&◌, find, is_none, not}
use Rattle.std.specs.List.{Contains, list_any}
use Rattle.std.specs.Str.{bytes_eq}
use Rattle.std.proofs.lemmas.Bool.{and_from, and_parts, eqb-true, not-false, not_from_false}
use Rattle.std.proofs.lemmas.List.Folds.{list_any_at}
use Rattle.std.proofs.lemmas.Slice.Eq.{bytes_eq-Decides}
use Rattle.trace_types.specs.Firsts.{firsts_of}
use Rattle.span_types.specs.declared.span.Span.{Span}
use Rattle.span_types.specs.declared.span_kind.SpanKind.{SpanKind}
use Rattle.span_types.specs.declared.span_kind.SpanKind.TheVariants.{Unspecified, Internal, Server}
use Rattle.span_types.specs.declared.span_kind.SpanKind.TheVariants.{Client, Producer, Consumer}
use Rattle.span_requests.specs.Faults.{HaveOwnIds}
use Rattle.span_requests.specs.SpansOnce.{have_one_content, have_one_id, have_one_parent, kind_number, repeats_id, says_otherwise, spans_once}
use Rattle.span_requests.proofs.CallerLemmas.{is_none-position}
use Rattle.span_requests.proofs.ContainsLemmas.{contains_filter, contains_head, contains_tail}
use Rattle.call_laws.proofs.RootLemmas.{ids_own}

-- ---- elements of lists

module _ {X : Type 0} where
  pub contains_cases : (y : X) (ys : List X) (z : X) → Contains (y ∷ ys) z → (z ≡ y) ⊎ Contains ys z
  contains_cases y ys z h = by h.0 h.1 h.2
    where
      by : (k : ℕ) → k < length (y ∷ ys) → get_or (y ∷ ys) k z ≡ z → (z ≡ y) ⊎ Contains ys z
      by zero lt e = inl (sym e)
      by (suc k) lt e = inr (k, omega (arith, lt), e)

  from_filter : (p : X → Bool) (xs : List X) (z : X) → Contains (filter p xs) z → Contains xs z
  from_filter p [] z h = h
  from_filter p (x ∷ xs) z h = by (p x) h (from_filter p xs z)
    where
      by : (b : Bool) → Contains (cond b (x ∷ filter p xs) (filter p xs)) z → (Contains (filter p xs) z → Contains xs z) → Contains (x ∷ xs) z
      by false k rest = contains_tail x xs z (rest k)
      by true k rest = at (contains_cases x (filter p xs) z k)
        where
          at : (z ≡ x) ⊎ Contains (filter p xs) z → Contains (x ∷ xs) z
          at (inl e) = subst (Contains (x ∷ xs)) (sym e) (contains_head x xs)
          at (inr q) = contains_tail x xs z (rest q)

  pub from_firsts : (same : X → X → Bool) (xs : List X) (z : X) → Contains (firsts_of same xs) z → Contains xs z
  from_firsts same [] z h = h
  from_firsts same (x ∷ xs) z h = by (contains_cases x (filter (λ y. not (same x y)) (firsts_of same xs)) z h) (from_firsts same xs z)
    where
      by : (z ≡ x) ⊎ Contains (filter (λ y. not (same x y)) (firsts_of same xs)) z → (Contains (firsts_of same xs) z → Contains xs z) → Contains (x ∷ xs) z
      by (inl e) rest = subst (Contains (x ∷ xs)) (sym e) (contains_head x xs)
      by (inr q) rest = contains_tail x xs z (rest (from_filter (λ y. not (same x y)) (firsts_of same xs) z q))

  -- one like each element is among the first ones
  like_first : (same : X → X → Bool) → ((x : X) → same x x ≡ true) → ((x y z : X) → same x y ≡ true → same y z ≡ true → same x z ≡ true) → (xs : List X) (z : X) → Contains xs z → (t : X) × Contains (firsts_of same xs) t × (same t z ≡ true)
  like_first same own passed [] z h = absurd (omega (arith, h.1))
  like_first same own passed (x ∷ xs) z h = by (contains_cases x xs z h) (like_first same own passed xs z)
    where
      by : (z ≡ x) ⊎ Contains xs z → (Contains xs z → (t : X) × Contains (firsts_of same xs) t × (same t z ≡ true)) → (t : X) × Contains (firsts_of same (x ∷ xs)) t × (same t z ≡ true)
      by (inl e) rest = (x, contains_head x (filter (λ y. not (same x y)) (firsts_of same xs)), ap (same x) e ∙ own x)
      by (inr q) rest = at (rest q)
        where
          at : (t : X) × Contains (firsts_of same xs) t × (same t z ≡ true) → (t : X) × Contains (firsts_of same (x ∷ xs)) t × (same t z ≡ true)
          at k = either (same x k.0) refl
            where
              either : (b : Bool) → same x k.0 ≡ b → (t : X) × Contains (firsts_of same (x ∷ xs)) t × (same t z ≡ true)
              either true e = (x, contains_head x (filter (λ y. not (same x y)) (firsts_of same xs)), passed x k.0 z e k.2)
              either false e = (k.0, contains_tail x (filter (λ y. not (same x y)) (firsts_of same xs)) k.0 (contains_filter (λ y. not (same x y)) (firsts_of same xs) k.0 k.1 (not_from_false (same x k.0) e)), k.2)

  find_some : (p : X → Bool) (xs : List X) (z : X) → Contains xs z → p z ≡ true → (t : X) × (find p xs ≡ Some t) × (p t ≡ true)
  find_some p [] z h own = absurd (omega (arith, h.1))
  find_some p (x ∷ xs) z h own = by (p x) refl (λ k. find_some p xs z k own)
    where
      by : (b : Bool) → p x ≡ b → (Contains xs z → (t : X) × (find p xs ≡ Some t) × (p t ≡ true)) → (t : X) × (find p (x ∷ xs) ≡ Some t) × (p t ≡ true)
      by true e rest = (x, ap (λ b. cond b (Some x) (find p xs)) e, e)
      by false e rest = at (contains_cases x xs z h)
        where
          at : (z ≡ x) ⊎ Contains xs z → (t : X) × (find p (x ∷ xs) ≡ Some t) × (p t ≡ true)
          at (inl q) = absurd (true≢false (sym own ∙ ap p q ∙ e))
          at (inr q) = let r = rest q in (r.0, ap (λ b. cond b (Some x) (find p xs)) e ∙ r.1, r.2)

-- ---- spans that say the same are one

kind_at : ℕ → SpanKind
kind_at zero = Unspecified
kind_at (suc zero) = Internal
kind_at (suc (suc zero)) = Server
kind_at (suc (suc (suc zero))) = Client
kind_at (suc (suc (suc (suc zero)))) = Producer
kind_at (suc (suc (suc (suc (suc n))))) = Consumer

kind_is : (k : SpanKind) → kind_at (kind_number k) ≡ k
unfolding kind_at
kind_is Unspecified = refl
kind_is Internal = refl
kind_is Server = refl
kind_is Client = refl
kind_is Producer = refl
kind_is Consumer = refl

one_parent : (p q : Option (List ℕ)) → have_one_parent p q ≡ true → p ≡ q
one_parent None None e = refl
one_parent None (Some q) e = absurd (true≢false (sym e))
one_parent (Some p) None e = absurd (true≢false (sym e))
one_parent (Some p) (Some q) e = ap (λ (t : List ℕ). Some t) ((bytes_eq-Decides p q).0 e)

same_span : (s t : Span) → have_one_id s t ≡ true → have_one_content s t ≡ true → s ≡ t
same_span s t ids content =
    let i = and_parts (bytes_eq s.trace t.trace) (bytes_eq s.id t.id) ids in
    let p1 = and_parts (have_one_parent s.parent t.parent) _ content in
    let p2 = and_parts (bytes_eq s.service t.service) _ p1.1 in
    let p3 = and_parts (bytes_eq s.machine t.machine) _ p2.1 in
    let p4 = and_parts (bytes_eq s.name t.name) _ p3.1 in
    let p5 = and_parts (eqb (kind_number s.kind) (kind_number t.kind)) _ p4.1 in
    let p6 = and_parts (eqb s.start t.start) (eqb s.end t.end) p5.1 in
    let traces : s.trace ≡ t.trace = (bytes_eq-Decides s.trace t.trace).0 i.0 in
    let own : s.id ≡ t.id = (bytes_eq-Decides s.id t.id).0 i.1 in
    let parents : s.parent ≡ t.parent = one_parent s.parent t.parent p1.0 in
    let services : s.service ≡ t.service = (bytes_eq-Decides s.service t.service).0 p2.0 in
    let machines : s.machine ≡ t.machine = (bytes_eq-Decides s.machine t.machine).0 p3.0 in
    let names : s.name ≡ t.name = (bytes_eq-Decides s.name t.name).0 p4.0 in
    let kinds : s.kind ≡ t.kind = sym (kind_is s.kind) ∙ ap kind_at (eqb-true (kind_number s.kind) (kind_number t.kind) p5.0) ∙ kind_is t.kind in
    let starts : s.start ≡ t.start = eqb-true s.start t.start p6.0 in
    let ends : s.end ≡ t.end = eqb-true s.end t.end p6.1 in
    λ k. record { trace = traces k; id = own k; parent = parents k; service = services k; machine = machines k; name = names k; kind = kinds k; start = starts k; end = ends k }

ids_mean : (s t : Span) → have_one_id s t ≡ true → (s.trace ≡ t.trace) × (s.id ≡ t.id)
ids_mean s t h =
    let i = and_parts (bytes_eq s.trace t.trace) (bytes_eq s.id t.id) h in
    ((bytes_eq-Decides s.trace t.trace).0 i.0, (bytes_eq-Decides s.id t.id).0 i.1)

ids_from : (s t : Span) → s.trace ≡ t.trace → s.id ≡ t.id → have_one_id s t ≡ true
ids_from s t a b = and_from (bytes_eq s.trace t.trace) (bytes_eq s.id t.id) ((bytes_eq-Decides s.trace t.trace).1 a) ((bytes_eq-Decides s.id t.id).1 b)

ids_pass : (s t u : Span) → have_one_id s t ≡ true → have_one_id t u ≡ true → have_one_id s u ≡ true
ids_pass s t u h k = ids_from s u ((ids_mean s t h).0 ∙ (ids_mean t u k).0) ((ids_mean s t h).1 ∙ (ids_mean t u k).1)

-- ---- an input

module _ (input : List Span) (own : HaveOwnIds input) where
  -- the first span with the id of one is that one
  first_is : (s : Span) → Contains input s → find (have_one_id s) input ≡ Some s
  first_is s h =
      let found = find_some (have_one_id s) input s h (ids_own s) in
      let t = found.0 in
      let ids = ids_mean s t found.2 in
      let content : have_one_content t s ≡ true = not-false (have_one_content t s) (sym (ap (λ (o : Option Span). says_otherwise o s) found.1) ∙ no_repeat s h) in
      found.1 ∙ ap (λ (u : Span). Some u) (same_span t s (ids_from t s (sym ids.0) (sym ids.1)) content)
    where
      no_repeat : (u : Span) → Contains input u → repeats_id input u ≡ false
      no_repeat u k = by (repeats_id input u) refl
        where
          none : not (list_any (repeats_id input) input) ≡ true
          none = sym (is_none-position (repeats_id input) input) ∙ ap is_none own

          by : (b : Bool) → repeats_id input u ≡ b → b ≡ false
          by false e = refl
          by true e = absurd (true≢false (sym none ∙ ap not (list_any_at (repeats_id input) input k.0 u k.1 (ap (repeats_id input) k.2 ∙ e))))

  -- spans of one id are one
  one_span : (s t : Span) → Contains input s → Contains input t → have_one_id s t ≡ true → s ≡ t
  one_span s t h k e =
      let ids = ids_mean s t e in
      some_span (sym (first_is s h) ∙ (λ i. find (λ (u : Span). bytes_eq (ids.0 i) u.trace && bytes_eq (ids.1 i) u.id) input) ∙ first_is t k)
    where
      some_span : {x y : Span} → Some x ≡ Some y → x ≡ y
      some_span q = cc

  -- a span of the input is one of those that are there once
  pub in_once : (s : Span) → Contains input s → Contains (spans_once input) s
  in_once s h =
      let like = like_first have_one_id ids_own ids_pass input s h in
      subst (Contains (spans_once input)) (one_span like.0 s (from_firsts have_one_id input like.0 like.1) h like.2) like.1

pub in_input : (input : List Span) (s : Span) → Contains (spans_once input) s → Contains input s
in_input input s h = from_firsts have_one_id input s h
