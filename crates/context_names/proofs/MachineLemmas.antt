-- Machines and their names.
use Rattle.std.proofs.Common.{◌≡◌, ℕ, zero, suc, ◌+◌, ◌<◌, ◌||◌, not, filter, List, [], ◌∷◌, ◌++◌, All, Bool, true, false, Some, None, length, get_or, map, take, Bor, ltb, refl, sym, ap, ◌∙◌, true≢false, arith}
use Rattle.std.specs.Prelude.{if◌then◌else◌, position}
use Rattle.std.specs.List.{list_any, position_or_len}
use Rattle.std.specs.Str.{bytes_eq}
use Rattle.std.proofs.lemmas.Bool.{lt-ltb}
use Rattle.std.proofs.lemmas.List.{map-append, take_more}
use Rattle.std.proofs.lemmas.List.Folds.{list_any_at}
use Rattle.std.proofs.lemmas.List.Quantifiers.{position-Some}
use Rattle.std.proofs.lemmas.Slice.Eq.{bytes_eq-Decides}
use Rattle.span_types.specs.declared.span.Span.{Span}
use Rattle.trace_types.specs.Firsts.{firsts_of}
use Rattle.span_requests.specs.SpansOnce.{lent_spans}
use Rattle.span_requests.proofs.FirstLemmas.{any-filter, firsts-push}
use Rattle.call_contexts.proofs.ListLemmas.{place_short}
use Rattle.context_names.specs.Machines.{machines_of}

some_none : {X : Type 0} {x : X} → Some x ≡ None → ⊥
some_none h = cc

-- ---- those that are first keep what passes

module _ {X : Type 0} (same : X → X → Bool) (p : X → Bool) (apart : (y z : X) → p y ≡ false → p z ≡ true → same y z ≡ false) where
  pub any-firsts : (xs : List X) → list_any p xs ≡ true → list_any p (firsts_of same xs) ≡ true
  any-firsts [] h = h
  any-firsts (x ∷ xs) h = by (p x) refl (any-firsts xs)
    where
      keeps : p x ≡ false → (z : X) → p z ≡ true → not (same x z) ≡ true
      keeps e z f = ap not (apart x z e f)

      by : (b : Bool) → p x ≡ b → (list_any p xs ≡ true → list_any p (firsts_of same xs) ≡ true) → list_any p (firsts_of same (x ∷ xs)) ≡ true
      by true e rest = ap (λ b. b || list_any p (filter (λ y. not (same x y)) (firsts_of same xs))) e
      by false e rest =
          ap (λ b. b || list_any p (filter (λ y. not (same x y)) (firsts_of same xs))) e ∙ any-filter p (λ y. not (same x y)) (keeps e) (firsts_of same xs)
          ∙ rest (sym (ap (λ b. b || list_any p xs) e) ∙ h)

text_apart : (m y z : List ℕ) → bytes_eq m y ≡ false → bytes_eq m z ≡ true → bytes_eq y z ≡ false
text_apart m y z e f = by (bytes_eq y z) refl
  where
    by : (b : Bool) → bytes_eq y z ≡ b → bytes_eq y z ≡ false
    by true g = absurd (true≢false (sym ((bytes_eq-Decides m y).1 ((bytes_eq-Decides m z).0 f ∙ sym ((bytes_eq-Decides y z).0 g))) ∙ e))
    by false g = g

machine_there : (spans : List Span) (i : ℕ) (d : Span) → i < length spans → list_any (bytes_eq (get_or spans i d).machine) (machines_of spans) ≡ true
machine_there spans i d lt =
    any-firsts bytes_eq (bytes_eq m) (text_apart m) (map (λ (s : Span). s.machine) spans)
    (by spans i lt)
  where
    m : List ℕ
    m = (get_or spans i d).machine

    by : (xs : List Span) (k : ℕ) → k < length xs → list_any (bytes_eq (get_or xs k d).machine) (map (λ (s : Span). s.machine) xs) ≡ true
    by [] k l = absurd (omega (arith, l))
    by (x ∷ xs) zero l = ap (λ b. b || list_any (bytes_eq x.machine) (map (λ (s : Span). s.machine) xs)) ((bytes_eq-Decides x.machine x.machine).1 refl)
    by (x ∷ xs) (suc k) l = right (bytes_eq (get_or xs k d).machine x.machine) (list_any (bytes_eq (get_or xs k d).machine) (map (λ (s : Span). s.machine) xs)) (by xs k (omega (arith, l)))
      where
        right : (a b : Bool) → b ≡ true → (a || b) ≡ true
        right true b h = refl
        right false b h = h

-- the machine of each span is among them
pub all_there : (spans : List Span) (machines : List (List ℕ)) → machines ≡ machines_of spans → All (λ (s : Span). list_any (bytes_eq s.machine) machines ≡ true) spans
all_there spans machines h = λ k d lt. ap (list_any (bytes_eq (get_or spans k d).machine)) h ∙ machine_there spans k d lt

-- ---- the name of a machine

module _ (machines names : List (List ℕ)) (m : List ℕ) where
  pub found_some : (i : ℕ) (is : Bool) (xs : List (List ℕ)) → xs ≡ names → length names ≡ length machines → position (bytes_eq m) machines ≡ Some i → is ≡ ltb i (length xs) → is ≡ list_any (bytes_eq m) machines
  found_some i is xs lent same at got = got ∙ lt-ltb i (length xs) (omega (arith, ap length lent, same, place.0)) ∙ sym (list_any_at (bytes_eq m) machines i m place.0 place.1)
    where
      place : (i < length machines) × (bytes_eq m (get_or machines i m) ≡ true)
      place = let p = position-Some (bytes_eq m) machines i m at in (p.0, p.1)

  pub found_none : position (bytes_eq m) machines ≡ None → false ≡ list_any (bytes_eq m) machines
  found_none h = by (list_any (bytes_eq m) machines) refl
    where
      by : (b : Bool) → list_any (bytes_eq m) machines ≡ b → false ≡ list_any (bytes_eq m) machines
      by false e = sym e
      by true e =
          let t : ltb (position_or_len (bytes_eq m) machines) (length machines) ≡ true = lt-ltb (position_or_len (bytes_eq m) machines) (length machines) (place_short (bytes_eq m) machines e) in
          absurd (some_none (sym (ap (λ b. if b then Some (position_or_len (bytes_eq m) machines) else None) t) ∙ h))

-- ---- one more span

pub machines_push : (xs : List Span) (s : Span) → machines_of (xs ++ s ∷ []) ≡ (if list_any (bytes_eq s.machine) (machines_of xs) then machines_of xs else machines_of xs ++ s.machine ∷ [])
machines_push xs s = ap (λ (ts : List (List ℕ)). firsts_of bytes_eq ts) (map-append (λ (s : Span). s.machine) xs (s ∷ []))
    ∙ firsts-push (λ (t : List ℕ). t) bytes_eq (λ x y. (bytes_eq-Decides x y).0) (λ x. (bytes_eq-Decides x x).1 refl) (map (λ (s : Span). s.machine) xs) s.machine

pub machines_more : (xs : List (Bor Span)) (i : ℕ) (s : Bor Span) (keys new : List (List ℕ)) (m : List ℕ) → i < length xs → s ≡ get_or xs i s → keys ≡ machines_of (lent_spans (take i xs)) → m ≡ s.now.machine
    → new ≡ (if list_any (bytes_eq m) keys then keys else keys ++ m ∷ []) → new ≡ machines_of (lent_spans (take (i + 1) xs))
machines_more xs i s keys new m lt is h own step =
    let next : take (i + 1) xs ≡ take i xs ++ s ∷ [] = take_more xs i s lt ∙ ap (λ (x : Bor Span). take i xs ++ x ∷ []) (sym is) in
    let lent : lent_spans (take (i + 1) xs) ≡ lent_spans (take i xs) ++ s.now ∷ [] = ap lent_spans next ∙ map-append (λ (s : Bor Span). s.now) (take i xs) (s ∷ []) in
    step ∙ ap (λ (x : List ℕ). if list_any (bytes_eq x) keys then keys else keys ++ x ∷ []) own
    ∙ ap (λ (ks : List (List ℕ)). if list_any (bytes_eq s.now.machine) ks then ks else ks ++ s.now.machine ∷ []) h
    ∙ sym (ap machines_of lent ∙ machines_push (lent_spans (take i xs)) s.now)
