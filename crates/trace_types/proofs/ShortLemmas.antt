-- Lists that are no longer than others.
use Rattle.std.proofs.Common.{◌≡◌, List, [], ◌∷◌, length, Bool, true, false, refl, ◌≤◌, filter, arith, not, map, sym, ◌∙◌, true≢false}
use Rattle.std.specs.Str.{bytes_eq}
use Rattle.std.proofs.lemmas.List.{length-map}
use Rattle.std.specs.Prelude.{All}
use Rattle.std.proofs.lemmas.List.Elements.{All-cons, All-filter, All-head, All-nil, All-tail}
use Rattle.std.specs.List.{list_any}
use Rattle.trace_types.specs.declared.event.Event.{Event}
use Rattle.trace_types.specs.Batch.{requests_of}
use Rattle.trace_types.specs.Firsts.{firsts_of}

pub filter-short : {X : Type 0} (p : X → Bool) (xs : List X) → length (filter p xs) ≤ length xs
filter-short p [] = omega arith
filter-short p (x ∷ xs) = by (p x) refl (filter-short p xs)
  where
    by : (b : Bool) → p x ≡ b → length (filter p xs) ≤ length xs → length (filter p (x ∷ xs)) ≤ length (x ∷ xs)
    by true e h = rw e (omega arith)
    by false e h = rw e (omega arith)

pub firsts-short : {X : Type 0} (same : X → X → Bool) (xs : List X) → length (firsts_of same xs) ≤ length xs
firsts-short same [] = omega arith
firsts-short same (x ∷ xs) = let a = filter-short (λ y. not (same x y)) (firsts_of same xs) in let b = firsts-short same xs in omega arith

pub requests_few : (events : List Event) → length (requests_of events) ≤ length events
requests_few events = omega (arith, firsts-short bytes_eq (map (λ (e : Event). e.request) events), length-map events (λ (e : Event). e.request))

pub firsts_all : {X : Type 0} (P : X → Type 0) (same : X → X → Bool) (xs : List X) → All P xs → All P (firsts_of same xs)
firsts_all P same [] h = All-nil P
firsts_all P same (x ∷ xs) h =
    All-cons P x (filter (λ y. not (same x y)) (firsts_of same xs)) (All-head P x xs h)
    (All-filter (λ y. not (same x y)) P (firsts_of same xs) (firsts_all P same xs (All-tail P x xs h)))

-- a filter that loses none that passes p leaves whether some passes p
pub any-filter : {X : Type 0} (p q : X → Bool) → ((z : X) → p z ≡ true → q z ≡ true) → (xs : List X) → list_any p (filter q xs) ≡ list_any p xs
any-filter p q keeps [] = refl
any-filter p q keeps (x ∷ xs) = by (q x) (p x) refl refl (any-filter p q keeps xs)
  where
    by : (b c : Bool) → q x ≡ b → p x ≡ c → list_any p (filter q xs) ≡ list_any p xs → list_any p (filter q (x ∷ xs)) ≡ list_any p (x ∷ xs)
    by true c e f rest = rw (e, rest) refl
    by false true e f rest = absurd (true≢false (sym (keeps x f) ∙ e))
    by false false e f rest = rw (e, f, rest) refl
