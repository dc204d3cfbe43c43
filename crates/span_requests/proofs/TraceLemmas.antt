-- Traces in the order of first sight.
use Rattle.std.proofs.Common.{◌≡◌, ℕ, ◌+◌, ◌<◌, List, [], ◌∷◌, ◌++◌, Bool, true, false, length, get_or, map, take, Bor, refl, sym, ap, ◌∙◌, ltb, arith}
use Rattle.std.specs.Prelude.{if◌then◌else◌, position, unwrap_or}
use Rattle.std.specs.List.{list_any, position_or_len}
use Rattle.std.specs.Str.{bytes_eq}
use Rattle.std.proofs.lemmas.Bool.{le-ltb, lt-ltb}
use Rattle.std.proofs.lemmas.List.{map-append, take_more}
use Rattle.std.proofs.lemmas.Slice.Eq.{bytes_eq-Decides}
use Rattle.span_types.specs.declared.span.Span.{Span}
use Rattle.trace_types.specs.Firsts.{firsts_of}
use Rattle.span_requests.specs.Entries.{traces_of}
use Rattle.span_requests.specs.inner.Ids.{lent_spans, lent_texts}
use Rattle.span_requests.proofs.FirstLemmas.{firsts-push}
use Rattle.span_requests.proofs.ListLemmas.{any-map, place_full, place_short}

pub lent_more : (b : Bool) (keys : List (Bor (List ℕ))) (t : Bor (List ℕ)) → lent_texts (if b then keys else keys ++ t ∷ []) ≡ (if b then lent_texts keys else lent_texts keys ++ t.now ∷ [])
lent_more true keys t = refl
lent_more false keys t = map-append (λ (t : Bor (List ℕ)). t.now) keys (t ∷ [])

pub put_is : (keys new : List (Bor (List ℕ))) (t : Bor (List ℕ)) → new ≡ (if list_any (λ (k : Bor (List ℕ)). bytes_eq t.now k.now) keys then keys else keys ++ t ∷ [])
    → lent_texts new ≡ (if list_any (bytes_eq t.now) (lent_texts keys) then lent_texts keys else lent_texts keys ++ t.now ∷ [])
put_is keys new t h = ap lent_texts h ∙ lent_more (list_any (λ (k : Bor (List ℕ)). bytes_eq t.now k.now) keys) keys t
    ∙ ap (λ b. if b then lent_texts keys else lent_texts keys ++ t.now ∷ []) (sym (any-map (λ (t : Bor (List ℕ)). t.now) (bytes_eq t.now) keys))

pub traces_push : (xs : List Span) (s : Span) → traces_of (xs ++ s ∷ []) ≡ (if list_any (bytes_eq s.trace) (traces_of xs) then traces_of xs else traces_of xs ++ s.trace ∷ [])
traces_push xs s = ap (λ (ts : List (List ℕ)). firsts_of bytes_eq ts) (map-append (λ (s : Span). s.trace) xs (s ∷ []))
    ∙ firsts-push (λ (t : List ℕ). t) bytes_eq (λ x y. (bytes_eq-Decides x y).0) (λ x. (bytes_eq-Decides x x).1 refl) (map (λ (s : Span). s.trace) xs) s.trace

pub traces_more : (xs : List (Bor Span)) (i : ℕ) (s : Bor Span) (keys new : List (List ℕ)) (t : List ℕ) → i < length xs → s ≡ get_or xs i s → keys ≡ traces_of (lent_spans (take i xs)) → t ≡ s.now.trace
    → new ≡ (if list_any (bytes_eq t) keys then keys else keys ++ t ∷ []) → new ≡ traces_of (lent_spans (take (i + 1) xs))
traces_more xs i s keys new t lt is h own step =
    let next : take (i + 1) xs ≡ take i xs ++ s ∷ [] = take_more xs i s lt ∙ ap (λ (x : Bor Span). take i xs ++ x ∷ []) (sym is) in
    let lent : lent_spans (take (i + 1) xs) ≡ lent_spans (take i xs) ++ s.now ∷ [] = ap lent_spans next ∙ map-append (λ (s : Bor Span). s.now) (take i xs) (s ∷ []) in
    step ∙ ap (λ (x : List ℕ). if list_any (bytes_eq x) keys then keys else keys ++ x ∷ []) own
    ∙ ap (λ (ks : List (List ℕ)). if list_any (bytes_eq s.now.trace) ks then ks else ks ++ s.now.trace ∷ []) h
    ∙ sym (ap traces_of lent ∙ traces_push (lent_spans (take i xs)) s.now)

pub place_or : {X : Type 0} (p : X → Bool) (xs : List X) → unwrap_or (position p xs) (length xs) ≡ position_or_len p xs
place_or p xs = by (list_any p xs) refl
  where
    by : (b : Bool) → list_any p xs ≡ b → unwrap_or (position p xs) (length xs) ≡ position_or_len p xs
    by true e = let t : ltb (position_or_len p xs) (length xs) ≡ true = lt-ltb (position_or_len p xs) (length xs) (place_short p xs e) in rw t refl
    by false e = let t : ltb (position_or_len p xs) (length xs) ≡ false = le-ltb (position_or_len p xs) (length xs) (omega (arith, place_full p xs e)) in rw t (sym (place_full p xs e))
