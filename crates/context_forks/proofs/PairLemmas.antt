-- Pairs of calls and their partners, one after another.
use Rattle.std.proofs.Common.{◌≡◌, ℕ, ◌+◌, ◌<◌, ◌≤◌, List, [], ◌∷◌, ◌++◌, All, Option, Some, None, length, get_or, map, take, drop, refl, sym, ap, ◌∙◌, append_assoc, append-nil, arith}
use Rattle.std.specs.Prelude.{IfSome}
use Rattle.std.proofs.lemmas.List.{drop_all, drop_more, map-append, take_all, take_more}
use Rattle.std.proofs.lemmas.List.Concat.{flat_map-append}
use Rattle.std.proofs.lemmas.List.Elements.{All-append, All-cons, All-get_or, All-head, All-map, All-nil, All-push, All-tail, All-from_get_or, All-weaker}
use Rattle.span_calls.specs.Calls.{StartInOrder}
use Rattle.span_calls.specs.declared.call.Call.{Call}
use Rattle.context_forks.specs.Forks.{calls_below, context_pair, context_pairs}
use Rattle.context_forks.specs.Partners.{pair_of, pairs_after, pairs_of, partner}
use Rattle.context_forks.proofs.PartnerLemmas.{partner_within}
use Rattle.context_forks.proofs.SiblingLemmas.{siblings_at}

module _ (calls : List Call) (grace : ℕ) (numbers : List ℕ) where
  -- the pairs of contexts of the calls of one caller from an index on
  abbrev pub pairs_from : List ℕ → ℕ → List (ℕ × ℕ)
  pairs_from below at = map (context_pair numbers) (pairs_after calls grace (take at below) (drop at below))

  pub pairs_step : (below : List ℕ) (at : ℕ) (d : ℕ) → at < length below
      → pairs_from below at ≡ map (context_pair numbers) (pair_of (partner calls grace (take at below) (get_or below at d)) (get_or below at d)) ++ pairs_from below (at + 1)
  pairs_step below at d lt =
      ap (λ (ys : List ℕ). map (context_pair numbers) (pairs_after calls grace (take at below) ys)) (drop_more below at d lt)
      ∙ map-append (context_pair numbers) (pair_of (partner calls grace (take at below) (get_or below at d)) (get_or below at d)) (pairs_after calls grace (take at below ++ get_or below at d ∷ []) (drop (at + 1) below))
      ∙ ap (λ (ys : List ℕ). map (context_pair numbers) (pair_of (partner calls grace (take at below) (get_or below at d)) (get_or below at d)) ++ map (context_pair numbers) (pairs_after calls grace ys (drop (at + 1) below))) (sym (take_more below at d lt))

  pub links_more : (below : List ℕ) (at : ℕ) (d : ℕ) (old links new all : List (ℕ × ℕ)) → at < length below → links ++ pairs_from below at ≡ old ++ all
      → new ≡ links ++ map (context_pair numbers) (pair_of (partner calls grace (take at below) (get_or below at d)) (get_or below at d)) → new ++ pairs_from below (at + 1) ≡ old ++ all
  links_more below at d old links new all lt h step =
      ap (λ (xs : List (ℕ × ℕ)). xs ++ pairs_from below (at + 1)) step
      ∙ append_assoc links (map (context_pair numbers) (pair_of (partner calls grace (take at below) (get_or below at d)) (get_or below at d))) (pairs_from below (at + 1))
      ∙ ap (λ (xs : List (ℕ × ℕ)). links ++ xs) (sym (pairs_step below at d lt)) ∙ h

  pub links_end : (below : List ℕ) (at : ℕ) (old links all : List (ℕ × ℕ)) → length below ≤ at → links ++ pairs_from below at ≡ old ++ all → links ≡ old ++ all
  links_end below at old links all le h = sym (ap (λ (ys : List ℕ). links ++ map (context_pair numbers) (pairs_after calls grace (take at below) ys)) (drop_all at below le) ∙ append-nil links) ∙ h

  -- the pairs of one more caller
  pub lists_more : (below : List (List ℕ)) (at : ℕ) (d : List ℕ) (links new : List (ℕ × ℕ)) → at < length below → links ≡ map (context_pair numbers) (pairs_of calls grace (take at below))
      → new ≡ links ++ map (context_pair numbers) (pairs_after calls grace [] (get_or below at d)) → new ≡ map (context_pair numbers) (pairs_of calls grace (take (at + 1) below))
  lists_more below at d links new lt h step =
      step ∙ ap (λ (xs : List (ℕ × ℕ)). xs ++ map (context_pair numbers) (pairs_after calls grace [] (get_or below at d))) h
      ∙ sym (map-append (context_pair numbers) (pairs_of calls grace (take at below)) (pairs_after calls grace [] (get_or below at d)))
      ∙ ap (map (context_pair numbers)) (ap (λ (xs : List (ℕ × ℕ)). pairs_of calls grace (take at below) ++ xs) (sym (append-nil (pairs_after calls grace [] (get_or below at d)))) ∙ sym (flat_map-append (pairs_after calls grace []) (take at below) (get_or below at d ∷ [])) ∙ ap (pairs_of calls grace) (sym (take_more below at d lt)))

  pub lists_all : (below : List (List ℕ)) (at : ℕ) (links : List (ℕ × ℕ)) → below ≡ calls_below calls → length below ≤ at → links ≡ map (context_pair numbers) (pairs_of calls grace (take at below)) → links ≡ context_pairs grace calls numbers
  lists_all below at links e le h = h ∙ ap (λ (ls : List (List ℕ)). map (context_pair numbers) (pairs_of calls grace ls)) (take_all at below le ∙ e)

-- each of a pair passes
abbrev pub BothAre : (ℕ → Type 0) → (ℕ × ℕ) → Type 0
BothAre P p = P p.0 × P p.1

-- what holds of the pairs of each caller holds of all pairs
pub lists_are : (calls : List Call) (grace : ℕ) (T : (ℕ × ℕ) → Type 0) (below : List (List ℕ)) → All (λ (xs : List ℕ). All T (pairs_after calls grace [] xs)) below → All T (pairs_of calls grace below)
lists_are calls grace T [] h = All-nil T
lists_are calls grace T (xs ∷ below) h =
    All-append T (pairs_after calls grace [] xs) (pairs_of calls grace below) (All-head (λ (ys : List ℕ). All T (pairs_after calls grace [] ys)) xs below h)
    (lists_are calls grace T below (All-tail (λ (ys : List ℕ). All T (pairs_after calls grace [] ys)) xs below h))

module _ (calls : List Call) (grace : ℕ) (P : ℕ → Type 0) where
  pair_are : (o : Option ℕ) (i : ℕ) → IfSome o P → P i → All (BothAre P) (pair_of o i)
  pair_are None i h q = All-nil (BothAre P)
  pair_are (Some j) i h q = All-cons (BothAre P) (j, i) [] (h, q) (All-nil (BothAre P))

  -- the pairs of calls that pass do so
  pub after_are : (earlier later : List ℕ) → All P earlier → All P later → All (BothAre P) (pairs_after calls grace earlier later)
  after_are earlier [] h k = All-nil (BothAre P)
  after_are earlier (i ∷ later) h k =
      All-append (BothAre P) (pair_of (partner calls grace earlier i) i) (pairs_after calls grace (earlier ++ i ∷ []) later)
      (pair_are (partner calls grace earlier i) i (partner_within calls P grace earlier i h) (All-head P i later k)) (after_are (earlier ++ i ∷ []) later (All-push P earlier i h (All-head P i later k)) (All-tail P i later k))

  pub pairs_are : (below : List (List ℕ)) → All (λ (xs : List ℕ). All P xs) below → All (BothAre P) (pairs_of calls grace below)
  pairs_are below h = lists_are calls grace (BothAre P) below (All-weaker (λ (xs : List ℕ). All P xs) (λ (xs : List ℕ). All (BothAre P) (pairs_after calls grace [] xs)) (λ (xs : List ℕ) (k : All P xs). after_are [] xs (All-nil P) k) below h)

-- linked contexts are within
pub contexts_within : (calls : List Call) (grace : ℕ) (numbers : List ℕ) (count : ℕ) → StartInOrder calls → length numbers ≡ length calls → All (λ n. n < count) numbers
    → All (λ (l : ℕ × ℕ). (l.0 < count) × (l.1 < count)) (context_pairs grace calls numbers)
contexts_within calls grace numbers count rise same within = All-map (BothAre (λ n. n < count)) (context_pair numbers) (pairs_of calls grace (calls_below calls))
    (pairs_are calls grace (λ i. get_or numbers i 0 < count) (calls_below calls) (All-from_get_or (λ (xs : List ℕ). All (λ i. get_or numbers i 0 < count) xs) (calls_below calls) [] (λ k lt.
    low (get_or (calls_below calls) k []) (siblings_at calls rise (calls_below calls) k [] refl lt).within)))
  where
    low : (xs : List ℕ) → All (λ i. i < length calls) xs → All (λ i. get_or numbers i 0 < count) xs
    low xs h = All-weaker (λ i. i < length calls) (λ i. get_or numbers i 0 < count) (λ i lt. All-get_or (λ n. n < count) numbers i 0 (omega (arith, lt, same)) within) xs h
