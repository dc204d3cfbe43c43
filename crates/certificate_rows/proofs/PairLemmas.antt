-- The pairs of numbers whose texts rise are listed in the order of the texts.
use Rattle.std.proofs.Common.{◌≡◌, ℕ, Bool, true, List, [], ◌∷◌, map, filter, refl, sym, ap, ◌∙◌, subst, ⊎_elim, Ordering}
use Rattle.std.specs.declared.cmp.Ordering.TheVariants.{Less, Equal, Greater}
use Rattle.std.specs.Cmp.{IsTotalOrder}
use Rattle.std.specs.List.{AllPairs, Contains}
use Rattle.std.specs.Ordering.{ordering_reverse, ordering_then}
use Rattle.std.proofs.lemmas.Cmp.{tied_itself}
use Rattle.std.proofs.lemmas.List.Elements.{Contains-append_cases, Contains-append_left, Contains-append_right}
use Rattle.std.proofs.lemmas.List.Kept.{AllPairs-filter}
use Rattle.trace_types.specs.Listing.{ListsExactly}
use Rattle.trace_types.specs.NameOrder.{pair_cmp}
use Rattle.trace_types.proofs.ElementLemmas.{Contains-map, from_map}
use Rattle.trace_types.proofs.ListingLemmas.{Contains-nil, Contains-cons, Contains-here, cons_cases, pairs_tail, head_before}
use Rattle.trace_types.proofs.PairLemmas.{AllPairs-nil, AllPairs-append}
use Rattle.certificate_rows.specs.declared.kind.Kind.{Kind}
use Rattle.certificate_rows.specs.declared.kind.Kind.TheVariants.{Before, Exclusive, Pipe}
use Rattle.certificate_rows.specs.inner.Pairs.{pairs_with, pairs_of, seconds_of}
use Rattle.certificate_rows.proofs.ElementLemmas.{Contains-kept, kept_Contains, pairs_map}

module _ {X : Type 0} (cmp : X → X → Ordering) (total : IsTotalOrder cmp) (text : ℕ → X) where
  -- the text of the one number is less than that of the other
  abbrev pub Less_texts : ℕ → ℕ → Type 0
  Less_texts m n = cmp (text m) (text n) ≡ Less

  -- the texts of a pair of numbers
  abbrev pub texts_of : ℕ × ℕ → X × X
  texts_of p = (text p.0, text p.1)

  abbrev Less_pairs : ℕ × ℕ → ℕ × ℕ → Type 0
  Less_pairs p q = pair_cmp cmp (texts_of p) (texts_of q) ≡ Less

  not_itself : (m : ℕ) → Less_texts m m → ⊥
  not_itself m l = let t : cmp (text m) (text m) ≡ Equal = tied_itself total (text m) in cc

  not_both : (m n : ℕ) → Less_texts m n → Less_texts n m → ⊥
  not_both m n l k = let t : cmp (text m) (text n) ≡ Greater = total.antisymm (text m) (text n) ∙ ap ordering_reverse k in cc

  -- ---- the order of pairs
  first_less : (p q : ℕ × ℕ) → Less_texts p.0 q.0 → Less_pairs p q
  first_less p q l = ap (λ (o : Ordering). ordering_then o (cmp (text p.1) (text q.1))) l

  second_less : (m i j : ℕ) → Less_texts i j → Less_pairs (m, i) (m, j)
  second_less m i j l = ap (λ (o : Ordering). ordering_then o (cmp (text i) (text j))) (tied_itself total (text m)) ∙ l

  row_rises : (m : ℕ) (others : List ℕ) → AllPairs Less_texts others → AllPairs Less_pairs (pairs_with m others)
  row_rises m others rising = pairs_map (λ (n : ℕ). (m, n)) Less_pairs others (λ i j d lt inside. second_less m _ _ (rising i j d lt inside))

  seconds_rise : (kind : Kind) (all later : List ℕ) → AllPairs Less_texts all → AllPairs Less_texts later → AllPairs Less_texts (seconds_of kind all later)
  seconds_rise Before all later ra rl = ra
  seconds_rise Exclusive all later ra rl = rl
  seconds_rise Pipe all later ra rl = ra

  firsts_in : (kind : Kind) (all rest : List ℕ) (p : ℕ × ℕ) → Contains (pairs_of kind all rest) p → Contains rest p.0
  firsts_in kind all [] p c = absurd (Contains-nil p c)
  firsts_in kind all (one ∷ later) p c = ⊎_elim
      (λ (d : Contains (pairs_with one (seconds_of kind all later)) p). let r = from_map (λ (n : ℕ). (one, n)) (seconds_of kind all later) p d in Contains-here one later p.0 (ap (λ (q : ℕ × ℕ). q.0) r.2))
      (λ (d : Contains (pairs_of kind all later) p). Contains-cons one later p.0 (firsts_in kind all later p d))
      (Contains-append_cases (pairs_with one (seconds_of kind all later)) (pairs_of kind all later) p c)

  pairs_rise : (kind : Kind) (all rest : List ℕ) → AllPairs Less_texts all → AllPairs Less_texts rest → AllPairs Less_pairs (pairs_of kind all rest)
  pairs_rise kind all [] ra rr = AllPairs-nil Less_pairs
  pairs_rise kind all (one ∷ later) ra rr =
      let rl = pairs_tail Less_texts one later rr in
      let seconds = seconds_of kind all later in
      AllPairs-append Less_pairs (pairs_with one seconds) (pairs_of kind all later) (row_rises one seconds (seconds_rise kind all later ra rl)) (pairs_rise kind all later ra rl)
      (λ p q c d.
      let r = from_map (λ (n : ℕ). (one, n)) seconds p c in
      let l = head_before Less_texts one later q.0 rr (firsts_in kind all later q d) in
      first_less p q (subst (λ (m : ℕ). Less_texts m q.0) (ap (λ (v : ℕ × ℕ). v.0) r.2) l))

  -- ---- which pairs there are
  -- the pair is asked: with any order, or in the order of the texts
  abbrev pub IsAsked : Kind → List ℕ → ℕ → ℕ → Type 0
  IsAsked Before all m n = Contains all m × Contains all n
  IsAsked Exclusive all m n = Contains all m × Contains all n × Less_texts m n
  IsAsked Pipe all m n = Contains all m × Contains all n

  -- all pairs of the rest with all
  module _ (kind : Kind) (all : List ℕ) (every : (later : List ℕ) → seconds_of kind all later ≡ all) where
    every_to : (rest : List ℕ) (m n : ℕ) → Contains (pairs_of kind all rest) (m, n) → Contains rest m × Contains all n
    every_to [] m n c = absurd (Contains-nil (m, n) c)
    every_to (one ∷ later) m n c = ⊎_elim
        (λ (d : Contains (pairs_with one (seconds_of kind all later)) (m, n)).
        let r = from_map (λ (k : ℕ). (one, k)) (seconds_of kind all later) (m, n) d in
        (Contains-here one later m (ap (λ (q : ℕ × ℕ). q.0) r.2), subst (λ l. Contains l n) (every later) (subst (Contains (seconds_of kind all later)) (ap (λ (q : ℕ × ℕ). q.1) r.2) r.1)))
        (λ (d : Contains (pairs_of kind all later) (m, n)). let h = every_to later m n d in (Contains-cons one later m h.0, h.1))
        (Contains-append_cases (pairs_with one (seconds_of kind all later)) (pairs_of kind all later) (m, n) c)

    every_from : (rest : List ℕ) (m n : ℕ) → Contains rest m → Contains all n → Contains (pairs_of kind all rest) (m, n)
    every_from [] m n cm cn = absurd (Contains-nil m cm)
    every_from (one ∷ later) m n cm cn = ⊎_elim
        (λ (e : one ≡ m). Contains-append_left (pairs_with one (seconds_of kind all later)) (pairs_of kind all later) (m, n) (Contains-map (λ (k : ℕ). (one, k)) (seconds_of kind all later) n (m, n) (subst (λ l. Contains l n) (sym (every later)) cn) (ap (λ (k : ℕ). (k, n)) e)))
        (λ (d : Contains later m). Contains-append_right (pairs_with one (seconds_of kind all later)) (pairs_of kind all later) (m, n) (every_from later m n d cn))
        (cons_cases one later m cm)

  -- each pair of the rest once
  module _ (all : List ℕ) where
    once_to : (rest : List ℕ) → AllPairs Less_texts rest → (m n : ℕ) → Contains (pairs_of Exclusive all rest) (m, n) → Contains rest m × Contains rest n × Less_texts m n
    once_to [] rr m n c = absurd (Contains-nil (m, n) c)
    once_to (one ∷ later) rr m n c = ⊎_elim
        (λ (d : Contains (pairs_with one later) (m, n)).
        let r = from_map (λ (k : ℕ). (one, k)) later (m, n) d in
        let first : one ≡ m = ap (λ (q : ℕ × ℕ). q.0) r.2 in
        let second : Contains later n = subst (Contains later) (ap (λ (q : ℕ × ℕ). q.1) r.2) r.1 in
        (Contains-here one later m first, Contains-cons one later n second, subst (λ (k : ℕ). Less_texts k n) first (head_before Less_texts one later n rr second)))
        (λ (d : Contains (pairs_of Exclusive all later) (m, n)). let h = once_to later (pairs_tail Less_texts one later rr) m n d in (Contains-cons one later m h.0, Contains-cons one later n h.1, h.2))
        (Contains-append_cases (pairs_with one later) (pairs_of Exclusive all later) (m, n) c)

    once_from : (rest : List ℕ) → AllPairs Less_texts rest → (m n : ℕ) → Contains rest m → Contains rest n → Less_texts m n → Contains (pairs_of Exclusive all rest) (m, n)
    once_from [] rr m n cm cn l = absurd (Contains-nil m cm)
    once_from (one ∷ later) rr m n cm cn l = ⊎_elim
        (λ (em : one ≡ m). ⊎_elim
        (λ (en : one ≡ n). absurd (not_itself m (subst (λ (k : ℕ). Less_texts m k) (sym en ∙ em) l)))
        (λ (dn : Contains later n). Contains-append_left (pairs_with one later) (pairs_of Exclusive all later) (m, n) (Contains-map (λ (k : ℕ). (one, k)) later n (m, n) dn (ap (λ (k : ℕ). (k, n)) em)))
        (cons_cases one later n cn))
        (λ (dm : Contains later m). ⊎_elim
        (λ (en : one ≡ n). absurd (not_both m n l (subst (λ (k : ℕ). Less_texts k m) en (head_before Less_texts one later m rr dm))))
        (λ (dn : Contains later n). Contains-append_right (pairs_with one later) (pairs_of Exclusive all later) (m, n) (once_from later (pairs_tail Less_texts one later rr) m n dm dn l))
        (cons_cases one later n cn))
        (cons_cases one later m cm)

  pub asked_to : (kind : Kind) (all : List ℕ) → AllPairs Less_texts all → (m n : ℕ) → Contains (pairs_of kind all all) (m, n) → IsAsked kind all m n
  asked_to Before all ra m n c = every_to Before all (λ later. refl) all m n c
  asked_to Exclusive all ra m n c = once_to all all ra m n c
  asked_to Pipe all ra m n c = every_to Pipe all (λ later. refl) all m n c

  pub asked_from : (kind : Kind) (all : List ℕ) → AllPairs Less_texts all → (m n : ℕ) → IsAsked kind all m n → Contains (pairs_of kind all all) (m, n)
  asked_from Before all ra m n h = every_from Before all (λ later. refl) all m n h.0 h.1
  asked_from Exclusive all ra m n h = once_from all all ra m n h.0 h.1 h.2
  asked_from Pipe all ra m n h = every_from Pipe all (λ later. refl) all m n h.0 h.1

  -- ---- the pairs that pass a test, by their texts
  pub pairs_listed : (kind : Kind) (all : List ℕ) (test : ℕ × ℕ → Bool) (P : X × X → Type 0) → AllPairs Less_texts all
      → ((m n : ℕ) → IsAsked kind all m n → test (m, n) ≡ true → P (text m, text n))
      → ((x : X × X) → P x → (m : ℕ) × (n : ℕ) × IsAsked kind all m n × (test (m, n) ≡ true) × (text m ≡ x.0) × (text n ≡ x.1))
      → ListsExactly (pair_cmp cmp) P (map texts_of (filter test (pairs_of kind all all)))
  pairs_listed kind all test P rising told found = record {
    rising = pairs_map texts_of (λ (x y : X × X). pair_cmp cmp x y ≡ Less) (filter test (pairs_of kind all all)) (AllPairs-filter Less_pairs test (pairs_of kind all all) (pairs_rise kind all all rising rising));
    exactly = λ x. (
      (λ c.
          let r = from_map texts_of (filter test (pairs_of kind all all)) x c in
          let k = kept_Contains test (pairs_of kind all all) r.0 r.1 in
          subst P r.2 (told r.0.0 r.0.1 (asked_to kind all rising r.0.0 r.0.1 k.0) k.1)),
      (λ p.
          let f = found x p in
          Contains-map texts_of (filter test (pairs_of kind all all)) (f.0, f.1) x (Contains-kept test (pairs_of kind all all) (f.0, f.1) (asked_from kind all rising f.0 f.1 f.2) f.3)
          (λ i. (f.4 i, f.5 i))),
    );
  }
