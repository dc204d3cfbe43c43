-- The relations of the bits that are 0.
use Rattle.std.proofs.Common.{◌≡◌, ◌≢◌, ℕ, ◌+◌, ◌*◌, ◌/◌, ◌%◌, ◌<◌, ◌≤◌, true, List, [], ◌∷◌, ⊎_elim, length, get_or, refl, sym, ap, ◌∙◌, subst, arith}
use Rattle.std.proofs.lemmas.Bool.{and_parts, cases_eq, eq-eqb, eqb-true, false≢true, or_cases}
use Rattle.std.specs.List.{All, AllPairs}
use Rattle.hypothesis_index.specs.Places.{IsRelation, NamesBelow, pairs_below, place_of, width_of}
use Rattle.hypothesis_index.specs.Refuting.{Refutes}
use Rattle.hypothesis_index.specs.declared.bit_place.BitPlace.{BitPlace}
use Rattle.hypothesis_index.specs.declared.relation.Relation.{Relation}
use Rattle.pipeline_tests.specs.DayLaws.{RowsClearRefuted}
use Rattle.refute_tests.specs.Survivors.{IsRefutedPlace}
use Rattle.trace_types.specs.Surviving.{IsRefuted}
use Rattle.trace_types.specs.declared.named_trace.NamedTrace.{NamedTrace}
use Rattle.word_rows.specs.declared.entries.Entry.{Entry}
use Rattle.word_rows.specs.Accounts.{AreZero}
use Rattle.word_rows.specs.Meeting.{ClearsBelow}
use Rattle.word_rows.specs.Rows.{below, clears, rows_below, rows_clear}
use Rattle.word_rows.specs.Words.{AreWords, bit_of}
use Rattle.trace_rules.specs.Hypotheses.{Hypothesis, IsAtLeastRefuted, IsAtMostRefuted, IsSame, RefutesHypothesis}
use Rattle.trace_types.specs.Parts.{by_number}
use Rattle.trace_pass.specs.Counts.{zeros}
use Rattle.hypothesis_index.proofs.PairLemmas.{pairs_below-512, all_below}
use Rattle.trace_pass.specs.Rows.{AreRowsWithin}
use Rattle.trace_pass.proofs.CountLemmas.{chosen, is_zero, pigeons, zeros_count}
use Rattle.trace_pass.proofs.RelationLemmas.{equal_hypotheses, hypothesis_of, of_relation, one_hypothesis, refutes_hypothesis, relation_of, told}

-- what the laws on places say
abbrev pub PlacesDiffer : Type 0
PlacesDiffer = (r s : Relation) → IsRelation r → IsRelation s → place_of r ≡ place_of s → r ≡ s

abbrev pub PlacesFit : Type 0
PlacesFit = (names : ℕ) (r : Relation) → names ≤ 512 → IsRelation r → NamesBelow names r → ((place_of r).word < width_of names) × ((place_of r).bit < 64)

abbrev pub number_of : Relation → ℕ
number_of r = 64 * (place_of r).word + (place_of r).bit

pub bit_fits : PlacesFit → (r : Relation) → IsRelation r → (place_of r).bit < 64
bit_fits fit r h = (fit 512 r (omega arith) h (all_below r h)).1

numbers_differ : PlacesDiffer → PlacesFit → (r s : Relation) → IsRelation r → IsRelation s → number_of r ≡ number_of s → r ≡ s
numbers_differ differ fit r s hr hs e = let p = place_of r in let q = place_of s in
    let br : p.bit < 64 = bit_fits fit r hr in let bs : q.bit < 64 = bit_fits fit s hs in
    let w : p.word ≡ q.word = omega arith in let b : p.bit ≡ q.bit = omega arith in
    let same : place_of r ≡ place_of s = λ k. record { word = w k; bit = b k } in differ r s hr hs same

pub rows_clear_below : ClearsBelow → (n : ℕ) (rows : List (List Entry)) (i b : ℕ) → rows_below n rows ≡ true → rows_clear rows i b ≡ true → i < n
rows_clear_below law n [] i b t c = absurd (false≢true c)
rows_clear_below law n (row ∷ rows) i b t c = let p = and_parts (below n row) (rows_below n rows) t in ⊎_elim
    (λ (h : clears row i b ≡ true). law n row i b p.0 h)
    (λ (h : rows_clear rows i b ≡ true). rows_clear_below law n rows i b p.1 h)
    (or_cases (clears row i b) (rows_clear rows i b) c)

-- words that lack the bits of all refuted relations have at least as many zeros
pub least_from : PlacesDiffer → PlacesFit → (ts : List NamedTrace) (words : List ℕ) → AreWords words
    → ((r : Relation) → IsRelation r → IsRefuted (Refutes r) ts → ((place_of r).word < length words) × (bit_of words (place_of r).word (place_of r).bit ≡ 0)) → IsAtLeastRefuted by_number ts (zeros words)
least_from differ fit ts words bound clear hs are =
    let z = zeros_count words bound in
    let most : length hs ≤ _ = pigeons place_number (is_zero words) (64 * length words) hs apart inside in omega arith
  where
    place_number : Hypothesis ℕ ℕ → ℕ
    place_number h = number_of (relation_of h)

    relation : (h : Hypothesis ℕ ℕ) → IsRefuted (RefutesHypothesis by_number h) ts → IsRelation (relation_of h) × IsRefuted (Refutes (relation_of h)) ts
    relation h f = let t = told h f.1 f.4 in (t.0, (f.0, f.1, f.2, f.3, t.1))

    apart : AllPairs (λ h i. place_number h ≢ place_number i) hs
    apart i j d l h e =
        let one = relation (get_or hs i d) (are.refuted i d (omega arith)) in let other = relation (get_or hs j d) (are.refuted j d h) in
        are.differ i j d l h (one_hypothesis (get_or hs i d) (get_or hs j d) (numbers_differ differ fit _ _ one.0 other.0 e))

    inside : All (λ h. (place_number h < 64 * length words) × (is_zero words (place_number h) ≡ true)) hs
    inside k d l =
        let r = relation_of (get_or hs k d) in let at = relation (get_or hs k d) (are.refuted k d l) in let p : BitPlace = place_of r in
        let bit : p.bit < 64 = bit_fits fit r at.0 in
        let here = clear r at.0 at.1 in let within : p.word < length words = here.0 in
        let q : number_of r / 64 ≡ p.word = omega arith in let m : number_of r % 64 ≡ p.bit = omega arith in
        (omega arith, eq-eqb _ 0 (ap (λ (i : ℕ). bit_of words i (number_of r % 64)) q ∙ ap (bit_of words p.word) m ∙ here.1))

-- words that lack all bits of the whole rows have at least as many zeros as there are refuted relations
pub least_refuted : PlacesDiffer → PlacesFit → ClearsBelow → RowsClearRefuted → (names : ℕ) (ts : List NamedTrace) (rows : List (List Entry)) (words : List ℕ) → AreRowsWithin names ts rows → length words ≡ width_of names → AreWords words → AreZero words (rows_clear rows) → IsAtLeastRefuted by_number ts (zeros words)
least_refuted differ fit law refuted names ts rows words have wide bound clear = least_from differ fit ts words bound cleared
  where
    cleared : (r : Relation) → IsRelation r → IsRefuted (Refutes r) ts → ((place_of r).word < length words) × (bit_of words (place_of r).word (place_of r).bit ≡ 0)
    cleared r h f =
        let p : BitPlace = place_of r in
        let place : IsRefutedPlace ts p.word p.bit = (r, h, refl, f) in
        let c : rows_clear rows p.word p.bit ≡ true = (refuted ts rows have.whole p.word p.bit).1 place in
        let word : p.word < width_of names = rows_clear_below law (width_of names) rows p.word p.bit have.within c in
        let within : p.word < length words = omega arith in
        (within, clear p.word p.bit within (bit_fits fit r h) c)

-- the hypothesis is that of a relation, and some trace refutes it
abbrev IsOfRelation : List NamedTrace → Hypothesis ℕ ℕ → Type 0
IsOfRelation ts h = (r : Relation) × (h ≡ hypothesis_of r) × IsRelation r × IsRefuted (RefutesHypothesis by_number h) ts

-- words that lack only bits of refuted relations have at most as many zeros
pub most_refuted : (ts : List NamedTrace) (words : List ℕ) → AreWords words → ((i b : ℕ) → i < length words → b < 64 → bit_of words i b ≡ 0 → IsRefutedPlace ts i b) → IsAtMostRefuted by_number ts (zeros words)
most_refuted ts words bound only =
    let z = zeros_count words bound in
    let c = chosen (λ h. number_of (relation_of h)) (IsOfRelation ts) (is_zero words) (64 * length words) pick in
    let long : length c.0 ≡ _ = c.3 in
    (c.0, record { differ = λ i j d l m same. apart (get_or c.0 i d) (get_or c.0 j d) (c.2 i d (omega arith)).1 (c.2 j d m).1 (c.1 i j d l m) same; refuted = λ k d l. (c.2 k d l).1.3 }, omega arith)
  where
    apart : (h i : Hypothesis ℕ ℕ) → IsOfRelation ts h → IsOfRelation ts i → h ≢ i → IsSame h i → ⊥
    apart h i f g other same = other (f.1 ∙ equal_hypotheses f.0 g.0 f.2 g.2 (subst (λ (x : Hypothesis ℕ ℕ). IsSame (hypothesis_of f.0) x) g.1 (subst (λ (x : Hypothesis ℕ ℕ). IsSame x i) f.1 same)) ∙ sym g.1)

    pick : (k : ℕ) → k < 64 * length words → is_zero words k ≡ true → (h : Hypothesis ℕ ℕ) × (number_of (relation_of h) ≡ k) × IsOfRelation ts h
    pick k l h =
        let p = only (k / 64) (k % 64) (omega arith) (omega arith) (eqb-true _ 0 h) in
        let w : (place_of p.0).word ≡ k / 64 = ap (λ (q : BitPlace). q.word) p.2 in let b : (place_of p.0).bit ≡ k % 64 = ap (λ (q : BitPlace). q.bit) p.2 in
        let at : number_of p.0 ≡ k = omega arith in let f = p.3 in
        (hypothesis_of p.0, ap number_of (of_relation p.0 p.1) ∙ at, (p.0, refl, p.1, (f.0, f.1, f.2, f.3, refutes_hypothesis p.0 f.1 p.1 f.4)))

abbrev pub PairsFollow : Type 0
PairsFollow = (high higher : ℕ) → high < higher → (pairs_below high + high) ≤ pairs_below higher

-- the words of at most 512 names are few
pub few_words : PairsFollow → (names : ℕ) → names ≤ 512 → width_of names ≤ 8302
few_words follow names h = let top = pairs_below-512 in ⊎_elim
    (λ (e : names ≡ 512). let p : pairs_below names ≡ pairs_below 512 = ap pairs_below e in let r : width_of names ≤ 8302 = omega arith in r)
    (λ (ne : names ≡ 512 → ⊥). let p = follow names 512 (omega arith) in let r : width_of names ≤ 8302 = omega arith in r)
    (cases_eq names 512)
