-- Which words the traces of a list leave.
use Rattle.std.proofs.Common.{◌≡◌, ℕ, zero, suc, ◌-◌, ◌^◌, ◌<◌, ◌≤◌, min, Bool, true, false, cond, ◌||◌, ◌↔◌, ◌⊎◌, inl, inr, List, [], ◌∷◌, ◌++◌, length, slice_index, refl, sym, ap, ◌∙◌, subst, ⊎_elim, arith, length-append}
use Rattle.std.proofs.lemmas.Bool.{cases_eq, cases_lt, cond-true, cond-false, cases_Bool, false≢true, or_cases, or_left, or_right}
use Rattle.std.proofs.lemmas.List.{get_or_append_left, get_or-append_right}
use Rattle.std.proofs.lemmas.List.Elements.{All-contains, Contains-append_left, Contains-append_right, Contains-append_cases, Contains-push, Contains-push_cases}
use Rattle.std.proofs.lemmas.List.Sorted.{Contains-permutation, IsPermutation-sym}
use Rattle.std.proofs.lemmas.Nat.Bits.{bit_at-lt}
use Rattle.std.specs.Int.{bit_at}
use Rattle.std.specs.List.{Contains}
use Rattle.hypothesis_index.specs.Places.{IsRelation, NamesBelow, place_of, width_of}
use Rattle.hypothesis_index.specs.Refuting.{IsPlaceOfSome, Refutes}
use Rattle.hypothesis_index.specs.declared.bit_place.BitPlace.{BitPlace}
use Rattle.hypothesis_index.specs.declared.relation.Relation.{Relation}
use Rattle.hypothesis_index.specs.declared.relation.Relation.TheVariants.{Before, Exclusive, Apart, Pipe, Unshared}
use Rattle.word_rows.proofs.OpeningLemmas.{full_length, full_bit, full_bound}
use Rattle.pipeline_tests.specs.DayLaws.{RowsClearRefuted, MetRowsSurvive, FullWordsSurvive, CommonLacks, OrderOfTracesIsFree, WidenedLacks, WidenedSurvive, SurvivorsAreUnique}
use Rattle.pipeline_tests.specs.Rows.{AreWholeRows, IsWholeRow}
use Rattle.refute_tests.specs.Survivors.{IsRefutedPlace}
use Rattle.refute_tests.specs.Clearing.{HaveNamesBelow}
use Rattle.trace_types.specs.declared.named_segment.NamedSegment.{NamedSegment}
use Rattle.trace_types.specs.declared.named_trace.NamedTrace.{NamedTrace}
use Rattle.word_rows.specs.Meeting.{MeetBegins, MeetIsUnique}
use Rattle.word_rows.specs.Rows.{clears, rows_clear}
use Rattle.word_rows.specs.Words.{IsMeet, bit_of, full_words, widened_words}
use Rattle.word_rows.specs.declared.entries.Entry.{Entry}

-- ---- full words

-- ---- which relations some trace of a list refutes

-- this bit is the place of a relation that the trace refutes
abbrev IsOfTrace : NamedTrace → ℕ → ℕ → Type 0
IsOfTrace t i b = IsPlaceOfSome (λ (r : Relation). Refutes r t) i b

pub lost_by : (traces : List NamedTrace) (t : NamedTrace) (i b : ℕ) → Contains traces t → IsOfTrace t i b → IsRefutedPlace traces i b
lost_by traces t i b c p = (p.0, p.1, p.2, (c.0, t, c.1, c.2, p.3))

pub lost_some : (traces : List NamedTrace) (i b : ℕ) → IsRefutedPlace traces i b → (t : NamedTrace) × Contains traces t × IsOfTrace t i b
lost_some traces i b p = let a = p.3 in (a.1, (a.0, a.2, a.3), (p.0, p.1, p.2, a.4))

-- ---- rows of traces

Contains-more : (t : NamedTrace) (traces : List NamedTrace) (u : NamedTrace) → Contains traces u → Contains (t ∷ traces) u
Contains-more t traces u c = let l : c.0 < length traces = c.1 in (suc c.0, omega arith, c.2)

first_or : (t : NamedTrace) (traces : List NamedTrace) (u : NamedTrace) → Contains (t ∷ traces) u → (t ≡ u) ⊎ Contains traces u
first_or t traces u (zero, l, e) = inl e
first_or t traces u (suc k, l, e) = inr (k, omega arith, e)

cleared_lost : (traces : List NamedTrace) (rows : List (List Entry)) → AreWholeRows traces rows → (i b : ℕ) → rows_clear rows i b ≡ true → IsRefutedPlace traces i b
cleared_lost [] [] whole i b h = absurd (false≢true h)
cleared_lost [] (row ∷ rows) whole i b h = absurd whole
cleared_lost (t ∷ ts) [] whole i b h = absurd whole
cleared_lost (t ∷ ts) (row ∷ rows) whole i b h = ⊎_elim
    (λ (o : clears row i b ≡ true). lost_by (t ∷ ts) t i b (zero, omega arith, refl) ((whole.0 i b).0 o))
    (λ (o : rows_clear rows i b ≡ true). let p = lost_some ts i b (cleared_lost ts rows whole.1 i b o) in lost_by (t ∷ ts) p.0 i b (Contains-more t ts p.0 p.1) p.2)
    (or_cases (clears row i b) (rows_clear rows i b) h)

lost_cleared : (traces : List NamedTrace) (rows : List (List Entry)) → AreWholeRows traces rows → (i b : ℕ) (t : NamedTrace) → Contains traces t → IsOfTrace t i b → rows_clear rows i b ≡ true
lost_cleared [] rows whole i b t c p = absurd (let l : c.0 < 0 = c.1 in omega arith)
lost_cleared (u ∷ us) [] whole i b t c p = absurd whole
lost_cleared (u ∷ us) (row ∷ rows) whole i b t c p = ⊎_elim
    (λ (o : u ≡ t). or_left (clears row i b) (rows_clear rows i b) ((whole.0 i b).1 (subst (λ (v : NamedTrace). IsOfTrace v i b) (sym o) p)))
    (λ (o : Contains us t). or_right (clears row i b) (rows_clear rows i b) (lost_cleared us rows whole.1 i b t o p))
    (first_or u us t c)

pub rows_clear_refuted : RowsClearRefuted
rows_clear_refuted traces rows whole i b = (
  cleared_lost traces rows whole i b,
  λ p. let q = lost_some traces i b p in lost_cleared traces rows whole i b q.0 q.1 q.2,
)

pub met_rows_survive : MetRowsSurvive
met_rows_survive traces rows width words whole met bound = record {
  bound = bound;
  bits = λ i b h l.
      let in_full : i < length (full_words width) = subst (λ (n : ℕ). i < n) met.width h in
      let full : bit_of (full_words width) i b ≡ 1 = full_bit width i b (subst (λ (n : ℕ). i < n) (full_length width) in_full) l in
      let is = met.bits i b in_full l in
      let clear = rows_clear_refuted traces rows whole i b in (
        (λ z. ⊎_elim
            (λ (t : rows_clear rows i b ≡ true). clear.0 t)
            (λ (f : rows_clear rows i b ≡ false). absurd (one_not_zero (sym is ∙ z) (cond-false _ 0 _ f ∙ full)))
            (cases_Bool (rows_clear rows i b))),
        (λ p. is ∙ cond-true _ 0 _ (clear.1 p)),
      );
}
  where
    one_not_zero : {n : ℕ} → n ≡ 0 → n ≡ 1 → ⊥
    one_not_zero z e = omega arith

pub full_words_survive : FullWordsSurvive
full_words_survive width = record {
  bound = full_bound width;
  bits = λ i b h l. let one = full_bit width i b (subst (λ (n : ℕ). i < n) (full_length width) h) l in (
    (λ z. absurd (omega arith)),
    (λ p. let a = lost_some [] i b p in absurd (let c : a.1.0 < 0 = a.1.1 in omega arith)),
  );
}

-- ---- one more trace

pub bits_more : (words new : List ℕ) (traces : List NamedTrace) (t : NamedTrace) (row : List Entry) → ((i b : ℕ) → i < length words → b < 64 → (bit_of words i b ≡ 0) ↔ IsRefutedPlace traces i b) → IsMeet words (row ∷ []) new → IsWholeRow t row
    → (i b : ℕ) → i < length new → b < 64 → (bit_of new i b ≡ 0) ↔ IsRefutedPlace (traces ++ t ∷ []) i b
bits_more words new traces t row bits met exact i b h l =
    let h' : i < length words = subst (λ (n : ℕ). i < n) met.width h in
    let is = met.bits i b h' l in
    let one = or-false (clears row i b) in (
      (λ z. ⊎_elim
          (λ (o : clears row i b ≡ true). lost_by (traces ++ t ∷ []) t i b (Contains-push traces t) ((exact i b).0 o))
          (λ (o : clears row i b ≡ false). let p = lost_some traces i b ((bits i b h' l).0 (sym (cond-false (rows_clear (row ∷ []) i b) 0 (bit_of words i b) (one ∙ o)) ∙ sym is ∙ z)) in lost_by (traces ++ t ∷ []) p.0 i b (Contains-append_left traces (t ∷ []) p.0 p.1) p.2)
          (cases_Bool (clears row i b))),
      (λ p. let q = lost_some (traces ++ t ∷ []) i b p in is ∙ ⊎_elim
          (λ (o : Contains traces q.0). zero_anyway (rows_clear (row ∷ []) i b) (bit_of words i b) ((bits i b h' l).1 (lost_by traces q.0 i b o q.2)))
          (λ (o : t ≡ q.0). cond-true (rows_clear (row ∷ []) i b) 0 (bit_of words i b) (one ∙ (exact i b).1 (subst (λ (u : NamedTrace). IsOfTrace u i b) (sym o) q.2)))
          (Contains-push_cases traces t q.0 q.1)),
    )
  where
    or-false : (c : Bool) → (c || false) ≡ c
    or-false true = refl
    or-false false = refl

    zero_anyway : (c : Bool) (n : ℕ) → n ≡ 0 → cond c 0 n ≡ 0
    zero_anyway true n e = refl
    zero_anyway false n e = e

-- ---- two lists

pub common_lacks : CommonLacks
common_lacks traces others words other common a b long c = λ i k h l.
    let h' : i < length words = subst (λ (n : ℕ). i < n) c.width h in
    let o' : i < length other = subst (λ (n : ℕ). i < n) long h' in
    let is : bit_of common i k ≡ min (bit_of words i k) (bit_of other i k) = c.bits i k h' l in
    let x = bit_at-lt (slice_index words i) k in
    let y = bit_at-lt (slice_index other i) k in (
      (λ z. ⊎_elim
          (λ (e : bit_of words i k ≡ 0). let p = lost_some traces i k ((a i k h' l).0 e) in lost_by (traces ++ others) p.0 i k (Contains-append_left traces others p.0 p.1) p.2)
          (λ (e : bit_of words i k ≡ 0 → ⊥). let f : bit_of other i k ≡ 0 = omega arith in let p = lost_some others i k ((b i k o' l).0 f) in lost_by (traces ++ others) p.0 i k (Contains-append_right traces others p.0 p.1) p.2)
          (cases_eq (bit_of words i k) 0)),
      (λ p. let q = lost_some (traces ++ others) i k p in ⊎_elim
          (λ (o : Contains traces q.0). let e = (a i k h' l).1 (lost_by traces q.0 i k o q.2) in is ∙ omega arith)
          (λ (o : Contains others q.0). let e = (b i k o' l).1 (lost_by others q.0 i k o q.2) in is ∙ omega arith)
          (Contains-append_cases traces others q.0 q.1)),
    )

pub order_of_traces_is_free : OrderOfTracesIsFree
order_of_traces_is_free traces others words same a = record {
  bound = a.bound;
  bits = λ i b h l. (
    (λ z. let p = lost_some traces i b ((a.bits i b h l).0 z) in lost_by others p.0 i b (Contains-permutation traces others p.0 same p.1) p.2),
    (λ p. let q = lost_some others i b p in (a.bits i b h l).1 (lost_by traces q.0 i b (Contains-permutation others traces q.0 (IsPermutation-sym traces others same) q.1) q.2)),
  );
}

-- ---- wider words

abbrev pub PlacesFit : Type 0
PlacesFit = (names : ℕ) (r : Relation) → names ≤ 512 → IsRelation r → NamesBelow names r → ((place_of r).word < width_of names) × ((place_of r).bit < 64)

named : (names : ℕ) (t : NamedTrace) → HaveNamesBelow names t → (s : NamedSegment) (n : ℕ) → Contains t.segments s → s.name ≡ n → n < names
named names t h s n c e = let l : s.name < names = All-contains (λ (s : NamedSegment). s.name < names) t.segments s h c in omega arith

-- a trace refutes only relations between its own names
names_below : (names : ℕ) (t : NamedTrace) → HaveNamesBelow names t → (r : Relation) → Refutes r t → NamesBelow names r
names_below names t h (Before a b) f = (named names t h f.0 a f.2 f.4, named names t h f.1 b f.3 f.5)
names_below names t h (Exclusive a b) f = named names t h f.1 b f.3 f.5
names_below names t h (Apart a b) f = named names t h f.1 b f.3 f.5
names_below names t h (Pipe a b) f = tt
names_below names t h (Unshared a b) f = tt

behind : (words : List ℕ) (more i : ℕ) → i < length (widened_words words more) → length words ≤ i → i - length words < length (full_words more)
behind words more i h high = omega (arith, length-append words (full_words more))

pub widened_lacks : PlacesFit → WidenedLacks
widened_lacks fit traces words names more few named wide a = λ i b h l. ⊎_elim
    (λ (low : i < length words). let same : bit_of (widened_words words more) i b ≡ bit_of words i b = ap (λ (n : ℕ). bit_at n b) (get_or_append_left words (full_words more) 0 i low) in
    ((λ z. (a i b low l).0 (sym same ∙ z)), (λ p. same ∙ (a i b low l).1 p)))
    (λ (high : length words ≤ i). let one : bit_of (widened_words words more) i b ≡ 1 = ap (λ (n : ℕ). bit_at n b) (get_or-append_right words (full_words more) (length words) i 0 refl high) ∙ full_bit more (i - length words) b (subst (λ (n : ℕ). i - length words < n) (full_length more) (behind words more i h high)) l in
    ((λ z. absurd (omega arith)), (λ p. absurd (beyond i b high p))))
    (cases_lt i (length words))
  where
    beyond : (i b : ℕ) → length words ≤ i → IsRefutedPlace traces i b → ⊥
    beyond i b high p =
        let q = lost_some traces i b p in
        let f = q.2 in
        let n = names_below names q.0 (All-contains (HaveNamesBelow names) traces q.0 named q.1) f.0 f.3 in
        let inside = (fit names f.0 few f.1 n).0 in
        let at : (place_of f.0).word ≡ i = ap (λ (x : BitPlace). x.word) f.2 in
        omega arith

pub widened_survive : PlacesFit → WidenedSurvive
widened_survive fit traces words names more few named wide a = record {
  bound = λ i h. ⊎_elim
      (λ (low : i < length words). subst (λ (n : ℕ). n < 2 ^ 64) (sym (get_or_append_left words (full_words more) 0 i low)) (a.bound i low))
      (λ (high : length words ≤ i). subst (λ (n : ℕ). n < 2 ^ 64) (sym (get_or-append_right words (full_words more) (length words) i 0 refl high)) (full_bound more (i - length words) (behind words more i h high)))
      (cases_lt i (length words));
  bits = widened_lacks fit traces words names more few named wide a.bits;
}

-- ---- one list of words

pub survivors_are_unique : MeetBegins → MeetIsUnique → SurvivorsAreUnique
survivors_are_unique begins unique traces words others a b long = unique words words others [] a.bound b.bound (begins words) (record {
  width = sym long;
  bits = λ i c h l.
      let x = bit_at-lt (slice_index words i) c in
      let y = bit_at-lt (slice_index others i) c in
      let p = a.bits i c h l in
      let q = b.bits i c (subst (λ (n : ℕ). i < n) long h) l in ⊎_elim
      (λ (z : bit_of words i c ≡ 0). let w = q.1 (p.0 z) in w ∙ sym z)
      (λ (z : bit_of words i c ≡ 0 → ⊥). ⊎_elim
      (λ (w : bit_of others i c ≡ 0). absurd (z (p.1 (q.0 w))))
      (λ (w : bit_of others i c ≡ 0 → ⊥). omega arith)
      (cases_eq (bit_of others i c) 0))
      (cases_eq (bit_of words i c) 0);
})
