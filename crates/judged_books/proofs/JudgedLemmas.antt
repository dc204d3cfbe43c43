-- What the words of a judged book tell of names and of tasks.
use Rattle.std.proofs.Common.{◌≡◌, ◌≢◌, ◌⊎◌, ◌↔◌, ℕ, ◌+◌, ◌<◌, ◌≤◌, min, max, Bool, true, false, true≢false, ◌||◌, List, [], ◌∷◌, length, Some, refl, sym, ap, ◌∙◌, subst, ⊎_elim, inl, inr, arith}
use Rattle.std.specs.Prelude.{Contains, if◌then◌else◌, slice_get}
use Rattle.std.specs.List.{enumerate_from}
use Rattle.std.proofs.lemmas.Bool.{cases_lt, cases_order}
use Rattle.std.proofs.lemmas.List.{length-append}
use Rattle.std.proofs.lemmas.Nat.Bits.{bit_at-lt}
use Rattle.std.proofs.lemmas.Option.{slice_get_within}
use Rattle.hypothesis_index.specs.Places.{IsRelation, NamesBelow, pairs_below, place_of, width_of}
use Rattle.hypothesis_index.specs.Refuting.{IsPlaceOfSome, Refutes}
use Rattle.hypothesis_index.specs.declared.relation.Relation.{Relation}
use Rattle.hypothesis_index.specs.declared.relation.Relation.TheVariants.{Before, Exclusive, Apart, Pipe, Unshared}
use Rattle.model_meet.specs.RelationBits.{bit_between, relation_bit}
use Rattle.segment_names.specs.Known.{Known}
use Rattle.session_rules.specs.KeptTraces.{Kept, by_kept}
use Rattle.trace_types.proofs.ElementLemmas.{one_item, one_place}
use Rattle.trace_types.specs.Parts.{by_number}
use Rattle.trace_types.specs.Pipelines.{RefutesUnshared}
use Rattle.trace_types.specs.Refuting.{RefutesApart, RefutesExclusive}
use Rattle.trace_types.specs.Renaming.{LeaveAlike}
use Rattle.trace_types.specs.Segments.{SegmentName}
use Rattle.trace_types.specs.Surviving.{IsRefuted}
use Rattle.word_rows.proofs.CloseLemmas.{one_bit}
use Rattle.word_rows.proofs.OpeningLemmas.{one_not_zero}
use Rattle.word_rows.specs.Meeting.{BelowWider}
use Rattle.word_rows.specs.Rows.{below, clears}
use Rattle.word_rows.specs.Words.{IsMeet, bit_of}
use Rattle.word_rows.specs.declared.entries.Entry.{Entry}
use Rattle.digest_facts.specs.Digests.{Digest}
use Rattle.model_meet.proofs.TellingLemmas.{refuted_alike}
use Rattle.kept_books.specs.KeptBooks.{traces_in}
use Rattle.judged_books.specs.GivenDigests.{IsListed}
use Rattle.judged_books.specs.JudgedBooks.{IsJudgedOf, JudgedState}
use Rattle.session_rules.specs.GivenDigests.{SurvivesUnder, known_under}
use Rattle.judged_books.specs.JudgedLaws.{AreJudgedWords}

abbrev pub D : Type 0
D = Digest SegmentName (List ℕ)

-- ---- what the laws say
pub record HasPlaces : Type 0 where
  pub differ : (r s : Relation) → IsRelation r → IsRelation s → place_of r ≡ place_of s → r ≡ s
  pub fit : (names : ℕ) (r : Relation) → names ≤ 512 → IsRelation r → NamesBelow names r → ((place_of r).word < width_of names) × ((place_of r).bit < 64)
  pub follow : (high higher : ℕ) → high < higher → (pairs_below high + high) ≤ pairs_below higher
  pub wider : BelowWider

pub record AreSymmetric : Type 0 where
  pub exclusive : (a b : SegmentName) (k : Kept) → RefutesExclusive by_kept a b k ↔ RefutesExclusive by_kept b a k
  pub apart : (a b : SegmentName) (k : Kept) → RefutesApart by_kept a b k ↔ RefutesApart by_kept b a k
  pub unshared : (t u : List ℕ) (k : Kept) → RefutesUnshared by_kept t u k ↔ RefutesUnshared by_kept u t k

pub record AreNumbered (known : Known) : Type 0 where
  pub names : (k : ℕ) (x : SegmentName) → Contains (enumerate_from 0 known.names) (k, x) ↔ (slice_get known.names k ≡ Some x)
  pub tasks : (k : ℕ) (x : List ℕ) → Contains (enumerate_from 0 known.tasks) (k, x) ↔ (slice_get known.tasks k ≡ Some x)

-- more names have no fewer words
pub width_rises : HasPlaces → (few many : ℕ) → few ≤ many → width_of few ≤ width_of many
width_rises p few many le = ⊎_elim
    (λ (lt : few < many). let f = p.follow few many lt in omega (arith, f))
    (λ (ge : many ≤ few). let e : few ≡ many = omega (arith, le, ge) in subst (λ (n : ℕ). width_of few ≤ width_of n) e (omega arith))
    (cases_lt few many)

module _ (p : HasPlaces) (j : JudgedState) (given : D) (kept : List Kept) (h : IsJudgedOf j given kept) (numbered : AreNumbered j.book.known) (symmetric : AreSymmetric)
    (alike : LeaveAlike by_number by_kept (enumerate_from 0 j.book.known.names) (enumerate_from 0 j.book.known.tasks) (traces_in j.book) kept) where
  few : length j.book.known.names ≤ 512
  few = h.judged.book.known.few_names

  fits : below (length j.words) j.given.row ≡ true
  fits =
      let long : length j.book.known.names ≡ length given.names + length h.begins.more_names = ap (λ (l : List SegmentName). length l) h.begins.names ∙ length-append given.names h.begins.more_names in
      let le : width_of (length given.names) ≤ width_of (length j.book.known.names) = width_rises p (length given.names) (length j.book.known.names) (omega (arith, long)) in
      let w : width_of (length given.names) ≤ length j.words = omega (arith, le, h.judged.width) in
      p.wider (width_of (length given.names)) (length j.words) j.given.row w h.given.within

  at_place : (P : Relation → Type 0) (r : Relation) → IsRelation r → IsPlaceOfSome P (place_of r).word (place_of r).bit → P r
  at_place P r is (q, v, e, f) = subst P (p.differ q r v is e) f

  -- a bit is 0 exactly where a trace refutes its relation or the digest lists it
  zero_is : (r : Relation) → IsRelation r → NamesBelow (length j.book.known.names) r → (relation_bit j.words r ≡ 0) ↔ (IsRefuted (Refutes r) (traces_in j.book) ⊎ IsListed j.book.known given r)
  zero_is r is names =
      let f = p.fit (length j.book.known.names) r few is names in
      let inside : (place_of r).word < length j.words = subst (λ (k : ℕ). (place_of r).word < k) (sym h.judged.width) f.0 in
      let at = h.judged.bits fits (place_of r).word (place_of r).bit inside f.1 in
      let row = h.given.clears j.book.known h.judged.book.known h.begins (place_of r).word (place_of r).bit in (
        (λ z. ⊎_elim
            (λ (o : IsPlaceOfSome (λ q. IsRefuted (Refutes q) (traces_in j.book)) (place_of r).word (place_of r).bit). inl (at_place (λ q. IsRefuted (Refutes q) (traces_in j.book)) r is o))
            (λ (o : clears j.given.row (place_of r).word (place_of r).bit ≡ true). inr (at_place (λ q. IsListed j.book.known given q) r is (row.0 o)))
            (at.0 z)),
        (λ s. at.1 (⊎_elim
            (λ (o : IsRefuted (Refutes r) (traces_in j.book)). inl (r, is, refl, o))
            (λ (o : IsListed j.book.known given r). inr (row.1 (r, is, refl, o)))
            s)),
      )

  -- a bit is 0 or 1
  one_is : (r : Relation) (P : Type 0) → (relation_bit j.words r ≡ 0) ↔ P → (relation_bit j.words r ≡ 1) ↔ (P → ⊥)
  one_is r P z = (
    (λ one f. one_not_zero (relation_bit j.words r) one (z.1 f)),
    (λ n. one_bit (relation_bit j.words r) (bit_at-lt _ (place_of r).bit) (λ e. n (z.0 e))),
  )

  -- ---- numbers and texts
  module _ (m n : ℕ) (a b : SegmentName) (f : slice_get j.book.known.names m ≡ Some a) (g : slice_get j.book.known.names n ≡ Some b) where
    below_first : m < length j.book.known.names
    below_first = slice_get_within j.book.known.names m a f

    below_second : n < length j.book.known.names
    below_second = slice_get_within j.book.known.names n b g

    pub numbers_differ : a ≢ b → m ≢ n
    numbers_differ other e = other (one_item j.book.known.names n a b (subst (λ (k : ℕ). slice_get j.book.known.names k ≡ Some a) e f) g)

    pub texts_differ : m ≢ n → a ≢ b
    texts_differ other e = other (one_place j.book.known.names h.judged.book.known.names_differ m n b (subst (λ (x : SegmentName). slice_get j.book.known.names m ≡ Some x) e f) g)

    listed_to : (pairs : List (SegmentName × SegmentName)) → ((x : SegmentName) × (y : SegmentName) × (slice_get j.book.known.names m ≡ Some x) × (slice_get j.book.known.names n ≡ Some y) × Contains pairs (x, y)) → Contains pairs (a, b)
    listed_to pairs (x, y, e, i, c) = subst (λ (v : SegmentName). Contains pairs (v, b)) (one_item j.book.known.names m x a e f) (subst (λ (v : SegmentName). Contains pairs (x, v)) (one_item j.book.known.names n y b i g) c)

    pub before_zero : m ≢ n → (relation_bit j.words (Before m n) ≡ 0) ↔ (known_under given kept).before a b
    before_zero other =
        let z = zero_is (Before m n) (other, omega (arith, below_first, few), omega (arith, below_second, few)) (below_first, below_second) in
        let s = alike.before.refuted m n a b ((numbered.names m a).1 f) ((numbered.names n b).1 g) in (
          (λ e. ⊎_elim (λ (o : IsRefuted (Refutes (Before m n)) (traces_in j.book)). inr (s.0 o)) (λ (o : IsListed j.book.known given (Before m n)). inl (listed_to given.before o)) (z.0 e)),
          (λ o. z.1 (⊎_elim (λ (c : Contains given.before (a, b)). inr (a, b, f, g, c)) (λ c. inl (s.1 c)) o)),
        )

    exclusive_zero : m < n → (relation_bit j.words (Exclusive m n) ≡ 0) ↔ (known_under given kept).exclusive a b
    exclusive_zero less =
        let z = zero_is (Exclusive m n) (less, omega (arith, below_second, few)) below_second in
        let s = alike.exclusive.refuted m n a b ((numbered.names m a).1 f) ((numbered.names n b).1 g) in (
          (λ e. ⊎_elim (λ (o : IsRefuted (Refutes (Exclusive m n)) (traces_in j.book)). inr (s.0 o)) (λ (o : IsListed j.book.known given (Exclusive m n)). inl (listed_to given.exclusive o)) (z.0 e)),
          (λ o. z.1 (⊎_elim (λ (c : Contains given.exclusive (a, b)). inr (a, b, f, g, c)) (λ c. inl (s.1 c)) o)),
        )

    apart_zero : m < n → (relation_bit j.words (Apart m n) ≡ 0) ↔ (known_under given kept).apart a b
    apart_zero less =
        let z = zero_is (Apart m n) (less, omega (arith, below_second, few)) below_second in
        let s = alike.apart.refuted m n a b ((numbered.names m a).1 f) ((numbered.names n b).1 g) in (
          (λ e. ⊎_elim (λ (o : IsRefuted (Refutes (Apart m n)) (traces_in j.book)). inr (s.0 o)) (λ (o : IsListed j.book.known given (Apart m n)). inl (listed_to given.together o)) (z.0 e)),
          (λ o. z.1 (⊎_elim (λ (c : Contains given.together (a, b)). inr (a, b, f, g, c)) (λ c. inl (s.1 c)) o)),
        )

  -- what does not depend on the order of the two
  exclusive_turned : (a b : SegmentName) → (known_under given kept).exclusive a b → (known_under given kept).exclusive b a
  exclusive_turned a b (inl c) = inl (h.given.table.coherent.turned a b c)
  exclusive_turned a b (inr r) = inr ((refuted_alike (RefutesExclusive by_kept a b) (RefutesExclusive by_kept b a) (symmetric.exclusive a b) kept).0 r)

  apart_turned : (a b : SegmentName) → (known_under given kept).apart a b → (known_under given kept).apart b a
  apart_turned a b (inl c) = inl (h.given.table.coherent.together.turned a b c)
  apart_turned a b (inr r) = inr ((refuted_alike (RefutesApart by_kept a b) (RefutesApart by_kept b a) (symmetric.apart a b) kept).0 r)

  unshared_turned : (t u : List ℕ) → (known_under given kept).unshared t u → (known_under given kept).unshared u t
  unshared_turned t u (inl c) = inl (h.given.table.coherent.shared.turned t u c)
  unshared_turned t u (inr r) = inr ((refuted_alike (RefutesUnshared by_kept t u) (RefutesUnshared by_kept u t) (symmetric.unshared t u) kept).0 r)

  at_between : (R : ℕ → ℕ → Relation) (m n low high : ℕ) → low ≡ min m n → high ≡ max m n → (P : Type 0) → (relation_bit j.words (R low high) ≡ 0) ↔ P → (bit_between j.words R m n ≡ 0) ↔ P
  at_between R m n low high e f P z = (
    (λ o. z.0 (subst (λ (k : ℕ). relation_bit j.words (R k high) ≡ 0) (sym e) (subst (λ (k : ℕ). relation_bit j.words (R (min m n) k) ≡ 0) (sym f) o))),
    (λ o. subst (λ (k : ℕ). relation_bit j.words (R (min m n) k) ≡ 0) f (subst (λ (k : ℕ). relation_bit j.words (R k high) ≡ 0) e (z.1 o))),
  )

  swapped : {P Q : Type 0} {X : Type 0} → X ↔ P → (P → Q) → (Q → P) → X ↔ Q
  swapped z to back = ((λ x. to (z.0 x)), (λ q. z.1 (back q)))

  module _ (m n : ℕ) (a b : SegmentName) (f : slice_get j.book.known.names m ≡ Some a) (g : slice_get j.book.known.names n ≡ Some b) (other : m ≢ n) where
    pub exclusive_between : (bit_between j.words Exclusive m n ≡ 0) ↔ (known_under given kept).exclusive a b
    exclusive_between = ⊎_elim (λ (e : m ≡ n). absurd (other e)) (λ (o : (m < n) ⊎ (n < m)). ⊎_elim
        (λ (lt : m < n). at_between Exclusive m n m n (omega (arith, lt)) (omega (arith, lt)) ((known_under given kept).exclusive a b) (exclusive_zero m n a b f g lt))
        (λ (lt : n < m). at_between Exclusive m n n m (omega (arith, lt)) (omega (arith, lt)) ((known_under given kept).exclusive a b) (swapped (exclusive_zero n m b a g f lt) (exclusive_turned b a) (exclusive_turned a b)))
        o) (cases_order m n)

    pub apart_between : (bit_between j.words Apart m n ≡ 0) ↔ (known_under given kept).apart a b
    apart_between = ⊎_elim (λ (e : m ≡ n). absurd (other e)) (λ (o : (m < n) ⊎ (n < m)). ⊎_elim
        (λ (lt : m < n). at_between Apart m n m n (omega (arith, lt)) (omega (arith, lt)) ((known_under given kept).apart a b) (apart_zero m n a b f g lt))
        (λ (lt : n < m). at_between Apart m n n m (omega (arith, lt)) (omega (arith, lt)) ((known_under given kept).apart a b) (swapped (apart_zero n m b a g f lt) (apart_turned b a) (apart_turned a b)))
        o) (cases_order m n)

    exclusive_kept : (bit_between j.words Exclusive m n ≡ 1) ↔ SurvivesUnder given kept a b
    exclusive_kept = one_is (Exclusive (min m n) (max m n)) ((known_under given kept).exclusive a b) exclusive_between

  -- ---- tasks
  module _ (t u : ℕ) (v w : List ℕ) (f : slice_get j.book.known.tasks t ≡ Some v) (g : slice_get j.book.known.tasks u ≡ Some w) where
    task_first : t < 64
    task_first = let lt = slice_get_within j.book.known.tasks t v f in omega (arith, lt, h.judged.book.known.few_tasks)

    task_second : u < 64
    task_second = let lt = slice_get_within j.book.known.tasks u w g in omega (arith, lt, h.judged.book.known.few_tasks)

    task_numbers_differ : v ≢ w → t ≢ u
    task_numbers_differ other e = other (one_item j.book.known.tasks u v w (subst (λ (k : ℕ). slice_get j.book.known.tasks k ≡ Some v) e f) g)

    task_texts_differ : t ≢ u → v ≢ w
    task_texts_differ other e = other (one_place j.book.known.tasks h.judged.book.known.tasks_differ t u w (subst (λ (x : List ℕ). slice_get j.book.known.tasks t ≡ Some x) e f) g)

    task_listed : (pairs : List (List ℕ × List ℕ)) → ((x : List ℕ) × (y : List ℕ) × (slice_get j.book.known.tasks t ≡ Some x) × (slice_get j.book.known.tasks u ≡ Some y) × Contains pairs (x, y)) → Contains pairs (v, w)
    task_listed pairs (x, y, e, i, c) = subst (λ (z : List ℕ). Contains pairs (z, w)) (one_item j.book.known.tasks t x v e f) (subst (λ (z : List ℕ). Contains pairs (x, z)) (one_item j.book.known.tasks u y w i g) c)

    pub pipe_zero : t ≢ u → (relation_bit j.words (Pipe t u) ≡ 0) ↔ (known_under given kept).pipe v w
    pipe_zero other =
        let z = zero_is (Pipe t u) (other, task_first, task_second) tt in
        let s = alike.pipe.refuted t u v w ((numbered.tasks t v).1 f) ((numbered.tasks u w).1 g) in (
          (λ e. ⊎_elim (λ (o : IsRefuted (Refutes (Pipe t u)) (traces_in j.book)). inr (s.0 o)) (λ (o : IsListed j.book.known given (Pipe t u)). inl (task_listed given.pipe o)) (z.0 e)),
          (λ o. z.1 (⊎_elim (λ (c : Contains given.pipe (v, w)). inr (v, w, f, g, c)) (λ c. inl (s.1 c)) o)),
        )

    unshared_zero : t < u → (relation_bit j.words (Unshared t u) ≡ 0) ↔ (known_under given kept).unshared v w
    unshared_zero less =
        let z = zero_is (Unshared t u) (less, task_second) tt in
        let s = alike.unshared.refuted t u v w ((numbered.tasks t v).1 f) ((numbered.tasks u w).1 g) in (
          (λ e. ⊎_elim (λ (o : IsRefuted (Refutes (Unshared t u)) (traces_in j.book)). inr (s.0 o)) (λ (o : IsListed j.book.known given (Unshared t u)). inl (task_listed given.shared o)) (z.0 e)),
          (λ o. z.1 (⊎_elim (λ (c : Contains given.shared (v, w)). inr (v, w, f, g, c)) (λ c. inl (s.1 c)) o)),
        )

  pub unshared_between : (t u : ℕ) (v w : List ℕ) → slice_get j.book.known.tasks t ≡ Some v → slice_get j.book.known.tasks u ≡ Some w → t ≢ u → (bit_between j.words Unshared t u ≡ 0) ↔ (known_under given kept).unshared v w
  unshared_between t u v w f g other = ⊎_elim (λ (e : t ≡ u). absurd (other e)) (λ (o : (t < u) ⊎ (u < t)). ⊎_elim
      (λ (lt : t < u). at_between Unshared t u t u (omega (arith, lt)) (omega (arith, lt)) ((known_under given kept).unshared v w) (unshared_zero t u v w f g lt))
      (λ (lt : u < t). at_between Unshared t u u t (omega (arith, lt)) (omega (arith, lt)) ((known_under given kept).unshared v w) (swapped (unshared_zero u t w v g f lt) (unshared_turned w v) (unshared_turned v w)))
      o) (cases_order t u)

  pub words_tell : AreJudgedWords j.book.known given kept j.words
  words_tell = record {
    excludes = λ m n a b other f g. exclusive_kept m n a b f g other;
    ordered = λ m n a b f g. (
      (λ o. record {
        differ = texts_differ m n a b f g o.differ;
        together = (apart_between m n a b f g o.differ).0 o.together;
        survives = (one_is (Before m n) ((known_under given kept).before a b) (before_zero m n a b f g o.differ)).0 o.survives;
      }),
      (λ o. let other = numbers_differ m n a b f g o.differ in record {
        differ = other;
        together = (apart_between m n a b f g other).1 o.together;
        survives = (one_is (Before m n) ((known_under given kept).before a b) (before_zero m n a b f g other)).1 o.survives;
      }),
    );
    unordered = λ m n a b f g less. (
      (λ o. record {
        differ = texts_differ m n a b f g o.differ;
        rises = less;
        together = (apart_between m n a b f g o.differ).0 o.together;
        survives = (exclusive_kept m n a b f g o.differ).0 o.survives;
        not_before = (before_zero m n a b f g o.differ).0 o.not_before;
        not_after = (before_zero n m b a g f (λ e. o.differ (sym e))).0 o.not_after;
      }),
      (λ o. let other = numbers_differ m n a b f g o.differ in record {
        differ = other;
        together = (apart_between m n a b f g other).1 o.together;
        survives = (exclusive_kept m n a b f g other).1 o.survives;
        not_before = (before_zero m n a b f g other).1 o.not_before;
        not_after = (before_zero n m b a g f (λ e. other (sym e))).1 o.not_after;
      }),
    );
    piped = λ t u v w f g. (
      (λ o. record {
        differ = task_texts_differ t u v w f g o.differ;
        shared = (unshared_between t u v w f g o.differ).0 o.shared;
        survives = (one_is (Pipe t u) ((known_under given kept).pipe v w) (pipe_zero t u v w f g o.differ)).0 o.survives;
      }),
      (λ o. let other = task_numbers_differ t u v w f g o.differ in record {
        differ = other;
        shared = (unshared_between t u v w f g other).1 o.shared;
        survives = (one_is (Pipe t u) ((known_under given kept).pipe v w) (pipe_zero t u v w f g other)).1 o.survives;
      }),
    );
  }

-- ---- the words of a judged book
-- what a meet with one row lacks
pub met_bits : (old new : List ℕ) (row : List Entry) (i b : ℕ) (P : Type 0) → IsMeet old (row ∷ []) new → i < length old → b < 64 → (bit_of old i b ≡ 0) ↔ P → (bit_of new i b ≡ 0) ↔ (P ⊎ (clears row i b ≡ true))
met_bits old new row i b P meet inside small z = by (clears row i b) (meet.bits i b inside small)
  where
    by : (c : Bool) → bit_of new i b ≡ (if (c || false) then 0 else bit_of old i b) → (bit_of new i b ≡ 0) ↔ (P ⊎ (c ≡ true))
    by true q = ((λ n. inr refl), (λ s. q))
    by false q = (
      (λ n. inl (z.0 (sym q ∙ n))),
      (λ s. q ∙ ⊎_elim (λ (p : P). z.1 p) (λ (t : false ≡ true). absurd (true≢false (sym t))) s),
    )
