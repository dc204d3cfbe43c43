-- What the bits of a book's words tell of the kept traces, as those of a judged book without a given
-- digest.
use Rattle.std.proofs.Common.{◌≡◌, ◌≢◌, ◌⊎◌, ◌↔◌, ℕ, ◌<◌, ◌^◌, ◌||◌, ◌&&◌, ◌==◌, Bool, true, false, true≢false, List, [], ◌∷◌, length, Some, refl, sym, ◌∙◌, ⊎_elim, inl, inr, arith}
use Rattle.std.specs.Prelude.{Contains, slice_get}
use Rattle.std.specs.List.{enumerate_from}
use Rattle.std.specs.Int.{bit_at}
use Rattle.std.proofs.lemmas.Bool.{le-leb}
use Rattle.std.proofs.lemmas.Nat.Bits.{bit_at-zero}
use Rattle.std.proofs.lemmas.Slice.Zip.{AllZip-long}
use Rattle.hypothesis_index.specs.Places.{width_of}
use Rattle.hypothesis_index.specs.declared.relation.Relation.{Relation}
use Rattle.hypothesis_index.specs.declared.relation.Relation.TheVariants.{Before, Exclusive, Apart, Pipe, Unshared}
use Rattle.kept_books.specs.KeptBooks.{KeptState, traces_in}
use Rattle.model_meet.specs.RelationBits.{bit_between, relation_bit}
use Rattle.refute_tests.specs.Survivors.{IsRefutedPlace}
use Rattle.segment_names.specs.Known.{Known}
use Rattle.session_rules.specs.KeptTraces.{Kept, by_kept}
use Rattle.trace_types.specs.Parts.{by_number}
use Rattle.trace_types.specs.Renaming.{LeaveAlike}
use Rattle.trace_types.specs.Segments.{SegmentName}
use Rattle.word_rows.specs.Rows.{clears}
use Rattle.digest_facts.specs.Digests.{empty_digest}
use Rattle.digest_facts.specs.Facts.{facts_of}
use Rattle.digest_facts.proofs.UnionLemmas.{nil_has}
use Rattle.digest_merging.proofs.AllLemmas.{empty_table}
use Rattle.book_laws.specs.Shown.{AreShown, IsShown}
use Rattle.judged_books.specs.GivenDigests.{BeginsWith, GivenState, IsGivenOf, IsListed}
use Rattle.judged_books.specs.JudgedBooks.{IsJudgedOf, JudgedState}
use Rattle.judged_books.specs.inner.Copies.{IsSheetOfBook}
use Rattle.judged_books.proofs.JudgedLemmas.{AreNumbered, AreSymmetric, HasPlaces, apart_between, before_zero, exclusive_between, pipe_zero, unshared_between}

-- nothing is given, and nothing cleared
abbrev pub nothing : GivenState
nothing = record { table = record { traces = 0; days = []; tasks = []; names = [] }; row = record { word = 0; mask = 0 } ∷ [] }

nothing_cleared : (i b : ℕ) → clears (record { word = 0; mask = 0 } ∷ []) i b ≡ false
nothing_cleared i b = by (0 == i) b
  where
    by : (c : Bool) (m : ℕ) → ((c && (bit_at 0 m == 1)) || false) ≡ false
    by true m = rw (bit_at-zero m) refl
    by false m = refl

none_listed : (known : Known) (r : Relation) → IsListed known empty_digest r → ⊥
none_listed known (Before a b) (x, y, f, g, c) = nil_has (x, y) c
none_listed known (Exclusive a b) (x, y, f, g, c) = nil_has (x, y) c
none_listed known (Apart a b) (x, y, f, g, c) = nil_has (x, y) c
none_listed known (Pipe a b) (x, y, f, g, c) = nil_has (x, y) c
none_listed known (Unshared a b) (x, y, f, g, c) = nil_has (x, y) c

begins_anyhow : (known : Known) → BeginsWith empty_digest known
begins_anyhow known = record { more_names = known.names; more_tasks = known.tasks; names = refl; tasks = refl }

nothing_given : IsGivenOf empty_digest nothing
nothing_given = record {
  table = empty_table;
  within = rw (le-leb 1 (width_of 0) (omega arith)) refl;
  clears = λ known kept h i b. (
    (λ c. absurd (true≢false (sym c ∙ nothing_cleared i b))),
    (λ p. absurd (none_listed known p.0 p.3)),
  );
}

-- the book as a judged one
abbrev pub alone : KeptState → List ℕ → JudgedState
alone k words = record { book = k; given = nothing; words = words }

module _ (k : KeptState) (words : List ℕ) (kept : List Kept) (sheet : IsSheetOfBook k words) (shown : AreShown k.known (traces_in k) kept) where
  counted : length kept < 2 ^ 64
  counted = let n = AllZip-long (IsShown k.known) (traces_in k) kept shown in omega (arith, n, sheet.book.book.counted)

  pub judged_alone : IsJudgedOf (alone k words) empty_digest kept
  judged_alone = record {
    judged = record {
      book = sheet.book;
      bound = sheet.survivors.bound;
      width = sheet.width;
      bits = λ within i b lt small. let z = sheet.survivors.bits i b lt small in (
        (λ e. inl (z.0 e)),
        (λ s. ⊎_elim (λ (o : IsRefutedPlace (traces_in k) i b). z.1 o) (λ (o : clears nothing.row i b ≡ true). absurd (true≢false (sym o ∙ nothing_cleared i b))) s),
      );
    };
    shown = shown;
    given = nothing_given;
    begins = begins_anyhow k.known;
    counted = omega (arith, counted);
  }

  module _ (p : HasPlaces) (numbered : AreNumbered k.known) (symmetric : AreSymmetric) (alike : LeaveAlike by_number by_kept (enumerate_from 0 k.known.names) (enumerate_from 0 k.known.tasks) (traces_in k) kept) where
    -- what is refuted without a given digest is refuted by the traces
    alone_is : {X : Type 0} (pair : X × X) (P Q : Type 0) → Q ↔ (Contains [] pair ⊎ P) → Q ↔ P
    alone_is pair P Q h = (
      (λ q. ⊎_elim (λ (c : Contains [] pair). absurd (nil_has pair c)) (λ (o : P). o) (h.0 q)),
      (λ o. h.1 (inr o)),
    )

    module _ (m n : ℕ) (a b : SegmentName) (f : slice_get k.known.names m ≡ Some a) (g : slice_get k.known.names n ≡ Some b) (other : m ≢ n) where
      pub kept_before : (relation_bit words (Before m n) ≡ 0) ↔ (facts_of by_kept kept).before a b
      kept_before = alone_is (a, b) ((facts_of by_kept kept).before a b) (relation_bit words (Before m n) ≡ 0) (before_zero p (alone k words) empty_digest kept judged_alone numbered symmetric alike m n a b f g other)

      pub kept_exclusive : (bit_between words Exclusive m n ≡ 0) ↔ (facts_of by_kept kept).exclusive a b
      kept_exclusive = alone_is (a, b) ((facts_of by_kept kept).exclusive a b) (bit_between words Exclusive m n ≡ 0) (exclusive_between p (alone k words) empty_digest kept judged_alone numbered symmetric alike m n a b f g other)

      pub kept_apart : (bit_between words Apart m n ≡ 0) ↔ (facts_of by_kept kept).apart a b
      kept_apart = alone_is (a, b) ((facts_of by_kept kept).apart a b) (bit_between words Apart m n ≡ 0) (apart_between p (alone k words) empty_digest kept judged_alone numbered symmetric alike m n a b f g other)

    module _ (t u : ℕ) (v w : List ℕ) (f : slice_get k.known.tasks t ≡ Some v) (g : slice_get k.known.tasks u ≡ Some w) (other : t ≢ u) where
      pub kept_pipe : (relation_bit words (Pipe t u) ≡ 0) ↔ (facts_of by_kept kept).pipe v w
      kept_pipe = alone_is (v, w) ((facts_of by_kept kept).pipe v w) (relation_bit words (Pipe t u) ≡ 0) (pipe_zero p (alone k words) empty_digest kept judged_alone numbered symmetric alike t u v w f g other)

      pub kept_unshared : (bit_between words Unshared t u ≡ 0) ↔ (facts_of by_kept kept).unshared v w
      kept_unshared = alone_is (v, w) ((facts_of by_kept kept).unshared v w) (bit_between words Unshared t u ≡ 0) (unshared_between p (alone k words) empty_digest kept judged_alone numbered symmetric alike t u v w f g other)
