-- A book of kept traces and a given digest, and the words by which both judge.
use Rattle.std.specs.Prelude.{◌≡◌, ◌↔◌, ◌⊎◌, ℕ, ◌+◌, ◌^◌, ◌<◌, true, List, length}
use Rattle.hypothesis_index.specs.Places.{width_of}
use Rattle.refute_tests.specs.Survivors.{IsRefutedPlace}
use Rattle.trace_types.specs.Segments.{SegmentName}
use Rattle.word_rows.specs.Rows.{below, clears}
use Rattle.word_rows.specs.Words.{AreWords, bit_of}
use Rattle.digest_facts.specs.Digests.{Digest}
use Rattle.kept_books.specs.KeptBooks.{IsKeptBook, KeptState, traces_in}
use Rattle.session_rules.specs.KeptTraces.{Kept}
use Rattle.book_laws.specs.Shown.{AreShown}
use Rattle.judged_books.specs.GivenDigests.{BeginsWith, GivenState, IsGivenOf}

-- the book, the given digest, and the words that judge
pub record JudgedState : Type 0 where
  pub book : KeptState
  pub given : GivenState
  pub words : List ℕ

-- what every judged book keeps: words as many as the book's; where the given row fits them, a bit is 0
-- exactly where a trace of the book refutes its relation or the row clears it
pub record IsJudgedBook (j : JudgedState) : Type 0 where
  pub book : IsKeptBook j.book
  pub bound : AreWords j.words
  pub width : length j.words ≡ width_of (length j.book.known.names)
  pub bits : below (length j.words) j.given.row ≡ true → (i b : ℕ) → i < length j.words → b < 64
      → (bit_of j.words i b ≡ 0)
      ↔ (IsRefutedPlace (traces_in j.book) i b ⊎ (clears j.given.row i b ≡ true))

-- the book shows these kept traces under a catalogue that begins with the names and the tasks of
-- this given digest, and the traces of both can be counted
pub record IsJudgedOf (j : JudgedState) (digest : Digest SegmentName (List ℕ)) (kept : List Kept)
    : Type 0 where
  pub judged : IsJudgedBook j
  pub shown : AreShown j.book.known (traces_in j.book) kept
  pub given : IsGivenOf digest j.given
  pub begins : BeginsWith digest j.book.known
  pub counted : digest.traces + length kept < 2 ^ 64
