-- A session that begins, and the kept traces of one that are judged together with its given digest.
use Rattle.std.proofs.Common.{◌≡◌, ℕ, List, [], length, refl, sym, ap, ◌∙◌, subst}
use Rattle.day_partitions.specs.Books as books
use Rattle.day_partitions.specs.Books.{BookState, all_traces, with_names}
use Rattle.book_laws.specs.Shown.{AreShown}
use Rattle.digest_facts.specs.Digests.{Digest}
use Rattle.digest_facts.specs.Tables.{Table}
use Rattle.digest_merging.specs.Merges.{IsGivenTable, IsTableOf}
use Rattle.judged_books.specs.GivenDigests.{BeginsWith, GivenState, IsGivenOf, known_of}
use Rattle.judged_books.specs.JudgedBooks.{IsJudgedBook, IsJudgedOf, JudgedState}
use Rattle.kept_books.specs.KeptBooks.{KeptState, traces_in, under_catalogue}
use Rattle.segment_names.specs.Known.{Known}
use Rattle.session_rules.specs.Sessions.{State, first_state}
use Rattle.trace_types.specs.Segments.{SegmentName}
use Rattle.session.proofs.AddingLemmas.{session_of}
use Rattle.session.proofs.GivenLemmas.{begins, traces_fit}
use Rattle.session.specs.SessionStates.{SessionState, Shows}

-- a session without traces over the catalogue of a given digest
pub shows_first : (u : Table SegmentName (List ℕ)) → IsGivenTable u → (digest : Digest SegmentName (List ℕ)) → IsTableOf digest u → (workers : ℕ) (catalogue : Known) (days : BookState) (book : KeptState) (given : GivenState)
    → catalogue ≡ known_of digest → days ≡ books.book [] 0 0 → book ≡ under_catalogue catalogue days → IsGivenOf digest given → Shows (session_of workers book.known book.book given 0 0) (first_state digest)
shows_first u some digest table workers catalogue days book given known empty whole is =
    let same : book.known ≡ known_of digest = ap (λ (k : KeptState). k.known) whole ∙ known in record {
      known = same;
      watch = refl;
      grace = refl;
      traces = subst (λ (k : KeptState). AreShown k.known (traces_in k) []) (sym whole) (subst (λ (b : BookState). AreShown catalogue (all_traces (with_names b (length catalogue.names)).days) []) (sym empty) tt);
      given = is;
      begins = subst (BeginsWith digest) (sym same) (begins digest);
      counted = traces_fit u some digest table;
    }

-- the book of a session and its given digest, judged together
pub judged_of : (j : JudgedState) (workers : ℕ) (book : KeptState) (given : GivenState) (watch grace : ℕ) (session : SessionState) → session_of workers book.known book.book given watch grace ≡ session → j.book ≡ book → j.given ≡ given → IsJudgedBook j → (s : State) → Shows session s → IsJudgedOf j s.given s.kept
judged_of j workers book given watch grace session view same_book same_given judged s shown =
    let h : Shows (session_of workers book.known book.book given watch grace) s = subst (λ (x : SessionState). Shows x s) (sym view) shown in record {
      judged = judged;
      shown = subst (λ (b : KeptState). AreShown b.known (traces_in b) s.kept) (sym same_book) h.traces;
      given = subst (IsGivenOf s.given) (sym same_given) h.given;
      begins = subst (λ (b : KeptState). BeginsWith s.given b.known) (sym same_book) h.begins;
      counted = h.counted;
    }
