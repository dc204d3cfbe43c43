-- The bytes of a file, piece by piece, on their way to an intake.
use Rattle.std.proofs.Common.{◌≡◌, ℕ, ◌+◌, ◌++◌, ◌<◌, ◌≤◌, List, [], ◌∷◌, length, take, Bool, true, false, arith, ap, refl, sym, subst, ◌∙◌, append-nil}
use Rattle.std.specs.Prelude.{if◌then◌else◌}
use Rattle.std.proofs.lemmas.List.{length-append}
use Rattle.mystery_io.specs.Input.{ended, ends_line, input_limit}
use Rattle.mystery_io.specs.Readings.{Reading, after_bytes, after_open}
use Rattle.mystery_io.specs.declared.feeder.Feeder.{Feeder}
use Rattle.mystery_io.specs.declared.reading.ReadFault.{ReadFault}
use Rattle.mystery_io.specs.declared.reading.ReadFault.TheVariants.{Memory, File, TooBig}
use Rattle.mystery_io.specs.inner.Feeding.{EndsLine, Feeds, FeedsBytes, FeedsFile, Holds}
use Rattle.mystery_io.specs.inner.FileCauses.{HasFileCause, HasRestCause, IsFaultAfter, IsPassedByFeed}
use Rattle.mystery_io.proofs.FeedLemmas.{counted_none, feeds_both}
use Rattle.mystery_io.proofs.GivenLemmas.{both_came, none_came, opened_came, reading}

module _ {I : Type 0} (took : I → List ℕ → Type 0) where
  pub feeds_none : (f : Feeder I) (given : List Reading) → FeedsBytes took f f given given false
  feeds_none f given = record { more = []; feeds = counted_none took f; given = sym (none_came given) }

  -- bytes came after others
  pub feeds_on : (f g h : Feeder I) (before mid now : List Reading) (ends : Bool) → FeedsBytes took f g before mid false → FeedsBytes took g h mid now ends → FeedsBytes took f h before now ends
  feeds_on f g h before mid now ends a b = record {
    more = a.more ++ b.more;
    feeds = feeds_both took f g h a.more b.more a.feeds b.feeds;
    given = b.given ∙ ap (λ rs. after_bytes rs b.more ends) a.given ∙ both_came before a.more b.more false ends;
  }

  -- a line feed came where the last line had not ended
  pub line_ended : (f g : Feeder I) → f.ends_line ≡ false → Feeds took f (10 ∷ []) g → g.ends_line ≡ true
  line_ended f g unended h = h.ended (0 ∷ []) unended

  pub feed_came : (f g : Feeder I) → f.ends_line ≡ false → Feeds took f (10 ∷ []) g → EndsLine took f g
  feed_came f g unended h = subst (λ b. Feeds took f (if b then [] else 10 ∷ []) g) (sym unended) h

  pub no_feed_came : (f : Feeder I) → f.ends_line ≡ true → EndsLine took f f
  no_feed_came f done = subst (λ b. Feeds took f (if b then [] else 10 ∷ []) f) (sym done) (counted_none took f)

  ended_is : (more : List ℕ) → more ++ (if ends_line more then [] else 10 ∷ []) ≡ ended more
  ended_is more = by (ends_line more) refl
    where
      by : (b : Bool) → ends_line more ≡ b → more ++ (if ends_line more then [] else 10 ∷ []) ≡ ended more
      by true e = rw e (append-nil more)
      by false e = rw e refl

  ended_feeds : (f g h : Feeder I) (more : List ℕ) → f.ends_line ≡ true → Feeds took f more g → EndsLine took g h → Feeds took f (ended more) h
  ended_feeds f g h more lines a b =
      let last : g.ends_line ≡ ends_line more = a.ended [] lines in
      subst (λ xs. Feeds took f xs h) (ended_is more) (feeds_both took f g h more (if ends_line more then [] else 10 ∷ []) a (subst (λ b. Feeds took g (if b then [] else 10 ∷ []) h) last b))

  -- a file was opened and read to its end, and its last line ended
  pub file_came : (f g h : Feeder I) (name : List ℕ) (before mid now : List Reading) → f.ends_line ≡ true → mid ≡ after_open before name → FeedsBytes took f g mid now true → EndsLine took g h → FeedsFile took f h name before now
  file_came f g h name before mid now lines opened a b = record {
    more = a.more;
    feeds = ended_feeds f g h a.more lines a.feeds b;
    given = opened_came before mid now name a.more true opened a.given;
  }

  -- the line feed passes the limit
  too_big : (f g : Feeder I) (more : List ℕ) → f.ends_line ≡ true → Feeds took f more g → IsPassedByFeed g.count g.ends_line TooBig → input_limit < f.count + length (ended more)
  too_big f g more lines a h =
      let unended : ends_line more ≡ false = sym (a.ended [] lines) ∙ h.1 in
      let longer : length (ended more) ≡ length more + 1 = rw unended (length-append more (10 ∷ [])) in
      omega (arith, longer, a.counted, h.0)

  why_passed : (f g : Feeder I) (e : ReadFault) (index : ℕ) (more : List ℕ) → f.ends_line ≡ true → Feeds took f more g → IsPassedByFeed g.count g.ends_line e → IsFaultAfter index f.count (length (ended more)) e
  why_passed f g Memory index more lines a h = tt
  why_passed f g (File i) index more lines a h = absurd h
  why_passed f g TooBig index more lines a h = too_big f g more lines a h

  pub passed_by_feed : (f g : Feeder I) (e : ReadFault) (index : ℕ) (name : List ℕ) (before mid now : List Reading) → f.ends_line ≡ true → mid ≡ after_open before name → FeedsBytes took f g mid now true → IsPassedByFeed g.count g.ends_line e
      → HasFileCause index f.count name before now e
  passed_by_feed f g e index name before mid now lines opened a h = record {
    reading = reading name a.more true;
    named = refl;
    given = opened_came before mid now name a.more true opened a.given;
    why = why_passed f g e index a.more lines a.feeds h;
  }

-- a fault after bytes that came, as seen from before them
why_earlier : (e : ReadFault) (index n k : ℕ) (read more : List ℕ) → k ≡ n + length read → IsFaultAfter index k (length more) e → IsFaultAfter index n (length (read ++ more)) e
why_earlier Memory index n k read more is h = tt
why_earlier (File i) index n k read more is h = (h.0, omega (arith, h.1, is, length-append read more))
why_earlier TooBig index n k read more is h = omega (arith, h, is, length-append read more)

pub cause_earlier : (e : ReadFault) (index n k : ℕ) (read : List ℕ) (before mid now : List Reading) → mid ≡ after_bytes before read false → k ≡ n + length read → HasRestCause index k mid now e → HasRestCause index n before now e
cause_earlier e index n k read before mid now came is h = record {
  more = read ++ h.more;
  given = h.given ∙ ap (λ rs. after_bytes rs h.more false) came ∙ both_came before read h.more false false;
  why = why_earlier e index n k read h.more is h.why;
}

-- no byte came before the fault
pub cause_at_once : (e : ReadFault) (index n : ℕ) (before now : List Reading) → now ≡ before → IsFaultAfter index n 0 e → HasRestCause index n before now e
cause_at_once e index n before now same why = record { more = []; given = same ∙ sym (none_came before); why = why }

-- a fault while the file was read, after it was opened
pub cause_opened : (e : ReadFault) (index count : ℕ) (name : List ℕ) (before mid now : List Reading) → mid ≡ after_open before name → HasRestCause index count mid now e → HasFileCause index count name before now e
cause_opened e index count name before mid now opened h = record {
  reading = reading name h.more false;
  named = refl;
  given = opened_came before mid now name h.more false opened h.given;
  why = h.why;
}

-- the file was not opened
pub cause_unopened : (index count : ℕ) (name : List ℕ) (before now : List Reading) → now ≡ after_open before name → count ≤ input_limit → HasFileCause index count name before now (File index)
cause_unopened index count name before now opened le = record {
  reading = reading name [] false;
  named = refl;
  given = opened;
  why = (refl, omega (arith, le));
}

-- with no byte in the buffer all were taken
pub all_taken : {I : Type 0} (took : I → List ℕ → Type 0) (f : Feeder I) (bytes : List ℕ) → Holds took f bytes → f.filled ≡ 0 → took f.intake bytes
all_taken took f bytes h none = subst (took f.intake) (sym (h.joined ∙ ap (λ n. h.taken ++ take n f.buffer.items) none ∙ append-nil h.taken)) h.before
