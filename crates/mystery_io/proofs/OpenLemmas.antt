-- Files that were read one after another, and what a fault of one tells of the whole.
use Rattle.std.proofs.Common.{◌≡◌, ℕ, ◌+◌, ◌≤◌, ◌<◌, ◌++◌, List, [], ◌∷◌, length, take, get_or, map, true, arith, ap, refl, sym, subst, ◌∙◌, append-nil}
use Rattle.std.proofs.lemmas.List.{length-append, length-map, length-take-le, take_at, take_more}
use Rattle.std.proofs.lemmas.List.Elements.{All-append, All-nil}
use Rattle.mystery_io.specs.Counts.{CountsCalls, counted_up}
use Rattle.mystery_io.specs.Input.{bytes_read, ended, input_limit, input_read}
use Rattle.mystery_io.specs.ReadFaults.{FilesSeen, HasReadCause, OpensFirst}
use Rattle.mystery_io.specs.Readings.{AreEnded, AreEndedBeforeLast, Reading, new_readings}
use Rattle.mystery_io.specs.declared.feeder.Feeder.{Feeder}
use Rattle.mystery_io.specs.declared.reading.ReadFault.{ReadFault}
use Rattle.mystery_io.specs.declared.reading.ReadFault.TheVariants.{Memory, File, TooBig}
use Rattle.mystery_io.specs.inner.Feeding.{FeedsFile, HasRead, Holds}
use Rattle.mystery_io.specs.inner.FileCauses.{HasFileCause, IsFaultAfter}
use Rattle.mystery_io.proofs.GivenLemmas.{all_ended, came_twice, ended_before, input_one, names_one, new_are, one_ended, reading}

-- one call of `open` more
pub calls_more : (i before mid now : ℕ) → CountsCalls i before mid → now ≡ counted_up mid → CountsCalls (i + 1) before now
calls_more i before mid now calls one = record { least = omega (arith, calls.least, one); most = omega (arith, calls.most, one) }

-- none was opened
pub opens_none : (seen : FilesSeen) (names : List (List ℕ)) → seen.opens_now ≡ seen.opens_before → seen.readings ≡ [] → OpensFirst seen names 0
opens_none seen names calls none = record {
  within = omega arith;
  counted = record { least = omega (arith, calls); most = omega (arith, calls) };
  named = ap (map (λ (r : Reading). r.name)) none;
  ended = subst AreEndedBeforeLast (sym none) tt;
}

module _ {I : Type 0} (took : I → List ℕ → Type 0) where
  pub none_read : (f : Feeder I) (names : List (List ℕ)) (before now : List Reading) → now ≡ before → Holds took f [] → f.count ≡ 0 → HasRead took f (take 0 names) before now
  none_read f names before now same holds none = record {
    readings = [];
    given = same ∙ sym (append-nil before);
    named = refl;
    ended = All-nil (λ (r : Reading). r.at_end ≡ true);
    holds = holds;
    counted = none;
  }

  -- one file more was read to its end
  pub file_read : (f g : Feeder I) (names : List (List ℕ)) (i : ℕ) (x : List ℕ) (before mid now : List Reading) → i < length names → x ≡ get_or names i x → HasRead took f (take i names) before mid → FeedsFile took f g x mid now
      → HasRead took g (take (i + 1) names) before now
  file_read f g names i x before mid now lt is a b =
      let r : Reading = reading x b.more true in
      record {
        readings = a.readings ++ r ∷ [];
        given = came_twice before mid now a.readings (r ∷ []) a.given b.given;
        named = names_one a.readings r ∙ ap (λ ns. ns ++ x ∷ []) a.named ∙ ap (λ y. take i names ++ y ∷ []) is ∙ sym (take_more names i x lt);
        ended = All-append (λ (q : Reading). q.at_end ≡ true) a.readings (r ∷ []) a.ended (one_ended x b.more);
        holds = subst (Holds took g) (sym (input_one a.readings r)) (b.feeds.all (input_read a.readings) a.holds);
        counted = omega (arith, b.feeds.counted, a.counted, ap length (input_one a.readings r), length-append (input_read a.readings) (ended b.more));
      }

  -- the files so far were opened
  pub opens_read : (f : Feeder I) (seen : FilesSeen) (names : List (List ℕ)) (i : ℕ) (before now : List Reading) → seen.readings ≡ new_readings before now → i ≤ length names → CountsCalls i seen.opens_before seen.opens_now
      → HasRead took f (take i names) before now → OpensFirst seen names i
  opens_read f seen names i before now saw le calls a =
      let same : seen.readings ≡ a.readings = saw ∙ new_are before now a.readings a.given in
      record {
        within = le;
        counted = calls;
        named = ap (map (λ (r : Reading). r.name)) same ∙ a.named;
        ended = subst AreEndedBeforeLast (sym same) (all_ended a.readings a.ended);
      }

  -- what holds once all were read
  pub input_is : (f : Feeder I) (names : List (List ℕ)) (before now : List Reading) (a : HasRead took f names before now) → input_read (new_readings before now) ≡ input_read a.readings
  input_is f names before now a = ap input_read (new_are before now a.readings a.given)

  pub ended_are : (f : Feeder I) (names : List (List ℕ)) (before now : List Reading) → HasRead took f names before now → AreEnded (new_readings before now)
  ended_are f names before now a = subst AreEnded (sym (new_are before now a.readings a.given)) a.ended

  -- what a fault of the file at an index tells of the whole input
  module _ (f : Feeder I) (seen : FilesSeen) (names : List (List ℕ)) (index i : ℕ) (x : List ℕ) (before mid now : List Reading) (lt : i < length names) (is : x ≡ get_or names i x) (saw : seen.readings ≡ new_readings before now)
      (calls : CountsCalls (i + 1) seen.opens_before seen.opens_now) (fits : f.count ≤ input_limit) (at : index ≡ i) (a : HasRead took f (take i names) before mid) where
    module _ (r : Reading) (named : r.name ≡ x) (given : now ≡ mid ++ r ∷ []) where
      came : seen.readings ≡ a.readings ++ r ∷ []
      came = saw ∙ new_are before now (a.readings ++ r ∷ []) (came_twice before mid now a.readings (r ∷ []) a.given given)

      opened : OpensFirst seen names (i + 1)
      opened = record {
        within = omega (arith, lt);
        counted = calls;
        named = ap (map (λ (q : Reading). q.name)) came ∙ names_one a.readings r ∙ ap (λ ns. ns ++ r.name ∷ []) a.named ∙ ap (λ y. take i names ++ y ∷ []) (named ∙ is) ∙ sym (take_more names i x lt);
        ended = subst AreEndedBeforeLast (sym came) (ended_before a.readings (r ∷ []) a.ended tt);
      }

      long : length (input_read seen.readings) ≡ f.count + length (bytes_read r)
      long = omega (arith, ap length (ap input_read came ∙ input_one a.readings r), length-append (input_read a.readings) (bytes_read r), a.counted)

      first : take i seen.readings ≡ a.readings
      first =
          let n : length a.readings ≡ i = omega (arith, length-map a.readings (λ (q : Reading). q.name), ap length a.named, length-take-le i names (omega (arith, lt))) in
          ap (λ (rs : List Reading). take i rs) came ∙ take_at a.readings (r ∷ []) i n

      cause : (e : ReadFault) → IsFaultAfter index f.count (length (bytes_read r)) e → HasReadCause seen names e
      cause Memory why = (i + 1, opened)
      cause (File j) why = record { opened = rw (why.0 ∙ at) opened; fits = omega (arith, why.1, long) }
      cause TooBig why = (
        i,
        record {
          opened = opened;
          fits = omega (arith, ap (λ (rs : List Reading). length (input_read rs)) first, a.counted, fits);
          passes = omega (arith, why, long);
        },
      )

    pub read_cause : (e : ReadFault) → HasFileCause index f.count x mid now e → HasReadCause seen names e
    read_cause e h = cause h.reading h.named h.given e h.why
