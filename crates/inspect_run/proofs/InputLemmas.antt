-- Files that were read one after another.
use Rattle.std.proofs.Common.{◌≡◌, ℕ, suc, ◌+◌, ◌<◌, ◌≤◌, ◌^◌, ◌++◌, List, [], ◌∷◌, All, Some, length, map, take, drop, slice_get, true, refl, sym, ap, subst, ◌∙◌, arith, append_assoc, append-nil}
use Rattle.std.proofs.lemmas.List.{length-map, length-take-le, map-append, take_at, take_more}
use Rattle.std.proofs.lemmas.List.Elements.{All-append, All-cons, All-head, All-nil, All-tail}
use Rattle.std.proofs.lemmas.Option.{get_or_from_slice_get, slice_get_within}
use Rattle.event_lines.specs.declared.line.Line.{Line}
use Rattle.line_quality.specs.declared.findings.Findings.{Findings}
use Rattle.mystery_io.specs.Counts.{CountsCalls, counted_up}
use Rattle.mystery_io.specs.ReadFaults.{FilesSeen, OpensFirst}
use Rattle.mystery_io.specs.Readings.{AreEnded, AreEndedBeforeLast, Reading, new_readings}
use Rattle.inspect_run.specs.Endings.{ReadsAll, ReadsUpTo, StopsReading}
use Rattle.inspect_run.specs.Judging.{AreJudged, size_given}
use Rattle.inspect_run.specs.inner.InputReadings.{HasOneCause, HasRead, ReadsOne, StopsAt}
use Rattle.inspect_run.specs.declared.outcome.Outcome.{Outcome}
use Rattle.inspect_run.specs.declared.outcome.Outcome.TheVariants.{Done, Memory, Arguments, File, Write, Size}
use Rattle.inspect_run.proofs.JudgingLemmas.{judged_more, judged_none, size_more}

-- ---- readings

ended_before : (rs : List Reading) (r : Reading) → All (λ (q : Reading). q.at_end ≡ true) rs → AreEndedBeforeLast (rs ++ r ∷ [])
ended_before [] r h = tt
ended_before (x ∷ []) r h = (All-head (λ (q : Reading). q.at_end ≡ true) x [] h, tt)
ended_before (x ∷ y ∷ ys) r h = (All-head (λ (q : Reading). q.at_end ≡ true) x (y ∷ ys) h, ended_before (y ∷ ys) r (All-tail (λ (q : Reading). q.at_end ≡ true) x (y ∷ ys) h))

all_ended : (rs : List Reading) → All (λ (q : Reading). q.at_end ≡ true) rs → AreEndedBeforeLast rs
all_ended [] h = tt
all_ended (x ∷ []) h = tt
all_ended (x ∷ y ∷ ys) h = (All-head (λ (q : Reading). q.at_end ≡ true) x (y ∷ ys) h, all_ended (y ∷ ys) (All-tail (λ (q : Reading). q.at_end ≡ true) x (y ∷ ys) h))

new_are : (before now rs : List Reading) → now ≡ before ++ rs → new_readings before now ≡ rs
new_are [] now rs e = e
new_are (x ∷ before) now rs e = ap (drop (suc (length before))) e ∙ new_are before (before ++ rs) rs refl

pub calls_more : (i before mid now : ℕ) → CountsCalls i before mid → now ≡ counted_up mid → CountsCalls (i + 1) before now
calls_more i before mid now calls one = record { least = omega (arith, calls.least, one); most = omega (arith, calls.most, one) }

-- no file was read
pub none_read : (before : List Reading) (lines : List Line) (findings : Findings) → lines ≡ [] → findings.first.items ≡ [] → findings.reasons.items ≡ [] → HasRead [] lines findings 0 before before
none_read before lines findings none first reasons = record {
  readings = [];
  given = sym (append-nil before);
  named = refl;
  ended = All-nil (λ (q : Reading). q.at_end ≡ true);
  judged = judged_none lines findings none first reasons;
  sized = refl;
  fits = omega arith;
}

module _ (names : List (List ℕ)) (i : ℕ) (name : List ℕ) (there : slice_get names i ≡ Some name) where
  lt : i < length names
  lt = slice_get_within names i name there

  next : take (i + 1) names ≡ take i names ++ name ∷ []
  next = take_more names i name lt ∙ ap (λ n. take i names ++ n ∷ []) (get_or_from_slice_get names i name name there)

  named_more : (rs : List Reading) (r : Reading) → map (λ (q : Reading). q.name) rs ≡ take i names → r.name ≡ name → map (λ (q : Reading). q.name) (rs ++ r ∷ []) ≡ take (i + 1) names
  named_more rs r e f = map-append (λ (q : Reading). q.name) rs (r ∷ []) ∙ (λ k. e k ++ f k ∷ []) ∙ sym next

  count_is : (rs : List Reading) → map (λ (q : Reading). q.name) rs ≡ take i names → length rs ≡ i
  count_is rs e = omega (arith, length-map rs (λ (q : Reading). q.name), ap length e, length-take-le i names (omega (arith, lt)))

  -- one file more was read
  pub file_read : (old new : List Line) (found finds : Findings) (size after : ℕ) (before mid now : List Reading) → HasRead (take i names) old found size before mid → ReadsOne i name size after old new found finds mid now → HasRead (take (i + 1) names) new finds after before now
  file_read old new found finds size after before mid now a b =
      let r : Reading = record { name = name; bytes = b.bytes; at_end = true } in
      record {
        readings = a.readings ++ r ∷ [];
        given = b.given ∙ ap (λ rs. rs ++ r ∷ []) a.given ∙ append_assoc before a.readings (r ∷ []);
        named = named_more a.readings r a.named refl;
        ended = All-append (λ (q : Reading). q.at_end ≡ true) a.readings (r ∷ []) a.ended (All-cons (λ (q : Reading). q.at_end ≡ true) r [] refl (All-nil (λ (q : Reading). q.at_end ≡ true)));
        judged = judged_more a.readings i size after name old new found finds mid now (count_is a.readings a.named) a.judged b;
        sized = omega (arith, size_more a.readings r, a.sized, b.counted);
        fits = b.fits;
      }

  -- reading ended at one file more
  module _ (seen : FilesSeen) (old : List Line) (found : Findings) (size : ℕ) (before mid now : List Reading) (saw : seen.readings ≡ new_readings before now) (calls : CountsCalls (i + 1) seen.opens_before seen.opens_now) (a : HasRead (take i names) old found size before mid)
      (outcome : Outcome) (s : StopsAt i size name mid now outcome) where
    came : seen.readings ≡ a.readings ++ s.reading ∷ []
    came = saw ∙ new_are before now (a.readings ++ s.reading ∷ []) (s.given ∙ ap (λ rs. rs ++ s.reading ∷ []) a.given ∙ append_assoc before a.readings (s.reading ∷ []))

    opened : OpensFirst seen names (i + 1)
    opened = record {
      within = omega (arith, lt);
      counted = calls;
      named = ap (map (λ (q : Reading). q.name)) came ∙ named_more a.readings s.reading a.named s.named;
      ended = subst AreEndedBeforeLast (sym came) (ended_before a.readings s.reading a.ended);
    }

    first : take i seen.readings ≡ a.readings
    first = ap (take i) came ∙ take_at a.readings (s.reading ∷ []) i (count_is a.readings a.named)

    up_to : ReadsUpTo seen names i
    up_to = record { opened = opened; fits = omega (arith, ap size_given first, a.sized, a.fits) }

    all_size : size_given seen.readings ≡ size + length s.reading.bytes
    all_size = omega (arith, ap size_given came, size_more a.readings s.reading, a.sized)

    stop : (o : Outcome) → HasOneCause i size s.reading o → StopsReading o seen names
    stop Memory c = (i + 1, opened)
    stop (File j) c = subst (ReadsUpTo seen names) (sym c) up_to
    stop Size c = ((i, up_to), omega (arith, all_size, c))
    stop Arguments c = absurd c
    stop Done c = absurd c
    stop Write c = absurd c

    pub stops : StopsReading outcome seen names
    stops = stop outcome s.cause

-- all files were read
module _ (names : List (List ℕ)) (i : ℕ) (lines : List Line) (findings : Findings) (size : ℕ) (before now : List Reading) (ge : length names ≤ i) (le : i ≤ length names) (a : HasRead (take i names) lines findings size before now) where
  pub all_read : (seen : FilesSeen) → seen.readings ≡ new_readings before now → CountsCalls i seen.opens_before seen.opens_now → ReadsAll seen names
  all_read seen saw calls =
      let came : seen.readings ≡ a.readings = saw ∙ new_are before now a.readings a.given in
      let all : i ≡ length names = omega arith in
      record {
        opened = subst (OpensFirst seen names) all (record {
          within = le;
          counted = calls;
          named = ap (map (λ (q : Reading). q.name)) came ∙ a.named;
          ended = subst AreEndedBeforeLast (sym came) (all_ended a.readings a.ended);
        });
        ended = subst AreEnded (sym came) a.ended;
        fits = omega (arith, ap size_given came, a.sized, a.fits);
      }

  pub all_judged : AreJudged (new_readings before now) lines findings
  all_judged = subst (λ (rs : List Reading). AreJudged rs lines findings) (sym (new_are before now a.readings a.given)) a.judged

  pub few_lines : length names < 2 ^ 30 → length lines + length findings.reasons.items < 2 ^ 31
  few_lines few =
      let count : length a.readings ≡ i = omega (arith, length-map a.readings (λ (q : Reading). q.name), ap length a.named, length-take-le i names le) in
      omega (arith, a.judged.few, a.sized, a.fits, count, few, le)
