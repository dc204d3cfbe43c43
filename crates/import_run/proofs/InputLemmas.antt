-- Files that were read one after another.
use Rattle.std.proofs.Common.{◌≡◌, ℕ, suc, ◌+◌, ◌^◌, ◌<◌, ◌≤◌, ◌++◌, List, [], ◌∷◌, All, Some, length, map, take, drop, slice_get, Bool, true, false, cond, ◌==◌, refl, sym, ap, subst, ◌∙◌, arith, append_assoc, lit≤}
use Rattle.std.specs.Prelude.{codes, sum_by}
use Rattle.std.proofs.lemmas.List.{length-map, length-take-le, map-append, take_at, take_more}
use Rattle.std.proofs.lemmas.List.Elements.{All-append, All-cons, All-head, All-nil, All-tail}
use Rattle.std.proofs.lemmas.List.Sums.{sum_by-append, sum_by-cons}
use Rattle.std.proofs.lemmas.Option.{get_or_from_slice_get, slice_get_within}
use Rattle.event_lines.specs.LineParts.{lines_of_runs}
use Rattle.mystery_io.specs.Counts.{CountsCalls, counted_up}
use Rattle.mystery_io.specs.ReadFaults.{FilesSeen, OpensFirst}
use Rattle.mystery_io.specs.Readings.{AreEnded, AreEndedBeforeLast, Reading, new_readings}
use Rattle.import_run.specs.CommandLines.{file_name, file_names}
use Rattle.import_run.specs.Endings.{AreGood, ReadsFirst, ReadsUpTo, StopsReading}
use Rattle.span_files.specs.InputSpans.{input_said}
use Rattle.import_run.specs.Inputs.{bytes_given, files_said, size_given}
use Rattle.import_run.specs.inner.InputReadings.{HasInput, HasOneCause, HasRead, IsNotTaken, ReadsOne, StopsAt}
use Rattle.import_run.specs.inner.Taken.{HasTaken, IsFileFault, form_of_input, spans_view}
use Rattle.import_run.specs.declared.form.Form.{Form}
use Rattle.import_run.specs.declared.input.Input.{Input}
use Rattle.import_run.specs.declared.input.Input.TheVariants.{Lines, Spans}
use Rattle.import_run.specs.declared.outcome.Outcome.{Outcome}
use Rattle.import_run.specs.declared.outcome.Outcome.TheVariants.{Done, Memory, Arguments, BadLine, BadSpan, File, TooMany, Write, Size}

-- ---- readings

ended_before : (rs : List Reading) (r : Reading) → All (λ (q : Reading). q.at_end ≡ true) rs → AreEndedBeforeLast (rs ++ r ∷ [])
ended_before [] r h = tt
ended_before (x ∷ []) r h = (All-head (λ (q : Reading). q.at_end ≡ true) x [] h, tt)
ended_before (x ∷ y ∷ ys) r h = (All-head (λ (q : Reading). q.at_end ≡ true) x (y ∷ ys) h, ended_before (y ∷ ys) r (All-tail (λ (q : Reading). q.at_end ≡ true) x (y ∷ ys) h))

all_ended : (rs : List Reading) → All (λ (q : Reading). q.at_end ≡ true) rs → AreEndedBeforeLast rs
all_ended [] h = tt
all_ended (x ∷ []) h = tt
all_ended (x ∷ y ∷ ys) h = (All-head (λ (q : Reading). q.at_end ≡ true) x (y ∷ ys) h, all_ended (y ∷ ys) (All-tail (λ (q : Reading). q.at_end ≡ true) x (y ∷ ys) h))

new_are : (before now rs : List Reading) → now ≡ before ++ rs → new_readings before now ≡ rs
new_are [] now rs e = e
new_are (x ∷ before) now rs e = ap (drop (suc (length before))) e ∙ new_are before (before ++ rs) rs refl

pub calls_more : (i before mid now : ℕ) → CountsCalls i before mid → now ≡ counted_up mid → CountsCalls (i + 1) before now
calls_more i before mid now calls one = record { least = omega (arith, calls.least, one); most = omega (arith, calls.most, one) }

one_size : (r : Reading) → size_given (r ∷ []) ≡ length r.bytes
one_size r = let h = sum_by-cons (λ (q : Reading). length q.bytes) r [] in omega (arith, h)

size_more : (rs : List Reading) (r : Reading) → size_given (rs ++ r ∷ []) ≡ size_given rs + length r.bytes
size_more rs r = omega (arith, sum_by-append (λ (q : Reading). length q.bytes) rs (r ∷ []), one_size r)

total_size : (rs : List Reading) → sum_by length (bytes_given rs) ≡ size_given rs
total_size [] = refl
total_size (r ∷ rs) = let h = sum_by-cons (λ (q : Reading). length q.bytes) r rs in let k = sum_by-cons length r.bytes (bytes_given rs) in omega (arith, h, k, total_size rs)

-- what was taken has no fault
taken_good : (input : Input) (inputs : List (List ℕ)) → HasTaken input inputs → AreGood (form_of_input input) inputs
taken_good (Lines runs) inputs h = (lines_of_runs runs.items, h.0)
taken_good (Spans form spans) inputs h = (spans_view spans, h.0)

module _ (names : List (List ℕ)) (i : ℕ) (name : List ℕ) (there : slice_get names i ≡ Some name) where
  lt : i < length names
  lt = slice_get_within names i name there

  next : take (i + 1) names ≡ take i names ++ name ∷ []
  next = take_more names i name lt ∙ ap (λ n. take i names ++ n ∷ []) (get_or_from_slice_get names i name name there)

  named_more : (rs : List Reading) (r : Reading) → map (λ (q : Reading). q.name) rs ≡ take i names → r.name ≡ name → map (λ (q : Reading). q.name) (rs ++ r ∷ []) ≡ take (i + 1) names
  named_more rs r e f = map-append (λ (q : Reading). q.name) rs (r ∷ []) ∙ (λ k. e k ++ f k ∷ []) ∙ sym next

  count_is : (rs : List Reading) → map (λ (q : Reading). q.name) rs ≡ take i names → length rs ≡ i
  count_is rs e = omega (arith, length-map rs (λ (q : Reading). q.name), ap length e, length-take-le i names (omega (arith, lt)))

  bytes_count : (rs : List Reading) → map (λ (q : Reading). q.name) rs ≡ take i names → length (bytes_given rs) ≡ i
  bytes_count rs e = length-map rs (λ (q : Reading). q.bytes) ∙ count_is rs e

  -- one file more was read
  pub file_read : (old new : Input) (size after : ℕ) (before mid now : List Reading) → HasRead (take i names) old size before mid → ReadsOne i name size after old new mid now → HasRead (take (i + 1) names) new after before now
  file_read old new size after before mid now a b =
      let r : Reading = record { name = name; bytes = b.bytes; at_end = true } in
      record {
        readings = a.readings ++ r ∷ [];
        given = b.given ∙ ap (λ rs. rs ++ r ∷ []) a.given ∙ append_assoc before a.readings (r ∷ []);
        named = named_more a.readings r a.named refl;
        ended = All-append (λ (q : Reading). q.at_end ≡ true) a.readings (r ∷ []) a.ended (All-cons (λ (q : Reading). q.at_end ≡ true) r [] refl (All-nil (λ (q : Reading). q.at_end ≡ true)));
        good = subst (HasTaken new) (sym (map-append (λ (q : Reading). q.bytes) a.readings (r ∷ []))) (b.taken (bytes_given a.readings) (bytes_count a.readings a.named) a.good);
        sized = omega (arith, size_more a.readings r, a.sized, b.counted);
        fits = b.fits;
      }

  -- reading ended at one file more
  module _ (form : Form) (seen : FilesSeen) (old : Input) (size : ℕ) (before mid now : List Reading) (saw : seen.readings ≡ new_readings before now) (calls : CountsCalls (i + 1) seen.opens_before seen.opens_now) (a : HasRead (take i names) old size before mid)
      (is_form : form_of_input old ≡ form) (outcome : Outcome) (s : StopsAt i size name old mid now outcome) where
    came : seen.readings ≡ a.readings ++ s.reading ∷ []
    came = saw ∙ new_are before now (a.readings ++ s.reading ∷ []) (s.given ∙ ap (λ rs. rs ++ s.reading ∷ []) a.given ∙ append_assoc before a.readings (s.reading ∷ []))

    opened : OpensFirst seen names (i + 1)
    opened = record {
      within = omega (arith, lt);
      counted = calls;
      named = ap (map (λ (q : Reading). q.name)) came ∙ named_more a.readings s.reading a.named s.named;
      ended = subst AreEndedBeforeLast (sym came) (ended_before a.readings s.reading a.ended);
    }

    first : take i seen.readings ≡ a.readings
    first = ap (take i) came ∙ take_at a.readings (s.reading ∷ []) i (count_is a.readings a.named)

    good : AreGood form (bytes_given (take i seen.readings))
    good = subst (λ f. AreGood f (bytes_given (take i seen.readings))) is_form (subst (λ rs. AreGood (form_of_input old) (bytes_given rs)) (sym first) (taken_good old (bytes_given a.readings) a.good))

    up_to : ReadsUpTo form seen names i
    up_to = record {
      opened = opened;
      good = good;
      fits = omega (arith, ap size_given first, a.sized, a.fits);
    }

    all_size : size_given seen.readings ≡ size + length s.reading.bytes
    all_size = omega (arith, ap size_given came, size_more a.readings s.reading, a.sized)

    module _ (o : Outcome) (n : IsNotTaken i size old s.reading o) where
      pub all_read : ReadsFirst seen names (i + 1)
      all_read = record {
        opened = opened;
        ended = subst AreEnded (sym came) (All-append (λ (q : Reading). q.at_end ≡ true) a.readings (s.reading ∷ []) a.ended (All-cons (λ (q : Reading). q.at_end ≡ true) s.reading [] n.ended (All-nil (λ (q : Reading). q.at_end ≡ true))));
        fits = omega (arith, all_size, n.fits);
      }

      bytes_are : bytes_given a.readings ++ s.reading.bytes ∷ [] ≡ bytes_given seen.readings
      bytes_are = sym (ap bytes_given came ∙ map-append (λ (q : Reading). q.bytes) a.readings (s.reading ∷ []))

      pub fault : IsFileFault form i (bytes_given seen.readings) o
      fault = subst (λ bs. IsFileFault form i bs o) bytes_are (subst (λ f. IsFileFault f i (bytes_given a.readings ++ s.reading.bytes ∷ []) o) is_form (n.fault (bytes_given a.readings) (bytes_count a.readings a.named) a.good))

    stop : (o : Outcome) → HasOneCause i size old s.reading o → StopsReading form o seen names
    stop Memory c = (i + 1, opened)
    stop (File j) c = subst (ReadsUpTo form seen names) (sym c) up_to
    stop Size c = ((i, up_to), omega (arith, all_size, c))
    stop (BadLine file line why) c =
        let f = fault (BadLine file line why) c in
        (subst (λ n. ReadsFirst seen names (n + 1)) (sym f.0) (all_read (BadLine file line why) c), f.1)
    stop (BadSpan of_form at reason) c =
        let f = fault (BadSpan of_form at reason) c in
        (subst (λ n. ReadsFirst seen names (n + 1)) (sym f.0) (all_read (BadSpan of_form at reason) c), f.1)
    stop TooMany c = absurd c
    stop Arguments c = absurd c
    stop (Done notes) c = absurd c
    stop Write c = absurd c

    pub stops : StopsReading form outcome seen names
    stops = stop outcome s.cause

pub names_few : (words : List (List ℕ)) → length words < 2 ^ 30 → length (file_names words) ≤ 2 ^ 30
names_few words h = by (length words == 0)
  where
    by : (b : Bool) → length (cond b (codes "/dev/stdin" ∷ []) (map file_name words)) ≤ 2 ^ 30
    by true = lit≤ tt
    by false = omega (arith, h, length-map words file_name)

-- all files were read
module _ (names : List (List ℕ)) (i : ℕ) (form : Form) (seen : FilesSeen) (size : ℕ) (before now : List Reading) (ge : length names ≤ i) (le : i ≤ length names) (small : length names ≤ 2 ^ 30) (saw : seen.readings ≡ new_readings before now) (calls : CountsCalls i seen.opens_before seen.opens_now) where
  all : i ≡ length names
  all = omega (arith, ge, le)

  module _ (input : Input) (a : HasRead (take i names) input size before now) where
    gave : seen.readings ≡ a.readings
    gave = saw ∙ new_are before now a.readings a.given

    whole : ReadsFirst seen names (length names)
    whole = record {
      opened = subst (OpensFirst seen names) all (record {
        within = le;
        counted = calls;
        named = ap (map (λ (q : Reading). q.name)) gave ∙ a.named;
        ended = subst AreEndedBeforeLast (sym gave) (all_ended a.readings a.ended);
      });
      ended = subst AreEnded (sym gave) a.ended;
      fits = omega (arith, ap size_given gave, a.sized, a.fits);
    }

    count : length (bytes_given a.readings) ≡ i
    count = omega (arith, length-map a.readings (λ (q : Reading). q.bytes), length-map a.readings (λ (q : Reading). q.name), ap length a.named, length-take-le i names le)

  pub has_input : (input : Input) → HasRead (take i names) input size before now → form_of_input input ≡ form → HasInput form seen names input
  has_input (Lines runs) a is_form = (
    sym is_form,
    record { read = whole (Lines runs) a; good = ap (λ rs. files_said (bytes_given rs)) (gave (Lines runs) a) ∙ a.good.0 },
    omega (arith, a.good.1, count (Lines runs) a, le, small, total_size a.readings, a.sized, a.fits),
  )
  has_input (Spans of_form spans) a is_form =
      (sym is_form, record { read = whole (Spans of_form spans) a; good = ap (λ rs. input_said of_form (bytes_given rs)) (gave (Spans of_form spans) a) ∙ a.good.0 }, a.good.1)
