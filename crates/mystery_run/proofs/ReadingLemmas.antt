-- Two readings, one after another: which files were opened, which one failed, and what was read.
use Rattle.std.proofs.Common.{◌≡◌, ℕ, ◌+◌, ◌∷◌, ◌++◌, ◌<◌, ◌≤◌, List, [], length, take, drop, map, true, false, ap, arith, refl, sym, ◌∙◌, subst, inl, inr, append_assoc, append-nil}
use Rattle.std.specs.Prelude.{◌==◌}
use Rattle.std.proofs.Math.Seq.{take-append-add, take-length}
use Rattle.std.proofs.lemmas.Bool.{eqb-true}
use Rattle.std.proofs.lemmas.List.{drop_at, length-append, length-map, length-take, map-append, nil_from_length, take_all, take_at, take-append-drop, take-append-le}
use Rattle.std.proofs.lemmas.List.Elements.{All-append, All-nil}
use Rattle.mystery_io.specs.Input.{input_limit, input_read}
use Rattle.mystery_io.specs.ReadFaults.{FilesSeen, OpensFirst, FailedAt, HasReadCause, PassedAt}
use Rattle.mystery_io.specs.Readings.{AreEnded, AreEndedBeforeLast, OnlyGrow, Reading, new_readings}
use Rattle.mystery_io.specs.declared.reading.ReadFault.{ReadFault}
use Rattle.mystery_io.specs.declared.reading.ReadFault.TheVariants.{Memory, File as Unread, TooBig}
use Rattle.mystery_io.proofs.GivenLemmas.{ended_before}
use Rattle.mystery_run.specs.Readings.{AreReadFirst, AtFile, FailsAt, FitsSize, PassesAt, PassesSize, seen_after}
use Rattle.mystery_run.specs.inner.ReadingTwice.{HasReadingCause}

abbrev names_of : List Reading → List (List ℕ)
names_of rs = map (λ (r : Reading). r.name) rs

abbrev HasEnded : Reading → Type 0
HasEnded r = r.at_end ≡ true

-- readings that came twice
grown : (before now readings : List Reading) → now ≡ before ++ readings → (new_readings before now ≡ readings) × OnlyGrow before now
grown before now readings e =
    let new : new_readings before now ≡ readings = ap (λ (rs : List Reading). drop (length before) rs) e ∙ drop_at before readings (length before) refl in
    (new, e ∙ ap (λ rs. before ++ rs) (sym new))

pub new_twice : (before mid now : List Reading) → OnlyGrow before mid → OnlyGrow mid now → new_readings before now ≡ new_readings before mid ++ new_readings mid now
new_twice before mid now a b = (grown before now (new_readings before mid ++ new_readings mid now) (b ∙ ap (λ rs. rs ++ new_readings mid now) a ∙ append_assoc before (new_readings before mid) (new_readings mid now))).0

pub grow_twice : (before mid now : List Reading) → OnlyGrow before mid → OnlyGrow mid now → OnlyGrow before now
grow_twice before mid now a b = (grown before now (new_readings before mid ++ new_readings mid now) (b ∙ ap (λ rs. rs ++ new_readings mid now) a ∙ append_assoc before (new_readings before mid) (new_readings mid now))).1

-- none came
pub grow_none : (before : List Reading) → OnlyGrow before before
grow_none before = (grown before before [] (sym (append-nil before))).1

pub new_none : (before : List Reading) → new_readings before before ≡ []
new_none before = (grown before before [] (sym (append-nil before))).0

pub ended_none : (before : List Reading) → AreEnded (new_readings before before)
ended_none before = subst AreEnded (sym (new_none before)) (All-nil HasEnded)

pub input_none : (before : List Reading) → [] ≡ input_read (new_readings before before)
input_none before = ap input_read (sym (new_none before))

-- without a name none is opened
pub opens_none : (seen : FilesSeen) (names : List (List ℕ)) → names ≡ [] → seen.opens_now ≡ seen.opens_before → seen.readings ≡ [] → OpensFirst seen names (length names)
opens_none seen names none calls same = subst (λ ns. OpensFirst seen ns (length ns)) (sym none) (record {
  within = omega arith;
  counted = record { least = omega (arith, calls); most = omega (arith, calls) };
  named = ap names_of same;
  ended = subst AreEndedBeforeLast (sym same) tt;
})

-- the arguments are outside the grammar, and no file was opened
pub opens_zero : (seen : FilesSeen) (names : List (List ℕ)) → seen.opens_now ≡ seen.opens_before → seen.readings ≡ [] → OpensFirst seen names 0
opens_zero seen names calls same = record {
  within = omega arith;
  counted = record { least = omega (arith, calls); most = omega (arith, calls) };
  named = ap names_of same;
  ended = subst AreEndedBeforeLast (sym same) tt;
}

-- the files of the first reading are the first of both
opens_first : (seen : FilesSeen) (cert files : List (List ℕ)) (count : ℕ) → OpensFirst seen cert count → OpensFirst seen (cert ++ files) count
opens_first seen cert files count h = record {
  within = omega (arith, h.within, length-append cert files);
  counted = h.counted;
  named = h.named ∙ sym (take-append-le count cert files h.within);
  ended = h.ended;
}

-- the first readings have these names, and the others follow
parts : (seen : FilesSeen) (n : ℕ) → seen.readings ≡ take n seen.readings ++ drop n seen.readings
parts seen n = sym (take-append-drop n seen.readings)

-- those of the second follow
opens_later : (seen : FilesSeen) (cert files : List (List ℕ)) (count : ℕ) → names_of (take (length cert) seen.readings) ≡ cert → AreEnded (take (length cert) seen.readings) → OpensFirst (seen_after cert seen) files count → OpensFirst seen (cert ++ files) (length cert + count)
opens_later seen cert files count named ended h =
    let first = take (length cert) seen.readings in
    let rest = drop (length cert) seen.readings in
    record {
      within = omega (arith, h.within, length-append cert files);
      counted = record { least = omega (arith, h.counted.least); most = omega (arith, h.counted.most) };
      named =
          ap names_of (parts seen (length cert)) ∙ map-append (λ (r : Reading). r.name) first rest ∙ ap (λ ns. ns ++ names_of rest) named ∙ ap (λ ns. cert ++ ns) h.named
          ∙ sym (take-append-add cert files count);
      ended = subst AreEndedBeforeLast (sym (parts seen (length cert))) (ended_before first rest ended h.ended);
    }

opens_to : (P : FilesSeen → List (List ℕ) → ℕ → Type 0) → ((s : FilesSeen) (names : List (List ℕ)) (i : ℕ) → P s names i → OpensFirst s names (i + 1))
    → (seen : FilesSeen) (cert files : List (List ℕ)) (index : ℕ) → AtFile P seen cert files index → OpensFirst seen (cert ++ files) (index + 1)
opens_to P f seen cert files index (inl h) = opens_first seen cert files (index + 1) (f seen cert index h)
opens_to P f seen cert files index (inr h) =
    let e : length cert + (h.0 + 1) ≡ index + 1 = omega (arith, h.1) in
    subst (λ n. OpensFirst seen (cert ++ files) n) e (opens_later seen cert files (h.0 + 1) h.2.named h.2.ended (f (seen_after cert seen) files h.0 h.3))

-- the files up to one that failed, or that passed the limit, were opened
pub opens_to_failed : (seen : FilesSeen) (cert files : List (List ℕ)) (index : ℕ) → FailsAt seen cert files index → OpensFirst seen (cert ++ files) (index + 1)
opens_to_failed = opens_to FailedAt (λ s names i h. h.opened)

pub opens_to_passed : (seen : FilesSeen) (cert files : List (List ℕ)) (index : ℕ) → PassesAt seen cert files index → OpensFirst seen (cert ++ files) (index + 1)
opens_to_passed = opens_to PassedAt (λ s names i h. h.opened)

-- a fault of the first reading is one of both
pub first_cause : (seen : FilesSeen) (cert files : List (List ℕ)) (e : ReadFault) → HasReadCause seen cert e → HasReadingCause seen cert files e
first_cause seen cert files Memory h = (h.0, opens_first seen cert files h.0 h.1)
first_cause seen cert files (Unread index) h = inl h
first_cause seen cert files TooBig h = (h.0, inl h.1)

-- a second reading after a first one that read all its files
module _ (seen first second : FilesSeen) (cert files : List (List ℕ)) (whole : seen.readings ≡ first.readings ++ second.readings) (start : seen.opens_before ≡ first.opens_before) (stop : seen.opens_now ≡ second.opens_now)
    (opens : second.opens_before ≡ first.opens_now) (opened : OpensFirst first cert (length cert)) (ended : AreEnded first.readings) where
  named : names_of first.readings ≡ cert
  named = opened.named ∙ take-length cert

  long : length first.readings ≡ length cert
  long = sym (length-map first.readings (λ (r : Reading). r.name)) ∙ ap length named

  pub first_is : take (length cert) seen.readings ≡ first.readings
  first_is = ap (λ (rs : List Reading). take (length cert) rs) whole ∙ take_at first.readings second.readings (length cert) long

  pub rest_is : drop (length cert) seen.readings ≡ second.readings
  rest_is = ap (λ (rs : List Reading). drop (length cert) rs) whole ∙ drop_at first.readings second.readings (length cert) long

  opens_on : (count : ℕ) → OpensFirst second files count → OpensFirst (seen_after cert seen) files count
  opens_on count h = record {
    within = h.within;
    counted = record { least = omega (arith, opened.counted.least, h.counted.least, opens, start, stop); most = omega (arith, opened.counted.most, h.counted.most, opens, start, stop) };
    named = ap names_of rest_is ∙ h.named;
    ended = subst AreEndedBeforeLast (sym rest_is) h.ended;
  }

  pub opens_both : (count : ℕ) → OpensFirst second files count → OpensFirst seen (cert ++ files) (length cert + count)
  opens_both count h = opens_later seen cert files count (ap names_of first_is ∙ named) (subst AreEnded (sym first_is) ended) (opens_on count h)

  pub opens_all : OpensFirst second files (length files) → OpensFirst seen (cert ++ files) (length (cert ++ files))
  opens_all h = subst (λ n. OpensFirst seen (cert ++ files) n) (sym (length-append cert files)) (opens_both (length files) h)

  pub ended_both : AreEnded second.readings → AreEnded seen.readings
  ended_both h = subst AreEnded (sym whole) (All-append HasEnded first.readings second.readings ended h)

  failed_on : (i : ℕ) → FailedAt second files i → FailedAt (seen_after cert seen) files i
  failed_on i h = record {
    opened = opens_on (i + 1) h.opened;
    fits = rw rest_is h.fits;
  }

  passed_on : (i : ℕ) → PassedAt second files i → PassedAt (seen_after cert seen) files i
  passed_on i h = record {
    opened = opens_on (i + 1) h.opened;
    fits = rw rest_is h.fits;
    passes = rw rest_is h.passes;
  }

  module _ (within : length (input_read first.readings) ≤ input_limit) where
    read_first : AreReadFirst seen cert
    read_first = record {
      named = ap names_of first_is ∙ named;
      ended = subst AreEnded (sym first_is) ended;
      fits = rw first_is within;
    }

    pub fails_later : (i index : ℕ) → index ≡ length cert + i → FailedAt second files i → FailsAt seen cert files index
    fails_later i index e h = inr (i, e, read_first, failed_on i h)

    pub passes_later : (i : ℕ) → PassedAt second files i → (index : ℕ) × PassesAt seen cert files index
    passes_later i h = (length cert + i, inr (i, refl, read_first, passed_on i h))

-- there are names, or none
pub some_names : (names : List (List ℕ)) → (length names == 0) ≡ false → 0 < length names
some_names [] e =
    let both : true ≡ false = e in
    cc
some_names (x ∷ xs) e = omega arith

pub without_names : (names : List (List ℕ)) → (length names == 0) ≡ true → names ≡ []
without_names names e = nil_from_length names (eqb-true (length names) 0 e)

-- a reading that passes the limit in a file passes it: that of the preface, whose readings are no
-- more than its names, or that of the input
few_first : (seen : FilesSeen) (cert : List (List ℕ)) (count : ℕ) → OpensFirst seen cert count → take (length cert) seen.readings ≡ seen.readings
few_first seen cert count h =
    let few : length seen.readings ≤ length cert = omega (arith, length-map seen.readings (λ (r : Reading). r.name), ap length h.named, length-take count cert, h.within) in
    take_all (length cert) seen.readings few

pub too_big : (seen : FilesSeen) (cert files : List (List ℕ)) (index : ℕ) → PassesAt seen cert files index → PassesSize (input_read (take (length cert) seen.readings)) (input_read (drop (length cert) seen.readings))
too_big seen cert files index (inl h) = inl (rw (few_first seen cert (index + 1) h.opened) h.passes)
too_big seen cert files index (inr h) = inr h.3.passes

-- the size is passed, or it is not
pub size_apart : (cert input : List ℕ) → FitsSize cert input → PassesSize cert input → ⊥
size_apart cert input fits (inl lt) = omega (arith, fits.0, lt)
size_apart cert input fits (inr lt) = omega (arith, fits.1, lt)
