-- Files that are read one after another, and what a whole run did.
use Rattle.std.proofs.Common.{◌≡◌, ◌<◌, ◌+◌, ℕ, List, [], ◌∷◌, ◌++◌, true, length, map, take, get_or, ap, arith, refl, sym, subst, ◌∙◌, append-nil, append_assoc, Option, Ok, Err}
use Rattle.std.specs.Io.KnownBytes.{append_known}
use Rattle.std.proofs.lemmas.List.{map-append, take_more}
use Rattle.std.proofs.lemmas.List.Elements.{All-nil, All-push}
use Rattle.event_lines.specs.Cut.{input_lines}
use Rattle.mystery_io.specs.Counts.{CountsCalls}
use Rattle.mystery_io.specs.Prefixes.{AppendsPrefix}
use Rattle.mystery_io.specs.ReadFaults.{OpensFirst}
use Rattle.mystery_io.specs.Readings.{AreEnded, AreEndedBeforeLast, OnlyGrow, Reading, new_readings}
use Rattle.mystery_io.proofs.ReadGivenLemmas.{reading}
use Rattle.mystery_io.proofs.KnownLemmas.{known_append_twice, append_nothing}
use Rattle.mystery_io.proofs.GivenLemmas.{new_are, all_ended, ended_last, grown_by}
use Rattle.line_clean.specs.declared.clean_fault.CleanFault.{CleanFault}
use Rattle.line_clean.specs.declared.clean_fault.CleanFault.TheVariants.{Arguments, Memory, File, Write}
use Rattle.line_clean.specs.CommandLines.{is_in_grammar}
use Rattle.line_clean.specs.Lines.{clean_text, lines_read}
use Rattle.line_clean.specs.Runs.{Explains, Seen, WritesFirst}
use Rattle.line_clean.specs.inner.Steps.{FileCleaned, FileStops, FilesCleaned, IsFaultOf}
use Rattle.line_clean.proofs.GoodLemmas.{clean_push}
use Rattle.line_clean.proofs.StepLemmas.{prefix_on}

-- ---- readings

pub calls_none : (count : ℕ) → CountsCalls 0 count count
calls_none count = record { least = omega arith; most = omega arith }

-- ---- files

pub cleaned_none : (names : List (List ℕ)) (w : Option (List ℕ)) (given : List Reading) → FilesCleaned (take 0 names) w w given given
cleaned_none names w given = record {
  readings = [];
  given = sym (append-nil given);
  named = refl;
  ended = All-nil (λ (r : Reading). r.at_end ≡ true);
  written = sym (append_nothing w);
}

module _ (names : List (List ℕ)) (i : ℕ) (name : List ℕ) (lt : i < length names) (is : name ≡ get_or names i name) (start mid now : Option (List ℕ)) (given_before given_mid given_now : List Reading) (first : FilesCleaned (take i names) start mid given_before given_mid) where
  named_more : (r : Reading) → r.name ≡ name → map (λ (q : Reading). q.name) (first.readings ++ r ∷ []) ≡ take (i + 1) names
  named_more r same =
      map-append (λ (q : Reading). q.name) first.readings (r ∷ []) ∙ ap (λ ns. ns ++ r.name ∷ []) first.named ∙ ap (λ (n : List ℕ). take i names ++ n ∷ []) (same ∙ is)
      ∙ sym (take_more names i name lt)

  -- what is printed of one file more
  text_more : (r : Reading) → clean_text (lines_read (first.readings ++ r ∷ [])) ≡ clean_text (lines_read first.readings) ++ clean_text (input_lines r.bytes)
  text_more r = clean_push first.readings r ∙ ap (λ (ls : List (List ℕ)). clean_text (lines_read first.readings) ++ clean_text ls) (append-nil (input_lines r.bytes))

  -- one file more was cleaned
  pub cleaned_more : FileCleaned name mid now given_mid given_now → FilesCleaned (take (i + 1) names) start now given_before given_now
  cleaned_more h =
      let r : Reading = reading name h.bytes true in
      record {
        readings = first.readings ++ r ∷ [];
        given = h.given ∙ ap (λ rs. rs ++ r ∷ []) first.given ∙ append_assoc given_before first.readings (r ∷ []);
        named = named_more r refl;
        ended = All-push (λ (q : Reading). q.at_end ≡ true) first.readings r first.ended refl;
        written = h.written ∙ ap (λ w. append_known w (clean_text (input_lines h.bytes))) first.written ∙ known_append_twice start (clean_text (lines_read first.readings)) (clean_text (input_lines h.bytes))
            ∙ ap (append_known start) (sym (text_more r));
      }

  pub stops_grow : FileStops name mid now given_mid given_now → OnlyGrow given_before given_now
  stops_grow h =
      let last : Reading = reading name h.bytes h.at_end in
      grown_by given_before given_now (first.readings ++ last ∷ []) (h.given ∙ ap (λ rs. rs ++ last ∷ []) first.given ∙ append_assoc given_before first.readings (last ∷ []))

  -- one file more was not
  module _ (seen : Seen) (words : seen.words ≡ names) (called : is_in_grammar names ≡ true) (saw : seen.files.readings ≡ new_readings given_before given_now) (before_is : seen.written_before ≡ start) (now_is : seen.written_now ≡ now) (calls : CountsCalls (i + 1) seen.files.opens_before seen.files.opens_now) (h : FileStops name mid now given_mid given_now) where
    abbrev last : Reading
    last = reading name h.bytes h.at_end

    came : seen.files.readings ≡ first.readings ++ last ∷ []
    came = saw ∙ new_are given_before given_now (first.readings ++ last ∷ []) (h.given ∙ ap (λ rs. rs ++ last ∷ []) first.given ∙ append_assoc given_before first.readings (last ∷ []))

    opened : OpensFirst seen.files names (i + 1)
    opened = record {
      within = omega (arith, lt);
      counted = calls;
      named = ap (map (λ (q : Reading). q.name)) came ∙ named_more last refl;
      ended = subst AreEndedBeforeLast (sym came) (ended_last first.readings last first.ended);
    }

    cut : AppendsPrefix start now (clean_text (lines_read seen.files.readings))
    cut = prefix_on start mid now (clean_text (lines_read first.readings)) (clean_text (input_lines h.bytes)) [] (clean_text (lines_read seen.files.readings)) first.written h.prefix
        (ap (λ (rs : List Reading). clean_text (lines_read rs)) came ∙ text_more last ∙ ap (λ xs. clean_text (lines_read first.readings) ++ xs) (sym (append-nil (clean_text (input_lines h.bytes)))))

    stopped : WritesFirst seen (i + 1)
    stopped = record {
      called = ap is_in_grammar words ∙ called;
      opened = subst (λ (ns : List (List ℕ)). OpensFirst seen.files ns (i + 1)) (sym words) opened;
      prefix = subst (λ (w : Option (List ℕ)). AppendsPrefix w seen.written_now (clean_text (lines_read seen.files.readings))) (sym before_is)
          (subst (λ (w : Option (List ℕ)). AppendsPrefix start w (clean_text (lines_read seen.files.readings))) (sym now_is) cut);
    }

    pub explains_stop : (fault : CleanFault) → IsFaultOf i fault → Explains (Err fault) seen
    explains_stop Arguments cause = absurd cause
    explains_stop Memory cause = (i + 1, stopped)
    explains_stop (File index) cause = subst (λ (k : ℕ). WritesFirst seen (k + 1)) (sym cause) stopped
    explains_stop Write cause = (i + 1, stopped)

-- nothing was read or written
pub explains_memory : (seen : Seen) → is_in_grammar seen.words ≡ true → seen.files.readings ≡ [] → seen.written_now ≡ seen.written_before → CountsCalls 0 seen.files.opens_before seen.files.opens_now → Explains (Err Memory) seen
explains_memory seen called none same calls = (
  0,
  record {
    called = called;
    opened = record {
      within = omega arith;
      counted = calls;
      named = ap (map (λ (r : Reading). r.name)) none;
      ended = subst AreEndedBeforeLast (sym none) tt;
    };
    prefix = record { count = 0; appended = same ∙ sym (append_nothing seen.written_before) };
  },
)

-- all files were cleaned
pub explains_done : (done : Unit {0}) (seen : Seen) (start now : Option (List ℕ)) (given_before given_now : List Reading) (i : ℕ) → i ≡ length seen.words → is_in_grammar seen.words ≡ true → seen.files.readings ≡ new_readings given_before given_now → seen.written_before ≡ start → seen.written_now ≡ now
    → CountsCalls i seen.files.opens_before seen.files.opens_now → FilesCleaned (take i seen.words) start now given_before given_now → Explains (Ok done) seen
explains_done done seen start now given_before given_now i all called saw before_is now_is calls h =
    let came : seen.files.readings ≡ h.readings = saw ∙ new_are given_before given_now h.readings h.given in
    record {
      called = called;
      opened = record {
        within = omega arith;
        counted = subst (λ (k : ℕ). CountsCalls k seen.files.opens_before seen.files.opens_now) all calls;
        named = ap (map (λ (r : Reading). r.name)) came ∙ h.named ∙ ap (λ (k : ℕ). take k seen.words) all;
        ended = subst AreEndedBeforeLast (sym came) (all_ended h.readings h.ended);
      };
      ended = subst AreEnded (sym came) h.ended;
      written = now_is ∙ h.written ∙ ap (λ (w : Option (List ℕ)). append_known w (clean_text (lines_read h.readings))) (sym before_is) ∙ ap (λ (rs : List Reading). append_known seen.written_before (clean_text (lines_read rs))) (sym came);
    }
