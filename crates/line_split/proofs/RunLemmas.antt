-- Files that are read and split one after another, and what a whole call did.
use Rattle.std.proofs.Common.{◌≡◌, ◌≤◌, ◌<◌, ◌+◌, ◌-◌, ℕ, zero, suc, List, [], ◌∷◌, ◌++◌, All, true, length, map, take, get_or, ap, arith, refl, sym, subst, ◌∙◌, append-nil, append_assoc, inl, inr, drop, Option, Some, None, Result, Ok, Err}
use Rattle.std.specs.Prelude.{IfErr, OnErr, OnOk, ◌==◌, if◌then◌else◌, is_some, not}
use Rattle.std.proofs.lemmas.List.{drop_all, drop_at, length-map, length_push, map-append, take_all, take_at, take_more}
use Rattle.std.proofs.lemmas.List.Elements.{All-append, All-cons, All-drop, All-head, All-nil, All-push, All-same, All-take}
use Rattle.event_lines.specs.Cut.{input_lines}
use Rattle.mystery_io.specs.Readings.{AreEnded, OnlyGrow, Reading, new_readings}
use Rattle.output_files.specs.Written.{WrittenFile}
use Rattle.mystery_io.proofs.ReadGivenLemmas.{reading}
use Rattle.mystery_io.proofs.GivenLemmas.{all_ended, ended_last}
use Rattle.line_split.specs.declared.pending.Pending.{Pending}
use Rattle.line_split.specs.declared.split_fault.SplitFault.{SplitFault}
use Rattle.line_split.specs.declared.split_fault.SplitFault.TheVariants.{Arguments, Memory, BadLine, File, Write}
use Rattle.line_split.specs.CommandLines.{Call}
use Rattle.line_split.specs.Lines.{FileLine, IsGood, all_lines, lines_from, lines_of_readings}
use Rattle.mystery_io.specs.Counts.{counted_up}
use Rattle.line_split.specs.Messages.{message_of, status_of}
use Rattle.line_split.specs.Parts.{AreBegun, file_count, part_file}
use Rattle.line_split.specs.Runs.{Explains, ExplainsAt, ReadsAll, ReadsFirst, before_last}
use Rattle.line_split.specs.inner.Pending.{BeginsFiles, IsBegun, Tells, TellsFiles, WholeFiles}
use Rattle.line_split.specs.inner.Steps.{CallRuns, FileCause, FileStop, FilesStop, IsStoreFault, LinesStop, RunCause, Splits, all_split, read_faults, write_faults}

lines_push : (file : ℕ) (readings : List Reading) (r : Reading) → lines_of_readings file (readings ++ r ∷ []) ≡ lines_of_readings file readings ++ lines_from (file + length readings) 1 (input_lines r.bytes)
lines_push file [] r = append-nil (lines_from file 1 (input_lines r.bytes)) ∙ ap (λ k. lines_from k 1 (input_lines r.bytes)) (omega arith)
lines_push file (q ∷ qs) r =
    ap (λ ls. lines_from file 1 (input_lines q.bytes) ++ ls) (lines_push (file + 1) qs r ∙ ap (λ k. lines_of_readings (file + 1) qs ++ lines_from k 1 (input_lines r.bytes)) (omega arith))
    ∙ sym (append_assoc (lines_from file 1 (input_lines q.bytes)) (lines_of_readings (file + 1) qs) (lines_from (file + length (q ∷ qs)) 1 (input_lines r.bytes)))

-- the lines of one file more
pub all_push : (readings : List Reading) (r : Reading) → all_lines (readings ++ r ∷ []) ≡ all_lines readings ++ lines_from (length readings) 1 (input_lines r.bytes)
all_push readings r = lines_push 0 readings r ∙ ap (λ k. all_lines readings ++ lines_from k 1 (input_lines r.bytes)) (omega arith)

-- what holds of all elements holds of the first, and of the last
module _ {X : Type 0} (P : X → Type 0) (xs ys : List X) (h : All P (xs ++ ys)) where
  all_left : All P xs
  all_left = All-same P xs (take (length xs) (xs ++ ys)) (sym (take_at xs ys (length xs) refl)) (All-take P (length xs) (xs ++ ys) h)

  all_right : All P ys
  all_right = All-same P ys (drop (length xs) (xs ++ ys)) (sym (drop_at xs ys (length xs) refl)) (All-drop P (length xs) (xs ++ ys) h)

-- the lines of the first files are good where all are
good_first : (file k : ℕ) (readings : List Reading) → All IsGood (lines_of_readings file readings) → All IsGood (lines_of_readings file (take k readings))
good_first file zero [] h = h
good_first file zero (r ∷ rs) h = All-nil IsGood
good_first file (suc k) [] h = h
good_first file (suc k) (r ∷ rs) h =
    let here = lines_from file 1 (input_lines r.bytes) in
    let more = lines_of_readings (file + 1) rs in
    All-append IsGood here (lines_of_readings (file + 1) (take k rs)) (all_left IsGood here more h) (good_first (file + 1) k rs (all_right IsGood here more h))

before_push : (readings : List Reading) (r : Reading) → before_last (readings ++ r ∷ []) ≡ readings
before_push readings r = ap (λ (k : ℕ). take k (readings ++ r ∷ [])) (omega (arith, length_push readings r)) ∙ take_at readings (r ∷ []) (length readings) refl

lines_in : (file n : ℕ) (lines : List (List ℕ)) → All (λ (l : FileLine). l.file ≡ file) (lines_from file n lines)
lines_in file n [] = All-nil (λ (l : FileLine). l.file ≡ file)
lines_in file n (x ∷ xs) = All-cons (λ (l : FileLine). l.file ≡ file) (record { file = file; number = n; bytes = x }) (lines_from file (n + 1) xs) refl (lines_in file (n + 1) xs)

-- a line of a file has the file's index
file_of : (file n : ℕ) (lines : List (List ℕ)) (front after : List FileLine) (line : FileLine) → lines_from file n lines ≡ front ++ line ∷ after → line.file ≡ file
file_of file n lines front after line e =
    All-head (λ (l : FileLine). l.file ≡ file) line after (all_right (λ (l : FileLine). l.file ≡ file) front (line ∷ after)
    (All-same (λ (l : FileLine). l.file ≡ file) (front ++ line ∷ after) (lines_from file n lines) (sym e) (lines_in file n lines)))

pub name_of : Reading → List ℕ
name_of r = r.name

module _ (call : Call) (readings : List Reading) (i : ℕ) (size : length readings ≡ i) (lt : i < length call.files) (named : map (λ (r : Reading). r.name) readings ≡ take i call.files) (r : Reading) (d : List ℕ) (is : r.name ≡ get_or call.files i d) where
  pub named_push : map (λ (r : Reading). r.name) (readings ++ r ∷ []) ≡ take (i + 1) call.files
  named_push =
      map-append (λ (r : Reading). r.name) readings (r ∷ []) ∙ ap (λ ns. ns ++ r.name ∷ []) named ∙ ap (λ (n : List ℕ). take i call.files ++ n ∷ []) is ∙ sym (take_more call.files i d lt)

  pub reads_first : AreEnded readings → All IsGood (all_lines readings) → ReadsFirst call (readings ++ r ∷ [])
  reads_first ended good = record {
    named = named_push ∙ ap (λ k. take k call.files) (sym (length_push readings r ∙ ap (λ k. k + 1) size));
    ended = ended_last readings r ended;
    good = All-same IsGood (all_lines (before_last (readings ++ r ∷ []))) (all_lines readings) (ap all_lines (before_push readings r)) good;
  }

pub reads_none : (call : Call) (readings : List Reading) → readings ≡ [] → ReadsFirst call readings
reads_none call readings none = subst (ReadsFirst call) (sym none) (record { named = refl; ended = tt; good = All-nil IsGood })

-- a fault of one file is one of all
module _ {P : Type 0} (call : Call) (written : P → List WrittenFile) (faults : P → ℕ) (old mid new : P) (p q : Pending) (readings : List Reading) (i : ℕ) (size : length readings ≡ i) (first : Splits call (all_lines readings) all_split written faults old mid p q) (ended : AreEnded readings) where
  cause_of : (r : Reading) (done rest : List FileLine) (fault : SplitFault) → lines_from i 1 (input_lines r.bytes) ≡ done ++ rest → All IsGood done → FileCause i r.at_end rest fault → RunCause (readings ++ r ∷ []) fault
  cause_of r done rest Arguments split good h = h
  cause_of r done rest Memory split good h = tt
  cause_of r done rest (BadLine f line why) split good h = record {
    before = all_lines readings ++ done;
    bad = h.0;
    after = h.1;
    split = all_push readings r ∙ ap (λ k. all_lines readings ++ lines_from k 1 (input_lines r.bytes)) size ∙ ap (λ ls. all_lines readings ++ ls) (split ∙ ap (λ ls. done ++ ls) h.2) ∙ sym (append_assoc (all_lines readings) done (h.0 ∷ h.1));
    good = All-append IsGood (all_lines readings) done first.good good;
    reason = h.3;
    of_file = h.4;
    at_line = h.5;
    last = length_push readings r ∙ ap (λ k. k + 1) (size ∙ sym (h.4 ∙ file_of i 1 (input_lines r.bytes) done h.1 h.0 (split ∙ ap (λ ls. done ++ ls) h.2)));
    whole = elim h.6 [
      | inl some ↦ inl some
      | inr other ↦ inr (elim other [
        | inl end ↦ inl (All-push (λ (r : Reading). r.at_end ≡ true) readings r ended end)
        | inr long ↦ inr long
      ])
    ];
  }
  cause_of r done rest (File index) split good h = (
    length_push readings r ∙ ap (λ k. k + 1) (size ∙ sym h.0),
    record {
      lines = all_lines readings ++ done;
      rest = rest;
      split = all_push readings r ∙ ap (λ k. all_lines readings ++ lines_from k 1 (input_lines r.bytes)) size ∙ ap (λ ls. all_lines readings ++ ls) split ∙ sym (append_assoc (all_lines readings) done rest);
      few = h.1;
      good = All-append IsGood (all_lines readings) done first.good good;
    },
  )
  cause_of r done rest Write split good h = tt

  pub stop_of : (given_before given_mid given_now : List Reading) (name d : List ℕ) (fault : SplitFault) → i < length call.files → map (λ (r : Reading). r.name) readings ≡ take i call.files → name ≡ get_or call.files i d → given_mid ≡ given_before ++ readings
      → FileStop call i name written mid new q given_mid given_now fault → FilesStop call written old new p given_before given_now fault
  stop_of given_before given_mid given_now name d fault lt named is given h =
      let r : Reading = reading name h.bytes h.at_end in
      record {
        readings = readings ++ r ∷ [];
        given = h.given ∙ ap (λ rs. rs ++ r ∷ []) given ∙ append_assoc given_before readings (r ∷ []);
        reads = reads_first call readings i size lt named r d is ended first.good;
        stops = λ before told.
            let at = h.stops before ([] ++ all_lines readings) (first.told before [] told) in
            record {
              lines = all_lines readings ++ at.done;
              rest = at.rest;
              split = all_push readings r ∙ ap (λ k. all_lines readings ++ lines_from k 1 (input_lines r.bytes)) size ∙ ap (λ ls. all_lines readings ++ ls) at.split ∙ sym (append_assoc (all_lines readings) at.done at.rest);
              good = All-append IsGood (all_lines readings) at.done first.good at.good;
              begun = at.begun;
              cause = cause_of r at.done at.rest fault at.split at.good at.cause;
            };
      }

-- what a call did
pub begun_made : (call : Call) (before w : List WrittenFile) (lines : List FileLine) (h : IsBegun call before lines w) → AreBegun call lines h.made
begun_made call before w lines h = record { few = h.few; each = h.each }

pub explains_stop : (call : Call) (before w : List WrittenFile) (readings : List Reading) (fault : SplitFault) → ReadsFirst call readings → (h : LinesStop call before readings w fault) → Explains call readings h.begun.made (Err fault)
explains_stop call before w readings Arguments reads h = absurd h.cause
explains_stop call before w readings Memory reads h = (reads, record { lines = h.lines; rest = h.rest; split = h.split; good = h.good; begun = begun_made call before w h.lines h.begun })
explains_stop call before w readings (BadLine file line why) reads h = (reads, h.cause, record { lines = h.lines; rest = h.rest; split = h.split; good = h.good; begun = begun_made call before w h.lines h.begun })
explains_stop call before w readings (File index) reads h = (reads, h.cause.0, h.cause.1, record { lines = h.lines; rest = h.rest; split = h.split; good = h.good; begun = begun_made call before w h.lines h.begun })
explains_stop call before w readings Write reads h = (reads, record { lines = h.lines; rest = h.rest; split = h.split; good = h.good; begun = begun_made call before w h.lines h.begun })

-- a fault that no line causes
pub explains_store : (call : Call) (before w : List WrittenFile) (readings : List Reading) (lines rest : List FileLine) (fault : SplitFault) → IsStoreFault fault → ReadsFirst call readings → all_lines readings ≡ lines ++ rest → All IsGood lines → (h : IsBegun call before lines w) → Explains call readings h.made (Err fault)
explains_store call before w readings lines rest Arguments store reads split good h = absurd store
explains_store call before w readings lines rest Memory store reads split good h = (reads, record { lines = lines; rest = rest; split = split; good = good; begun = begun_made call before w lines h })
explains_store call before w readings lines rest (BadLine file line why) store reads split good h = absurd store
explains_store call before w readings lines rest (File index) store reads split good h = absurd store
explains_store call before w readings lines rest Write store reads split good h = (reads, record { lines = lines; rest = rest; split = split; good = good; begun = begun_made call before w lines h })

pub all_reads_first : (call : Call) (readings : List Reading) → ReadsAll call readings → All IsGood (all_lines readings) → ReadsFirst call readings
all_reads_first call readings h good = record {
  named = h.named ∙ sym (take_all (length readings) call.files (omega (arith, ap length h.named, length-map readings (λ (r : Reading). r.name))));
  ended = all_ended readings h.ended;
  good = good_first 0 (length readings - 1) readings good;
}

-- all lines were split, and the buffers were written or not
pub flush_runs : (call : Call) (before w now : List WrittenFile) (given_before given_now : List Reading) (p : Pending) (readings : List Reading) (r : Result (Unit {0}) SplitFault) → given_now ≡ given_before ++ readings → ReadsAll call readings → All IsGood (all_lines readings) → Tells call before (all_lines readings) w p
    → OnOk r ((count : ℕ) (before : List WrittenFile) (all : ℕ → WrittenFile) → TellsFiles count before all w p → WholeFiles count before all now) → OnErr r ((count : ℕ) (before : List WrittenFile) (all : ℕ → WrittenFile) → TellsFiles count before all w p → BeginsFiles count before all now)
    → IfErr r IsStoreFault → CallRuns call given_before given_now before now r
flush_runs call before w now given_before given_now p readings (Ok done) given reads good told whole begun store =
    let h = whole (file_count call) before (part_file call (all_lines readings)) told in
    record {
      readings = readings;
      made = h.made;
      given = given;
      written = h.split;
      explains = (reads, good, record { count = h.size; each = h.each });
    }
flush_runs call before w now given_before given_now p readings (Err fault) given reads good told whole begun store =
    let h = begun (file_count call) before (part_file call (all_lines readings)) told in
    record {
      readings = readings;
      made = h.made;
      given = given;
      written = h.split;
      explains = explains_store call before now readings (all_lines readings) [] fault store (all_reads_first call readings reads good) (sym (append-nil (all_lines readings))) good h;
    }

-- what a run did
module _ (call : Call) (given_before given_now : List Reading) (written_before written_now : List WrittenFile) (outcome : Result (Unit {0}) SplitFault) (h : CallRuns call given_before given_now written_before written_now outcome) where
  read_are : new_readings given_before given_now ≡ h.readings
  read_are = ap (new_readings given_before) h.given ∙ drop_at given_before h.readings (length given_before) refl

  made_are : drop (length written_before) written_now ≡ h.made
  made_are = ap (drop (length written_before)) h.written ∙ drop_at written_before h.made (length written_before) refl

  pub run_explains : (o : Option Call) → Some call ≡ o → ExplainsAt o (new_readings given_before given_now) (drop (length written_before) written_now) outcome
  run_explains o known = subst (λ o. ExplainsAt o (new_readings given_before given_now) (drop (length written_before) written_now) outcome) known
      (rw (read_are, made_are) h.explains)

  pub run_grows : OnlyGrow given_before given_now
  run_grows = h.given ∙ ap (λ rs. given_before ++ rs) (sym read_are)

  pub run_makes : written_now ≡ written_before ++ drop (length written_before) written_now
  run_makes = h.written ∙ ap (λ fs. written_before ++ fs) (sym made_are)

pub none_left : {X : Type 0} (xs : List X) → drop (length xs) xs ≡ []
none_left xs = drop_all (length xs) xs (omega arith)

pub arguments_only : (o : Option Call) (readings : List Reading) (made : List WrittenFile) (r : Result (Unit {0}) SplitFault) → ExplainsAt o readings made r → (status_of r == 2) ≡ not (is_some o)
arguments_only None readings made r h = ap (λ (r : Result (Unit {0}) SplitFault). status_of r == 2) h.0
arguments_only (Some call) readings made (Ok done) h = refl
arguments_only (Some call) readings made (Err Arguments) h = absurd h
arguments_only (Some call) readings made (Err Memory) h = refl
arguments_only (Some call) readings made (Err (BadLine file line why)) h = refl
arguments_only (Some call) readings made (Err (File index)) h = refl
arguments_only (Some call) readings made (Err Write) h = refl

pub status_range : (r : Result (Unit {0}) SplitFault) → status_of r ≤ 5
status_range (Ok done) = omega arith
status_range (Err Arguments) = omega arith
status_range (Err Memory) = omega arith
status_range (Err (BadLine file line why)) = omega arith
status_range (Err (File index)) = omega arith
status_range (Err Write) = omega arith

pub read_status : (r : Result (Unit {0}) SplitFault) (count : ℕ) → read_faults r count ≡ (if status_of r == 4 then counted_up count else count)
read_status (Ok done) count = refl
read_status (Err Arguments) count = refl
read_status (Err Memory) count = refl
read_status (Err (BadLine file line why)) count = refl
read_status (Err (File index)) count = refl
read_status (Err Write) count = refl

pub write_status : (r : Result (Unit {0}) SplitFault) (count : ℕ) → write_faults r count ≡ (if status_of r == 5 then counted_up count else count)
write_status (Ok done) count = refl
write_status (Err Arguments) count = refl
write_status (Err Memory) count = refl
write_status (Err (BadLine file line why)) count = refl
write_status (Err (File index)) count = refl
write_status (Err Write) count = refl

pub silent_status : (words : List (List ℕ)) (r : Result (Unit {0}) SplitFault) → status_of r ≡ 0 → length (message_of words r) ≡ 0
silent_status words (Ok done) e = refl
silent_status words (Err Arguments) e = absurd (omega (arith, e))
silent_status words (Err Memory) e = absurd (omega (arith, e))
silent_status words (Err (BadLine file line why)) e = absurd (omega (arith, e))
silent_status words (Err (File index)) e = absurd (omega (arith, e))
silent_status words (Err Write) e = absurd (omega (arith, e))

pub outside_status : (o : Option Call) (readings : List Reading) (made : List WrittenFile) (r : Result (Unit {0}) SplitFault) → ExplainsAt o readings made r → status_of r ≡ 2 → o ≡ None
outside_status None readings made r h e = refl
outside_status (Some call) readings made (Ok done) h e = absurd (omega (arith, e))
outside_status (Some call) readings made (Err Arguments) h e = absurd h
outside_status (Some call) readings made (Err Memory) h e = absurd (omega (arith, e))
outside_status (Some call) readings made (Err (BadLine file line why)) h e = absurd (omega (arith, e))
outside_status (Some call) readings made (Err (File index)) h e = absurd (omega (arith, e))
outside_status (Some call) readings made (Err Write) h e = absurd (omega (arith, e))
