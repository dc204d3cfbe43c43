-- Parts of a recording: what a worker makes of one, and how they are halved and joined.
use Rattle.std.proofs.Common.{◌≡◌, ℕ, ◌+◌, ◌-◌, ◌/◌, ◌<◌, ◌≤◌, List, [], ◌∷◌, ◌++◌, Result, Ok, Err, IfErr, IfOk, length, length-append, length-drop, take, drop, refl, sym, ap, ap₂, ◌∙◌, subst, arith}
use Rattle.std.proofs.Math.Seq.{take-add}
use Rattle.std.proofs.lemmas.List.{drop-drop, drop-take, length-take-le, take-append-drop, take-append-le, take-take, take_all}
use Rattle.std.proofs.lemmas.List.Elements.{All-drop, All-take}
use Rattle.std.specs.List.{All}
use Rattle.refute_tests.specs.Clearing.{HaveNamesBelow}
use Rattle.trace_types.specs.declared.named_trace.NamedTrace.{NamedTrace}
use Rattle.word_rows.specs.Changes.{left_view, new_view}
use Rattle.word_rule.specs.Histories.{KnowsMore}
use Rattle.word_rule.specs.Holdings.{Holding, together, with_view}
use Rattle.trace_rules.specs.Halving.{first_part, shares_of}
use Rattle.trace_pass.specs.Rows.{AreRowsWithin}
use Rattle.trace_pass.specs.States.{HasStopped, IsOfRecorder, RecorderState, RecordingState, both_recordings}
use Rattle.trace_pass.specs.Watch.{HasWatched}
use Rattle.trace_rules.specs.declared.watch_line.WatchLine.{WatchLine}
use Rattle.trace_pass.specs.inner.Parts.{HasRows, IsCutInto, PartState, recording_of, rest_of, with_recorded}
use Rattle.trace_pass.specs.inner.Working.{AreHalves, AreLines, AreLinesAfter, CanOffer, HasRecorded, HasStoppedAt, HasWatchedFrom, HasWorked, IsWatching}
use Rattle.trace_pass.proofs.BlockLemmas.{both_worked, first_kept, first_stopped}
use Rattle.trace_pass.proofs.FlatLemmas.{has_watched}
use Rattle.trace_pass.proofs.HalvingLemmas.{shares_one}
use Rattle.trace_pass.proofs.RowLemmas.{have_both}
use Rattle.trace_pass.proofs.WatchLemmas.{lines_one}

-- the traces that are recorded after so many more
pub recorded_more : (old new : PartState) (n : ℕ) → new.given ≡ old.given → new.recorded ≡ old.recorded + n → (recording_of new).traces ≡ (recording_of old).traces ++ take n (rest_of old)
recorded_more old new n given count = ap₂ (λ (k : ℕ) (ts : List NamedTrace). take k ts) count given ∙ take-add old.recorded n old.given

-- a part of the same traces
same_part : (old new : PartState) → new.given ≡ old.given → new.names ≡ old.names → (n : ℕ) → new.recorded ≡ n → new ≡ with_recorded old new.pass n
same_part old new given names n count =
    ap (λ (ts : List NamedTrace). record { pass = new.pass; given = ts; recorded = new.recorded; names = new.names }) given
    ∙ ap₂ (λ (k m : ℕ). record { pass = new.pass; given = old.given; recorded = k; names = m }) count names

-- a worker stopped after so many traces
pub stopped : (recorder : RecorderState) (old new : PartState) (n : ℕ) → IsOfRecorder recorder (recording_of new) → new.given ≡ old.given → new.recorded ≡ old.recorded + n → new.pass.view.shares ≡ old.pass.view.shares
    → HasStopped recorder (recording_of old) (rest_of old) (recording_of new)
stopped recorder old new n table given count shares = record {
  table = table;
  shares = omega arith;
  offered = take n (rest_of old);
  left = drop n (rest_of old);
  parts = sym (take-append-drop n (rest_of old));
  recorded = recorded_more old new n given count;
}

-- a worker offered all traces
pub worked : (recorder : RecorderState) (every worker n : ℕ) (old new : PartState) (lines : List WatchLine) → n ≡ length (rest_of old) → IsOfRecorder recorder (recording_of new) → new.given ≡ old.given → new.recorded ≡ old.recorded + n
    → new.pass.view.shares ≡ old.pass.view.shares → KnowsMore old.pass.pasts new.pass.pasts → IsWatching every recorder.table.width worker n (rest_of old) old.pass.view.readings new.pass.view.readings lines
    → HasWorked recorder every worker (recording_of old) (rest_of old) (rest_of old ∷ []) (recording_of new) lines
worked recorder every worker n old new lines all table given count shares more w =
    let long : length (rest_of old) ≤ n = omega arith in
    record {
      table = table;
      same = shares;
      recorded = recorded_more old new n given count ∙ ap (λ (ts : List NamedTrace). (recording_of old).traces ++ ts) (take_all n (rest_of old) long);
      more = more;
      watched = record {
        blocks = w.blocks;
        readings = w.added;
        by_worker = lines_one every recorder.table.width worker (rest_of old) lines w.blocks
            (subst (λ (m : ℕ). AreLinesAfter every recorder.table.width worker m (rest_of old) lines w.blocks) all w.so_far);
      };
    }

-- the first half of a part and the other half
pub halved : (recorder : RecorderState) (worker n k : ℕ) (old : PartState) (firsts rest : List NamedTrace) → n ≡ first_part (length (rest_of old)) old.pass.view.shares → n ≤ length (rest_of old)
    → firsts ≡ take (old.recorded + n) old.given → rest ≡ drop (old.recorded + n) old.given → k ≡ old.pass.view.shares - old.pass.view.shares / 2 → 1 < old.pass.view.shares
    → CanOffer recorder (recording_of old) (rest_of old) worker
    → let first : PartState = record { pass = with_view old.pass (left_view k old.pass.view); given = firsts; recorded = old.recorded; names = old.names } in
    let other : PartState = record { pass = with_view old.pass (new_view k old.pass.view); given = rest; recorded = 0; names = old.names } in
    AreHalves recorder worker (recording_of old) (rest_of old) (recording_of first) (rest_of first) (recording_of other) (rest_of other)
halved recorder worker n k old firsts rest part within front back shares several can =
    let left = rest_of old in
    let first_rest : drop old.recorded firsts ≡ take n left = ap (drop old.recorded) front ∙ drop-take old.recorded n old.given in
    let other_rest : rest ≡ drop n left = back ∙ sym (drop-drop n old.recorded old.given) in
    let first_long : length (drop old.recorded firsts) ≡ n = ap length first_rest ∙ length-take-le n left within in
    let other_long : length rest ≡ length left - n = ap length other_rest ∙ length-drop n left in
    let few = can.few in let workers = can.workers in
    record {
      takes = first_rest ∙ ap (λ (m : ℕ). take m left) part;
      leaves = other_rest ∙ ap (λ (m : ℕ). drop m left) part;
      first_shares = omega arith;
      other_shares = shares;
      first_traces = ap (take old.recorded) front ∙ take-take old.recorded (old.recorded + n) old.given (omega arith);
      other_traces = refl;
      first_pasts = refl;
      first_readings = refl;
      other_readings = refl;
      first_can = record {
        table = record { pass = record { table_id = can.table.pass.table_id; all = can.table.pass.all }; names = can.table.names };
        names = subst (All (HaveNamesBelow recorder.names)) (sym first_rest) (All-take (HaveNamesBelow recorder.names) n left can.names);
        few = omega arith;
        workers = omega arith;
      };
      other_can = record {
        table = record { pass = record { table_id = can.table.pass.table_id; all = can.table.pass.all }; names = can.table.names };
        names = subst (All (HaveNamesBelow recorder.names)) (sym other_rest) (All-drop (HaveNamesBelow recorder.names) n left can.names);
        few = omega arith;
        workers = omega arith;
      };
    }

-- the rows of one worker
pub recorded_one : (recorder : RecorderState) (every worker : ℕ) (old new : PartState) (lines : List WatchLine) → old.pass.view.shares ≡ 1 → new.given ≡ old.given → new.names ≡ old.names → new.recorded ≡ length old.given → HasRows new
    → HasWorked recorder every worker (recording_of old) (rest_of old) (rest_of old ∷ []) (recording_of new) lines → HasRecorded recorder every worker old new.pass lines
recorded_one recorder every worker old new lines one given names all rows w =
    let same : new ≡ with_recorded old new.pass (length old.given) = same_part old new given names (length old.given) all in
    record {
      worked = subst (λ (p : PartState). HasWorked recorder every worker (recording_of old) (rest_of old) (shares_of (rest_of old) old.pass.view.shares) (recording_of p) lines) same
          (subst (λ (ss : List (List NamedTrace)). HasWorked recorder every worker (recording_of old) (rest_of old) ss (recording_of new) lines) (sym (shares_one (rest_of old) old.pass.view.shares (omega arith))) w);
      rows = subst HasRows same rows;
    }

-- one worker stopped
pub stopped_one : (recorder : RecorderState) (old new : PartState) → new.given ≡ old.given → new.names ≡ old.names → HasRows new → HasStopped recorder (recording_of old) (rest_of old) (recording_of new) → HasStoppedAt recorder old new.pass new.recorded
stopped_one recorder old new given names rows s =
    let same : new ≡ with_recorded old new.pass new.recorded = same_part old new given names new.recorded refl in
    record {
      stopped = subst (λ (p : PartState). HasStopped recorder (recording_of old) (rest_of old) (recording_of p)) same s;
      rows = subst HasRows same rows;
    }

-- the same halves, by other names of them
pub halves_as : (recorder : RecorderState) (worker : ℕ) (old mine theirs first other : PartState) → mine ≡ first → theirs ≡ other
    → AreHalves recorder worker (recording_of old) (rest_of old) (recording_of first) (rest_of first) (recording_of other) (rest_of other)
    → AreHalves recorder worker (recording_of old) (rest_of old) (recording_of mine) (rest_of mine) (recording_of theirs) (rest_of theirs)
halves_as recorder worker old mine theirs first other one two halves =
    subst (λ (p : PartState). AreHalves recorder worker (recording_of old) (rest_of old) (recording_of p) (rest_of p) (recording_of theirs) (rest_of theirs)) (sym one)
    (subst (λ (p : PartState). AreHalves recorder worker (recording_of old) (rest_of old) (recording_of first) (rest_of first) (recording_of p) (rest_of p)) (sym two) halves)

-- the same cut, by other names of its parts
pub cut_as : (old mine theirs first other : PartState) → mine ≡ first → theirs ≡ other → IsCutInto old first other → IsCutInto old mine theirs
cut_as old mine theirs first other one two cut = subst (λ (p : PartState). IsCutInto old p theirs) (sym one) (subst (λ (p : PartState). IsCutInto old first p) (sym two) cut)

module _ (recorder : RecorderState) (every worker : ℕ) (old first other : PartState) (several : 1 < old.pass.view.shares)
    (halves : AreHalves recorder worker (recording_of old) (rest_of old) (recording_of first) (rest_of first) (recording_of other) (rest_of other)) (cut : IsCutInto old first other) where
  -- the first part's traces so far, as the whole part's
  first_so_far : (pass : Holding) (n : ℕ) → n ≤ length first.given → recording_of (with_recorded first pass n) ≡ recording_of (with_recorded old pass n)
  first_so_far pass n within =
      let taken : take n first.given ≡ take n old.given = sym (take-append-le n first.given other.given within) ∙ ap (take n) cut.given in
      ap₂ (λ (ts : List NamedTrace) (m : ℕ). record { pass = pass; traces = ts; names = m }) taken cut.first_names

  first_rows : (pass : Holding) (n : ℕ) → n ≤ length first.given → HasRows (with_recorded first pass n) → HasRows (with_recorded old pass n)
  first_rows pass n within r = record {
    within = let long = ap length cut.given in let sum = length-append first.given other.given in omega arith;
    rows = subst (λ (s : RecordingState). AreRowsWithin s.names s.traces pass.view.done) (first_so_far pass n within) r.rows;
  }

  -- the first half stopped
  pub block_stopped : (pass : Holding) (n : ℕ) → HasStoppedAt recorder first pass n → HasStoppedAt recorder old pass n
  block_stopped pass n s = record {
    stopped = subst (λ (r : RecordingState). HasStopped recorder (recording_of old) (rest_of old) r) (first_so_far pass n s.rows.within)
        (first_stopped recorder every worker (recording_of old) (rest_of old) (recording_of first) (rest_of first) (recording_of other) (rest_of other) several halves _ s.stopped);
    rows = first_rows pass n s.rows.within s.rows;
  }

  -- the first half is all that was kept
  pub block_kept : (pass : Holding) (lines : List WatchLine) → HasRecorded recorder every worker first pass lines → HasStoppedAt recorder old pass (length first.given)
  block_kept pass lines a = record {
    stopped = subst (λ (r : RecordingState). HasStopped recorder (recording_of old) (rest_of old) r) (first_so_far pass (length first.given) (omega arith))
        (first_kept recorder every worker (recording_of old) (rest_of old) (recording_of first) (rest_of first) (recording_of other) (rest_of other) several halves _ lines a.worked);
    rows = first_rows pass (length first.given) (omega arith) a.rows;
  }

  -- both halves recorded all their traces
  pub block_recorded : (one two : Holding) (lines more : List WatchLine) → HasRecorded recorder every worker first one lines → HasRecorded recorder every (worker + old.pass.view.shares / 2) other two more
      → HasRecorded recorder every worker old (together one two) (lines ++ more)
  block_recorded one two lines more a b =
      let firsts : take (length first.given) first.given ≡ first.given = take_all (length first.given) first.given (omega arith) in
      let others : take (length other.given) other.given ≡ other.given = take_all (length other.given) other.given (omega arith) in
      let all : take (length old.given) old.given ≡ old.given = take_all (length old.given) old.given (omega arith) in
      let whole : take (length first.given) first.given ++ take (length other.given) other.given ≡ take (length old.given) old.given = ap₂ (λ (x y : List NamedTrace). x ++ y) firsts others ∙ cut.given ∙ sym all in
      let same : both_recordings (recording_of (with_recorded first one (length first.given))) (recording_of (with_recorded other two (length other.given))) ≡ recording_of (with_recorded old (together one two) (length old.given)) =
      ap₂ (λ (ts : List NamedTrace) (m : ℕ). record { pass = together one two; traces = ts; names = m }) whole cut.first_names in
      record {
        worked = subst (λ (r : RecordingState). HasWorked recorder every worker (recording_of old) (rest_of old) (shares_of (rest_of old) old.pass.view.shares) r (lines ++ more)) same
            (both_worked recorder every worker (recording_of old) (rest_of old) (recording_of first) (rest_of first) (recording_of other) (rest_of other) several halves _ _ lines more a.worked b.worked);
        rows = record {
          within = omega arith;
          rows = subst (λ (ts : List NamedTrace). AreRowsWithin old.names ts (together one two).view.done) whole
              (have_both old.names _ _ _ _
              (subst (λ (m : ℕ). AreRowsWithin m (take (length first.given) first.given) one.view.done) cut.first_names a.rows.rows)
              (subst (λ (m : ℕ). AreRowsWithin m (take (length other.given) other.given) two.view.done) cut.other_names b.rows.rows));
        };
      }

  -- the first half stands alone, as what was kept
  pub block_kept_as : (pass one : Holding) (n : ℕ) (lines : List WatchLine) → pass ≡ one → n ≡ length first.given → HasRecorded recorder every worker first one lines → HasStoppedAt recorder old pass n
  block_kept_as pass one n lines e long a =
      subst (λ (p : Holding). HasStoppedAt recorder old p n) (sym e) (subst (λ (m : ℕ). HasStoppedAt recorder old one m) (sym long) (block_kept one lines a))

  -- both halves recorded all their traces, and this is what they gave
  pub block_recorded_as : (pass one two : Holding) (all lines more : List WatchLine) → pass ≡ together one two → all ≡ lines ++ more → HasRecorded recorder every worker first one lines
      → HasRecorded recorder every (worker + old.pass.view.shares / 2) other two more → HasRecorded recorder every worker old pass all
  block_recorded_as pass one two all lines more e sum a b =
      subst (λ (p : Holding). HasRecorded recorder every worker old p all) (sym e)
      (subst (λ (ls : List WatchLine). HasRecorded recorder every worker old (together one two) ls) (sym sum) (block_recorded one two lines more a b))

-- what follows from what is known of an `Ok`
pub if_ok_both : {A E : Type 0} (P Q R : A → Type 0) (r : Result A E) → ((a : A) → P a → Q a → R a) → IfOk r P → IfOk r Q → IfOk r R
if_ok_both P Q R (Ok a) f p q = f a p q
if_ok_both P Q R (Err e) f p q = tt

-- what follows from what is known of an `Err`
pub if_err_of : {A E : Type 0} (P Q : E → Type 0) (r : Result A E) → ((e : E) → P e → Q e) → IfErr r P → IfErr r Q
if_err_of P Q (Ok a) f p = tt
if_err_of P Q (Err e) f p = f e p

-- the lines of a whole part are those of the recordings before and after
pub watched_part : (every width n : ℕ) (part : PartState) (pass : Holding) (traces ts us : List NamedTrace) (lines : List WatchLine) → rest_of part ≡ traces
    → HasWatchedFrom every width 0 (shares_of (rest_of part) part.pass.view.shares) (recording_of part) (recording_of (with_recorded part pass n)) lines
    → HasWatched every width (shares_of traces part.pass.view.shares) (record { pass = part.pass; traces = ts; names = part.names }) (record { pass = pass; traces = us; names = part.names }) lines
watched_part every width n part pass traces ts us lines rest w = has_watched every width _ _ _ lines (record {
  blocks = w.blocks;
  readings = w.readings;
  by_worker = subst (λ (xs : List NamedTrace). AreLines every width 0 (shares_of xs part.pass.view.shares) lines w.blocks) rest w.by_worker;
})
