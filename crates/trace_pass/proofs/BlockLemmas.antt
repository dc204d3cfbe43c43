-- Two blocks of workers as one.
use Rattle.std.proofs.Common.{◌≡◌, ℕ, ◌+◌, ◌/◌, ◌<◌, List, ◌++◌, length, sym, ap, ap₂, ◌∙◌, subst, append_assoc, arith}
use Rattle.std.proofs.lemmas.List.{take-append-drop}
use Rattle.std.proofs.lemmas.List.Concat.{flat_map-append}
use Rattle.std.specs.List.{flat_map}
use Rattle.trace_types.specs.declared.named_trace.NamedTrace.{NamedTrace}
use Rattle.word_rows.specs.declared.views.Reading.{Reading}
use Rattle.word_rows.specs.Changes.{readings_from}
use Rattle.word_rows.specs.declared.events.StepEvent.{StepEvent}
use Rattle.word_rule.specs.Histories.{ArePrefixes}
use Rattle.trace_rules.specs.Halving.{first_part, shares_of}
use Rattle.word_rule.proofs.PastLemmas.{of_left}
use Rattle.trace_pass.specs.States.{HasStopped, RecorderState, RecordingState, both_recordings}
use Rattle.trace_rules.specs.declared.watch_line.WatchLine.{WatchLine}
use Rattle.trace_pass.specs.inner.Working.{AreHalves, AreLines, HasWorked}
use Rattle.trace_pass.proofs.HalvingLemmas.{length_shares, shares_split}
use Rattle.trace_pass.proofs.WatchLemmas.{lines_both}

module _ (recorder : RecorderState) (every worker : ℕ) (old : RecordingState) (traces : List NamedTrace) (first : RecordingState) (firsts : List NamedTrace) (other : RecordingState) (rest : List NamedTrace)
    (several : 1 < old.pass.view.shares) (halves : AreHalves recorder worker old traces first firsts other rest) where
  whole : firsts ++ rest ≡ traces
  whole = ap₂ (λ (a b : List NamedTrace). a ++ b) halves.takes halves.leaves ∙ take-append-drop (first_part (length traces) old.pass.view.shares) traces

  shares : shares_of traces old.pass.view.shares ≡ shares_of firsts first.pass.view.shares ++ shares_of rest other.pass.view.shares
  shares = shares_split traces old.pass.view.shares several
      ∙ ap₂ (λ (a b : List (List NamedTrace)). a ++ b)
      (sym (ap₂ (λ (xs : List NamedTrace) (n : ℕ). shares_of xs n) halves.takes halves.first_shares))
      (sym (ap₂ (λ (xs : List NamedTrace) (n : ℕ). shares_of xs n) halves.leaves halves.other_shares))

  pub both_worked : (one two : RecordingState) (lines more : List WatchLine)
      → HasWorked recorder every worker first firsts (shares_of firsts first.pass.view.shares) one lines
      → HasWorked recorder every (worker + old.pass.view.shares / 2) other rest (shares_of rest other.pass.view.shares) two more
      → HasWorked recorder every worker old traces (shares_of traces old.pass.view.shares) (both_recordings one two) (lines ++ more)
  both_worked one two lines more a b = record {
    table = record { pass = record { table_id = a.table.pass.table_id; all = a.table.pass.all }; names = a.table.names };
    same = let p = a.same in let q = b.same in let u = halves.first_shares in let v = halves.other_shares in omega arith;
    recorded =
        ap₂ (λ (xs ys : List NamedTrace). xs ++ ys) (a.recorded ∙ ap (λ (xs : List NamedTrace). xs ++ firsts) halves.first_traces) (b.recorded ∙ ap (λ (xs : List NamedTrace). xs ++ rest) halves.other_traces)
        ∙ append_assoc old.traces firsts rest ∙ ap (λ (xs : List NamedTrace). old.traces ++ xs) whole;
    more = λ history begins. subst (λ (ps : List (List StepEvent)). ArePrefixes ps history) halves.first_pasts (a.more history (of_left one.pass.pasts two.pass.pasts history begins));
    watched = record {
      blocks = a.watched.blocks ++ b.watched.blocks;
      readings =
          ap₂ (λ (xs ys : List Reading). xs ++ ys)
          (a.watched.readings ∙ ap (λ (xs : List Reading). xs ++ flat_map (readings_from 0) a.watched.blocks) halves.first_readings)
          (b.watched.readings ∙ ap (λ (xs : List Reading). xs ++ flat_map (readings_from 0) b.watched.blocks) halves.other_readings)
          ∙ append_assoc old.pass.view.readings (flat_map (readings_from 0) a.watched.blocks) (flat_map (readings_from 0) b.watched.blocks)
          ∙ ap (λ (xs : List Reading). old.pass.view.readings ++ xs) (sym (flat_map-append (readings_from 0) a.watched.blocks b.watched.blocks));
      by_worker = subst (λ (ss : List (List NamedTrace)). AreLines every recorder.table.width worker ss (lines ++ more) (a.watched.blocks ++ b.watched.blocks)) (sym shares)
          (lines_both every recorder.table.width worker (shares_of firsts first.pass.view.shares) (shares_of rest other.pass.view.shares) (worker + old.pass.view.shares / 2) lines more a.watched.blocks b.watched.blocks
          next a.watched.by_worker b.watched.by_worker);
    };
  }
    where
      next : worker + old.pass.view.shares / 2 ≡ worker + length (shares_of firsts first.pass.view.shares)
      next = let u = halves.first_shares in let l = length_shares firsts first.pass.view.shares (omega arith) in omega arith

  -- the first block stopped
  pub first_stopped : (one : RecordingState) → HasStopped recorder first firsts one → HasStopped recorder old traces one
  first_stopped one s = record {
    table = s.table;
    shares = let a = s.shares in let b = halves.first_shares in omega arith;
    offered = s.offered;
    left = s.left ++ rest;
    parts = sym whole ∙ ap (λ (xs : List NamedTrace). xs ++ rest) s.parts ∙ append_assoc s.offered s.left rest;
    recorded = s.recorded ∙ ap (λ (xs : List NamedTrace). xs ++ s.offered) halves.first_traces;
  }

  -- the first block is all that was kept
  pub first_kept : (one : RecordingState) (lines : List WatchLine) → HasWorked recorder every worker first firsts (shares_of firsts first.pass.view.shares) one lines → HasStopped recorder old traces one
  first_kept one lines a = record {
    table = a.table;
    shares = let p = a.same in let b = halves.first_shares in omega arith;
    offered = firsts;
    left = rest;
    parts = sym whole;
    recorded = a.recorded ∙ ap (λ (xs : List NamedTrace). xs ++ firsts) halves.first_traces;
  }
