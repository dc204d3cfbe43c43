use Rattle.std.proofs.Common.{◌≡◌, ◌<◌, ◌≤◌, ◌∙◌, ◌+◌, ◌++◌, ◌∷◌, ℕ, List, [], length, get_or, take, ap, arith, true, refl, sym, subst, append-nil, append_assoc}
use Rattle.std.proofs.lemmas.List.{length_push, take_all, with_items_is}
use Rattle.std.proofs.lemmas.List.Elements.{All-nil, All-push}
use Rattle.std.proofs.lemmas.Result.{err_from_is_err_and}
use Rattle.event_lines.specs.Cut.{input_lines}
use Rattle.mystery_io.specs.Readings.{Reading}
use Rattle.mystery_io.proofs.ReadGivenLemmas.{reading}
use Rattle.line_split.specs.Lines.{FileLine, IsGood, all_lines, lines_from}
use Rattle.line_split.specs.Parts.{file_count, part_file}
use Rattle.line_split.specs.inner.Calls.{call_of_line}
use Rattle.line_split.specs.inner.Steps.{FileSplit, FileStop, Splits, all_split}
use Rattle.line_split.proofs.PendingLemmas.{tells_begins}
use Rattle.line_split.proofs.RunLemmas.{all_push, named_push, reads_none, stop_of}
use Rattle.line_split.proofs.StepLemmas.{nothing, splits_none, splits_on}
use Rattle.line_split.proofs.reading.split_files.Goals as goal

pub returns-in_err-buffer-clause-stops : goal.returns-in_err-buffer-clause-stops
returns-in_err-buffer-clause-stops g c =
    let P = g.P.OutputFiles in
    let call = call_of_line c.args.call in
    let p = err_from_is_err_and c.from_residual.result c.from_residual.ensures.1 in
    rw (p.1, p.2) (record {
      readings = [];
      given = sym (append-nil (g.F.Files.given c.args.files.now));
      reads = reads_none call [] refl;
      stops = λ before told. record {
        lines = [];
        rest = [];
        split = refl;
        good = All-nil IsGood;
        begun = tells_begins (file_count call) before (part_file call []) (P.written c.args.outputs.now) c.args.pending.now told;
        cause = tt;
      };
    })

pub files-init : goal.files-init
files-init g c = record {
  index = refl;
  room = omega (arith, c.in_ok-buffer.ensures.len, c.in_ok-buffer.buffer.ok.0);
  fits = c.requires.fits;
  counted = refl;
  tallied = refl;
  readings = [];
  given = sym (append-nil (g.F.Files.given c.args.files.now));
  size = refl;
  named = refl;
  ended = All-nil (λ (r : Reading). r.at_end ≡ true);
  split = splits_none (call_of_line c.args.call) g.P.OutputFiles.written g.P.OutputFiles.faults nothing c.args.outputs.now c.args.pending.now c.requires.fits;
}

pub returns-in_err-split_file-clause-stops : goal.returns-in_err-split_file-clause-stops
returns-in_err-split_file-clause-stops g c =
    let P = g.P.OutputFiles in
    let F = g.F.Files in
    let call = call_of_line c.args.call in
    let at = c.files.invariant in
    let i = c.files.name-index in
    let name = c.name-item.result in
    let p = err_from_is_err_and c.from_residual-in_err-split_file.result c.from_residual-in_err-split_file.ensures.1 in
    let is : name ≡ get_or call.files i name = c.name-item.is ∙ ap (λ (ns : List (List ℕ)). get_or ns i name) c.requires.names in
    let lt : i < length call.files = omega (arith, c.files-test.true, ap length c.requires.names) in
    let fault = c.in_err-split_file.field-0.0 in
    let stop = subst (λ (k : ℕ). FileStop call k name P.written c.files.outputs c.split_file.new.outputs c.files.pending (F.given c.files.files) (F.given c.split_file.new.files) fault) at.index c.in_err-split_file.ensures.stops in
    rw (p.1, p.2) (stop_of call P.written P.faults c.args.outputs.now c.files.outputs c.split_file.new.outputs c.args.pending.now c.files.pending at.readings i at.size at.split at.ended
    (F.given c.args.files.now) (F.given c.files.files) (F.given c.split_file.new.files) name name fault lt at.named is at.given stop)

pub files-preserved : goal.files-preserved
files-preserved g c =
    let P = g.P.OutputFiles in
    let F = g.F.Files in
    let call = call_of_line c.args.call in
    let at = c.files.invariant in
    let i = c.files.name-index in
    let name = c.name-item.result in
    let is : name ≡ get_or call.files i name = c.name-item.is ∙ ap (λ (ns : List (List ℕ)). get_or ns i name) c.requires.names in
    let lt : i < length call.files = omega (arith, c.files-test.true, ap length c.requires.names) in
    let h = subst (λ (k : ℕ). FileSplit call k name P.written P.faults c.files.outputs c.split_file.new.outputs c.files.pending c.split_file.new.pending (F.given c.files.files) (F.given c.split_file.new.files)) at.index c.in_ok-split_file.ensures.split in
    let r : Reading = reading name h.bytes true in
    let lines = lines_from i 1 (input_lines h.bytes) in
    let size = c.in_ok-split_file.ensures.room in
    let whole = with_items_is c.files.buffer c.split_file.new.buffer (omega (arith, size, ap length c.deref_mut.ensures.value, c.files.buffer.ok.0)) in
    record {
      index = omega (arith, at.index);
      room = omega (arith, ap length whole, size, ap length c.deref_mut.ensures.value, at.room);
      fits = c.in_ok-split_file.ensures.fits;
      counted = c.in_ok-split_file.ensures.counted ∙ at.counted;
      tallied = c.in_ok-split_file.ensures.tallied ∙ at.tallied;
      readings = at.readings ++ r ∷ [];
      given = h.given ∙ ap (λ rs. rs ++ r ∷ []) at.given ∙ append_assoc (F.given c.args.files.now) at.readings (r ∷ []);
      size = length_push at.readings r ∙ ap (λ k. k + 1) at.size;
      named = named_push call at.readings i at.size lt at.named r name is;
      ended = All-push (λ (r : Reading). r.at_end ≡ true) at.readings r at.ended refl;
      split = subst (λ (a : List FileLine). Splits call a all_split P.written P.faults c.args.outputs.now c.split_file.new.outputs c.args.pending.now c.split_file.new.pending)
          (sym (all_push at.readings r ∙ ap (λ (k : ℕ). all_lines at.readings ++ lines_from k 1 (input_lines h.bytes)) at.size))
          (splits_on call P.written P.faults nothing (all_lines at.readings) lines all_split c.args.outputs.now c.files.outputs c.split_file.new.outputs c.args.pending.now c.files.pending c.split_file.new.pending at.split h.split);
    }

pub returns-clause-split : goal.returns-clause-split
returns-clause-split g c =
    let at = c.files.invariant in
    let all : length c.args.names.now ≤ c.files.name-index = omega arith in
    record {
      readings = at.readings;
      given = at.given;
      reads = record { named = at.named ∙ ap (take c.files.name-index) (sym c.requires.names) ∙ take_all c.files.name-index c.args.names.now all ∙ c.requires.names; ended = at.ended };
      split = at.split;
    }
