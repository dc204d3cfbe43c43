use Rattle.std.proofs.Common.{◌<◌, ◌≤◌, ◌+◌, ℕ, List, [], length, map, drop, arith, refl, sym, subst}
use Rattle.std.specs.Borrow.{Bor}
use Rattle.std.proofs.lemmas.List.{length-map, take_all}
use Rattle.std.proofs.lemmas.Result.{err_from_is_err_and}
use Rattle.line_split.specs.Lines.{lines_from}
use Rattle.line_split.specs.inner.Calls.{call_of_line}
use Rattle.line_split.specs.inner.Known.{AreKnown}
use Rattle.line_split.specs.inner.Steps.{Splits}
use Rattle.line_split.proofs.ChunkLemmas.{step_err, step_on}
use Rattle.line_split.proofs.KnownLemmas.{part_step, some_left}
use Rattle.line_split.proofs.LineLemmas.{line_read}
use Rattle.line_split.proofs.StepLemmas.{ended, nothing, splits_ok}
use Rattle.line_split.proofs.known.split_known.Goals as goal

abbrev all_lines : List (Bor (List ℕ)) → List (List ℕ)
all_lines lines = map (λ (line : Bor (List ℕ)). line.now) lines

-- what stands where no line is
none : Bor (List ℕ)
none = record { ref_ptr = (0, 0); now = [] }

pub part_at-part-requires : goal.part_at-part-requires
unfolding none
part_at-part-requires g c =
    let lines = all_lines c.args.lines.now in
    let i = c.lines.line-index in
    let read = line_read c.args.lines.now c.args.lines.now lines i none refl refl in
    let lt : i < length lines = omega (arith, c.lines-test.true, length-map c.args.lines.now (λ (line : Bor (List ℕ)). line.now)) in
    some_left (call_of_line c.args.call) c.requires.some lines c.args.parts.now i c.lines.at _ lt read c.lines.invariant.known

pub put_known-requires-clause-within : goal.put_known-requires-clause-within
unfolding none
put_known-requires-clause-within g c =
    let lines = all_lines c.args.lines.now in
    let i = c.lines.line-index in
    let read = line_read c.args.lines.now c.args.lines.now lines i none refl refl in
    let lt : i < length lines = omega (arith, c.lines-test.true, length-map c.args.lines.now (λ (line : Bor (List ℕ)). line.now)) in
    (part_step (call_of_line c.args.call) c.requires.some lines c.args.parts.now i c.lines.at _ lt read c.lines.invariant.known c.part_at-part.result c.part_at-part.ensures.next).1

pub returns-in_err-put_known-clause-split : goal.returns-in_err-put_known-clause-split
unfolding none
returns-in_err-put_known-clause-split g c = λ n num.
    let P = g.P.OutputFiles in
    let lines = all_lines c.args.lines.now in
    let i = c.lines.line-index in
    let read = line_read c.args.lines.now c.args.lines.now lines i none refl refl in
    let lt : i < length lines = omega (arith, c.lines-test.true, length-map c.args.lines.now (λ (line : Bor (List ℕ)). line.now)) in
    let step = part_step (call_of_line c.args.call) c.requires.some lines c.args.parts.now i c.lines.at _ lt read c.lines.invariant.known c.part_at-part.result c.part_at-part.ensures.next in
    let p = err_from_is_err_and c.from_residual.result c.from_residual.ensures.1 in
    rw (p.1, p.2) (step_err (call_of_line c.args.call) P.written P.faults c.args.file n i lines c.args.files.now c.lines.files c.put_known.new.files c.args.pending.now c.lines.pending c.put_known.new.pending lt
    (c.lines.invariant.split n num) _ read (Unit {0}) ℕ _ (c.in_err-put_known.ensures (n + i) (c.lines.invariant.numbered n num) step.0))

pub lines-preserved : goal.lines-preserved
unfolding none
lines-preserved g c =
    let P = g.P.OutputFiles in
    let lines = all_lines c.args.lines.now in
    let i = c.lines.line-index in
    let at = c.lines.invariant in
    let read = line_read c.args.lines.now c.args.lines.now lines i none refl refl in
    let lt : i < length lines = omega (arith, c.lines-test.true, length-map c.args.lines.now (λ (line : Bor (List ℕ)). line.now)) in
    let step = part_step (call_of_line c.args.call) c.requires.some lines c.args.parts.now i c.lines.at _ lt read at.known c.part_at-part.result c.part_at-part.ensures.next in
    record {
      fits = (c.in_ok-put_known.ensures c.lines.number (omega (arith, at.small)) step.0).fits;
      small = omega (arith, at.small, c.saturating_add-number.ensures);
      numbered = λ n num. omega (arith, at.numbered n num, c.saturating_add-number.ensures);
      known = subst (λ (k : ℕ). AreKnown (call_of_line c.args.call) (drop (i + 1) lines) (drop k c.args.parts.now)) (sym c.next_at-at.ensures) step.2;
      split = λ n num. step_on (call_of_line c.args.call) P.written P.faults c.args.file n i lines c.args.files.now c.lines.files c.put_known.new.files c.args.pending.now c.lines.pending c.put_known.new.pending lt
          (at.split n num) _ read (c.in_ok-put_known.ensures (n + i) (at.numbered n num) step.0);
    }

pub returns-clause-split : goal.returns-clause-split
returns-clause-split g c = λ n num.
    let P = g.P.OutputFiles in
    let lines = all_lines c.args.lines.now in
    let i = c.lines.line-index in
    let all : length lines ≤ i = omega (arith, c.lines-test.false, length-map c.args.lines.now (λ (line : Bor (List ℕ)). line.now)) in
    splits_ok (call_of_line c.args.call) P.written P.faults nothing c.lines.number _ c.args.files.now c.lines.files c.args.pending.now c.lines.pending
    (subst (λ (ls : List (List ℕ)). Splits (call_of_line c.args.call) (lines_from c.args.file n ls) (ended nothing) P.written P.faults c.args.files.now c.lines.files c.args.pending.now c.lines.pending) (take_all i lines all) (c.lines.invariant.split n num))
