use Rattle.std.proofs.Common.{◌≡◌, ◌<◌, ◌≤◌, ◌+◌, ℕ, List, [], ◌∷◌, length, ap, arith, refl, sym, subst}
use Rattle.std.specs.Borrow.{Bor}
use Rattle.std.proofs.lemmas.List.{take_all}
use Rattle.std.proofs.lemmas.Result.{err_from_is_err_and}
use Rattle.event_lines.specs.Cut.{input_lines}
use Rattle.line_split.specs.Lines.{lines_from}
use Rattle.line_split.specs.declared.split_fault.SplitFault.TheVariants.{Memory}
use Rattle.line_split.specs.inner.Calls.{call_of_line}
use Rattle.line_split.specs.inner.Steps.{Splits}
use Rattle.line_split.proofs.ChunkLemmas.{step_err, step_on}
use Rattle.line_split.proofs.LineLemmas.{line_count, line_read, one_line}
use Rattle.line_split.proofs.PutLemmas.{splits_stop}
use Rattle.line_split.proofs.StepLemmas.{ended, nothing, splits_ok}
use Rattle.line_split.proofs.chunk.split_lines.Goals as goal

-- what stands where no line is
none : Bor (List ℕ)
none = record { ref_ptr = (0, 0); now = [] }

pub returns-in_err-lines-clause-split : goal.returns-in_err-lines-clause-split
returns-in_err-lines-clause-split g c = λ n num.
    let p = err_from_is_err_and c.from_residual.result c.from_residual.ensures.1 in
    rw (p.1, p.2) (splits_stop (call_of_line c.args.call) g.P.OutputFiles.written g.P.OutputFiles.faults Memory _ c.args.files.now c.args.pending.now c.args.pending.now tt refl (λ count. refl))

pub split_line-requires-clause-one : goal.split_line-requires-clause-one
unfolding none
split_line-requires-clause-one g c = λ κs w.
    let bytes = c.args.bytes.now in
    let i = c.lines.line-index in
    let told = c.in_ok-lines.ensures in
    let read = line_read c.in_ok-lines.lines.items c.deref-line-items.result.now (input_lines bytes) i none c.deref-line-items.ensures.value told in
    let many = line_count c.in_ok-lines.lines.items (input_lines bytes) told in
    let lt : i < length (input_lines bytes) = omega (arith, many, c.lines-test.true, ap length c.deref-line-items.ensures.value) in
    subst (λ (l : List ℕ). input_lines l ≡ l ∷ []) (sym read) (one_line bytes i [] lt)

pub returns-in_err-split_line-clause-split : goal.returns-in_err-split_line-clause-split
unfolding none
returns-in_err-split_line-clause-split g c = λ n num.
    let bytes = c.args.bytes.now in
    let i = c.lines.line-index in
    let told = c.in_ok-lines.ensures in
    let read = line_read c.in_ok-lines.lines.items c.deref-line-items.result.now (input_lines bytes) i none c.deref-line-items.ensures.value told in
    let many = line_count c.in_ok-lines.lines.items (input_lines bytes) told in
    let lt : i < length (input_lines bytes) = omega (arith, many, c.lines-test.true, ap length c.deref-line-items.ensures.value) in
    let p = err_from_is_err_and c.from_residual-in_err-split_line.result c.from_residual-in_err-split_line.ensures.1 in
    rw (p.1, p.2) (step_err (call_of_line c.args.call) g.P.OutputFiles.written g.P.OutputFiles.faults c.args.file n i (input_lines bytes) c.args.files.now c.lines.files c.split_line.new.files c.args.pending.now c.lines.pending c.split_line.new.pending lt
    (c.lines.invariant.split n num) _ read (Unit {0}) ℕ _ (c.in_err-split_line.ensures (n + i) (c.lines.invariant.numbered n num)))

pub lines-preserved : goal.lines-preserved
unfolding none
lines-preserved g c = record {
  fits = (c.in_ok-split_line.ensures c.lines.number (omega (arith, c.lines.invariant.small))).fits;
  small = omega (arith, c.lines.invariant.small, c.saturating_add-number.ensures);
  numbered = λ n num. omega (arith, c.lines.invariant.numbered n num, c.saturating_add-number.ensures);
  split = λ n num.
      let bytes = c.args.bytes.now in
      let i = c.lines.line-index in
      let told = c.in_ok-lines.ensures in
      let read = line_read c.in_ok-lines.lines.items c.deref-line-items.result.now (input_lines bytes) i none c.deref-line-items.ensures.value told in
      let many = line_count c.in_ok-lines.lines.items (input_lines bytes) told in
      let lt : i < length (input_lines bytes) = omega (arith, many, c.lines-test.true, ap length c.deref-line-items.ensures.value) in
      step_on (call_of_line c.args.call) g.P.OutputFiles.written g.P.OutputFiles.faults c.args.file n i (input_lines bytes) c.args.files.now c.lines.files c.split_line.new.files c.args.pending.now c.lines.pending c.split_line.new.pending lt
      (c.lines.invariant.split n num) _ read (c.in_ok-split_line.ensures (n + i) (c.lines.invariant.numbered n num));
}

pub returns-clause-split : goal.returns-clause-split
returns-clause-split g c = λ n num.
    let bytes = c.args.bytes.now in
    let i = c.lines.line-index in
    let many = line_count c.in_ok-lines.lines.items (input_lines bytes) c.in_ok-lines.ensures in
    let all : length (input_lines bytes) ≤ i = omega (arith, many, c.lines-test.false, ap length c.deref-line-items.ensures.value) in
    splits_ok (call_of_line c.args.call) g.P.OutputFiles.written g.P.OutputFiles.faults nothing c.lines.number _ c.args.files.now c.lines.files c.args.pending.now c.lines.pending
    (subst (λ (ls : List (List ℕ)). Splits (call_of_line c.args.call) (lines_from c.args.file n ls) (ended nothing) g.P.OutputFiles.written g.P.OutputFiles.faults c.args.files.now c.lines.files c.args.pending.now c.lines.pending) (take_all i (input_lines bytes) all) (c.lines.invariant.split n num))
