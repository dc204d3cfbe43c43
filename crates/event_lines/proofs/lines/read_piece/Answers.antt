use Rattle.std.proofs.Common.{arith, ap, sym, ◌∙◌, length, Ok}
use Rattle.std.proofs.lemmas.List.{append-nil}
use Rattle.std.proofs.lemmas.Result.{err_from_is_err_and}
use Rattle.event_lines.proofs.CutLemmas.{cut_any, cut_from, cut_end}
use Rattle.event_lines.proofs.InputLineLemmas.{first_added, first_bad}
use Rattle.event_lines.proofs.lines.read_piece.Goals as goal

pub lines-preserved : goal.lines-preserved
lines-preserved c =
    let cut = cut_from c.args.bytes.now c.lines.start c.line_end.result c.line_end.ensures.first c.lines.invariant.within (omega arith) in record {
      within = omega arith;
      few = omega arith;
      numbered = omega (arith, ap length cut, c.lines.invariant.numbered);
      told = first_added c.lines.number _ _ _ _ _ cut c.lines.invariant.told c.add_numbered_line.new.lines c.in_ok-add_numbered_line.ensures.ok;
    }

pub returns-then-end-bytes : goal.returns-then-end-bytes
returns-then-end-bytes c =
    let cut = cut_end c.args.bytes.now c.lines.start c.line_end.result c.line_end.ensures.first c.lines.invariant.within c.if-end-bytes.true in
    let said = sym (first_added c.lines.number _ _ _ _ _ cut c.lines.invariant.told c.add_numbered_line.new.lines c.in_ok-add_numbered_line.ensures.ok) in
    let given = append-nil c.add_numbered_line.new.lines ∙ sym c.in_ok-into_parts.ensures in
    (said ∙ ap Ok given, omega (arith, ap length cut, c.lines.invariant.numbered))

pub returns-in_err-add_numbered_line : goal.returns-in_err-add_numbered_line
returns-in_err-add_numbered_line c =
    let p = err_from_is_err_and c.from_residual-in_err-add_numbered_line.result c.from_residual-in_err-add_numbered_line.ensures.1 in
    let cut = cut_any c.args.bytes.now c.lines.start c.line_end.result c.line_end.ensures.first c.lines.invariant.within (omega arith) in
    rw (p.1, p.2) (first_bad c.lines.number _ cut.0 _ _ _ cut.1 c.lines.invariant.told _ c.in_err-add_numbered_line.ensures.err)
