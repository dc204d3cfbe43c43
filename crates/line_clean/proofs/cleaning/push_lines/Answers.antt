use Rattle.std.proofs.Common.{◌∙◌, ◌++◌, List, ℕ, [], ap, arith, drop, subst, take}
use Rattle.std.specs.Prelude.{if◌then◌else◌}
use Rattle.std.proofs.lemmas.List.{length-drop, take_rest}
use Rattle.event_lines.specs.Cut.{is_blank_line}
use Rattle.line_clean.specs.Lines.{line_row}
use Rattle.line_clean.specs.inner.FirstLines.{IsFirstLine}
use Rattle.line_clean.proofs.CleaningLemmas.{line_known, line_told}
use Rattle.line_clean.proofs.cleaning.push_lines.Goals as goal

pub lines-preserved : goal.lines-preserved
lines-preserved c =
    let at = c.lines.invariant in
    let bytes = c.args.bytes.now in
    let i = c.lines.at in
    let line = c.of-line.result in
    let is = subst (λ (xs : List ℕ). IsFirstLine xs line) (take_rest bytes i) c.of-line.ensures in
    let known = at.known c.lines-test.true in
    let pushed = c.in_ok-push_line.ensures ∙ ap (λ (k : ℕ). c.lines.text.items ++ (if is_blank_line (take k (drop i bytes)) then [] else line_row (take k (drop i bytes)))) (omega arith) in
    record {
      within = omega (arith, is.within, length-drop i bytes, c.lines-test.true);
      known = line_known c.args.text.now.items bytes c.lines.text.items i c.lines.number c.args.bad line is known at.text c.if-number-bad.true;
      text = line_told c.args.text.now.items bytes c.lines.text.items i c.lines.number c.args.bad line is known at.text c.push_line.new.text.items c.if-number-bad.true pushed;
    }
