use Rattle.std.proofs.Common.{◌≡◌, [], ◌∷◌, ◌++◌, rules, sym, ◌∙◌}
use Rattle.std.specs.Prelude.{IsOkAnd}
use Rattle.event_lines.specs.LineResults.{line_result}
use Rattle.event_lines.proofs.InputLineLemmas.{line_appended}
use Rattle.event_lines.proofs.lines.add_numbered_line.Goals as goal

pub returns-in-Ok-clause-ok : goal.returns-in-Ok-clause-ok
returns-in-Ok-clause-ok c =
    let h : IsOkAnd (line_result c.args.number c.args.line.now) (λ said. c.add_line.new.lines ≡ c.args.lines.now ++ said ∷ []) = search rules in
    line_appended c.args.number c.args.line.now c.args.lines.now c.add_line.new.lines (sym c.is_blank_line.ensures ∙ c.if-is_blank_line.false) h
