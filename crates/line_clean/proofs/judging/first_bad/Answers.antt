use Rattle.std.proofs.Common.{arith, subst}
use Rattle.event_lines.specs.Cut.{input_lines}
use Rattle.event_lines.specs.InputLines.{IsLineError, lines_said}
use Rattle.event_lines.specs.declared.line_error.LineError.{LineError}
use Rattle.mystery_io.specs.Input.{input_limit}
use Rattle.std.proofs.Common.{length}
use Rattle.event_lines.proofs.PieceLemmas.{few_input_lines}
use Rattle.line_clean.proofs.JudgingLemmas.{none_bad, one_bad}
use Rattle.line_clean.proofs.LineLemmas.{lines_short, shorter}
use Rattle.line_clean.proofs.judging.first_bad.Goals as goal

pub returns-in-Ok : goal.returns-in-Ok
returns-in-Ok g c =
    let bytes = c.args.bytes.now in
    none_bad 1 4294967295 (input_lines bytes) c.in-Ok._lines c.in-Ok.ensures.lines_read (omega (arith, few_input_lines bytes, c.requires))
    (shorter (length bytes) input_limit (input_lines bytes) c.requires (lines_short bytes))

pub returns-in-Err-Bad : goal.returns-in-Err-Bad
returns-in-Err-Bad g c =
    let bytes = c.args.bytes.now in
    one_bad 1 (input_lines bytes) c.in-Err-Bad.line c.in-Err-Bad.field-0-1 (subst (λ (e : LineError). IsLineError (lines_said bytes) e) c.in-Err-Bad.field-0-is c.in-Err-Bad.ensures.first_bad)
    (shorter (length bytes) input_limit (input_lines bytes) c.requires (lines_short bytes))
