use Rattle.std.proofs.Common.{◌≡◌, ◌==◌, ℕ, ap, sym, ◌∙◌}
use Rattle.line_split.specs.CommandLines.{call_of}
use Rattle.line_split.proofs.RunLemmas.{arguments_only, outside_status}
use Rattle.line_split.proofs.program.run.Goals as goal

pub returns-clause-arguments : goal.returns-clause-arguments
returns-clause-arguments g c =
    ap (λ (n : ℕ). n == 2) c.status_of.ensures
    ∙ arguments_only (call_of c.args.words.now) _ _ c.perform-outcome.result c.perform-outcome.ensures.explains

pub returns-clause-untouched : goal.returns-clause-untouched
returns-clause-untouched g c = λ e.
    c.perform-outcome.ensures.untouched
    (outside_status (call_of c.args.words.now) _ _ c.perform-outcome.result c.perform-outcome.ensures.explains (sym c.status_of.ensures ∙ e))
