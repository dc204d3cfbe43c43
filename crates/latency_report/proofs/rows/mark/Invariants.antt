use Rattle.std.proofs.Common.{◌≡◌, map, take}
use Rattle.std.specs.Prelude.{nat_lt}
use Rattle.trace_rules.specs.declared.figures.Figures.{Figures}
use Rattle.latency_report.proofs.rows.mark.Given as goal

abbrev pub invariant-figures : goal.invariant-figures
invariant-figures l =
    l.marked.items ≡ map (λ (f : Figures). nat_lt 0 f.count) (take l.each-index l.figures)
