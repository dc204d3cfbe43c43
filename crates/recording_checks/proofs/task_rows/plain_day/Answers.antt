use Rattle.std.proofs.Common.{List, [], All, sym, subst}
use Rattle.std.proofs.lemmas.List.Elements.{All-cons, All-nil}
use Rattle.refute_tests.specs.Clearing.{HaveNamesBelow}
use Rattle.trace_types.specs.declared.named_trace.NamedTrace.{NamedTrace}
use Rattle.recording_checks.proofs.task_rows.plain_day.Goals as goal

pub plain-requires-clause-named : goal.plain-requires-clause-named
plain-requires-clause-named c = subst (λ (l : List NamedTrace). All (HaveNamesBelow 2) l) (sym c.in_ok-traces.ensures.items)
    (All-cons (HaveNamesBelow 2) c.in_ok-trace.trace [] c.in_ok-trace.ensures (All-nil (HaveNamesBelow 2)))
