use Rattle.std.proofs.Common.{ℕ, List, [], sym, subst}
use Rattle.refute_tests.specs.Survivors.{AreSurvivors}
use Rattle.trace_types.specs.declared.named_trace.NamedTrace.{NamedTrace}
use Rattle.recording_checks.proofs.task_rows.empty_day.Goals as goal

pub of_words-requires : goal.of_words-requires
of_words-requires c = subst (λ (l : List NamedTrace). AreSurvivors l c.in_ok-words.words) (sym c.new-traces.ensures.items)
    (subst (λ (w : List ℕ). AreSurvivors [] w) (sym c.in_ok-words.ensures) (c.full_words_survive.ensures 126))
