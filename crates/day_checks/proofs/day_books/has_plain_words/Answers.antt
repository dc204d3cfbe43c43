use Rattle.std.proofs.Common.{[], ◌∷◌, ◌++◌}
use Rattle.std.proofs.lemmas.List.Elements.{All-push, All-same}
use Rattle.refute_tests.specs.Clearing.{HaveNamesBelow}
use Rattle.day_checks.proofs.day_books.has_plain_words.Goals as goal

pub days-preserved : goal.days-preserved
days-preserved c = All-same (HaveNamesBelow c.args.names) c.push.new.self.items (c.days.traces.items ++ c.in_ok-busy.field-0 ∷ []) c.in_ok-push.ensures.items (All-push (HaveNamesBelow c.args.names) c.days.traces.items c.in_ok-busy.field-0 c.days.invariant c.in_ok-busy.ensures.named)
