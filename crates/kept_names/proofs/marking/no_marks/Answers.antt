use Rattle.std.proofs.Common.{rules}
use Rattle.kept_names.proofs.MarkLemmas.{none_marked}
use Rattle.kept_names.proofs.marking.no_marks.Goals as goal

pub returns-clause-names : goal.returns-clause-names
returns-clause-names c = none_marked 512 c.in_ok-from_elem.field-0.items (c.in_ok-from_elem.ensures.items_if_clones_equal (λ y h. search (rules, h)))

pub returns-clause-tasks : goal.returns-clause-tasks
returns-clause-tasks c = none_marked 64 c.in_ok-from_elem-2.field-0.items (c.in_ok-from_elem-2.ensures.items_if_clones_equal (λ y h. search (rules, h)))
