use Rattle.std.proofs.Common.{◌≡◌, ℕ, ◌<◌, List, length, map, All, sym, ap, ◌∙◌, subst}
use Rattle.certificate_rows.specs.Orders.{numbered_name, numbered_task}
use Rattle.segment_names.specs.Known.{Known}
use Rattle.evidence_printing.proofs.texts.list_texts.Goals as goal

pub lend_names-requires : goal.lend_names-requires
lend_names-requires c = subst (λ (k : Known). All (λ (n : ℕ). n < length k.names) c.args.names.now) (sym c.catalogue-catalogue.ensures.catalogue) c.requires.names

pub lend_tasks-requires : goal.lend_tasks-requires
lend_tasks-requires c = subst (λ (k : Known). All (λ (n : ℕ). n < length k.tasks) c.args.tasks.now) (sym c.catalogue-catalogue.ensures.catalogue) c.requires.tasks
