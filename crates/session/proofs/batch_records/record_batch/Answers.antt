use Rattle.trace_types.proofs.TruthLemmas.{if_ok}
use Rattle.session.proofs.SheetLemmas.{recorded_sheets}
use Rattle.session.proofs.SplitLemmas.{below_each, few_each}
use Rattle.session.proofs.batch_records.record_batch.Goals as goal

pub record_days-requires-clause-below : goal.record_days-requires-clause-below
record_days-requires-clause-below g c κs within =
    below_each c.names.result c.args.days.now c.args.named.items c.in_ok-split.split.items (rw c.names.ensures.count c.requires.below) c.in_ok-split.ensures

pub record_days-requires-clause-few : goal.record_days-requires-clause-few
record_days-requires-clause-few g c κs within = few_each _ c.args.days.now c.args.named.items c.in_ok-split.split.items c.requires.many c.in_ok-split.ensures

pub returns : goal.returns
returns g c =
    if_ok c.record_days.result _ _ (λ r h kept shown. recorded_sheets c.watch_lines_are_told_by_text.ensures c.args.book.now.known c.args.watch c.args.workers c.args.named.items kept c.args.days.now c.in_ok-split.split.items r.sheets.items r.watched.items
    c.names.ensures.kept.known shown c.requires.below c.requires.workers c.requires.days c.in_ok-split.ensures (rw c.names.ensures.count at h)) c.record_days.ensures
