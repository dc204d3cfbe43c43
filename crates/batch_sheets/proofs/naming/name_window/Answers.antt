use Rattle.std.proofs.Common.{map}
use Rattle.batch_sheets.specs.Named.{cut_trace}
use Rattle.batch_sheets.proofs.CutLemmas.{few_given}
use Rattle.batch_sheets.proofs.NewLemmas.{few_new}
use Rattle.batch_sheets.proofs.naming.name_window.Goals as goal

pub complete_all-requires-clause-few : goal.complete_all-requires-clause-few
complete_all-requires-clause-few g c = few_new c.args.catalogue.now c.args.grace (map cut_trace c.args.traces.items) c.in_ok-list.list.items c.in_ok-list.ensures (few_given c.args.texts.now c.args.traces.items c.requires.given)
