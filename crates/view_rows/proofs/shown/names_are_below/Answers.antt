use Rattle.std.proofs.Common.{get_or}
use Rattle.std.proofs.lemmas.List.Elements.{Contains-get_or}
use Rattle.view_rows.proofs.ReportNameLemmas.{names_below}
use Rattle.view_rows.proofs.shown.names_are_below.Goals as goal

pub returns : goal.returns
returns c = λ b known ns is told i d lt. names_below b known ns is told (get_or ns i d) (Contains-get_or ns i d lt)
