use Rattle.std.proofs.Common.{◌≡◌, replicate}
use Rattle.name_meetings.specs.Tables.{no_figures}
use Rattle.name_meetings.specs.inner.Noting.{onwards, turneds}
use Rattle.name_meetings.proofs.strip_table.new_strip.Given as goal

abbrev pub invariant-entries : goal.invariant-entries
invariant-entries g l = (onwards g.G.Gap.value l.strip.items ≡ replicate l.made no_figures) × (turneds g.G.Gap.value l.strip.items ≡ replicate l.made no_figures)
