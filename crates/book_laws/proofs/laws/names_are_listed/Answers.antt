use Rattle.std.specs.Prelude.{map}
use Rattle.session_rules.specs.KeptTraces.{by_kept}
use Rattle.trace_types.specs.NameOrder.{name_cmp}
use Rattle.trace_types.specs.Parts.{segments_of}
use Rattle.trace_types.specs.Segments.{name_of}
use Rattle.trace_types.proofs.ComparingLemmas.{name_exact}
use Rattle.book_laws.proofs.NameLemmas.{listed}
use Rattle.book_laws.proofs.laws.names_are_listed.Goals as goal

pub returns : goal.returns
returns c = λ kept. listed name_cmp c.names_are_totally_ordered.ensures.names name_exact (map name_of (segments_of by_kept kept))
