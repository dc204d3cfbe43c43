-- Shown traces are renamed ones.
use Rattle.std.proofs.Common.{List, [], ◌∷◌}
use Rattle.std.specs.List.{enumerate_from}
use Rattle.segment_names.specs.Known.{Known}
use Rattle.session_rules.specs.KeptTraces.{Kept, by_kept}
use Rattle.trace_types.specs.Parts.{by_number}
use Rattle.trace_types.specs.Renaming.{AreRenamed}
use Rattle.trace_types.specs.declared.named_trace.NamedTrace.{NamedTrace}
use Rattle.book_laws.specs.Shown.{AreShown}

-- shown traces are renamed ones
pub all_renamed : (known : Known) (traces : List NamedTrace) (kept : List Kept) → AreShown known traces kept → AreRenamed by_number by_kept (enumerate_from 0 known.names) (enumerate_from 0 known.tasks) traces kept
all_renamed known [] [] h = h
all_renamed known [] (k ∷ kept) h = absurd h
all_renamed known (t ∷ traces) [] h = absurd h
all_renamed known (t ∷ traces) (k ∷ kept) h = (h.0.renamed, all_renamed known traces kept h.1)
