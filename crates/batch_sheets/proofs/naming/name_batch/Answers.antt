use Rattle.std.proofs.Common.{List, ◌++◌, map, sym, ap, ◌∙◌, subst}
use Rattle.book_laws.specs.Shown.{AreShown}
use Rattle.session_rules.specs.KeptTraces.{Kept, kept_with}
use Rattle.trace_types.specs.declared.named_trace.NamedTrace.{NamedTrace}
use Rattle.batch_sheets.specs.Named.{cut_trace}
use Rattle.batch_sheets.proofs.CutLemmas.{all_given}
use Rattle.batch_sheets.proofs.GrowthLemmas.{shown_below}
use Rattle.batch_sheets.proofs.naming.name_batch.Goals as goal

pub name_windows-requires-clause-given : goal.name_windows-requires-clause-given
name_windows-requires-clause-given g c = λ κs within. all_given c.args.texts.now c.args.traces.items c.requires.few c.requires.texts

pub returns-clause-below : goal.returns-clause-below
returns-clause-below g c =
    let a = c.in_ok-name_windows.ensures.named in
    let kept : List Kept = map (kept_with c.args.grace) (map cut_trace c.args.traces.items) in
    shown_below c.name_windows.new.catalogue c.name_windows.new.named.items kept
    (subst (λ (ns : List NamedTrace). AreShown c.name_windows.new.catalogue ns kept) (sym (a.1 ∙ ap (λ (l : List NamedTrace). l ++ a.0) c.in_ok-named.ensures.items)) a.2.shown)
