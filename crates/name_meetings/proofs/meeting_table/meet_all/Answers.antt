use Rattle.std.proofs.Common.{Bor, List, map, sym, subst}
use Rattle.trace_types.specs.declared.named_trace.NamedTrace.{NamedTrace}
use Rattle.name_meetings.specs.Tables.{IsTableOf}
use Rattle.name_meetings.specs.declared.meeting_table.StripTables.{StripTables}
use Rattle.name_meetings.specs.inner.States.{state_of}
use Rattle.name_meetings.proofs.StripLemmas.{table_is}
use Rattle.name_meetings.proofs.meeting_table.meet_all.Goals.{then-are_narrow+in_ok-strips_of, else-are_narrow+in_ok-strips_of-2}
use Rattle.name_meetings.proofs.meeting_table.meet_all.Goals as goal

pub returns-clause-told : goal.returns-clause-told
returns-clause-told g c =
    let traces : List NamedTrace = map (λ (t : Bor NamedTrace). t.now) c.args.traces.now in
    elim c.if-are_narrow.branch [
      | then-are_narrow+in_ok-strips_of w ↦
          let t = w.in_ok-strips_of.field-0 in
          subst (λ (s : StripTables). IsTableOf c.args.names traces (state_of s)) (sym w.strips-is) (table_is (λ gap. gap) c.args.names traces t.names t.strips.items w.in_ok-strips_of.ensures.names w.in_ok-strips_of.ensures.told)
      | else-are_narrow+in_ok-strips_of-2 w ↦
          let t = w.in_ok-strips_of-2.field-0 in
          subst (λ (s : StripTables). IsTableOf c.args.names traces (state_of s)) (sym w.strips-is) (table_is (λ gap. gap) c.args.names traces t.names t.strips.items w.in_ok-strips_of-2.ensures.names w.in_ok-strips_of-2.ensures.told)
    ]
