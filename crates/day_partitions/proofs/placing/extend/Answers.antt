use Rattle.std.proofs.Common.{◌∙◌, ◌++◌, sym, ap, subst, refl, length}
use Rattle.std.proofs.lemmas.List.{get_or_read}
use Rattle.day_partitions.specs.declared.day.Day.{Day}
use Rattle.day_partitions.proofs.SlotLemmas.{slots_extended}
use Rattle.refute_tests.specs.Survivors.{LackRefuted}
use Rattle.day_partitions.proofs.placing.extend.Goals as goal

pub returns-clause-slots : goal.returns-clause-slots
returns-clause-slots g c =
    let d = c.index_mut-day.result.now in
    let ds = c.args.days.now.items in
    let words = c.words-2.ensures.same ∙ c.words.ensures.same in
    let lacks = subst (λ w. LackRefuted c.args.sheet.traces w) (sym words) c.words.ensures.survivors.bits in
    slots_extended c.common_lacks.ensures c.args.tree.now c.meet.new.self ds _ c.args.place d _ c.args.sheet.traces c.words-2.result.now c.requires.slots c.requires.place (λ e. get_or_read ds c.args.place d c.requires.place c.index_mut-day.ensures.value e) (ap length words ∙ c.requires.width) lacks c.meet.ensures.met refl refl (c.in-Ok.ensures.items ∙ ap (λ l. d.traces.items ++ l) c.into_traces-traces.ensures)

pub returns-clause-extended : goal.returns-clause-extended
returns-clause-extended g c =
    let d = c.index_mut-day.result.now in
    let ds = c.args.days.now.items in
    let at = get_or_read ds c.args.place d c.requires.place c.index_mut-day.ensures.value in
    record {
      now = record { day = d.day; slot = d.slot; traces = c.append.new.self };
      days = refl;
      day = ap (λ (x : Day). x.day) (at _);
      slot = ap (λ (x : Day). x.slot) (at _);
      traces_are = c.in-Ok.ensures.items ∙ ap (λ l. d.traces.items ++ l) c.into_traces-traces.ensures ∙ ap (λ (x : Day). x.traces.items ++ c.args.sheet.traces) (at _);
    }
