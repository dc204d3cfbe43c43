use Rattle.std.proofs.Common.{◌∙◌, sym, ap, subst, length}
use Rattle.day_partitions.proofs.SlotLemmas.{slots_inserted}
use Rattle.refute_tests.specs.Survivors.{LackRefuted}
use Rattle.day_partitions.proofs.placing.open.Goals as goal

pub returns-clause-slots : goal.returns-clause-slots
returns-clause-slots g c =
    let words = c.words-2.ensures.same ∙ c.words.ensures.same in
    let lacks = subst (λ w. LackRefuted c.args.sheet.traces w) (sym words) c.words.ensures.survivors.bits in
    slots_inserted c.args.tree.now c.put.new.self c.args.days.now.items _ c.args.place (record { day = c.args.day; slot = c.missing-slot.result; traces = c.into_traces-traces.result }) c.words-2.result.now c.requires.slots c.requires.place c.missing-slot.ensures.slot c.missing-slot.ensures.missing (ap length words ∙ c.requires.width) (subst (λ l. LackRefuted l c.words-2.result.now) (sym c.into_traces-traces.ensures) lacks) c.put.ensures.put c.in-Ok.ensures.items
