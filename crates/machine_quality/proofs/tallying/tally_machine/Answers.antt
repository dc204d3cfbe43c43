use Rattle.std.proofs.Common.{◌≡◌, ap, ◌∙◌, subst}
use Rattle.event_table.specs.Texts.{TextLists}
use Rattle.machine_quality.proofs.SightLemmas.{AreApart}
use Rattle.machine_quality.proofs.TallyLemmas.{tally_same}
use Rattle.machine_quality.proofs.tallying.tally_machine.Goals as goal

pub returns : goal.returns
returns c =
    let same : c.machines.result.now ≡ c.args.gathered.now.texts.machines = c.machines.ensures ∙ ap (λ (t : TextLists). t.machines) c.texts.ensures in
    let apart : AreApart c.args.gathered.now.texts.machines = subst AreApart same c.tell_texts_apart.ensures.numbers in
    tally_same c.args.gathered.now.texts.machines apart c.args.told.now c.args.machine c.requires.told c.requires.machine
    c.count_told.result c.count_reached.result c.count_unreached.result c.count_contradicted.result c.find_range.result
    c.count_told.ensures c.count_reached.ensures c.count_unreached.ensures c.count_contradicted.ensures c.find_range.ensures
