use Rattle.std.proofs.Common.{◌≡◌, Vec, Global, ap, ◌∙◌, subst, ℕ}
use Rattle.std.proofs.lemmas.Result.{IfOk-weaker}
use Rattle.event_table.specs.Texts.{TextLists}
use Rattle.trace_types.specs.Firsts.{firsts_of}
use Rattle.std.specs.Prelude.{nat_eq}
use Rattle.machine_quality.specs.inner.Numbered.{numbers_of}
use Rattle.machine_quality.proofs.SightLemmas.{AreApart, listed, listed_below}
use Rattle.machine_quality.proofs.listing.list_machines.Goals as goal

pub returns-clause-machines : goal.returns-clause-machines
returns-clause-machines c =
    let same : c.machines-machines.result.now ≡ c.args.gathered.now.texts.machines = c.machines-machines.ensures ∙ ap (λ (t : TextLists). t.machines) c.texts.ensures in
    let apart : AreApart c.args.gathered.now.texts.machines = subst AreApart same c.tell_texts_apart.ensures.numbers in
    IfOk-weaker c.list_numbers.result _ _ (λ (v : Vec ℕ Global) (h : v.items ≡ firsts_of nat_eq (numbers_of c.args.told.now)). listed c.args.gathered.now.texts.machines apart c.args.told.now v.items c.requires h) c.list_numbers.ensures

pub returns-clause-within : goal.returns-clause-within
returns-clause-within c =
    let same : c.machines-machines.result.now ≡ c.args.gathered.now.texts.machines = c.machines-machines.ensures ∙ ap (λ (t : TextLists). t.machines) c.texts.ensures in
    let apart : AreApart c.args.gathered.now.texts.machines = subst AreApart same c.tell_texts_apart.ensures.numbers in
    IfOk-weaker c.list_numbers.result _ _ (λ (v : Vec ℕ Global) (h : v.items ≡ firsts_of nat_eq (numbers_of c.args.told.now)). listed_below c.args.gathered.now.texts.machines apart c.args.told.now v.items c.requires h) c.list_numbers.ensures
