use Rattle.std.proofs.Common.{◌≡◌, ◌∙◌, ap, length, sym, replicate, rules, [], ℕ}
use Rattle.std.proofs.lemmas.List.{length-replicate}
use Rattle.context_names.specs.Scattering.{scattered}
use Rattle.context_names.proofs.ValueLemmas.{scattered_none}
use Rattle.context_names.proofs.scattering.scatter.Goals as goal

pub write_values-requires-clause-none : goal.write_values-requires-clause-none
write_values-requires-clause-none c =
    let is : c.deref_mut.result.now ≡ replicate c.args.count 0 = search rules in
    is ∙ scattered_none c.args.count ∙ ap (λ n. scattered n [] []) (sym (ap length is ∙ length-replicate {A = ℕ} c.args.count 0))
