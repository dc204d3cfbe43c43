use Rattle.std.proofs.Common.{◌≡◌, ◌∙◌, List, ℕ, Vec, Global, ap, length, sym}
use Rattle.std.proofs.lemmas.Result.{IfOk-weaker}
use Rattle.trace_types.specs.declared.text.Text.{Text}
use Rattle.context_names.specs.Labels.{label_numbers}
use Rattle.context_names.specs.Numbers.{numbered_names}
use Rattle.context_names.proofs.ValueLemmas.{length-scattered}
use Rattle.context_names.proofs.labels.name_contexts.Goals as goal

pub make_names-requires : goal.make_names-requires
make_names-requires c =
    ap length (c.deref-3.ensures.value ∙ c.in_ok-numbers.ensures) ∙ length-scattered (length c.deref.result.now) c.args.order.now _ ∙ ap length (c.deref.ensures.value ∙ sym c.deref-2.ensures.value)

pub returns : goal.returns
returns c =
    let order = c.args.order.now in
    let threads = c.args.threads.now in
    IfOk-weaker c.make_names.result _ _ (λ (v : Vec Text Global) (h : v.items ≡ numbered_names c.deref-2.result.now c.deref-3.result.now).
    h ∙ ap (numbered_names c.deref-2.result.now) (c.deref-3.ensures.value ∙ c.in_ok-numbers.ensures ∙ ap (λ (bs : List (List ℕ)). label_numbers order threads bs) (c.deref.ensures.value ∙ sym c.deref-2.ensures.value))
    ∙ ap (λ (bs : List (List ℕ)). numbered_names bs (label_numbers order threads bs)) (c.deref-2.ensures.value ∙ c.in_ok-bases.ensures)) c.make_names.ensures
