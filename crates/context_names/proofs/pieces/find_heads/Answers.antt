use Rattle.std.proofs.Common.{◌≡◌, ◌∙◌, ◌<◌, All, List, ℕ, Vec, Global, ap, length, subst, sym}
use Rattle.std.proofs.lemmas.Result.{IfOk-weaker}
use Rattle.trace_types.specs.Firsts.{firsts_of}
use Rattle.trace_types.proofs.ShortLemmas.{firsts_all}
use Rattle.call_contexts.specs.Contexts.{Frame}
use Rattle.context_names.specs.Pieces.{are_of_one_group, forked_in_order}
use Rattle.context_names.proofs.pieces.find_heads.Goals as goal

pub returns-clause-heads : goal.returns-clause-heads
returns-clause-heads c = IfOk-weaker c.first_of_groups.result _ _ (λ (v : Vec ℕ Global) (h : v.items ≡ firsts_of (are_of_one_group c.args.groups.now) c.deref-3.result.now). λ (contexts : List Frame) (threads : List ℕ).
    h ∙ ap (firsts_of (are_of_one_group c.args.groups.now)) (c.deref-3.ensures.value ∙ c.in_ok-list.ensures.list contexts threads c.args.groups.now
    ∙ ap (λ (os : List ℕ). forked_in_order contexts os c.deref-2.result.now threads c.args.forked.now c.args.groups.now) c.deref.ensures.value
    ∙ ap (λ (ls : List (List ℕ)). forked_in_order contexts c.args.order.now.order.items ls threads c.args.forked.now c.args.groups.now) c.deref-2.ensures.value)) c.first_of_groups.ensures

pub returns-clause-within : goal.returns-clause-within
returns-clause-within c = IfOk-weaker c.first_of_groups.result _ _ (λ (v : Vec ℕ Global) (h : v.items ≡ firsts_of (are_of_one_group c.args.groups.now) c.deref-3.result.now).
    subst (All (λ x. x < length c.args.groups.now)) (sym h) (firsts_all (λ x. x < length c.args.groups.now) (are_of_one_group c.args.groups.now) c.deref-3.result.now
    (subst (λ n. All (λ x. x < n) c.deref-3.result.now) c.requires.same (subst (All (λ x. x < length c.args.forked.now)) (sym c.deref-3.ensures.value) c.in_ok-list.ensures.within)))) c.first_of_groups.ensures
