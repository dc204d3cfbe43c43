use Rattle.std.proofs.Common.{◌≡◌, ◌∙◌, ◌<◌, [], ℕ, List, All, Vec, Global, ap, arith, get_or, length, subst, sym}
use Rattle.std.proofs.lemmas.Result.{IfOk-weaker}
use Rattle.call_trees.proofs.TableLemmas.{get_or-table, length-table}
use Rattle.thread_steps.specs.Steps.{call_of}
use Rattle.thread_steps.specs.inner.StepRows.{thread_within}
use Rattle.thread_steps.specs.declared.step.Step.{Step}
use Rattle.thread_steps.proofs.step_table.StepTable.thread.Goals as goal

pub walk_rows-requires-clause-within : goal.walk_rows-requires-clause-within
walk_rows-requires-clause-within c =
    let firsts = c.self.inside.firsts.items in
    omega (arith, c.requires, ap length c.self.view_is, length-table (thread_within c.self.inside.steps.items firsts (length firsts)) (length firsts), ap length c.deref-2.ensures.value)

pub returns-clause-steps : goal.returns-clause-steps
returns-clause-steps c =
    let steps = c.self.inside.steps.items in
    let firsts = c.self.inside.firsts.items in
    let lt : c.args.call < length firsts = omega (arith, c.requires, ap length c.self.view_is, length-table (thread_within steps firsts (length firsts)) (length firsts)) in
    IfOk-weaker c.walk_rows.result _ _ (λ (v : Vec Step Global) (h : v.items ≡ thread_within c.deref.result.now c.deref-2.result.now (length c.deref-2.result.now) c.args.call).
    h ∙ ap (λ (ss : List Step). thread_within ss c.deref-2.result.now (length c.deref-2.result.now) c.args.call) c.deref.ensures.value
    ∙ ap (λ (fs : List ℕ). thread_within steps fs (length fs) c.args.call) c.deref-2.ensures.value
    ∙ sym (get_or-table (thread_within steps firsts (length firsts)) (length firsts) c.args.call [] lt)
    ∙ ap (λ (threads : List (List Step)). get_or threads c.args.call []) c.self.view_is) c.walk_rows.ensures.steps

pub returns-clause-within : goal.returns-clause-within
returns-clause-within c =
    let steps = c.self.inside.steps.items in
    let firsts = c.self.inside.firsts.items in
    let size : length c.deref-2.result.now ≡ length c.args.self.now = omega (arith, ap length c.deref-2.ensures.value, ap length c.self.view_is, length-table (thread_within steps firsts (length firsts)) (length firsts)) in
    IfOk-weaker c.walk_rows.result _ _ (λ (v : Vec Step Global) (h : All (λ s. call_of s < length c.deref-2.result.now) v.items).
    subst (λ n. All (λ s. call_of s < n) v.items) size h) c.walk_rows.ensures.within
