use Rattle.std.proofs.Common.{◌∙◌, ℕ, List, map, subst}
use Rattle.std.proofs.lemmas.Result.{IfOk-weaker}
use Rattle.span_types.specs.declared.span.Span.{Span}
use Rattle.call_contexts.specs.ContextOrder.{AreOrdered}
use Rattle.call_contexts.specs.Contexts.{frames_of}
use Rattle.call_contexts.specs.declared.context.Context.{Context}
use Rattle.context_names.specs.Bases.{event_base, task_base}
use Rattle.context_names.specs.Labels.{labels_of}
use Rattle.context_names.specs.Pieces.{heads_by_group, numbers_by_group}
use Rattle.context_names.specs.Tasks.{task_names}
use Rattle.span_lines.specs.inner.FirstEntries.{AreFirst}
use Rattle.span_lines.specs.inner.PlacedCalls.{AreNamesOf}
use Rattle.span_lines.proofs.spans.print_placed.Goals as goal

pub returns : goal.returns
returns c =
    let p = c.args.placed.now in
    let order = c.in_ok-order.order.order.items in
    let below = c.in_ok-order.order.below.items in
    let ordered = subst (λ (xs : List Context). AreOrdered (frames_of xs) order below) c.deref.ensures.value c.in_ok-order.ensures.ordered in
    let named : AreNamesOf p order below c.in_ok-names.names c.in_ok-groups.groups = record {
      labels = c.in_ok-names.ensures.events ∙ (λ k. labels_of (c.deref-3.ensures.value k) (c.deref-4.ensures.value k) (map event_base (frames_of (c.deref-2.ensures.value k))));
      tasks = c.in_ok-names.ensures.tasks ∙ (λ k. task_names (c.deref-3.ensures.value k) (c.deref-4.ensures.value k) (map task_base (frames_of (c.deref-2.ensures.value k))));
      heads = c.in_ok-groups.ensures.heads ∙ (λ k. heads_by_group (frames_of (c.deref-5.ensures.value k)) order below (c.deref-6.ensures.value k) (c.deref-7.ensures.value k) (c.deref-8.ensures.value k));
      numbers = c.in_ok-groups.ensures.numbers ∙ (λ k. numbers_by_group (frames_of (c.deref-5.ensures.value k)) order below (c.deref-6.ensures.value k) (c.deref-7.ensures.value k) (c.deref-8.ensures.value k));
    } in
    IfOk-weaker c.print_named.result _ _ (λ (long : ℕ) h (entries : List Span) (are : AreFirst entries c.args.spans.now.first). (order, below, ordered, h order below entries named are)) c.print_named.ensures
