use Rattle.std.proofs.Common.{◌≡◌, ◌∙◌, ℕ, List, Option, ap, length, subst, sym}
use Rattle.std.proofs.lemmas.Result.{IfOk-weaker}
use Rattle.call_trees.proofs.TableLemmas.{length-table}
use Rattle.span_types.specs.declared.span.Span.{Span}
use Rattle.thread_steps.specs.Steps.{steps_from}
use Rattle.call_trees.specs.Tables.{table_of}
use Rattle.span_lines.specs.Mappings.{Mapping}
use Rattle.span_lines.specs.Messages.{all_first_far, all_last_far, first_far, last_far}
use Rattle.span_lines.specs.Requests.{lines_by_request}
use Rattle.span_lines.specs.SpanLines.{call_steps}
use Rattle.span_lines.specs.inner.LentMappings.{IsWhole}
use Rattle.span_lines.specs.inner.PlacedCalls.{AreNamesOf, placing_in, threading_of}
use Rattle.span_lines.specs.inner.FirstEntries.{AreFirst}
use Rattle.span_lines.specs.inner.Printed.{ArePrinted}
use Rattle.span_lines.proofs.MappingLemmas.{made_is, made_whole, mapping_made, steps_are}
use Rattle.span_lines.proofs.spans.print_named.Goals as goal

pub print_requests-requires : goal.print_requests-requires
print_requests-requires c =
    let p = c.args.placed.now in
    let calls = p.calls.now in
    let steps = c.in_ok-steps.steps in
    let m = c.in_ok-messages.messages in
    let size = λ (f : ℕ → Option ℕ). length-table f (length calls) in
    let whole = made_whole p c.args.names.now c.args.groups.now c.args.spans.now.machines steps m.first_far.items m.last_far.items c.requires.placed c.requires.named c.in_ok-steps.ensures.count
    (ap length c.in_ok-messages.ensures.first ∙ size (first_far calls p.below.now)) c.in_ok-messages.ensures.first_among
    (ap length c.in_ok-messages.ensures.last ∙ size (last_far calls p.below.now)) c.in_ok-messages.ensures.last_among in
    subst IsWhole (λ k. record {
      calls = calls;
      numbers = sym c.deref-5.ensures.value k;
      steps = steps;
      first_far = sym c.deref-6.ensures.value k;
      last_far = sym c.deref-7.ensures.value k;
      threads = sym c.deref-8.ensures.value k;
      labels = c.args.names.now.events;
      groups = sym c.deref-9.ensures.value k;
      heads = sym c.deref-10.ensures.value k;
      tasks = c.args.names.now.tasks;
      machines = c.args.spans.now.machines;
    }) whole

pub returns : goal.returns
returns c =
    let p = c.args.placed.now in
    let calls = p.calls.now in
    let steps = c.in_ok-steps.steps in
    let m = c.in_ok-messages.messages in
    let listed = c.requires.placed.listed in
    let seen : Mapping = record {
      calls = calls;
      numbers = c.deref-5.result.now;
      steps = steps;
      first_far = c.deref-6.result.now;
      last_far = c.deref-7.result.now;
      threads = c.deref-8.result.now;
      labels = c.args.names.now.events;
      groups = c.deref-9.result.now;
      heads = c.deref-10.result.now;
      tasks = c.args.names.now.tasks;
      machines = c.args.spans.now.machines;
    } in
    let lent : seen ≡ mapping_made p c.args.names.now c.args.groups.now c.args.spans.now.machines steps m.first_far.items m.last_far.items = λ k. record {
      calls = calls;
      numbers = c.deref-5.ensures.value k;
      steps = steps;
      first_far = c.deref-6.ensures.value k;
      last_far = c.deref-7.ensures.value k;
      threads = c.deref-8.ensures.value k;
      labels = c.args.names.now.events;
      groups = c.deref-9.ensures.value k;
      heads = c.deref-10.ensures.value k;
      tasks = c.args.names.now.tasks;
      machines = c.args.spans.now.machines;
    } in
    IfOk-weaker c.print_requests.result _ _ (λ (long : ℕ) h (order : List ℕ) (below : List (List ℕ)) (entries : List Span) (named : AreNamesOf p order below c.args.names.now c.args.groups.now) (are : AreFirst entries c.args.spans.now.first).
    let numbers = c.deref-4.ensures.value ∙ named.numbers in
    let made : steps ≡ call_steps calls (placing_in p order below) (threading_of p.threads.now) =
    steps_are calls p.below.now (record { numbers = c.deref.result.now; forked = c.deref-2.result.now; groups = c.deref-3.result.now }) c.deref-4.result.now steps c.in_ok-steps.ensures.count c.in_ok-steps.ensures.threads
    ∙ (λ k. table_of (steps_from calls (listed k) (record { numbers = c.deref.ensures.value k; forked = c.deref-2.ensures.value k; groups = c.deref-3.ensures.value k }) (numbers k)) (length calls)) in
    subst (λ (x : Mapping). ArePrinted (lines_by_request x entries) c.args.text.now.items c.print_requests.new.text.items long)
    (lent ∙ made_is p c.args.names.now c.args.groups.now c.args.spans.now.machines steps m.first_far.items m.last_far.items c.requires.placed order below named made
    (c.in_ok-messages.ensures.first ∙ ap (λ (b : List (List ℕ)). all_first_far calls b) listed) (c.in_ok-messages.ensures.last ∙ ap (λ (b : List (List ℕ)). all_last_far calls b) listed)) (h entries are)) c.print_requests.ensures
