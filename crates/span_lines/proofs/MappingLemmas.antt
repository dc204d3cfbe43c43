-- What lines are told from, put together.
use Rattle.std.proofs.Common.{◌≡◌, ◌∙◌, ℕ, ◌<◌, List, [], All, Option, length, get_or, sym, subst, arith}
use Rattle.std.proofs.lemmas.List.{get_or_default, same_lists}
use Rattle.call_trees.specs.Tables.{table_of}
use Rattle.call_trees.proofs.TableLemmas.{get_or-table, length-table}
use Rattle.context_forks.specs.Forks.{calls_below}
use Rattle.span_calls.specs.declared.call.Call.{Call}
use Rattle.context_names.specs.Machines.{MachineNames}
use Rattle.context_names.specs.declared.pieces.GroupNumbers.{GroupNumbers}
use Rattle.thread_steps.specs.Parts.{Grouping}
use Rattle.thread_steps.specs.Steps.{steps_from}
use Rattle.thread_steps.specs.declared.step.Step.{Step}
use Rattle.span_lines.specs.Mappings.{Mapping}
use Rattle.span_lines.specs.Messages.{all_first_far, all_last_far}
use Rattle.span_lines.specs.SpanLines.{call_steps, mapping_of}
use Rattle.span_lines.specs.declared.naming.ContextNames.{ContextNames}
use Rattle.span_lines.specs.declared.placed_calls.PlacedCalls.{PlacedCalls}
use Rattle.span_lines.specs.inner.LentMappings.{AreAmong, IsWhole}
use Rattle.span_lines.specs.inner.PlacedCalls.{AreNamedBy, AreNamesOf, ArePlaced, placing_in, threading_of}

pub steps_are : (calls : List Call) (below : List (List ℕ)) (grouping : Grouping) (numbers : List ℕ) (table : List (List Step)) → length table ≡ length calls
    → ((call : ℕ) → call < length calls → get_or table call [] ≡ steps_from calls below grouping numbers call) → table ≡ table_of (steps_from calls below grouping numbers) (length calls)
steps_are calls below grouping numbers table size h =
    let f : ℕ → List Step = steps_from calls below grouping numbers in
    same_lists table (table_of f (length calls)) (size ∙ sym (length-table f (length calls)))
    (λ k d lt. get_or_default table k d [] lt ∙ h k (omega (arith, lt, size)) ∙ sym (get_or-table f (length calls) k d (omega (arith, lt, size))))

-- what is made of calls with their contexts and threads, names, steps and messages
abbrev pub mapping_made : PlacedCalls → ContextNames → GroupNumbers → MachineNames → List (List Step) → List (Option ℕ) → List (Option ℕ) → Mapping
mapping_made p names groups machines steps first last = record {
  calls = p.calls.now;
  numbers = p.contexts.now.numbers.items;
  steps = steps;
  first_far = first;
  last_far = last;
  threads = p.threads.now.threads.items;
  labels = names.events;
  groups = p.threads.now.groups.items;
  heads = groups.heads.items;
  tasks = names.tasks;
  machines = machines;
}

module _ (p : PlacedCalls) (names : ContextNames) (groups : GroupNumbers) (machines : MachineNames) (steps : List (List Step)) (first last : List (Option ℕ)) (placed : ArePlaced p) where
  pub made_whole : AreNamedBy p names groups → length steps ≡ length p.calls.now → length first ≡ length p.calls.now → AreAmong (length p.calls.now) first → length last ≡ length p.calls.now → AreAmong (length p.calls.now) last
      → IsWhole (mapping_made p names groups machines steps first last)
  made_whole named size first_size first_in last_size last_in = record {
    before = placed.before;
    numbers = placed.placed.size;
    contexts = subst (λ n. All (λ x. x < n) p.contexts.now.numbers.items) (sym placed.threads) placed.placed.within;
    steps = size;
    first_far = first_size;
    first_among = first_in;
    last_far = last_size;
    last_among = last_in;
    labels = named.labels ∙ sym placed.threads;
    groups = placed.groups ∙ sym placed.threads;
    grouped = subst (λ n. All (λ g. g < n) p.threads.now.groups.items) (sym named.head_count) placed.grouped;
    heads = subst (λ n. All (λ x. x < n) groups.heads.items) (sym placed.threads) named.heads;
    bases = named.bases ∙ sym placed.threads;
    tasks = named.tasks ∙ sym placed.threads;
  }

  pub made_is : (order : List ℕ) (below : List (List ℕ)) → AreNamesOf p order below names groups
      → steps ≡ call_steps p.calls.now (placing_in p order below) (threading_of p.threads.now) → first ≡ all_first_far p.calls.now (calls_below p.calls.now) → last ≡ all_last_far p.calls.now (calls_below p.calls.now)
      → mapping_made p names groups machines steps first last ≡ mapping_of p.calls.now (placing_in p order below) (threading_of p.threads.now) machines
  made_is order below named s f l = λ k. record {
    calls = p.calls.now;
    numbers = p.contexts.now.numbers.items;
    steps = s k;
    first_far = f k;
    last_far = l k;
    threads = p.threads.now.threads.items;
    labels = named.labels k;
    groups = p.threads.now.groups.items;
    heads = named.heads k;
    tasks = named.tasks k;
    machines = machines;
  }
