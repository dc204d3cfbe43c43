use Rattle.span_laws.proofs.SoundLemmas.{requests_sound}
use Rattle.span_laws.proofs.laws.requests_are_sound.Goals as goal

pub returns : goal.returns
returns c = requests_sound (record {
  request = record {
    labels = c.labels_differ.ensures;
    tasks = c.tasks_differ.ensures;
    groups = c.groups_differ.ensures;
    steps = c.steps_differ.ensures;
    one_call = c.contexts_are_of_one_call.ensures;
    one_above = c.groups_have_one_above.ensures;
    with_callers = c.calls_stand_with_callers.ensures;
    each = c.each_stands_once.ensures;
    no_other = c.no_other_stands.ensures;
  };
  machines = c.machines_differ.ensures;
  numbers = c.numbers_are_few.ensures;
  calls = c.inputs_have_calls.ensures;
  once = c.spans_are_called_once.ensures;
  together = c.calls_are_together.ensures;
})
