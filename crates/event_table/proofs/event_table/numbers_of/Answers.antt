use Rattle.std.proofs.Common.{[]}
use Rattle.std.proofs.lemmas.Option.{get_or_from_slice_get, slice_get_within}
use Rattle.event_table.proofs.event_table.numbers_of.Goals as goal

pub returns-clause-within : goal.returns-clause-within
returns-clause-within c = record {
  request = slice_get_within c.find_or_add.new.self c.in_ok-request.request c.args.fields.now.request.now c.in_ok-request.ensures.number;
  machine = slice_get_within c.find_or_add-2.new.self c.in_ok-machine.machine c.args.fields.now.machine.now c.in_ok-machine.ensures.number;
  task = slice_get_within c.find_or_add-3.new.self c.in_ok-task.task c.args.fields.now.task.now c.in_ok-task.ensures.number;
  event = slice_get_within c.find_or_add-4.new.self c.in_ok-event.event c.args.fields.now.event.now c.in_ok-event.ensures.number;
  send = c.in_ok-send.ensures.within;
  recv = c.in_ok-recv.ensures.within;
}

pub returns-clause-event : goal.returns-clause-event
returns-clause-event c =
    let request = get_or_from_slice_get c.find_or_add.new.self c.in_ok-request.request c.args.fields.now.request.now [] c.in_ok-request.ensures.number in
    let machine = get_or_from_slice_get c.find_or_add-2.new.self c.in_ok-machine.machine c.args.fields.now.machine.now [] c.in_ok-machine.ensures.number in
    let task = get_or_from_slice_get c.find_or_add-3.new.self c.in_ok-task.task c.args.fields.now.task.now [] c.in_ok-task.ensures.number in
    let event = get_or_from_slice_get c.find_or_add-4.new.self c.in_ok-event.event c.args.fields.now.event.now [] c.in_ok-event.ensures.number in
    let send = c.in_ok-send.ensures.message in
    let recv = c.in_ok-recv.ensures.message in
    λ k. record { line = c.args.line; request = request k; machine = machine k; task = task k; event = event k; time = c.args.fields.now.time; send = send k; recv = recv k }
