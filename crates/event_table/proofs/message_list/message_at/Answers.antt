use Rattle.std.proofs.Common.{◌∷◌, ◌≤◌, get_or, length, arith}
use Rattle.event_table.proofs.CutLemmas.{stops_there}
use Rattle.event_table.proofs.message_list.message_at.Goals as goal

pub bytes_between-requires-clause-rising : goal.bytes_between-requires-clause-rising
bytes_between-requires-clause-rising c =
    let there = stops_there 0 c.args.ends.now (length c.args.bytes.now) c.args.place c.requires.stops c.requires.within in
    let rising : get_or (0 ∷ c.args.ends.now) c.args.place 0 ≤ get_or c.args.ends.now c.args.place 0 = there.0 in
    let start = c.start_of-start.ensures in
    omega arith

pub bytes_between-requires-clause-within : goal.bytes_between-requires-clause-within
bytes_between-requires-clause-within c =
    let there = stops_there 0 c.args.ends.now (length c.args.bytes.now) c.args.place c.requires.stops c.requires.within in
    let within : get_or c.args.ends.now c.args.place 0 ≤ length c.args.bytes.now = there.1 in
    omega arith
