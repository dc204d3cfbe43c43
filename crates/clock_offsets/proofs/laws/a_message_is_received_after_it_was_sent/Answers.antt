use Rattle.std.proofs.Common.{◌≡◌, pos, ◌+ℤ◌, ◌-ℤ◌, ◌≤ℤ◌, arith}
use Rattle.std.proofs.lemmas.Int.{ints}
use Rattle.clock_offsets.proofs.UniqueLemmas.{own_of}
use Rattle.clock_offsets.proofs.laws.a_message_is_received_after_it_was_sent.Goals as goal

pub returns-clause-there : goal.returns-clause-there
returns-clause-there c = λ events k p m a o f g parent offset_p offset_m there back sum d took.
    let half = own_of events k p m a o f g parent offset_p offset_m there back in
    let low : ((o -ℤ a) +ℤ (o -ℤ a)) ≤ℤ (f -ℤ g) = half.0 in
    let least : f ≤ℤ d = there.1 d took in
    let time : d ≡ pos took.receiver.time -ℤ pos took.sender.time = took.delay in
    omega (arith, ints)

pub returns-clause-back : goal.returns-clause-back
returns-clause-back c = λ events k p m a o f g parent offset_p offset_m there back sum d took.
    let half = own_of events k p m a o f g parent offset_p offset_m there back in
    let high : (f -ℤ g) ≤ℤ (((o -ℤ a) +ℤ (o -ℤ a)) +ℤ pos 1) = half.1 in
    let least : g ≤ℤ d = back.1 d took in
    let time : d ≡ pos took.receiver.time -ℤ pos took.sender.time = took.delay in
    omega (arith, ints)
