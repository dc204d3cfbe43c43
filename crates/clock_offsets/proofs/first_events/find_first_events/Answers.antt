use Rattle.std.proofs.Common.{arith}
use Rattle.clock_offsets.specs.inner.Numbers.{texts_in}
use Rattle.clock_offsets.proofs.FirstEventLemmas.{firsts_more, firsts_done}
use Rattle.clock_offsets.proofs.first_events.find_first_events.Goals as goal

pub loop-at-preserved : goal.loop-at-preserved
loop-at-preserved c = rw c.in_ok-push.ensures.items (firsts_more (texts_in c.args.field c.args.trace.now.texts) c.args.field c.args.trace.now.trace.events c.loop-at.at c.read_number-number.result c.loop-at.firsts.items c.loop-at.places c.find_or_add.new.self c.in_ok-first.first c.state_a_text_has_one_number.ensures c.loop-at.invariant c.read_number-number.ensures c.in_ok-first.ensures.added c.in_ok-first.ensures.place)

pub returns : goal.returns
returns c = firsts_done (texts_in c.args.field c.args.trace.now.texts) c.args.field c.args.trace.now.trace.events c.loop-at.at c.loop-at.firsts.items c.loop-at.places c.loop-at.invariant (omega arith)
