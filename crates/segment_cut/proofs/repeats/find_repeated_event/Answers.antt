use Rattle.std.proofs.Common.{refl, arith}
use Rattle.segment_cut.proofs.RepeatLemmas.{first_at, seen_new, seen_distinct, seen_repeat}
use Rattle.segment_cut.proofs.repeats.find_repeated_event.Goals as goal

pub returns-then-first-at : goal.returns-then-first-at
returns-then-first-at c =
    let raw = c.args.trace.now in
    let at = c.loop-at.at in (
      at,
      seen_repeat raw.texts.names raw.trace.events c.args.tasks.now at (first_at c.args.tasks.now at) c.event.result c.loop-at.seen c.find_or_add.new.self c.in_ok-first.first c.requires c.loop-at.invariant (omega arith) refl c.event.ensures c.in_ok-first.ensures.added c.in_ok-first.ensures.place c.if-first-at.true,
      c.line.ensures,
    )

pub loop-at-preserved : goal.loop-at-preserved
loop-at-preserved c =
    let raw = c.args.trace.now in
    let at = c.loop-at.at in
    seen_new raw.texts.names raw.trace.events c.args.tasks.now at (first_at c.args.tasks.now at) c.event.result c.loop-at.seen c.find_or_add.new.self c.in_ok-first.first c.state_a_name_has_one_number.ensures c.loop-at.invariant refl c.event.ensures c.in_ok-first.ensures.added c.in_ok-first.ensures.place c.if-first-at.false

pub returns : goal.returns
returns c = seen_distinct c.args.trace.now.texts.names c.args.trace.now.trace.events c.args.tasks.now c.loop-at.at c.loop-at.seen c.requires c.loop-at.invariant (omega arith)
