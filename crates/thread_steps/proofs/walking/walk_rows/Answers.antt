use Rattle.std.proofs.Common.{◌<◌, get_or, length, refl, rules}
use Rattle.std.proofs.lemmas.List.{get_or_default}
use Rattle.thread_steps.specs.declared.step.Step.TheVariants.{Starts}
use Rattle.thread_steps.proofs.ThreadLemmas.{on_top, walk_begins, walk_less, walk_more}
use Rattle.thread_steps.proofs.walking.walk_rows.Goals as goal

pub steps-init : goal.steps-init
steps-init c =
    walk_begins c.args.steps.now c.args.firsts.now c.requires.rows c.args.call (get_or c.args.firsts.now c.args.call 0) c.new-walked.result.items c.push.new.self.items c.new-stack.result.items c.push-2.new.self.items c.requires.within c.new-walked.ensures.items c.in_ok-push.ensures.items c.new-stack.ensures.items refl c.in_ok-push-2.ensures.items

pub bounds-steps-at : goal.bounds-steps-at
bounds-steps-at c = on_top c.args.steps.now c.args.firsts.now c.requires.rows c.args.call c.steps.walked.items c.steps.stack.items c.pop.new.self.items c.in-Some.at c.steps.invariant c.in-Some.ensures.items

pub offset_bounds-steps-at : goal.offset_bounds-steps-at
offset_bounds-steps-at c =
    let within : c.in-Some.at < length c.args.steps.now = on_top c.args.steps.now c.args.firsts.now c.requires.rows c.args.call c.steps.walked.items c.steps.stack.items c.pop.new.self.items c.in-Some.at c.steps.invariant c.in-Some.ensures.items in
    search rules

pub push_next-requires-clause-room : goal.push_next-requires-clause-room
push_next-requires-clause-room c =
    let within : c.in-Some.at < length c.args.steps.now = on_top c.args.steps.now c.args.firsts.now c.requires.rows c.args.call c.steps.walked.items c.steps.stack.items c.pop.new.self.items c.in-Some.at c.steps.invariant c.in-Some.ensures.items in
    search rules

pub steps-smaller : goal.steps-smaller
steps-smaller c =
    let within = on_top c.args.steps.now c.args.firsts.now c.requires.rows c.args.call c.steps.walked.items c.steps.stack.items c.pop.new.self.items c.in-Some.at c.steps.invariant c.in-Some.ensures.items in
    let step = get_or c.args.steps.now c.in-Some.at (Starts 0) in
    walk_less c.args.steps.now c.args.firsts.now c.requires.rows c.args.call c.steps.walked.items c.steps.stack.items c.pop.new.self.items c.in-Some.at c.steps.invariant c.in-Some.ensures.items step c.push-in-Some.new.self.items c.push_next.new.stack.items (get_or_default c.args.steps.now c.in-Some.at (Starts 0) step within) c.in_ok-push-3.ensures.items c.in_ok-push_next.ensures

pub steps-preserved : goal.steps-preserved
steps-preserved c =
    let within = on_top c.args.steps.now c.args.firsts.now c.requires.rows c.args.call c.steps.walked.items c.steps.stack.items c.pop.new.self.items c.in-Some.at c.steps.invariant c.in-Some.ensures.items in
    let step = get_or c.args.steps.now c.in-Some.at (Starts 0) in
    walk_more c.args.steps.now c.args.firsts.now c.requires.rows c.args.call c.steps.walked.items c.steps.stack.items c.pop.new.self.items c.in-Some.at c.steps.invariant c.in-Some.ensures.items step c.push-in-Some.new.self.items c.push_next.new.stack.items (get_or_default c.args.steps.now c.in-Some.at (Starts 0) step within) c.in_ok-push-3.ensures.items c.in_ok-push_next.ensures
