use Rattle.std.proofs.Common.{◌≡◌, ◌+◌, ◌++◌, List, ℕ, length, map, take, ap, ◌∙◌, length-append, arith}
use Rattle.std.proofs.lemmas.Grind.{common_steps}
use Rattle.event_table.proofs.CutLemmas.{stops_there}
use Rattle.event_table.proofs.message_list.append_parts.Goals as goal

pub overflow_add-offset : goal.overflow_add-offset
overflow_add-offset c =
    let at = c.loop-end in
    let there = stops_there 0 c.args.later_ends.now (length c.args.later_bytes.now) at.end-index c.requires c.loop-end-test.true in
    let within = there.1 in
    let offset = at.invariant.offset in
    let long : length c.extend_from_slice.new.self.items ≡ length c.args.bytes.now.items + length c.args.later_bytes.now = ap (λ (xs : List ℕ). length xs) at.invariant.bytes ∙ length-append c.args.bytes.now.items c.args.later_bytes.now in
    let fits = c.extend_from_slice.new.self.ok in
    let small = c.extend_from_slice.new.self.small in
    omega arith

pub returns-in_err-push-clause-ends_kept : goal.returns-in_err-push-clause-ends_kept
returns-in_err-push-clause-ends_kept c =
    let at = c.loop-end in
    let err = c.from_residual-in_err-push.ensures.0 in
    let kept : (more : List ℕ) × (c.push.new.self.items ≡ c.args.ends.now.items ++ more) = (map (λ end. length c.args.bytes.now.items + end) (take at.end-index c.args.later_ends.now), c.in_err-push.ensures.items ∙ at.invariant.ends) in
    grind (arith, common_steps)
