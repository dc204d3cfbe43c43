use Rattle.std.proofs.Common.{◌+◌, get_or, refl, ◌∙◌, arith}
use Rattle.std.proofs.lemmas.List.{length-set}
use Rattle.std.proofs.lemmas.List.Sums.{sum_by-take-le}
use Rattle.event_table.proofs.StartLemmas.{sum_next, ends_next, starts_next, nowhere_next}
use Rattle.event_table.proofs.placing.start_requests.Goals as goal

pub overflow_add-end : goal.overflow_add-end
overflow_add-end c =
    let at = c.loop-request in
    let counts = c.args.counts.now in
    let requests = c.args.requests.now in
    let next = sum_next counts at.next requests at.request-index c.requires.apart c.requires.within c.loop-request-test.true (at.invariant.long ∙ c.requires.long) at.end (get_or counts (get_or requests at.request-index 0) 0) at.invariant.end refl in
    let le = sum_by-take-le (λ r. get_or counts r 0) requests (at.request-index + 1) in
    let few = c.requires.few in
    omega arith

pub loop-request-preserved : goal.loop-request-preserved
loop-request-preserved c =
    let at = c.loop-request in
    let counts = c.args.counts.now in
    let requests = c.args.requests.now in
    let i = at.request-index in
    let count = get_or counts (get_or requests i 0) 0 in
    let long = at.invariant.long ∙ c.requires.long in record {
      end = sum_next counts at.next requests i c.requires.apart c.requires.within c.loop-request-test.true long at.end count at.invariant.end refl;
      ends = ends_next counts at.next requests i c.requires.apart c.requires.within c.loop-request-test.true long at.end count at.ends.items c.push.new.self.items at.invariant.end refl at.invariant.ends c.in_ok-push.ensures.items;
      starts = starts_next counts at.next requests i c.requires.apart c.requires.within c.loop-request-test.true long at.end at.invariant.end at.invariant.starts;
      nowhere = nowhere_next counts at.next requests i c.requires.apart c.requires.within c.loop-request-test.true long at.end at.invariant.nowhere;
      long = length-set at.next (get_or requests i 0) at.end ∙ at.invariant.long;
    }
