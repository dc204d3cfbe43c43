use Rattle.std.proofs.Common.{◌≡◌, length, take, slice_index}
use Rattle.std.specs.Prelude.{sum_by}
use Rattle.event_table.specs.inner.Placing.{AreNowhere, AreStarts, ends_from}
use Rattle.event_table.proofs.placing.start_requests.Given as goal

-- the requests so far have their starts and ends, and the others have no place
abbrev pub invariant-loop-request : goal.invariant-loop-request
invariant-loop-request l = record {
  end : l.end ≡ sum_by (slice_index l.counts) (take l.request-index l.requests);
  ends : l.ends.items ≡ ends_from (slice_index l.counts) 0 (take l.request-index l.requests);
  starts : AreStarts (slice_index l.counts) l.next 0 (take l.request-index l.requests);
  nowhere : AreNowhere (take l.request-index l.requests) l.next;
  long : length l.next ≡ length l.fn.next;
}
