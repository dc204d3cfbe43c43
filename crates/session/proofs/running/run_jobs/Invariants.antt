use Rattle.std.proofs.Common.{◌≡◌, ◌≤◌, ◌++◌, ℕ, List, length}
use Rattle.std.specs.Prelude.{sum_by}
use Rattle.std.specs.Vec.Iter.{into_iter_items, into_iter_len}
use Rattle.digest_facts.specs.Digests.{Digest}
use Rattle.digest_merging.specs.Merges.{IsTableOf}
use Rattle.session.proofs.JobRunLemmas.{AreDone}
use Rattle.session.proofs.running.run_jobs.Given as goal
use Rattle.session.specs.Carrying.{kept_count}
use Rattle.session_rules.specs.ReadyJobs.{requests_in}
use Rattle.trace_types.specs.Segments.{SegmentName}

-- the jobs so far
abbrev pub invariant-loop-job : goal.invariant-loop-job
invariant-loop-job g l = record {
  so_far : l.yielded ++ into_iter_items l.job-iterator ≡ into_iter_items l.initial.job-iterator;
  left : into_iter_len l.job-iterator ≡ length (into_iter_items l.job-iterator);
  done : (digest : Digest SegmentName (List ℕ)) → IsTableOf digest l.fn.given → AreDone l.fn.workers digest l.yielded l.session (g.S.Sink.written l.fn.out) (g.S.Sink.written l.out);
  few : kept_count l.session ≤ sum_by requests_in l.yielded;
  workers : l.session.workers ≡ l.fn.workers;
  counted : g.S.Sink.faults l.out ≡ g.S.Sink.faults l.fn.out;
}
