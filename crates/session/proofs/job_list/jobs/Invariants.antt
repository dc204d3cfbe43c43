use Rattle.std.proofs.Common.{◌≡◌, ◌++◌, length}
use Rattle.std.specs.Vec.Iter.{into_iter_items, into_iter_len}
use Rattle.event_lines.specs.LineParts.{lines_of_runs}
use Rattle.session_rules.specs.Jobs.{jobs_from, jobs_of}
use Rattle.session.proofs.job_list.jobs.Given as goal

-- the jobs so far, and those of the runs that are left
abbrev pub invariant-loop-run : goal.invariant-loop-run
invariant-loop-run l = record {
  jobs : l.jobs.items ++ jobs_from l.batch (lines_of_runs (into_iter_items l.run-iterator)) ≡ jobs_of (lines_of_runs (into_iter_items l.initial.run-iterator));
  left : into_iter_len l.run-iterator ≡ length (into_iter_items l.run-iterator);
}
