use Rattle.std.proofs.Common.{◌≡◌, ◌<◌, take}
use Rattle.std.specs.List.{sum_by}
use Rattle.trace_pass.specs.inner.LittleWork.{work_of}
use Rattle.trace_pass.proofs.parts.is_little_work.Given as goal

abbrev pub invariant-traces : goal.invariant-traces
invariant-traces l = record {
  done : l.work ≡ sum_by work_of (take l.trace-index l.traces);
  little : l.work < 262144;
}
