use Rattle.std.proofs.Common.{◌≡◌, take}
use Rattle.span_requests.specs.SpansOnce.{lent_spans}
use Rattle.context_names.specs.Machines.{machines_of}
use Rattle.context_names.specs.inner.Keys.{lent_bases}
use Rattle.context_names.proofs.machines.find_machines.Given as goal

-- the machines of the spans so far
abbrev pub invariant-loop-span : goal.invariant-loop-span
invariant-loop-span l = lent_bases l.machines.keys ≡ machines_of (lent_spans (take l.span-index l.spans))
