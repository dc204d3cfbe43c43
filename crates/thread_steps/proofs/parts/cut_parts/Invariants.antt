use Rattle.std.proofs.Common.{◌≡◌, ◌<◌, ◌++◌, drop, length, map}
use Rattle.thread_steps.specs.Parts.{grouping_of, parts_of}
use Rattle.thread_steps.specs.inner.CutParts.{part_of}
use Rattle.thread_steps.proofs.CutLemmas.{cut_with}
use Rattle.thread_steps.proofs.parts.cut_parts.Given as goal

-- the parts so far, and those of the rest
abbrev pub invariant-calls : goal.invariant-calls
invariant-calls l = record {
  told : l.parts.items ++ cut_with l.calls (grouping_of l.forking) l.part (drop l.at l.below) ≡ map (part_of l.calls) (parts_of l.calls (grouping_of l.forking) l.below);
  first : l.part.first < length l.calls;
  last : l.part.last < length l.calls;
}
