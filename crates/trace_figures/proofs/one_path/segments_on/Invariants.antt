use Rattle.std.proofs.Common.{take}
use Rattle.std.specs.List.{AllZip}
use Rattle.trace_rules.specs.CriticalPaths.{StandsFor}
use Rattle.trace_figures.proofs.one_path.segments_on.Given as goal

abbrev pub invariant-chain : goal.invariant-chain
invariant-chain l =
    AllZip (StandsFor l.segments l.order) (take l.vertex-index l.chain) l.path.items
