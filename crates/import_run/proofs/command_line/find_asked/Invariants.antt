use Rattle.std.proofs.Common.{◌≡◌, ◌≤◌, ◌-◌, drop, length}
use Rattle.import_run.specs.CommandLines.{call_after, nothing_asked}
use Rattle.import_run.specs.inner.ParsedLines.{asked_view}
use Rattle.import_run.proofs.command_line.find_asked.Given as goal

-- what is left is asked for with the options so far
abbrev pub invariant-options : goal.invariant-options
invariant-options l = record {
  within : l.taken ≤ length l.words;
  same : call_after l.form (asked_view l.asked) (drop l.taken l.words) ≡ call_after l.form nothing_asked l.words;
}

abbrev pub decreases-options : goal.decreases-options
decreases-options l = length l.words - l.taken
