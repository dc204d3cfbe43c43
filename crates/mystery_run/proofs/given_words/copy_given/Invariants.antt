use Rattle.std.proofs.Common.{◌≡◌, ◌≤◌, ◌-◌, ◌++◌, drop, length}
use Rattle.mystery_run.specs.CommandLines.{given_in}
use Rattle.mystery_run.proofs.given_words.copy_given.Given as goal

-- the files so far and those of the options that are left are those of all options
abbrev pub invariant-options : goal.invariant-options
invariant-options l = record {
  within : l.at ≤ length l.words;
  copied : l.files.items ++ given_in (drop l.at l.words) ≡ given_in l.words;
}

abbrev pub decreases-options : goal.decreases-options
decreases-options l = length l.words - l.at
