use Rattle.std.proofs.Common.{◌≡◌, ◌≤◌, ◌-◌, drop, length}
use Rattle.std.specs.List.{list_all}
use Rattle.mystery_run.specs.CommandLines.{after_given, given_in, is_filled}
use Rattle.mystery_run.proofs.given_words.find_form.Given as goal

-- the options so far have files that are not empty
abbrev pub invariant-options : goal.invariant-options
invariant-options l = record {
  within : l.at ≤ length l.words;
  filled : list_all is_filled (given_in l.words) ≡ list_all is_filled (given_in (drop l.at l.words));
  after : after_given l.words ≡ after_given (drop l.at l.words);
}

abbrev pub decreases-options : goal.decreases-options
decreases-options l = length l.words - l.at
