use Rattle.std.proofs.Common.{◌≡◌, drop}
use Rattle.ranking_picture.specs.Rankings.{none_of}
use Rattle.ranking_picture.proofs.ranking.none_of.Given as goal

-- no gain so far is of the name
abbrev pub invariant-gains : goal.invariant-gains
invariant-gains l = none_of l.gains l.name ≡ none_of (drop l.gain-index l.gains) l.name
