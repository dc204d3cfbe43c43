use Rattle.std.proofs.Common.{◌≡◌, drop}
use Rattle.ranking_picture.specs.Rankings.{half_of}
use Rattle.ranking_picture.proofs.ranking.half_of.Given as goal

-- no gain so far is of the name
abbrev pub invariant-gains : goal.invariant-gains
invariant-gains l = half_of l.gains l.name ≡ half_of (drop l.gain-index l.gains) l.name
