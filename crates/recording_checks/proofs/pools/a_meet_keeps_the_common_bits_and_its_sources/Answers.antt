use Rattle.std.proofs.Common.{IsSome, rules}
use Rattle.std.specs.FinMap.{get}
use Rattle.row_pool.proofs.CallerLemmas.{apart-new, pool_facts}
use Rattle.recording_checks.proofs.pools.a_meet_keeps_the_common_bits_and_its_sources.Goals as goal

pub meet_with-requires-clause-apart : goal.meet_with-requires-clause-apart
meet_with-requires-clause-apart g c =
    let to_1 : IsSome (get c.take.new.self.rows c.in-Some.to) = Prim.grind (pool_facts, rules, c.in-Some.ensures.taken) in
    let to_2 : IsSome (get c.take-2.new.self.rows c.in-Some.to) = Prim.grind (pool_facts, rules, c.in-Some-take.ensures.taken, to_1) in
    (apart-new _ _ _ c.in-Some-take.ensures.new to_1, apart-new _ _ _ c.in-Some-take-2.ensures.new to_2)
