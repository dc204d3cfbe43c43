use Rattle.critical_path.proofs.first_longest.first_longest.Goals as goal

pub walk-requires-clause-from : goal.walk-requires-clause-from
walk-requires-clause-from g c = rw c.deref.ensures.value c.in_ok-lengths.ensures.from
