use Rattle.weighted_dag.proofs.lengths.lengths_from.Goals as goal

pub lengths_over-requires-clause-fits : goal.lengths_over-requires-clause-fits
lengths_over-requires-clause-fits g c = rw c.weights.ensures.weights c.requires.fits

pub returns-clause-from : goal.returns-clause-from
returns-clause-from g c = rw c.weights.ensures.weights at c.lengths_over.ensures.from
