use Rattle.std.proofs.Common.{◌≡◌, length, take, arith, rules, subst}
use Rattle.trace_graph.specs.inner.Successors.{AreExclusive}
use Rattle.trace_graph.proofs.SuccessorLemmas.{one_written}
use Rattle.trace_graph.proofs.successors.write_exclusive.Goals as goal

pub loop-later-preserved : goal.loop-later-preserved
loop-later-preserved g c =
    let room = c.loop-later.invariant.room in
    record {
      room = search rules;
      few = search rules;
      exclusive = rw c.from-count.ensures (one_written (g.P.PairTest.model c.args.pairs) c.args.names.now c.args.vertex c.loop-later.later c.loop-later.count c.loop-later.found c.exclusive.result (omega arith) (omega arith) c.loop-later.invariant.exclusive c.exclusive.ensures);
    }

pub returns-clause-exclusive : goal.returns-clause-exclusive
returns-clause-exclusive g c =
    let e : c.loop-later.later ≡ length c.args.names.now = omega arith in
    subst (λ n. AreExclusive (g.P.PairTest.model c.args.pairs) c.args.names.now c.args.vertex n (take c.loop-later.count c.loop-later.found)) e c.loop-later.invariant.exclusive
