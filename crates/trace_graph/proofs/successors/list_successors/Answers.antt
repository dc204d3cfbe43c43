use Rattle.std.proofs.Common.{◌≡◌, take, ◌∙◌, ap, length, arith}
use Rattle.trace_graph.proofs.SuccessorLemmas.{lists_push, written}
use Rattle.trace_graph.proofs.successors.list_successors.Goals as goal

pub loop-vertex-preserved : goal.loop-vertex-preserved
loop-vertex-preserved g c =
    let kept : length c.write_exclusive-count.new.found ≡ c.loop-vertex.found.len = omega (arith, c.write_exclusive-count.auto.found, c.deref_mut.ensures.len) in
    let all = written c.loop-vertex.found.len c.write_exclusive-count.new.found c.loop-vertex.found.items kept in
    let same : c.of.result ≡ take c.write_exclusive-count.result c.write_exclusive-count.new.found = c.of.ensures ∙ (c.in_ok-from_slice.ensures.items ∙ ap (take c.write_exclusive-count.result) (c.deref.ensures.value ∙ all)) in
    record {
      room = rw all c.write_exclusive-count.ensures.room;
      lists = rw (c.in_ok-push.ensures.items, same) (lists_push (g.P.PairTest.model c.args.pairs) c.args.names.now c.loop-vertex.vertex c.loop-vertex.lists.items (take c.write_exclusive-count.result c.write_exclusive-count.new.found) c.loop-vertex.invariant.lists c.write_exclusive-count.ensures.exclusive);
    }
