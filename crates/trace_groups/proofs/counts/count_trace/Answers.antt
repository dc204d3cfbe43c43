use Rattle.std.proofs.Common.{◌≡◌, ◌&&◌, ap, arith, get_or, refl, take}
use Rattle.std.specs.List.{list_any}
use Rattle.std.proofs.lemmas.Bool.{and_right}
use Rattle.trace_quality.specs.Measures.{one_if}
use Rattle.trace_groups.specs.inner.Names.{is_name}
use Rattle.trace_groups.proofs.CountLemmas.{fresh, trace_more}
use Rattle.trace_groups.proofs.counts.count_trace.Goals as goal

pub count_key-requires : goal.count_key-requires
count_key-requires c =
    let k = get_or c.args.names.now c.names.index (0, 0) in
    let new = and_right (is_name c.args.begin c.args.begin) (list_any (is_name k) (take c.names.index c.args.names.now)) (fresh c.args.names.now c.names.index (0, 0) c.requires.distinct c.names-test.true) in
    omega (arith, c.names.invariant (c.args.begin, k), ap one_if new, c.requires.few (c.args.begin, k))

pub names-preserved : goal.names-preserved
names-preserved c row =
    trace_more c.args.names.now c.names.index c.args.begin (get_or c.args.names.now c.names.index (0, 0)) (0, 0) row _ _ _ c.requires.distinct c.names-test.true refl (c.names.invariant row) (c.in_ok-count_key.ensures row)
