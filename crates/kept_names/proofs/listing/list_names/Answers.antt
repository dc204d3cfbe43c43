use Rattle.std.proofs.Common.{◌≡◌, length, rules, arith}
use Rattle.std.specs.Vec.{vec_len}
use Rattle.std.proofs.lemmas.Option.{slice_get-get_or}
use Rattle.trace_types.specs.NameOrder.{name_cmp}
use Rattle.trace_types.proofs.ComparingLemmas.{name_exact}
use Rattle.trace_types.proofs.ListingLemmas.{name_total}
use Rattle.kept_names.proofs.ListingLemmas.{are_listed, collected, collects_next}
use Rattle.kept_names.proofs.listing.list_names.Goals as goal

pub loop-number-preserved : goal.loop-number-preserved
loop-number-preserved c = collects_next c.args.catalogue.now.names c.args.marks.now c.loop-number.number c.text_of.result.now c.loop-number.items.items c.list_where.new.items.items _ c.text_of.ensures
    (slice_get-get_or c.args.marks.now c.loop-number.number _ (omega (arith, c.requires, c.names-count.ensures.count, c.names-count.ensures.kept.few_names))) c.in_ok-list_where.ensures c.loop-number.invariant

pub returns-clause-marked : goal.returns-clause-marked
returns-clause-marked c = collected c.args.catalogue.now.names c.args.marks.now name_cmp name_total name_exact c.names-count.ensures.kept.names_differ c.loop-number.number (omega (arith, c.names-count.ensures.count)) c.loop-number.items.items c.sort_unstable.new.self.items
    c.loop-number.invariant c.sort_unstable.ensures.permutation c.sort_unstable.ensures.sorted

pub returns-clause-listed : goal.returns-clause-listed
returns-clause-listed c = are_listed name_cmp name_total c.args.catalogue.now.names c.args.marks.now (length c.args.catalogue.now.names) (omega arith) c.sort_unstable.new.self.items
    (collected c.args.catalogue.now.names c.args.marks.now name_cmp name_total name_exact c.names-count.ensures.kept.names_differ c.loop-number.number (omega (arith, c.names-count.ensures.count)) c.loop-number.items.items c.sort_unstable.new.self.items
    c.loop-number.invariant c.sort_unstable.ensures.permutation c.sort_unstable.ensures.sorted)

pub returns-clause-few : goal.returns-clause-few
returns-clause-few c =
    let size : vec_len c.loop-number.items ≡ length c.loop-number.items.items = search rules in
    omega (arith, c.sort_unstable.ensures.len, c.loop-number.invariant.few, c.names-count.ensures.count, c.names-count.ensures.kept.few_names)
