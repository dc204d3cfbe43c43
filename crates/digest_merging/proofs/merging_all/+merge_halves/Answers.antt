use Rattle.std.proofs.Common.{◌/◌, length, arith, ap, ◌∙◌}
use Rattle.std.proofs.lemmas.List.{length-drop, length-take-le}
use Rattle.std.proofs.lemmas.Result.{IfErr-weaker, IfOk-weaker, err_from_is_err_and}
use Rattle.digest_merging.proofs.AllLemmas.{halves_fault, halves_merge, left_fault, list_none, list_one, list_two, none_merge, one_fault, one_merge, right_fault, two_fault, two_merge}
use Rattle.digest_merging.proofs.merging_all.+merge_halves.Goals as goal

pub merge_halves-requires : goal.merge_halves-requires
merge_halves-requires t c = (omega (arith, ap length c.split_at.ensures.front ∙ length-take-le (length c.args.tables.now / 2) c.args.tables.now (omega arith), c.in_default.len_at_least), tt)

pub returns-in_err-left-in_default-clause-fault : goal.returns-in_err-left-in_default-clause-fault
returns-in_err-left-in_default-clause-fault t c =
    let p = err_from_is_err_and c.from_residual.result c.from_residual.ensures.1 in
    rw (p.1, p.2) (λ given g few. left_fault c.args.tables.now c.split_at.result.0.now c.split_at.result.1.now (length c.args.tables.now / 2) c.split_at.ensures.front c.split_at.ensures.back given g few c.in_err-left-in_default.field-0.0 c.in_err-left-in_default.ensures.fault)

pub merge_halves-requires-in_default : goal.merge_halves-requires-in_default
merge_halves-requires-in_default t c = (omega (arith, ap length c.split_at.ensures.back ∙ length-drop (length c.args.tables.now / 2) c.args.tables.now, c.in_default.len_at_least), tt)

pub returns-in_err-right-in_default-clause-fault : goal.returns-in_err-right-in_default-clause-fault
returns-in_err-right-in_default-clause-fault t c =
    let p = err_from_is_err_and c.from_residual-in_err-right-in_default.result c.from_residual-in_err-right-in_default.ensures.1 in
    rw (p.1, p.2) (λ given g few. right_fault c.args.tables.now c.split_at.result.0.now c.split_at.result.1.now (length c.args.tables.now / 2) c.split_at.ensures.front c.split_at.ensures.back given g few c.in_err-right-in_default.field-0.0 c.in_err-right-in_default.ensures.fault)

pub returns-in-empty-clause-merge : goal.returns-in-empty-clause-merge
returns-in-empty-clause-merge t c given g = none_merge c.args.tables.now c.empty_table.result (list_none c.args.tables.now c.in-empty.len_below) c.empty_table.ensures given g

pub returns-in-len1-clause-merge : goal.returns-in-len1-clause-merge
returns-in-len1-clause-merge t c = IfOk-weaker c.merge_digests-in-len1.result _ _ (λ table h given g. one_merge c.one-item.result c.args.tables.now (list_one c.args.tables.now c.one-item.result c.in-len1.len_at_least c.in-len1.len_below c.one-item.is) c.empty_table-in-len1.result c.empty_table-in-len1.ensures given g table h) c.merge_digests-in-len1.ensures.merge

pub returns-in-len1-clause-fault : goal.returns-in-len1-clause-fault
returns-in-len1-clause-fault t c = IfErr-weaker c.merge_digests-in-len1.result _ _ (λ fault h given g few. one_fault c.one-item.result c.args.tables.now (list_one c.args.tables.now c.one-item.result c.in-len1.len_at_least c.in-len1.len_below c.one-item.is) c.empty_table-in-len1.result c.empty_table-in-len1.ensures given g few fault h) c.merge_digests-in-len1.ensures.fault

pub returns-in-len2-clause-merge : goal.returns-in-len2-clause-merge
returns-in-len2-clause-merge t c = IfOk-weaker c.merge_digests-in-len2.result _ _ (λ table h given g. two_merge c.first-item.result c.second-item.result c.args.tables.now (list_two c.args.tables.now c.first-item.result c.second-item.result c.in-len2.len_at_least c.in-len2.len_below c.first-item.is c.second-item.is) given g table h) c.merge_digests-in-len2.ensures.merge

pub returns-in-len2-clause-fault : goal.returns-in-len2-clause-fault
returns-in-len2-clause-fault t c = IfErr-weaker c.merge_digests-in-len2.result _ _ (λ fault h given g few. two_fault c.first-item.result c.second-item.result c.args.tables.now (list_two c.args.tables.now c.first-item.result c.second-item.result c.in-len2.len_at_least c.in-len2.len_below c.first-item.is c.second-item.is) given g few fault h) c.merge_digests-in-len2.ensures.fault

pub returns-in_ok-right-in_default-clause-merge : goal.returns-in_ok-right-in_default-clause-merge
returns-in_ok-right-in_default-clause-merge t c = IfOk-weaker c.merge_digests-in_default.result _ _ (λ table h given g. halves_merge c.args.tables.now c.split_at.result.0.now c.split_at.result.1.now (length c.args.tables.now / 2) c.split_at.ensures.front c.split_at.ensures.back given g
    c.in_ok-left-in_default.left c.in_ok-right-in_default.right c.in_ok-left-in_default.ensures.merge c.in_ok-right-in_default.ensures.merge table h) c.merge_digests-in_default.ensures.merge

pub returns-in_ok-right-in_default-clause-fault : goal.returns-in_ok-right-in_default-clause-fault
returns-in_ok-right-in_default-clause-fault t c = IfErr-weaker c.merge_digests-in_default.result _ _ (λ fault h given g few. halves_fault c.args.tables.now c.split_at.result.0.now c.split_at.result.1.now (length c.args.tables.now / 2) c.split_at.ensures.front c.split_at.ensures.back given g
    c.in_ok-left-in_default.left c.in_ok-right-in_default.right c.in_ok-left-in_default.ensures.merge c.in_ok-right-in_default.ensures.merge few fault h) c.merge_digests-in_default.ensures.fault
