use Rattle.std.proofs.Common.{◌≡◌, ◌++◌, ℕ, List, length, take, sym, ap, ◌∙◌, subst}
use Rattle.std.specs.List.{flat_map}
use Rattle.std.proofs.lemmas.List.{take_all}
use Rattle.trace_paths.specs.Tables.{IsTableOf}
use Rattle.trace_types.specs.declared.named_segment.NamedSegment.{NamedSegment}
use Rattle.trace_types.proofs.ElementLemmas.{flat_more}
use Rattle.latency_report.proofs.tables.tabulate_paths.Goals as goal

pub paths-preserved : goal.paths-preserved
paths-preserved c =
    let ps = c.args.paths.now in
    let i = c.paths.path-index in
    let path = c.path-item.result in
    let names = c.args.names in
    let same = λ (x : List NamedSegment). x in
    let before : List NamedSegment = flat_map same (take i ps) in
    let count : length c.paths.table ≡ names = c.paths.invariant.count in
    let added : IsTableOf names (before ++ c.items.result.now) c.add.new.self =
    subst (λ (k : ℕ). IsTableOf k (before ++ c.items.result.now) c.add.new.self) count
    (c.in_ok-add.ensures.added before (subst (λ (k : ℕ). IsTableOf k before c.paths.table) (sym count) c.paths.invariant)) in
    subst (λ (l : List NamedSegment). IsTableOf names l c.add.new.self)
    (ap (λ (l : List NamedSegment). before ++ l) c.items.ensures ∙ sym (flat_more same ps i path c.paths-test.true c.path-item.is)) added

pub returns : goal.returns
returns c =
    subst (λ (l : List (List NamedSegment)). IsTableOf c.args.names (flat_map (λ (x : List NamedSegment). x) l) c.paths.table)
    (take_all c.paths.path-index c.args.paths.now c.paths-test.false) c.paths.invariant
