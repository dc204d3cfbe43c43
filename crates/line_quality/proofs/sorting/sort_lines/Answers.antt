use Rattle.std.proofs.Common.{List, ℕ, subst, sym}
use Rattle.line_quality.specs.inner.Sorting.{IsSorted, SortsFirst}
use Rattle.line_quality.proofs.SortingLemmas.{sorted_all, sorted_more, sorted_none}
use Rattle.line_quality.proofs.sorting.sort_lines.Goals as goal

pub bad-init : goal.bad-init
bad-init g c =
    let f = c.args.findings.now in
    subst (λ (xs : List ℕ). IsSorted c.args.file c.args.bytes.now xs f f 0 0) (sym c.new-text.ensures.items) (sorted_none c.args.file c.args.bytes.now f)

pub bad-preserved : goal.bad-preserved
bad-preserved g c =
    let s = c.in_ok-sorted.sorted in
    let first = subst (λ (xs : List ℕ). SortsFirst c.args.file c.bad.number xs c.bad.text.items c.sort_first.new.text.items c.bad.findings c.sort_first.new.findings s) c.bytes_from-rest.ensures c.in_ok-sorted.ensures in
    sorted_more c.args.file c.args.bytes.now c.bad.text.items c.sort_first.new.text.items c.args.findings.now c.bad.findings c.sort_first.new.findings c.bad.at c.bad.number s c.bad.invariant first

pub returns : goal.returns
returns g c = sorted_all c.args.file c.args.bytes.now c.bad.text.items c.args.findings.now c.bad.findings c.bad.at c.bad.number c.bad-test.false c.bad.invariant
