use Rattle.std.proofs.Common.{◌≡◌, ◌+◌, ◌*◌, ◌≤◌, length, drop}
use Rattle.certificate_rows.specs.inner.Numbered.{kind_count}
use Rattle.certificate_rows.specs.inner.Pairs.{pairs_of, refuted_pairs}
use Rattle.certificate_rows.proofs.counting.count_refuted.Given as goal

-- with the pairs from here on, those so far are all
abbrev pub invariant-firsts : goal.invariant-firsts
invariant-firsts l = record {
  counted : l.count + length (refuted_pairs l.source.refuters.now l.kind (pairs_of l.kind l.numbers (drop l.at l.numbers))) ≡ kind_count l.source.refuters.now l.kind l.numbers;
  few : l.count ≤ 512 * l.at;
}
