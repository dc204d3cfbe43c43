use Rattle.std.proofs.Common.{◌≡◌, ◌≤◌, length, take}
use Rattle.certificate_rows.specs.inner.Pairs.{pairs_with, refuted_pairs}
use Rattle.certificate_rows.proofs.counting.count_from.Given as goal

-- the pairs so far are counted
abbrev pub invariant-others : goal.invariant-others
invariant-others l = record {
  counted : l.count ≡ length (refuted_pairs l.source.refuters.now l.kind (pairs_with l.one (take l.other-index l.others)));
  few : l.count ≤ l.other-index;
}
