use Rattle.std.proofs.Common.{◌≡◌, ℕ, ◌+◌, ◌-◌, ◌<◌, List, [], ◌∷◌, ◌++◌, length, ap, arith, ◌∙◌}
use Rattle.std.proofs.lemmas.Bool.Decides.{nat_tests}
use Rattle.std.proofs.lemmas.Result.{err_from_is_err_and}
use Rattle.trace_types.specs.Segments.{SegmentName}
use Rattle.digest_facts.specs.Tables.{Table}
use Rattle.digest_reading.proofs.DigestLemmas.{first_bad, first_read, table_added, table_bad}
use Rattle.digest_reading.proofs.reading.read_digests.Goals as goal

pub returns-in_err-first-clause-first_bad : goal.returns-in_err-first-clause-first_bad
returns-in_err-first-clause-first_bad c =
    let p = err_from_is_err_and c.from_residual.result c.from_residual.ensures.1 in
    rw (p.1, p.2) (first_bad (length c.args.bytes.now + 1) (length c.args.bytes.now) c.args.bytes.now _ (omega arith) c.in_err-first.ensures.bad)

pub digests-init : goal.digests-init
digests-init c =
    let first = c.in_ok-first.first in
    let e : c.push.new.self.items ≡ first.value ∷ [] = c.in_ok-push.ensures.items ∙ ap (λ (l : List (Table SegmentName (List ℕ))). l ++ first.value ∷ []) c.new-tables.ensures.items in
    let one : length c.push.new.self.items ≡ 1 = ap (λ (l : List (Table SegmentName (List ℕ))). length l) e in
    record {
      told = rw e (first_read (length c.args.bytes.now + 1) _ first.number c.args.bytes.now first.left.now first.value (omega arith) c.in_ok-first.ensures.read);
      few = omega (arith, one, c.in_ok-first.ensures.room, c.in_ok-first.ensures.later);
      room = omega (arith, c.in_ok-first.ensures.room);
    }

pub returns-in_err-read-clause-first_bad : goal.returns-in_err-read-clause-first_bad
returns-in_err-read-clause-first_bad c =
    let p = err_from_is_err_and c.from_residual-in_err-read.result c.from_residual-in_err-read.ensures.1 in
    let some : 0 < length c.digests.left.now = grind (arith, nat_tests, c.is_empty.ensures, c.digests-test.true) in
    rw (p.1, p.2)
    (table_bad (length c.args.bytes.now + 1 - length c.digests.tables.items) (length c.args.bytes.now - length c.digests.tables.items) c.digests.number c.digests.tables.items c.digests.left.now _ _ (omega (arith, c.digests.invariant.few)) some c.in_err-read.ensures.bad c.digests.invariant.told)

pub digests-preserved : goal.digests-preserved
digests-preserved c =
    let some : 0 < length c.digests.left.now = grind (arith, nat_tests, c.is_empty.ensures, c.digests-test.true) in
    let read = c.in_ok-read.read in
    record {
      told = table_added (length c.args.bytes.now + 1 - length c.digests.tables.items) _ c.digests.number read.number c.digests.tables.items _ c.digests.left.now read.left.now read.value _ c.in_ok-push-2.ensures.items (omega (arith, c.in_ok-push-2.ensures.len, c.digests.invariant.few, some)) some c.in_ok-read.ensures.read c.digests.invariant.told;
      few = omega (arith, c.in_ok-push-2.ensures.len, c.digests.invariant.few, c.in_ok-read.ensures.room, c.in_ok-read.ensures.later);
      room = omega (arith, c.digests.invariant.room, c.in_ok-read.ensures.room);
    }
