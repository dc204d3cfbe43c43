use Rattle.std.proofs.Common.{ℕ, ◌+◌, ◌-◌, List, arith, ap, length, sym, ◌∙◌}
use Rattle.digest_reading.specs.DigestRows.{day_said}
use Rattle.digest_reading.proofs.RowLemmas.{line_missing, row_added, row_missing, rows_done}
use Rattle.digest_reading.proofs.day_reading.read_days.Goals as goal

pub rows-preserved : goal.rows-preserved
rows-preserved c = record {
  told = row_added day_said _ _ c.rows.days.items _ _ _ _ _ c.in-Some-2.day _ c.in_ok-push.ensures.items (omega (arith, c.in_ok-push.ensures.len, c.rows-test.true)) c.in-Some.ensures.cut
      (sym c.in-Some-2.is ∙ c.in_ok-day.ensures ∙ ap (λ (e : List ℕ). day_said e c.in-Some.line.line.now) c.deref.ensures.value) c.rows.invariant.told;
  few = omega (arith, c.in_ok-push.ensures.len, c.rows-test.true);
  room = omega (arith, c.in-Some.ensures.room, c.rows.invariant.room);
  later = omega (arith, c.rows.invariant.later);
}

pub returns-in_default-clause-bad : goal.returns-in_default-clause-bad
returns-in_default-clause-bad c =
    line_missing day_said _ (c.args.count - (length c.rows.days.items + 1)) c.rows.days.items c.rows.number c.rows.left.now _ (omega (arith, c.rows-test.true)) c.in_default.ensures.cut c.rows.invariant.told

pub returns-in_default-2-clause-bad : goal.returns-in_default-2-clause-bad
returns-in_default-2-clause-bad c =
    row_missing day_said _ (c.args.count - (length c.rows.days.items + 1)) c.rows.days.items c.rows.number c.rows.left.now c.in-Some.line.line.now c.in-Some.line.rest.now _ (omega (arith, c.rows-test.true)) c.in-Some.ensures.cut
    (sym c.in_default-2.is ∙ c.in_ok-day.ensures ∙ ap (λ (e : List ℕ). day_said e c.in-Some.line.line.now) c.deref.ensures.value) c.rows.invariant.told

pub returns-clause-read : goal.returns-clause-read
returns-clause-read c = rows_done day_said _ c.rows.days.items c.rows.number c.rows.left.now _ (omega (arith, c.rows-test.false)) c.rows.invariant.told
