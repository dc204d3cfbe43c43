use Rattle.std.proofs.Common.{◌≡◌, ◌^◌, ◌+◌, ◌<◌, ◌≤◌, ℕ, length, sym, subst, arith}
use Rattle.std.proofs.lemmas.Result.{err_from_is_err_and}
use Rattle.day_partitions.specs.Batches.{with_all}
use Rattle.day_partitions.specs.Books.{all_traces}
use Rattle.book_laws.specs.Shown.{AreShown}
use Rattle.kept_books.specs.KeptBooks.{KeptState}
use Rattle.session.specs.Carrying.{kept_count}
use Rattle.session.specs.SessionStates.{SessionState}
use Rattle.session.specs.Sheets.{graced_by}
use Rattle.session.specs.inner.AddFaults.{fault_of_sheets}
use Rattle.session.specs.inner.AddSteps.{HasDaysCause}
use Rattle.session.proofs.AddingLemmas.{booked_of, count_cause, days_cause, room_cause, session_of}
use Rattle.session.proofs.CountLemmas.{count_after, sheets_for, shown_long}
use Rattle.session.proofs.GivenLemmas.{is_counted, not_counted}
use Rattle.session.specs.declared.add_fault.AddFault.TheVariants.{Over}
use Rattle.session_rules.specs.declared.limit.Limit.TheVariants.{Traces}
use Rattle.session.proofs.sessions.Session.add_days.Goals as goal

pub record_batch-requires-clause-days : goal.record_batch-requires-clause-days
record_batch-requires-clause-days g c κs within = rw (c.deref.ensures.value, sym c.deref-2.ensures.value) at c.in_ok-days.ensures.days

pub returns-in_err-days-clause-cause : goal.returns-in_err-days-clause-cause
returns-in_err-days-clause-cause g c =
    let old = c.self.inside in
    let fault = c.in_err-days.field-0.0 in
    let p = err_from_is_err_and c.from_residual.result c.from_residual.ensures.1 in
    rw (p.1, p.2) (λ valid given.
    let shown = subst (λ (s : SessionState). AreShown s.known c.args.named.items (graced_by s.grace valid)) (sym c.self.view_is) given in
    let cause = room_cause fault (session_of old.workers old.book.known old.book.book old.given old.watch old.grace) valid c.args.named.items shown (rw c.deref.ensures.value at c.in_err-days.ensures.cause) in
    subst (λ (s : SessionState). HasDaysCause s valid fault) c.self.view_is cause)

pub can_count-requires : goal.can_count-requires
can_count-requires g c =
    let long : c.len.result ≡ length c.args.named.items = omega (arith, c.args.named.ok.0, c.len.ensures) in
    subst (λ (n : ℕ). length (all_traces c.self.inside.book.book.days) + n < 2 ^ 32) (sym long) (subst (λ (s : SessionState). kept_count s + length c.args.named.items < 2 ^ 32) (sym c.self.view_is) c.requires.many)

pub returns-then-not-can_count-clause-cause : goal.returns-then-not-can_count-clause-cause
returns-then-not-can_count-clause-cause g c = λ valid given.
    let old = c.self.inside in
    let named = c.args.named.items in
    let long : c.len.result ≡ length named = omega (arith, c.args.named.ok.0, c.len.ensures) in
    let shown = subst (λ (s : SessionState). AreShown s.known named (graced_by s.grace valid)) (sym c.self.view_is) given in
    let many : 2 ^ 64 ≤ old.given.table.traces + (length (all_traces old.book.book.days) + c.len.result) = not_counted c.can_count.result _ c.can_count.ensures c.if-not-can_count.true in
    let all : 2 ^ 64 ≤ old.given.table.traces + (length (all_traces old.book.book.days) + length named) = subst (λ (n : ℕ). 2 ^ 64 ≤ old.given.table.traces + (length (all_traces old.book.book.days) + n)) long many in
    let cause = count_cause (session_of old.workers old.book.known old.book.book old.given old.watch old.grace) valid named shown (rw c.deref.ensures.value at c.in_ok-days.ensures.room) all in
    subst (λ (s : SessionState). HasDaysCause s valid (Over Traces)) c.self.view_is cause

pub returns-clause-booked : goal.returns-clause-booked
returns-clause-booked g c = λ valid given.
    let old = c.self.inside in
    let named = c.args.named.items in
    let long : c.len.result ≡ length named = omega (arith, c.args.named.ok.0, c.len.ensures) in
    let shown = subst (λ (s : SessionState). AreShown s.known named (graced_by s.grace valid)) (sym c.self.view_is) given in
    let few : old.given.table.traces + (length (all_traces old.book.book.days) + c.len.result) < 2 ^ 64 = is_counted c.can_count.result _ c.can_count.ensures c.if-not-can_count.false in
    let all : old.given.table.traces + (length (all_traces old.book.book.days) + length named) < 2 ^ 64 = subst (λ (n : ℕ). old.given.table.traces + (length (all_traces old.book.book.days) + n) < 2 ^ 64) long few in
    booked_of c.args.self.now valid named old.workers old.book c.add_all.new.self old.given old.watch old.grace c.self.view_is c.in_ok-recorded.recorded.sheets.items c.in_ok-recorded.recorded.watched.items c.list_days_within.ensures.kept.book (c.in_ok-recorded.ensures (graced_by old.grace valid) shown) c.in_ok-add_all.ensures.fits shown all c.in_ok-add_all.ensures.added

pub add_all-requires : goal.add_all-requires
add_all-requires g c =
    let old = c.self.inside in
    let valid = c.requires.shown.0 in
    let named = c.args.named.items in
    let shown = subst (λ (s : SessionState). AreShown s.known named (graced_by s.grace valid)) (sym c.self.view_is) c.requires.shown.1 in
    let long : length valid ≡ length named = shown_long old.book.known named old.grace valid shown in
    sheets_for c.no_more_are_sheeted.ensures old.book.known old.workers old.watch old.grace valid c.in_ok-recorded.recorded.sheets.items c.in_ok-recorded.recorded.watched.items (c.in_ok-recorded.ensures (graced_by old.grace valid) shown) old.book.book c.list_days_within.ensures.kept.names
    (subst (λ (n : ℕ). length (all_traces old.book.book.days) + n < 2 ^ 32) (sym long) (subst (λ (s : SessionState). kept_count s + length named < 2 ^ 32) (sym c.self.view_is) c.requires.many))

pub invariant_of-self-2 : goal.invariant_of-self-2
invariant_of-self-2 g c = record {
  some = c.self.invariant.some;
  few = c.self.invariant.few;
  within = c.self.invariant.within;
}

pub returns-clause-kept : goal.returns-clause-kept
returns-clause-kept g c =
    let old = c.self.inside in
    let valid = c.requires.shown.0 in
    let named = c.args.named.items in
    let shown = subst (λ (s : SessionState). AreShown s.known named (graced_by s.grace valid)) (sym c.self.view_is) c.requires.shown.1 in
    let long : length valid ≡ length named = shown_long old.book.known named old.grace valid shown in
    subst (λ (s : SessionState). length (all_traces c.add_all.new.self.book.days) ≤ kept_count s + length named) c.self.view_is
    (subst (λ (k : KeptState). length (all_traces k.book.days) ≤ length (all_traces old.book.book.days) + length named) (sym c.in_ok-add_all.ensures.added)
    (subst (λ (n : ℕ). length (all_traces (with_all old.book.book c.in_ok-recorded.recorded.sheets.items).days) ≤ length (all_traces old.book.book.days) + n) long
    (count_after c.no_more_are_sheeted.ensures old.book.known old.workers old.watch old.grace valid c.in_ok-recorded.recorded.sheets.items c.in_ok-recorded.recorded.watched.items (c.in_ok-recorded.ensures (graced_by old.grace valid) shown) old.book.book)))

pub returns-in_err-add_all-clause-cause : goal.returns-in_err-add_all-clause-cause
returns-in_err-add_all-clause-cause g c =
    let old = c.self.inside in
    let sheets = c.in_ok-recorded.recorded.sheets.items in
    let watched = c.in_ok-recorded.recorded.watched.items in
    let fault = c.in_err-add_all.field-0.0 in
    let p = err_from_is_err_and c.from_residual-in_err-add_all.result c.from_residual-in_err-add_all.ensures.1 in
    rw (p.1, p.2) (λ valid given.
    let shown = subst (λ (s : SessionState). AreShown s.known c.args.named.items (graced_by s.grace valid)) (sym c.self.view_is) given in
    let cause = days_cause fault (session_of old.workers old.book.known old.book.book old.given old.watch old.grace) valid sheets watched c.list_days_within.ensures.kept.book (c.in_ok-recorded.ensures (graced_by old.grace valid) shown) c.in_err-add_all.ensures.fault in
    subst (λ (s : SessionState). HasDaysCause s valid (fault_of_sheets fault)) c.self.view_is cause)
