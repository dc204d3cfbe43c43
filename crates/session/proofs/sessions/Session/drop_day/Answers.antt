use Rattle.std.proofs.Common.{◌≤◌, sym, subst}
use Rattle.day_partitions.proofs.DayLemmas.{without_count}
use Rattle.session.specs.Carrying.{kept_count}
use Rattle.session.specs.SessionStates.{SessionState}
use Rattle.session.proofs.ControlLemmas.{drop_step}
use Rattle.session.proofs.sessions.Session.drop_day.Goals as goal

pub returns-clause-stepped : goal.returns-clause-stepped
returns-clause-stepped g c =
    drop_step g.S.Sink.written g.S.Sink.faults c.drop_shows.ensures c.part_calls_follow.ensures.one c.args.self.now c.drop_from_book-count.new.self c.args.day c.drop_from_book-count.result c.print_count.result _ _ _ _
    c.drop_from_book-count.ensures.dropped c.drop_from_book-count.ensures.count c.drop_from_book-count.ensures.book c.print_count.ensures

pub returns-clause-kept : goal.returns-clause-kept
returns-clause-kept g c = subst (λ (s : SessionState). kept_count s ≤ kept_count c.args.self.now) (sym c.drop_from_book-count.ensures.dropped) (without_count c.args.day c.args.self.now.book.days)
