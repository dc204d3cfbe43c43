use Rattle.session.proofs.ControlLemmas.{keep_step}
use Rattle.session.proofs.sessions.Session.keep_newest.Goals as goal

pub returns-clause-stepped : goal.returns-clause-stepped
returns-clause-stepped g c =
    keep_step g.S.Sink.written g.S.Sink.faults c.newest_show.ensures c.part_calls_follow.ensures.one c.args.self.now c.keep_in_book-count.new.self c.args.days c.keep_in_book-count.result c.print_count.result _ _ _ _
    c.keep_in_book-count.ensures.kept c.keep_in_book-count.ensures.count c.keep_in_book-count.ensures.book c.print_count.ensures
