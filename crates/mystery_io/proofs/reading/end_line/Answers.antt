use Rattle.mystery_io.proofs.ContentLemmas.{feed_came, line_ended}
use Rattle.mystery_io.proofs.FeedLemmas.{feeds_after}
use Rattle.mystery_io.proofs.reading.end_line.Goals as goal

pub returns-clause-feeds : goal.returns-clause-feeds
returns-clause-feeds g c =
    let took = g.I.Intake.took in
    feed_came took _ _ c.if-feeder.false (feeds_after took _ _ _ _ c.in_ok-make_room.ensures.keeps c.push_line_feed.ensures.feeds)

pub returns-clause-ended : goal.returns-clause-ended
returns-clause-ended g c =
    let took = g.I.Intake.took in
    line_ended took _ _ c.if-feeder.false (feeds_after took _ _ _ _ c.in_ok-make_room.ensures.keeps c.push_line_feed.ensures.feeds)
