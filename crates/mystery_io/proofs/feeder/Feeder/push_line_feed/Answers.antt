use Rattle.std.proofs.Common.{arith, refl, subst}
use Rattle.std.proofs.lemmas.List.{take-set}
use Rattle.mystery_io.specs.inner.Feeding.{Feeds}
use Rattle.mystery_io.proofs.FeedLemmas.{byte_at, feeds_after, keeps_first}
use Rattle.mystery_io.proofs.feeder.Feeder.push_line_feed.Goals as goal

pub returns-clause-feeds : goal.returns-clause-feeds
returns-clause-feeds g c =
    let took = g.I.Intake.took in
    let f = c.args.self.now in
    let fed = feeds_after took _ _ _ _ (keeps_first took f _ refl refl refl refl (take-set f.buffer.items f.filled 10)) c.add.ensures.feeds in
    subst (λ xs. Feeds took f xs c.add.new.self) (byte_at f.buffer.items f.filled 10 (omega (arith, f.buffer.ok.0, c.requires.within))) fed
