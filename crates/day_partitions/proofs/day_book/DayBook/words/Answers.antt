use Rattle.std.proofs.Common.{sym, subst}
use Rattle.word_rows.specs.Words.{AreWords}
use Rattle.day_partitions.specs.Books.{all_traces}
use Rattle.refute_tests.specs.Survivors.{LackRefuted}
use Rattle.day_partitions.proofs.SurvivorLemmas.{common_lacks}
use Rattle.day_partitions.proofs.day_book.DayBook.words.Goals as goal

pub returns-clause-survivors : goal.returns-clause-survivors
returns-clause-survivors c =
    let a = c.self.inside in
    let lacks = common_lacks a.tree a.days.items c.root.result.now c.self.invariant.slots c.root.ensures.common c.root.ensures.width in
    let kept = subst (λ b. LackRefuted (all_traces b.days) c.root.result.now) c.self.view_is lacks in
    record { bound = subst (λ w. AreWords w) (sym c.lend.ensures.same) c.lend.ensures.bound; bits = subst (λ w. LackRefuted (all_traces c.args.self.now.days) w) (sym c.lend.ensures.same) kept }
