use Rattle.std.proofs.Common.{rules}
use Rattle.std.proofs.lemmas.List.Sorted.{answers_always}
use Rattle.batch_sheets.specs.Splitting.{split_day}
use Rattle.batch_sheets.proofs.DayLemmas.{searched}
use Rattle.batch_sheets.proofs.days.find_day.Goals as goal

pub returns : goal.returns
returns c =
    let facts = c.binary_search_by_key.ensures in
    let by_day = facts.position split_day (answers_always _ _ _ (λ f a r g called. search rules)) in
    rw c.ok.ensures.value (searched c.args.split.now c.args.day c.requires c.binary_search_by_key.result facts.bound by_day)
