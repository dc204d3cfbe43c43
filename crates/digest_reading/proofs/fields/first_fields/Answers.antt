use Rattle.std.proofs.Common.{ap, ◌∙◌, ◌==◌, rules, tests}
use Rattle.std.proofs.lemmas.Iterator.{YieldsList-from_take}
use Rattle.std.proofs.lemmas.Iterator.Consumers.{map_from_collect}
use Rattle.std.proofs.lemmas.Iterator.Splits.{YieldsList-from_slice_split}
use Rattle.std.specs.Slice.Iter.{split_callee, split_done, split_rest}
use Rattle.digest_reading.proofs.fields.first_fields.Goals as goal

pub returns : goal.returns
returns c =
    map_from_collect _ c.collect.ensures.ran (YieldsList-from_take 6
    (YieldsList-from_slice_split _ (λ byte. byte == 9) c.args.line.now (ap split_rest c.take.ensures.source ∙ c.split.ensures.rest) (ap split_done c.take.ensures.source ∙ c.split.ensures.done) (ap split_callee c.take.ensures.source ∙ c.split.ensures.closure) (λ x r q k. search (rules, tests)))
    c.take.ensures.count)
