use Rattle.std.proofs.Common.{◌∙◌, ap, sym}
use Rattle.std.specs.Option.{option_copied}
use Rattle.std.proofs.lemmas.Option.{get_or_from_slice_get, slice_get_within}
use Rattle.trace_quality.proofs.ExtremeLemmas.{extremes_all, extremes_more, extremes_one}
use Rattle.trace_quality.proofs.extremes.find_extremes.Goals as goal

pub facts-init : goal.facts-init
facts-init c =
    let first = c.in_ok-first.first.now in
    let there = sym c.first.ensures.value ∙ ap option_copied c.in_ok-first.was in
    extremes_one c.args.facts.now first (slice_get_within c.args.facts.now 0 first there) (sym (get_or_from_slice_get c.args.facts.now 0 first first there))

pub facts-preserved : goal.facts-preserved
facts-preserved c = extremes_more c.args.facts.now c.facts.index c.facts.times c.widen-times.result _ c.facts-test.true c.facts.invariant c.widen-times.ensures.least c.widen-times.ensures.greatest

pub returns : goal.returns
returns c = extremes_all c.args.facts.now c.facts.index c.facts.times c.facts-test.false c.facts.invariant
