use Rattle.std.proofs.Common.{◌≡◌, List, true, sym, subst}
use Rattle.hypothesis_index.specs.Places.{width_of}
use Rattle.hypothesis_index.specs.Refuting.{RefutesNames}
use Rattle.refute_tests.proofs.ExactLemmas.{from_nothing}
use Rattle.refute_tests.specs.Clearing.{AddsExactly, ClearsExactly}
use Rattle.word_rows.specs.Rows.{below}
use Rattle.word_rows.specs.declared.entries.Entry.{Entry}
use Rattle.refute_tests.proofs.segments.segment_row.Goals as goal

pub returns-clause-exact : goal.returns-clause-exact
returns-clause-exact c = subst (λ (l : List Entry). ClearsExactly l (λ r. RefutesNames r c.args.trace.now)) (sym c.in_ok-row.ensures)
    (from_nothing c.clear_segments.new.maker (λ r. RefutesNames r c.args.trace.now) (subst (λ (l : List Entry). AddsExactly l (λ r. RefutesNames r c.args.trace.now) c.clear_segments.new.maker) c.new-maker.ensures c.in_ok-clear_segments.ensures.cleared))

pub returns-clause-fits : goal.returns-clause-fits
returns-clause-fits c = λ n h. subst (λ (l : List Entry). below (width_of n) l ≡ true) (sym c.in_ok-row.ensures) (c.in_ok-clear_segments.ensures.fits n h)
