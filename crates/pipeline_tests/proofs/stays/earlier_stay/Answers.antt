use Rattle.std.proofs.Common.{◌≡◌, ◌-◌, ℕ, ap, ◌∙◌, arith}
use Rattle.std.proofs.lemmas.List.{get_or_default}
use Rattle.pipeline_tests.specs.declared.stays.Stay.{Stay}
use Rattle.pipeline_tests.proofs.StayLemmas.{none_behind, none_known}
use Rattle.pipeline_tests.proofs.stays.earlier_stay.Goals as goal

pub returns-then-stays-at : goal.returns-then-stays-at
returns-then-stays-at c =
    let at : ℕ = c.loop-after.after - 1 in
    let v = c.loop-after.invariant in
    let within = v.within in
    let some = c.loop-after-test.true in
    let y : Stay = c.index-stays-at.result in
    none_behind c.args.trace.now c.args.index c.args.element c.args.segment c.requires.handles c.args.stays.now c.requires.stays at (omega arith)
    (λ d t. c.if-stays-at.true (ap (λ (s : Stay). s.task) (get_or_default c.args.stays.now at y d (omega arith)) ∙ t))
    (λ m d less l e. v.none m d (omega arith) l e)

pub returns : goal.returns
returns c = none_known c.args.trace.now c.args.index c.args.element c.args.segment c.requires.handles c.args.stays.now c.requires.stays
    (λ m d l e. let end = c.loop-after-test.false in c.loop-after.invariant.none m d (omega arith) l e)
