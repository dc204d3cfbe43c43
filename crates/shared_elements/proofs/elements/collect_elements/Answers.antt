use Rattle.std.proofs.Common.{Vec, Global, ℕ, ◌≡◌, ◌≤◌, ◌+◌, Some, length, slice_get, arith, refl, sym, ap, ◌∙◌, subst}
use Rattle.std.proofs.lemmas.Option.{slice_get_read}
use Rattle.shared_elements.proofs.ElementLemmas.{CollectedBelow, collected_all, collected_more, collected_past}
use Rattle.shared_elements.proofs.elements.collect_elements.Goals as goal
use Rattle.shared_elements.proofs.elements.collect_elements.Goals.{in-Some+in_ok-push, in_default}

pub segments-preserved : goal.segments-preserved
segments-preserved c =
    let segments = c.args.trace.now.segments in
    let task = c.args.task in
    let i = c.segments.index in
    let s = c.index-segments-index.result in
    let items = c.items-segments.result.now in
    let at : slice_get segments i ≡ Some s = ap (λ l. slice_get l i) (sym c.items-segments.ensures) ∙ slice_get_read items (length items) i s refl c.segments-test.true c.index-segments-index.is in
    let old = c.segments.elements.items in
    elim c.match-element_of.branch [
      | in-Some+in_ok-push w ↦ subst (CollectedBelow segments (i + 1) task) (sym (ap (λ (v : Vec ℕ Global). v.items) w.elements-is ∙ w.in_ok-push.ensures.items)) (collected_more segments i task s at old c.segments.invariant w.in-Some.element ((c.element_of.ensures w.in-Some.element).0 w.in-Some.is))
      | in_default w ↦ subst (CollectedBelow segments (i + 1) task) (sym (ap (λ (v : Vec ℕ Global). v.items) w.elements-is)) (collected_past segments i task s at old c.segments.invariant (λ e h. w.in_default.not-Some e ((c.element_of.ensures e).1 h)))
    ]

pub returns : goal.returns
returns c =
    let all : length c.args.trace.now.segments ≤ c.segments.index = let e = ap length c.items-segments.ensures in let f = c.segments-test.false in omega arith in
    collected_all c.args.trace.now c.segments.index c.args.task c.segments.elements.items all c.segments.invariant
