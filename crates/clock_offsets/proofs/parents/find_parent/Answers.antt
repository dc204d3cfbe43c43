use Rattle.std.proofs.Common.{◌≡◌, ◌<◌, pos, Option, Some, List, [], ◌∷◌, ◌++◌, length, get_or, take, sym, ◌∙◌, subst, arith, rules}
use Rattle.std.proofs.lemmas.List.{take_more}
use Rattle.clock_offsets.specs.declared.link.Link.{Link}
use Rattle.clock_offsets.specs.inner.Search.{depth_at, IsBest}
use Rattle.clock_offsets.proofs.VisitLemmas.{link_below}
use Rattle.clock_offsets.proofs.ParentLemmas.{IsBestOf, depth_below, option_apart, option_same, best_skip, best_step, IsTold}
use Rattle.clock_offsets.proofs.parents.find_parent.Goals as goal
use Rattle.clock_offsets.proofs.parents.find_parent.Goals.{in-Some, in-None, then-is_less, else-is_less}

pub offset_bounds-depths-link : goal.offset_bounds-depths-link
offset_bounds-depths-link c =
    let below = link_below (length c.args.depths.now) c.args.links.now c.loop-link.link-index (record { to = 0; offset = pos 0 }) c.requires.within (omega arith) in
    search rules

pub bounds-depths-link : goal.bounds-depths-link
bounds-depths-link c = link_below (length c.args.depths.now) c.args.links.now c.loop-link.link-index (record { to = 0; offset = pos 0 }) c.requires.within (omega arith)

pub loop-link-preserved-then-ne : goal.loop-link-preserved-then-ne
loop-link-preserved-then-ne c =
    let x : Link = get_or c.args.links.now c.loop-link.link-index (record { to = 0; offset = pos 0 }) in
    subst (λ (ls : List Link). IsBestOf c.args.trace.now.trace.events c.args.depths.now c.args.depth ls c.loop-link.best) (sym (take_more c.args.links.now c.loop-link.link-index (record { to = 0; offset = pos 0 }) (omega arith)))
    (best_skip c.args.trace.now.trace.events c.args.depths.now c.args.depth (take c.loop-link.link-index c.args.links.now) x c.loop-link.best c.loop-link.invariant (option_apart (depth_at c.args.depths.now x.to) c.args.depth c.ne.result c.ne.ensures c.if-ne.true))

pub loop-link-preserved : goal.loop-link-preserved
loop-link-preserved c =
    let x : Link = get_or c.args.links.now c.loop-link.link-index (record { to = 0; offset = pos 0 }) in
    let at : depth_at c.args.depths.now x.to ≡ Some c.args.depth = option_same (depth_at c.args.depths.now x.to) c.args.depth c.ne.result c.ne.ensures c.if-ne.false in
    let each : length c.args.depths.now ≡ length c.args.trace.now.trace.events = c.requires.each in
    let below : x.to < length c.args.depths.now = depth_below c.args.depths.now x.to c.args.depth at in
    let told : IsTold c.args.trace.now.trace.events x c.loop-link.best c.match-best.is_less = elim c.match-best.branch [
      | in-Some w ↦
          let best : IsBest c.args.trace.now.trace.events c.args.depths.now c.args.depth (take c.loop-link.link-index c.args.links.now) w.in-Some.known = subst (λ (o : Option Link). IsBestOf c.args.trace.now.trace.events c.args.depths.now c.args.depth (take c.loop-link.link-index c.args.links.now) o) w.in-Some.is c.loop-link.invariant in
          let known : w.in-Some.known.to < length c.args.depths.now = depth_below c.args.depths.now w.in-Some.known.to c.args.depth best.depth in
          subst (λ (o : Option Link). IsTold c.args.trace.now.trace.events x o c.match-best.is_less) (sym w.in-Some.is) (w.is_less-is ∙ w.is_before-is_less.ensures)
      | in-None w ↦ subst (λ (o : Option Link). IsTold c.args.trace.now.trace.events x o c.match-best.is_less) (sym w.in-None.is) w.is_less-is
    ] in
    let step = best_step c.args.trace.now.trace.events c.args.depths.now c.args.depth (take c.loop-link.link-index c.args.links.now) x c.loop-link.best c.match-best.is_less c.loop-link.invariant at told in
    subst (λ (ls : List Link). IsBestOf c.args.trace.now.trace.events c.args.depths.now c.args.depth ls c.if-is_less.best) (sym (take_more c.args.links.now c.loop-link.link-index (record { to = 0; offset = pos 0 }) (omega arith)))
    (elim c.if-is_less.branch [
      | then-is_less w ↦ rw w.best-is (step.0 w.if-is_less.true)
      | else-is_less w ↦ rw w.best-is (elim c.match-best.branch [
        | in-Some v ↦ rw v.best-is (subst (λ (o : Option Link). IsBestOf c.args.trace.now.trace.events c.args.depths.now c.args.depth (take c.loop-link.link-index c.args.links.now ++ x ∷ []) o) v.in-Some.is (step.1 w.if-is_less.false))
        | in-None v ↦ rw v.best-is (step.1 w.if-is_less.false)
      ])
    ])
