use Rattle.std.proofs.Common.{◌≡◌, ◌+◌, ◌<◌, vec_len, pos, None, length, get_or, take, arith, rules}
use Rattle.std.proofs.lemmas.List.{take_more}
use Rattle.clock_offsets.specs.declared.link.Link.{Link}
use Rattle.clock_offsets.specs.inner.Search.{depth_at, unvisited}
use Rattle.clock_offsets.proofs.VisitLemmas.{none_at, some_at, link_below, links_seen, links_new, frontier_push, unvisited_set}
use Rattle.clock_offsets.proofs.frontier.visit_linked.Goals as goal
use Rattle.clock_offsets.proofs.frontier.visit_linked.Goals.{then-is_none+in_ok-push, else-is_none}

pub offset_bounds-depths-link : goal.offset_bounds-depths-link
offset_bounds-depths-link c =
    let below = link_below (length c.args.depths.now) c.args.links.now c.loop-link.link-index (record { to = 0; offset = pos 0 }) c.requires.within (omega arith) in
    search rules

pub bounds-depths-link : goal.bounds-depths-link
bounds-depths-link c =
    let below = link_below (length c.args.depths.now) c.args.links.now c.loop-link.link-index (record { to = 0; offset = pos 0 }) c.requires.within (omega arith) in
    omega (arith, c.loop-link.auto.depths)

pub offset_bounds-depths-link-then-is_none : goal.offset_bounds-depths-link-then-is_none
offset_bounds-depths-link-then-is_none c =
    let below = link_below (length c.args.depths.now) c.args.links.now c.loop-link.link-index (record { to = 0; offset = pos 0 }) c.requires.within (omega arith) in
    search rules

pub bounds-depths-link-then-is_none : goal.bounds-depths-link-then-is_none
bounds-depths-link-then-is_none c =
    let below = link_below (length c.args.depths.now) c.args.links.now c.loop-link.link-index (record { to = 0; offset = pos 0 }) c.requires.within (omega arith) in
    omega (arith, c.loop-link.auto.depths)

pub loop-link-preserved : goal.loop-link-preserved
loop-link-preserved c =
    let x : Link = get_or c.args.links.now c.loop-link.link-index (record { to = 0; offset = pos 0 }) in
    let below : x.to < length c.args.depths.now = link_below (length c.args.depths.now) c.args.links.now c.loop-link.link-index (record { to = 0; offset = pos 0 }) c.requires.within (omega arith) in
    let within : x.to < length c.loop-link.depths = omega (arith, c.loop-link.auto.depths) in
    rw (take_more c.args.links.now c.loop-link.link-index (record { to = 0; offset = pos 0 }) (omega arith))
    (elim c.if-is_none.branch [
      | then-is_none+in_ok-push w ↦
          let none : depth_at c.loop-link.depths x.to ≡ None = none_at (depth_at c.loop-link.depths x.to) c.is_none.result c.is_none.ensures w.if-is_none.true in
          let less : unvisited c.if-is_none.depths + 1 ≡ unvisited c.loop-link.depths = rw w.depths-is (unvisited_set c.loop-link.depths x.to c.args.depth within none) in
          let more : vec_len c.if-is_none.frontier ≡ vec_len c.loop-link.frontier + 1 = rw w.frontier-is w.in_ok-push.ensures.len in
          record {
            visited = rw w.depths-is (links_new (take c.loop-link.link-index c.args.links.now) x c.args.depth c.args.depths.now c.loop-link.depths c.loop-link.invariant.visited within none);
            frontier = rw (w.depths-is, w.frontier-is, w.in_ok-push.ensures.items) (frontier_push c.args.depth c.loop-link.depths c.loop-link.frontier.items x.to c.loop-link.invariant.frontier within none);
            counted = omega (arith, c.loop-link.invariant.counted);
          }
      | else-is_none w ↦ rw (w.depths-is, w.frontier-is) (record {
        visited = links_seen (take c.loop-link.link-index c.args.links.now) x c.args.depth c.args.depths.now c.loop-link.depths c.loop-link.invariant.visited (some_at (depth_at c.loop-link.depths x.to) c.is_none.result c.is_none.ensures w.if-is_none.false);
        frontier = c.loop-link.invariant.frontier;
        counted = c.loop-link.invariant.counted;
      })
    ])
