use Rattle.std.proofs.Common.{◌≡◌, ℕ, suc, ◌+◌, ◌<◌, ◌≤◌, pos, Option, Some, List, [], ◌++◌, length, vec_len, get_or, take, drop, replicate, sym, ap, ◌∙◌, subst, arith, add-one, refl, eqb, true, false, ⊎_elim}
use Rattle.std.proofs.lemmas.List.{take_at, nil_from_length}
use Rattle.std.proofs.lemmas.Bool.{cases_lt, false≢true}
use Rattle.std.proofs.lemmas.Bool.Decides.{Decides-eqb}
use Rattle.std.proofs.lemmas.List.Elements.{Contains-get_or}
use Rattle.clock_offsets.specs.inner.Search.{AreVisitedTo, IsFrontier, Visits, FrontierLinksTo, HaveOffsetsTo, depth_at, unvisited}
use Rattle.clock_offsets.proofs.SearchLemmas.{visited_further}
use Rattle.clock_offsets.proofs.ParentLemmas.{frontier_below, links_below}
use Rattle.clock_offsets.proofs.StartLemmas.{visited_start, frontier_start, offsets_start, unvisited_start, offsets_kept, offsets_end, depths_end}
use Rattle.clock_offsets.proofs.search.search_offsets.Goals as goal

-- what a loan writes back, where it kept the length
written : {X : Type 0} (n : ℕ) (xs ys : List X) → length xs ≡ n → take n (xs ++ drop (length xs) ys) ≡ xs
written n xs ys e = take_at xs (drop (length xs) ys) n e

-- a number that is not 0 is above it
some_from : (n : ℕ) → eqb n 0 ≡ false → 0 < n
some_from n h = ⊎_elim (λ (lt : 0 < n). lt) (λ (le : n ≤ 0). let same : n ≡ 0 = omega arith in absurd (false≢true (sym h ∙ (Decides-eqb n 0).1 same))) (cases_lt 0 n)

pub outward-init : goal.outward-init
outward-init c =
    let n : ℕ = c.len-count.result in
    let all : n ≡ length c.args.trace.now.trace.events = c.len-count.ensures.events in
    let some : 0 < length c.args.trace.now.trace.events = omega (arith, c.len-count.ensures.some) in
    let zeros : c.in_ok-offsets.offsets.items ≡ replicate n (pos 0) = c.in_ok-offsets.ensures.items_if_clones_equal (λ y h. h) in
    let found = visited_start c.args.trace.now.trace.events c.args.numbers.now n (get_or c.args.numbers.now 0 0) c.requires.numbered some all refl in
    let within : get_or c.args.numbers.now 0 0 < length c.args.trace.now.trace.events = c.requires.numbered.within 0 some in
    let less = unvisited_start n (get_or c.args.numbers.now 0 0) (omega arith) in
    rw (c.in_ok-depths.ensures, zeros, c.in_ok-frontier.ensures.items) (record {
      visited = found;
      frontier = frontier_start n (get_or c.args.numbers.now 0 0) (omega arith);
      offsets = offsets_start c.args.trace.now.trace.events c.args.numbers.now n _ some all found;
      low = omega (arith, less);
      rising = λ _. omega (arith, less);
    })

pub visit_next-requires-clause-frontier : goal.visit_next-requires-clause-frontier
visit_next-requires-clause-frontier c = rw c.deref.ensures.value (λ k d lt.
    let links : length c.args.links.now ≡ length c.args.trace.now.trace.events = c.requires.linked.each in
    let below = frontier_below c.args.trace.now.trace.events c.args.numbers.now c.outward.depth c.outward.depths.items c.outward.frontier.items (get_or c.outward.frontier.items k d) c.requires.numbered c.outward.invariant.visited c.outward.invariant.frontier (Contains-get_or c.outward.frontier.items k d lt) in
    omega (arith, below))

pub visit_next-requires-clause-within : goal.visit_next-requires-clause-within
visit_next-requires-clause-within c = λ v lt l h.
    let links : length c.args.links.now ≡ length c.args.trace.now.trace.events = c.requires.linked.each in
    let depths : length c.outward.depths.items ≡ length c.args.trace.now.trace.events = c.outward.invariant.visited.each in
    let below : l.to < length c.args.trace.now.trace.events = links_below c.args.trace.now.trace.events c.args.numbers.now c.args.links.now v c.requires.numbered c.requires.linked (omega arith) l h in
    rw c.deref_mut.ensures.value (omega arith)

pub visit_next-requires-clause-new : goal.visit_next-requires-clause-new
visit_next-requires-clause-new c = λ v at.
    let depth : depth_at c.outward.depths.items v ≡ Some (c.outward.depth + 1) = ap (λ (ls : List (Option ℕ)). depth_at ls v) (sym c.deref_mut.ensures.value) ∙ at in
    let low : c.outward.depth + 1 ≤ c.outward.depth = (c.outward.invariant.visited.right v (c.outward.depth + 1) depth).1 in
    absurd (omega arith)

pub set_offsets-requires-clause-visited : goal.set_offsets-requires-clause-visited
set_offsets-requires-clause-visited c =
    let kept : length c.visit_next.new.depths ≡ c.outward.depths.len = omega (arith, c.visit_next.auto.depths, c.deref_mut.ensures.len) in
    let visited : Visits (FrontierLinksTo c.args.links.now c.outward.frontier.items) (suc c.outward.depth) c.outward.depths.items c.visit_next.new.depths =
    rw (← c.deref.ensures.value, ← c.deref_mut.ensures.value, ← add-one) c.in_ok-next.ensures.visited in
    let found : AreVisitedTo c.args.trace.now.trace.events c.args.numbers.now (suc c.outward.depth) c.visit_next.new.depths =
    visited_further c.args.trace.now.trace.events c.args.numbers.now c.args.links.now c.outward.depth c.outward.depths.items c.visit_next.new.depths c.outward.frontier.items c.requires.numbered c.requires.linked c.outward.invariant.visited c.outward.invariant.frontier visited in
    rw (c.deref-in-outward.ensures.value, written c.outward.depths.len c.visit_next.new.depths c.outward.depths.items kept, add-one) found

pub set_offsets-requires-clause-set : goal.set_offsets-requires-clause-set
set_offsets-requires-clause-set c =
    let kept : length c.visit_next.new.depths ≡ c.outward.depths.len = omega (arith, c.visit_next.auto.depths, c.deref_mut.ensures.len) in
    let visited : Visits (FrontierLinksTo c.args.links.now c.outward.frontier.items) (suc c.outward.depth) c.outward.depths.items c.visit_next.new.depths =
    rw (← c.deref.ensures.value, ← c.deref_mut.ensures.value, ← add-one) c.in_ok-next.ensures.visited in
    rw (c.deref-in-outward.ensures.value, written c.outward.depths.len c.visit_next.new.depths c.outward.depths.items kept, c.deref_mut-in-outward.ensures.value)
    (offsets_kept (FrontierLinksTo c.args.links.now c.outward.frontier.items) c.args.trace.now.trace.events c.outward.depth c.outward.depths.items c.visit_next.new.depths c.outward.offsets.items c.outward.invariant.offsets visited)

pub outward-preserved : goal.outward-preserved
outward-preserved c =
    let kept : length c.visit_next.new.depths ≡ c.outward.depths.len = omega (arith, c.visit_next.auto.depths, c.deref_mut.ensures.len) in
    let kept_offsets : length c.set_offsets.new.offsets ≡ c.outward.offsets.len = omega (arith, c.set_offsets.auto.offsets, c.deref_mut-in-outward.ensures.len) in
    let visited : Visits (FrontierLinksTo c.args.links.now c.outward.frontier.items) (suc c.outward.depth) c.outward.depths.items c.visit_next.new.depths =
    rw (← c.deref.ensures.value, ← c.deref_mut.ensures.value, ← add-one) c.in_ok-next.ensures.visited in
    let found : AreVisitedTo c.args.trace.now.trace.events c.args.numbers.now (suc c.outward.depth) c.visit_next.new.depths =
    visited_further c.args.trace.now.trace.events c.args.numbers.now c.args.links.now c.outward.depth c.outward.depths.items c.visit_next.new.depths c.outward.frontier.items c.requires.numbered c.requires.linked c.outward.invariant.visited c.outward.invariant.frontier visited in
    let set : HaveOffsetsTo c.args.trace.now.trace.events (c.outward.depth + 1) c.visit_next.new.depths c.set_offsets.new.offsets =
    subst (λ (ls : List (Option ℕ)). HaveOffsetsTo c.args.trace.now.trace.events (c.outward.depth + 1) ls c.set_offsets.new.offsets) (c.deref-in-outward.ensures.value ∙ written c.outward.depths.len c.visit_next.new.depths c.outward.depths.items kept) c.set_offsets.ensures in
    let counted : unvisited c.visit_next.new.depths + vec_len c.in_ok-next.next ≡ unvisited c.outward.depths.items = rw (← c.deref_mut.ensures.value) c.in_ok-next.ensures.counted in
    let some : 0 < vec_len c.outward.frontier = some_from (vec_len c.outward.frontier) (sym c.is_empty.ensures ∙ c.outward-test.true) in
    let rising : c.outward.depth + unvisited c.outward.depths.items < length c.args.trace.now.trace.events = c.outward.invariant.rising some in
    rw (written c.outward.depths.len c.visit_next.new.depths c.outward.depths.items kept, written c.outward.offsets.len c.set_offsets.new.offsets c.outward.offsets.items kept_offsets) (record {
      visited = rw add-one found;
      frontier = c.in_ok-next.ensures.frontier;
      offsets = set;
      low = omega arith;
      rising = λ more. omega arith;
    })

-- the loop ends where the frontier is empty
none_left : (n : ℕ) (xs : List ℕ) → n ≡ length xs → eqb n 0 ≡ true → xs ≡ []
none_left n xs len zero = let none : n ≡ 0 = (Decides-eqb n 0).0 zero in nil_from_length xs (omega arith)

pub returns-clause-depths : goal.returns-clause-depths
returns-clause-depths c =
    let empty : c.outward.frontier.items ≡ [] = none_left (vec_len c.outward.frontier) c.outward.frontier.items c.outward.frontier.ok.0 (sym c.is_empty.ensures ∙ c.outward-test.false) in
    depths_end c.args.trace.now.trace.events c.args.numbers.now c.outward.depth c.outward.depths.items c.requires.numbered c.outward.invariant.visited
    (subst (λ (vs : List ℕ). IsFrontier c.outward.depth c.outward.depths.items vs) empty c.outward.invariant.frontier)

pub returns-clause-offsets : goal.returns-clause-offsets
returns-clause-offsets c =
    let empty : c.outward.frontier.items ≡ [] = none_left (vec_len c.outward.frontier) c.outward.frontier.items c.outward.frontier.ok.0 (sym c.is_empty.ensures ∙ c.outward-test.false) in
    offsets_end c.args.trace.now.trace.events c.args.numbers.now c.outward.depth c.outward.depths.items c.outward.offsets.items c.requires.numbered c.outward.invariant.visited
    (subst (λ (vs : List ℕ). IsFrontier c.outward.depth c.outward.depths.items vs) empty c.outward.invariant.frontier) c.outward.invariant.offsets
