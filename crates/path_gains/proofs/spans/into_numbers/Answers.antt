use Rattle.std.proofs.Common.{◌≡◌, ◌*◌, ◌≤◌, [], ◌∷◌, ◌++◌, length, map, drop, ap, sym, ◌∙◌, length-append, arith}
use Rattle.std.proofs.lemmas.List.{length-map, take_at}
use Rattle.path_gains.proofs.SpanLemmas.{handed_on, ones}
use Rattle.path_gains.proofs.spans.into_numbers.Goals as goal

pub halving-preserved : goal.halving-preserved
halving-preserved g c =
    let f = g.L.Length.value in
    let old = c.halving.blocks.items in
    let popped = c.pop.new.self.items in
    let new = c.hand_on.new.blocks in
    let size : length new ≡ length popped = c.hand_on.auto.blocks ∙ ap length c.deref_mut.ensures.value in
    let less : length old ≡ length (popped ++ c.in-Some.number ∷ []) = ap length c.in-Some.ensures.items in
    let one = length-append popped (c.in-Some.number ∷ []) in
    let row = c.halving.invariant.row in
    let few = c.halving.invariant.few in
    let more = c.halving-test.true in
    let counted = c.len.ensures in
    let ok = c.halving.blocks.ok.0 in
    let long : c.args.count ≤ length new = omega arith in
    let short : length new ≤ 64 * c.args.count = omega arith in
    rw (take_at new (drop (length new) popped) c.pop.new.self.len (omega (arith, c.pop.new.self.ok.0)))
    record {
      row = long;
      few = short;
      same = λ v inside. handed_on c.args.count f old popped c.deref_mut.result.now new c.in-Some.number v c.deref_mut.ensures.value c.in-Some.ensures.items (c.hand_on.ensures v) ∙ c.halving.invariant.same v inside;
    }

pub returns-clause-numbers : goal.returns-clause-numbers
returns-clause-numbers g c = λ v inside.
    let f = g.L.Length.value in
    let row = c.halving.invariant.row in
    let done = c.halving-test.false in
    let counted = c.len.ensures in
    let ok = c.halving.blocks.ok.0 in
    let mapped = length-map c.halving.blocks.items f in
    sym (ones c.args.count (map f c.halving.blocks.items) v (omega arith) inside) ∙ c.halving.invariant.same v inside
