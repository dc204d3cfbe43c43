use Rattle.std.proofs.Common.{◌∙◌, ◌+◌, ap, sym, arith, length, subst, List, ℕ, refl}
use Rattle.std.specs.FinMap.{len, len-empty}
use Rattle.std.specs.Ordering.{nat_cmp}
use Rattle.std.proofs.lemmas.List.{length_push}
use Rattle.day_partitions.proofs.MadeLemmas.{IsMade, made_none, made_more}
use Rattle.day_partitions.proofs.making.take_nodes.Goals as goal

pub rows-init : goal.rows-init
rows-init c =
    let p = c.args.rows.now in
    record {
      made = subst (λ l. IsMade p l p.width) (sym c.in_ok-nodes.ensures.items) (made_none p p.width (ap (λ q. len q.rows) c.requires ∙ len-empty nat_cmp (List ℕ)));
      count = ap length c.in_ok-nodes.ensures.items;
      width = refl;
      spare = omega (arith, ap (λ q. q.spare) c.requires);
      room = c.in_ok-nodes.ensures.capacity;
    }

pub rows-preserved : goal.rows-preserved
rows-preserved c =
    let i = c.rows.invariant in
    record {
      made = made_more c.rows.rows c.take.new.self c.rows.nodes.items c.push_reserved.new.self.items c.args.rows.now.width c.in-Some.id i.made c.in-Some.ensures.new c.in-Some.ensures.taken i.width c.push_reserved.ensures.items;
      count = ap length c.push_reserved.ensures.items ∙ length_push c.rows.nodes.items c.in-Some.id ∙ ap (λ n. n + 1) i.count;
      width = ap (λ q. q.width) c.in-Some.ensures.taken ∙ i.width;
      spare = omega (arith, i.spare, ap (λ q. q.spare) c.in-Some.ensures.taken, c.rows-test.true);
      room = omega (arith, i.room, c.push_reserved.ensures.capacity);
    }
