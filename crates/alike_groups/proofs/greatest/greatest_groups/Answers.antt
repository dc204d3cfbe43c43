use Rattle.std.proofs.Common.{IsPermutation, subst}
use Rattle.alike_groups.proofs.OrderLemmas.{greatest_within}
use Rattle.alike_groups.proofs.greatest.greatest_groups.Goals as goal

pub returns-clause-greatest : goal.returns-clause-greatest
returns-clause-greatest c =
    let sorted = c.order_groups.new.groups.items in
    record {
      sorted = sorted;
      same = subst (λ xs. IsPermutation xs sorted) c.in_ok-large.ensures c.order_groups.ensures.same;
      order = c.order_groups.ensures.order;
      are = c.truncate.ensures.items;
    }

pub returns-clause-within : goal.returns-clause-within
returns-clause-within c count all =
    greatest_within c.args.least c.args.most count c.args.groups.now c.truncate.new.self.items (returns-clause-greatest c) all
