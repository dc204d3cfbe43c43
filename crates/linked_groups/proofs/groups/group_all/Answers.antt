use Rattle.std.proofs.Common.{◌≡◌, List, ℕ, Vec, Global, length}
use Rattle.std.proofs.lemmas.Result.{IfOk-weaker}
use Rattle.linked_groups.specs.Groups.{groups_of}
use Rattle.linked_groups.specs.inner.Trees.{AreTrees}
use Rattle.linked_groups.proofs.groups.group_all.Goals as goal

pub returns : goal.returns
returns c = IfOk-weaker c.name_all.result _ _ (λ (v : Vec ℕ Global) (h : (groups : List ℕ) → AreTrees c.join_all.new.next groups → v.items ≡ groups).
    h (groups_of (length c.args.next.now) c.args.links.now) c.join_all.ensures) c.name_all.ensures
