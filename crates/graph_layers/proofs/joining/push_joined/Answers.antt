use Rattle.std.proofs.Common.{◌≡◌, ◌∙◌, ◌+◌, ◌<◌, ℕ, Vec, Global, sym, subst, arith}
use Rattle.graph_layers.specs.inner.Chains.{HasJoined}
use Rattle.graph_layers.proofs.ArrowLemmas.{join_no, join_yes}
use Rattle.graph_layers.proofs.joining.push_joined.Goals as goal
use Rattle.graph_layers.proofs.joining.push_joined.Goals.{then-is_joined+in_ok-push, else-is_joined}

pub columns-preserved : goal.columns-preserved
columns-preserved c =
    let count = c.args.count in
    let pairs = c.args.pairs.now in
    let matrix = c.args.matrix.now in
    let row = c.args.first in
    let column = c.columns.second in
    let inside : column < count = omega (arith, c.columns-test.true) in
    elim c.if-is_joined.branch [
      | then-is_joined+in_ok-push w ↦ subst (λ (v : Vec (ℕ × ℕ) Global). HasJoined count pairs matrix row (column + 1) v.items) (sym w.joined-is)
          (join_yes count pairs matrix row column c.columns.joined.items inside c.columns.invariant w.push.new.self.items w.in_ok-push.ensures.items (sym c.is_joined.ensures ∙ w.if-is_joined.true))
      | else-is_joined w ↦ subst (λ (v : Vec (ℕ × ℕ) Global). HasJoined count pairs matrix row (column + 1) v.items) (sym w.joined-is)
          (join_no count pairs matrix row column c.columns.joined.items inside c.columns.invariant (sym c.is_joined.ensures ∙ w.if-is_joined.false))
    ]

pub returns : goal.returns
returns c =
    let last : c.columns.second ≡ c.args.count = omega (arith, c.columns-test.false, c.columns.auto.second-end) in
    subst (λ (k : ℕ). HasJoined c.args.count c.args.pairs.now c.args.matrix.now c.args.first k c.columns.joined.items) last c.columns.invariant
