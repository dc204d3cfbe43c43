use Rattle.std.proofs.Common.{◌≡◌, ℕ, ◌+◌, ◌<◌, ◌&&◌, ◌||◌, List, Bool, sym, ◌∙◌, subst, arith}
use Rattle.implied_pairs.specs.inner.Matrices.{at}
use Rattle.implied_pairs.proofs.ImplyLemmas.{matrix_done, matrix_more, written_back}
use Rattle.implied_pairs.proofs.MatrixLemmas.{MatrixSoFar}
use Rattle.implied_pairs.proofs.reaching.reach.Goals as goal

pub through-preserved : goal.through-preserved
through-preserved c =
    let count = c.args.count in
    let pairs = c.args.pairs.now in
    let through = c.through.through in
    let old : List Bool = c.through.matrix.items in
    let new : List Bool = c.pass_on.new.matrix in
    let passed = subst (λ (l : List Bool). (a b : ℕ) → a < count → b < count → at count new a b ≡ (at count l a b || (at count l a through && at count l through b))) c.deref_mut.ensures.value c.pass_on.ensures.passed in
    subst (MatrixSoFar count pairs (through + 1)) (sym (written_back c.through.matrix.len old new c.through.matrix.ok.0 (c.pass_on.ensures.size ∙ sym c.through.invariant.size)))
    (matrix_more count pairs c.requires.below through old new (omega (arith, c.through-test.true)) c.through.invariant c.pass_on.ensures.size passed)

pub returns : goal.returns
returns c = matrix_done c.args.count c.args.pairs.now c.requires.below c.through.through c.through.matrix.items (omega (arith, c.through-test.false)) c.through.invariant
