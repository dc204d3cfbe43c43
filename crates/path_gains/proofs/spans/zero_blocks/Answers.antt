use Rattle.std.proofs.Common.{ℕ, ◌*◌, length, sym, ap, ◌∙◌, subst}
use Rattle.std.proofs.lemmas.List.{length-replicate}
use Rattle.std.proofs.lemmas.Result.{IfOk-weaker}
use Rattle.path_gains.specs.inner.Spans.{HaveRoom}
use Rattle.path_gains.proofs.SpanLemmas.{HaveRoom-levels, zeros-replicate}
use Rattle.path_gains.proofs.spans.zero_blocks.Goals as goal

pub returns-clause-room : goal.returns-clause-room
returns-clause-room g c =
    let n : ℕ = c.count_levels-levels.result * c.args.count in
    IfOk-weaker c.vec.result _ _
    (λ v given. let same = given (λ y h. g.met.L.Length.clone_is_same c.of.result y h) in subst (HaveRoom c.args.count) (sym (ap length same ∙ length-replicate n c.of.result)) (HaveRoom-levels c.args.count c.count_levels-levels.result c.requires c.count_levels-levels.ensures.levels c.count_levels-levels.ensures.few))
    c.vec.ensures.items_if_clones_equal

pub returns-clause-zero : goal.returns-clause-zero
returns-clause-zero g c =
    let n : ℕ = c.count_levels-levels.result * c.args.count in
    IfOk-weaker c.vec.result _ _
    (λ blocks given. λ v. let same = given (λ y h. g.met.L.Length.clone_is_same c.of.result y h) in zeros-replicate c.args.count g.L.Length.value c.of.result n v blocks.items c.of.ensures same)
    c.vec.ensures.items_if_clones_equal
