use Rattle.std.proofs.Common.{sym, ◌∙◌}
use Rattle.std.proofs.lemmas.Bool.{leb-true}
use Rattle.std.proofs.lemmas.Result.{IfOk-weaker}
use Rattle.graph_picture.specs.Texts.{too_many}
use Rattle.graph_picture.proofs.LineLemmas.{graph_few, graph_many}
use Rattle.graph_picture.proofs.graph.push_graph.Goals as goal

pub push_few-requires : goal.push_few-requires
push_few-requires c = leb-true _ _ (sym c.is_few.ensures ∙ c.if-is_few.true)

pub returns-then-is_few : goal.returns-then-is_few
returns-then-is_few c = IfOk-weaker c.push_few.result _ _ (λ x h. (h.0, graph_few c.args.page.now h.0 (sym c.is_few.ensures ∙ c.if-is_few.true) h.1, h.2)) c.push_few.ensures

pub returns : goal.returns
returns c = IfOk-weaker c.push_too_many.result _ _ (λ x h. (too_many, graph_many c.args.page.now (sym c.is_few.ensures ∙ c.if-is_few.false), h)) c.push_too_many.ensures
