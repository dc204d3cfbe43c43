use Rattle.std.proofs.Common.{◌≡◌, ◌∙◌, ◌++◌, ℕ, List, ap, length, refl}
use Rattle.std.proofs.lemmas.Result.{IfOk-weaker}
use Rattle.graph_picture.specs.Graphs.{graph_text}
use Rattle.graph_picture.specs.Relations.{relations_of}
use Rattle.graph_picture.proofs.graph.push_few.Goals as goal

pub returns : goal.returns
returns c =
    let p = c.args.page.now in
    let layout = c.in_ok-layout.layout in
    let relations = length (relations_of (length p.boxes) p.betweens) in
    let count : c.count_of.result ≡ relations = c.count_of.ensures ∙ ap (λ (l : List (ℕ × ℕ)). length l) (c.deref-2.ensures.value ∙ c.in_ok-pairs.ensures) in
    let same = ap (λ (n : ℕ). graph_text p n layout c.deref-3.result.now) count ∙ ap (graph_text p relations layout) c.deref-3.ensures.value in
    IfOk-weaker c.push_laid.result _ _ (λ x h. (
      graph_text p relations layout c.in_ok-kept.kept.items,
      record {
        layout = layout;
        laid = c.in_ok-layout.ensures;
        pipes = c.in_ok-kept.kept.items;
        kept = c.in_ok-kept.ensures;
        text = refl;
      },
      h ∙ ap (λ (t : List ℕ). c.args.bytes.now.items ++ t) same,
    )) c.push_laid.ensures
