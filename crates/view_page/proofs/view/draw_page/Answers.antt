use Rattle.view_page.specs.Views.{view_text}
use Rattle.view_page.proofs.ViewLemmas.{whole}
use Rattle.view_page.proofs.view.draw_page.Goals as goal

pub returns : goal.returns
unfolding view_text
returns c =
    let r = c.in_ok-push_ranking.ensures in
    let t = c.in_ok-push_tail.ensures in
    let f = c.in_ok-push_rooms.ensures in
    let o = c.in_ok-push_refutes.ensures in
    let g = c.in_ok-push_graph.ensures in
    record {
      ranking = r.0;
      ranked = r.1;
      slow = t.0;
      ordered = t.1;
      free = f.0;
      roomy = f.1;
      overlaps = o.0;
      beside = o.1;
      graph = g.0;
      drawn = g.1;
      text = whole _ _ _ _ _ _ _ _ _ _ _ _ _ _ _ _ _ _ _ c.new-bytes.ensures.items c.in_ok-push_view_start.ensures r.2 c.in_ok-push_loads.ensures t.2 f.2 c.in_ok-push_matrix.ensures o.2 g.2 c.in_ok-push_page_end.ensures;
    }
