-- The page of a text of rows.
use Rattle.std.specs.Prelude.{ℕ, ◌≡◌, ◌++◌, List, codes}
use Rattle.graph_picture.specs.Graphs.{IsGraphOrNote}
use Rattle.head_picture.specs.Heads.{head_text}
use Rattle.lanes_picture.specs.Lanes.{loads_text}
use Rattle.matrix_picture.specs.Matrices.{matrix_text}
use Rattle.page_rows.specs.Pages.{PageLists}
use Rattle.ranking_picture.specs.declared.ranked_row.RankedRow.{RankedRow}
use Rattle.ranking_picture.specs.Rankings.{IsRanking}
use Rattle.ranking_picture.specs.Tables.{ranking_text}
use Rattle.page_rows.specs.declared.gain_rows.RoomRow.{RoomRow}
use Rattle.refute_picture.specs.declared.overlap_row.OverlapRow.{OverlapRow}
use Rattle.refute_picture.specs.Overlaps.{IsOverlapOrder}
use Rattle.refute_picture.specs.Refutes.{refutes_text}
use Rattle.room_picture.specs.Rooms.{IsRoomOrder, rooms_text}
use Rattle.tail_picture.specs.declared.tailed_row.TailedRow.{TailedRow}
use Rattle.tail_picture.specs.Tails.{IsTailOrder, tail_text}
use Rattle.view_page.specs.Texts.{page_start, light_colours, dark_colours, base_style, shape_style}
use Rattle.view_page.specs.Texts.{table_style, key_style, lane_style, slack_style}
use Rattle.view_page.specs.Texts.{matrix_style, heat_style, graph_style, body_start}
use Rattle.view_page.specs.Texts.{page_end}

-- the style sheet
unfoldable pub style_sheet : List ℕ
style_sheet = light_colours ++ dark_colours ++ base_style ++ shape_style ++ table_style
    ++ key_style ++ lane_style ++ slack_style ++ matrix_style ++ heat_style ++ graph_style

-- how the page begins: fixed text and the head
unfoldable pub view_start : PageLists → List ℕ
view_start p = page_start ++ style_sheet ++ body_start ++ head_text p ++ codes "<main>"

-- the page with this ranking, this order of the names on the slowest loads, this one of those that
-- have slack, this one of the boxes that overlap, and this graph
unfoldable pub view_text : PageLists → List RankedRow → List TailedRow → List RoomRow
    → List OverlapRow → (graph : List ℕ) → List ℕ
view_text p ranking slow free overlaps graph = view_start p ++ ranking_text p ranking
    ++ loads_text p ++ tail_text p slow ++ rooms_text p free ++ matrix_text p
    ++ refutes_text p overlaps ++ graph ++ page_end

-- the bytes are the page of these rows
pub record IsView (p : PageLists) (bytes : List ℕ) : Type 0 where
  pub ranking : List RankedRow
  pub ranked : IsRanking p ranking
  pub slow : List TailedRow
  pub ordered : IsTailOrder p slow
  pub free : List RoomRow
  pub roomy : IsRoomOrder p free
  pub overlaps : List OverlapRow
  pub beside : IsOverlapOrder p overlaps
  pub graph : List ℕ
  pub drawn : IsGraphOrNote p graph
  pub text : bytes ≡ view_text p ranking slow free overlaps graph
