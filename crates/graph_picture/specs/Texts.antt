-- Fixed texts of the page.
use Rattle.std.specs.Prelude.{ℕ, ◌++◌, List, codes}

-- how the part begins
unfoldable pub graph_start : List ℕ
graph_start = codes "<section id=\"graph\"><h2>What happens before what?</h2><p class=\"key\"><i c"
    ++ codes "lass=\"k hb\"></i>happens before <i class=\"k mx\"></i>mutually exclusive <i class="
    ++ codes "\"k pipe\"></i>pipeline <i class=\"k path\"></i>share of critical paths</p><div clas"
    ++ codes "s=\"scroll\">"

-- the heads of arrows
unfoldable pub markers : List ℕ
markers = codes "<defs><marker id=\"arr\" viewBox=\"0 0 8 8\" refX=\"7\" refY=\"4\" markerWidth=\""
    ++ codes "7\" markerHeight=\"7\" orient=\"auto\"><path class=\"ah\" d=\"M0 0L8 4L0 8z\"/></mar"
    ++ codes "ker><marker id=\"arp\" viewBox=\"0 0 8 8\" refX=\"7\" refY=\"4\" markerWidth=\"4\" m"
    ++ codes "arkerHeight=\"4\" orient=\"auto\"><path class=\"ahp\" d=\"M0 0L8 4L0 8z\"/></marker>"
    ++ codes "</defs>"

-- how the part ends
unfoldable pub graph_end : List ℕ
graph_end = codes "</p></section>"

-- what stands for it where there are too many boxes
unfoldable pub too_many : List ℕ
too_many = codes "<section id=\"graph\"><h2>What happens before what?</h2><p class=\"note\">There "
    ++ codes "are more than 128 boxes: see the matrix.</p></section>"
