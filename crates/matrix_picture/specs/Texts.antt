-- Fixed texts of the page.
use Rattle.std.specs.Prelude.{ℕ, ◌++◌, List, codes}

-- how the part begins
unfoldable pub matrix_start : List ℕ
matrix_start = codes "<section id=\"model\"><h2>What depends on what?</h2><p class=\"key\"><i class"
    ++ codes "=\"k full\"></i>the row happens before the column <i class=\"k part\"></i>some of its"
    ++ codes " names do <i class=\"k excl\"></i>mutually exclusive <i class=\"k over\"></i>overlap "
    ++ codes "<i class=\"k pip\"></i>pipeline; empty: never in one load, or the column happens befo"
    ++ codes "re the row</p><div class=\"scroll\">"

-- how the part ends
unfoldable pub matrix_end : List ℕ
matrix_end = codes "</svg></div></section>"
