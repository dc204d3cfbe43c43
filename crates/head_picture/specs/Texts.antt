-- Fixed texts of the page.
use Rattle.std.specs.Prelude.{ℕ, ◌++◌, List, codes}

-- how the head begins
unfoldable pub head_start : List ℕ
head_start = codes "<header><h1>Where the time of loads goes</h1>"

-- how the columns begin
unfoldable pub columns_start : List ℕ
columns_start = codes "<figure class=\"dist\"><svg width=\"100%\" height=\"54\">"

-- how the columns end
unfoldable pub columns_end : List ℕ
columns_end = codes "</svg><figcaption>Mean latency, the quickest loads first; hatched: between seg"
    ++ codes "ments.</figcaption></figure>"
