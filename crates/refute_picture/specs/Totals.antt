-- How many pairs of boxes there are of each kind.
use Rattle.std.specs.Prelude.{ℕ, ◌&&◌, ◌++◌, List, [], ◌∷◌, Bool, codes, nat_le, nat_lt}
use Rattle.std.specs.List.{count_by}
use Rattle.markup.specs.Parts.{Fixed, Number, parts_text}
use Rattle.page_rows.specs.declared.model_rows.BetweenRow.{BetweenRow}
use Rattle.page_rows.specs.Pages.{PageLists}
use Rattle.refute_picture.specs.declared.totals.Kind.{Kind}
use Rattle.refute_picture.specs.declared.totals.Kind.TheVariants as kinds

-- two boxes are of a kind, each two once: some of their names are in one load; the first happens
-- before the second in all pairs of these names; some pairs are mutually exclusive
abbrev pub is_of_kind : Kind → BetweenRow → Bool
is_of_kind kinds.Together row = nat_le row.first row.second && nat_lt 0 row.both
is_of_kind kinds.Before row = nat_lt 0 row.both && nat_le row.both row.before
is_of_kind kinds.Exclusive row = nat_le row.first row.second && nat_lt 0 row.exclusive

abbrev pub count_of : Kind → PageLists → ℕ
count_of kind p = count_by (is_of_kind kind) p.betweens

-- how many there are of each, and how many overlap
unfoldable pub totals_text : (together before exclusive overlaps : ℕ) → List ℕ
totals_text together before exclusive overlaps = parts_text
    (Fixed (codes "<p class=\"note\">Pairs in one load: ") ∷ Number together
    ∷ Fixed (codes ". The one before the other: ") ∷ Number before
    ∷ Fixed (codes "; mutually exclusive, in some names at least: ") ∷ Number exclusive
    ∷ Fixed (codes "; overlapping in some load: ") ∷ Number overlaps ∷ Fixed (codes ".</p>") ∷ [])
