-- What views account for: the bits that they cleared, the bits that their readings lack, and their
-- shares.
use Rattle.std.specs.Prelude.{◌≡◌, ℕ, ◌<◌, Bool, true, ◌&&◌, ◌||◌, ◌==◌, nat_lt, List, length, take}
use Rattle.std.specs.List.{list_any, list_all, sum_by}
use Rattle.std.specs.Int.{bit_at}
use mathlib.Core.Option.{some}
use lib.ListN.{get_elem?}
use Rattle.word_rows.specs.declared.entries.Entry.{Entry}
use Rattle.word_rows.specs.declared.views.Reading.{Reading}
use Rattle.word_rows.specs.declared.views.View.{View}
use Rattle.word_rows.specs.Rows.{clears, rows_clear}
use Rattle.word_rows.specs.Words.{bit_of}

-- the fact holds of each view of the list, live or not
abbrev pub Each : (View → Type 0) → List View → Type 0
Each F views = (id : ℕ) (v : View) → get_elem? views id ≡ some v → F v

-- a done row of the view, or a cleared entry of its row in progress, clears this bit
abbrev pub view_clears : View → ℕ → ℕ → Bool
view_clears v word bit = rows_clear v.done word bit || clears (take v.cleared v.row) word bit

-- some view cleared this bit
abbrev pub views_clear : List View → ℕ → ℕ → Bool
views_clear views word bit = list_any (λ (v : View). view_clears v word bit) views

-- some reading of this word lacks this bit
abbrev pub lacks : List Reading → ℕ → ℕ → Bool
lacks readings word bit =
    list_any (λ (r : Reading). (r.word == word) && (bit_at r.value bit == 0)) readings

-- all words that these readings name are below the width
abbrev pub readings_below : ℕ → List Reading → Bool
readings_below width readings = list_all (λ (r : Reading). nat_lt r.word width) readings

-- the shares of all views added up
abbrev pub total_shares : List View → ℕ
total_shares views = sum_by (λ (v : View). v.shares) views

-- each bit of a word that the test names is 0
abbrev pub AreZero : List ℕ → (ℕ → ℕ → Bool) → Type 0
AreZero words test = (i b : ℕ) → i < length words → b < 64 → test i b ≡ true → bit_of words i b ≡ 0

-- each bit that a reading lacks is one of these rows
abbrev pub LackOnly : List Reading → List (List Entry) → Type 0
LackOnly readings rows = (i b : ℕ) → b < 64 → lacks readings i b ≡ true → rows_clear rows i b ≡ true
