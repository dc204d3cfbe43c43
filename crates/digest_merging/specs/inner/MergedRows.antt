-- Rows of two tables as the rows of one.
use Rattle.std.specs.Prelude.{ℕ, ◌≡◌, ◌==◌, List, [], ◌∷◌, ◌++◌, map, if◌then◌else◌, Contains}
use Rattle.std.specs.Prelude.{Option, Some, None, bit_or, slice_get}
use Rattle.std.specs.Option.{option_map_or}
use Rattle.digest_merging.specs.declared.places.Places.{Places}

-- it stands there in the list, or nowhere
abbrev pub IsPlaceIn : {X : Type 0} → List X → X → Option ℕ → Type 0
IsPlaceIn xs x (Some i) = slice_get xs i ≡ Some x
IsPlaceIn xs x None = Contains xs x → ⊥

-- the two places in two lists
abbrev pub ArePlaces : {X : Type 0} → List X → List X → X → Places → Type 0
ArePlaces xs ys x p = IsPlaceIn xs x p.left × IsPlaceIn ys x p.right

-- the marks of the row at a place; none where it has no place
abbrev pub marks_at : {X : Type 0} → List (X × List ℕ) → Option ℕ → List ℕ
marks_at rows None = []
marks_at {X} rows (Some k) = option_map_or (λ (r : X × List ℕ). r.1) (slice_get rows k) []

-- the mark of a row with the element at a place before it; `.` where it has no place
abbrev pub mark_in : List ℕ → Option ℕ → ℕ
mark_in marks None = 46
mark_in marks (Some i) = option_map_or (λ (m : ℕ). m) (slice_get marks i) 46

-- the mark of the elements at two places of rows, the first of which is the lower; `.` where one
-- has no place
abbrev pub mark_of : {X : Type 0} → List (X × List ℕ) → Option ℕ → Option ℕ → ℕ
mark_of rows lower upper = mark_in (marks_at rows upper) lower

-- the mark that says what either says
abbrev pub joined_mark : ℕ → ℕ → ℕ
joined_mark x y = if x == 46 then y else (if y == 46 then x else bit_or x y)

-- the mark of two elements by their places in two tables
abbrev pub mark_by : {X : Type 0} → List (X × List ℕ) → List (X × List ℕ) → Places → Places → ℕ
mark_by rows others p q = joined_mark (mark_of rows p.left q.left) (mark_of others p.right q.right)

-- each element with a mark for each one before it, by their places
abbrev pub placed_rows : {X : Type 0} → (Places → Places → ℕ) → List Places → List X → List Places
    → List (X × List ℕ)
placed_rows mark earlier [] ps = []
placed_rows mark earlier (x ∷ xs) [] = []
placed_rows mark earlier (x ∷ xs) (p ∷ ps) =
    (x, map (λ q. mark q p) earlier) ∷ placed_rows mark (earlier ++ p ∷ []) xs ps
