-- What a step makes of the view of its seat.
use Rattle.std.specs.Prelude.{ℕ, Bool, ◌&&◌, ◌+◌, ◌-◌, ◌==◌, if◌then◌else◌, List, [], ◌∷◌, ◌++◌, length}
use Rattle.word_rows.specs.declared.entries.Entry.{Entry}
use Rattle.word_rows.specs.declared.views.Reading.{Reading}
use Rattle.word_rows.specs.declared.views.View.{View}

-- the view of a seat that was joined away
abbrev pub empty_view : View
empty_view =
    record { all = 0; shares = 0; done = []; row = []; cleared = 0; seen = []; readings = [] }

-- the view at opening has all shares and empty lists
abbrev pub first_view : ℕ → View
first_view all = record empty_view { all = all; shares = all }

-- no row is in progress
abbrev pub is_idle : View → Bool
is_idle v = (length v.row == 0) && (v.cleared == 0)

-- the last entry is cleared: the row is the last of the done rows
abbrev pub finished_view : View → List Entry → View
finished_view v row = record v { done = v.done ++ row ∷ []; row = []; cleared = 0 }

-- so many entries of the row are cleared, and more are to be
abbrev pub midway_view : View → List Entry → ℕ → View
midway_view v row cleared = record v { row = row; cleared = cleared }

-- Clear: one entry more of the row is cleared
abbrev pub next_view : View → List Entry → View
next_view v row =
    if v.cleared + 1 == length row then finished_view v row else midway_view v row (v.cleared + 1)

-- Load: the pair of a word and its value is the last reading
abbrev pub with_reading : View → ℕ → ℕ → View
with_reading v word value =
    record v { readings = v.readings ++ record { word = word; value = value } ∷ [] }

-- Split: what is left to the view, and what the new view begins with
abbrev pub left_view : ℕ → View → View
left_view shares v = record v { shares = v.shares - shares }

abbrev pub new_view : ℕ → View → View
new_view shares v = record empty_view { all = v.all; shares = shares; seen = v.seen ++ v.done }

-- Join: shares add up, and the other's lists follow
abbrev pub joined_view : View → View → View
joined_view v w = record v {
  shares = v.shares + w.shares;
  done = v.done ++ w.done;
  seen = v.seen ++ w.seen;
  readings = v.readings ++ w.readings;
}

-- a row more, and readings more, at the end of the view's
abbrev pub with_done : View → List Entry → View
with_done v row = record v { done = v.done ++ row ∷ [] }

abbrev pub with_readings : View → List Reading → View
with_readings v readings = record v { readings = v.readings ++ readings }

-- one reading of each word, the words rising from this one
abbrev pub readings_from : ℕ → List ℕ → List Reading
readings_from word [] = []
readings_from word (n ∷ ns) = record { word = word; value = n } ∷ readings_from (word + 1) ns
