-- What is promised of rows and meets, over the definitions alone.
use Rattle.std.specs.Prelude.{◌≡◌, ℕ, ◌^◌, ◌<◌, ◌≤◌, true, ◌&&◌, ◌||◌, ◌==◌, nat_lt, List, [], ◌++◌, length, IsPermutation, bit_and, slice_index}
use Rattle.std.specs.Int.{bit_not, w64}
use Rattle.word_rows.specs.declared.entries.Entry.{Entry}
use Rattle.word_rows.specs.declared.views.Reading.{Reading}
use Rattle.word_rows.specs.Rows.{clears, rows_clear, below, rows_below, same_row}
use Rattle.word_rows.specs.Words.{AreWords, IsMeet, IsCommon, bit_of, widened_words, without}
use Rattle.word_rows.specs.Accounts.{lacks}
use Rattle.word_rows.specs.Changes.{readings_from}

-- a row whose words are below a width has them below every greater one
abbrev pub BelowWider : Type 0
BelowWider = (width wider : ℕ) (row : List Entry) → width ≤ wider → below width row ≡ true
    → below wider row ≡ true

-- a row whose words are below a width clears no bit of a word beyond it
abbrev pub ClearsBelow : Type 0
ClearsBelow = (width : ℕ) (row : List Entry) (i b : ℕ) → below width row ≡ true
    → clears row i b ≡ true → i < width

-- the meet with rows in one order is the meet with them in every order
abbrev pub OrderIsFree : Type 0
OrderIsFree = (words met : List ℕ) (rows others : List (List Entry))
    → IsPermutation rows others → IsMeet words rows met → IsMeet words others met

-- words and rows have one meet
abbrev pub MeetIsUnique : Type 0
MeetIsUnique = (words met other : List ℕ) (rows : List (List Entry)) → AreWords met
    → AreWords other → IsMeet words rows met → IsMeet words rows other → met ≡ other

-- words are their own meet with no row
abbrev pub MeetBegins : Type 0
MeetBegins = (words : List ℕ) → IsMeet words [] words

-- the meet of a meet is that with both lists of rows
abbrev pub MeetsFollow : Type 0
MeetsFollow = (words met more : List ℕ) (rows others : List (List Entry))
    → IsMeet words rows met → IsMeet met others more → IsMeet words (rows ++ others) more

-- what two meets of the same words have in common is the meet with both lists of rows
abbrev pub CommonIsMeet : Type 0
CommonIsMeet = (words met other common : List ℕ) (rows others : List (List Entry))
    → IsMeet words rows met → IsMeet words others other → IsCommon met other common
    → IsMeet words (rows ++ others) common

-- the meet of widened words with rows of the narrower width is the widened meet
abbrev pub WidenedMeet : Type 0
WidenedMeet = (words met : List ℕ) (rows : List (List Entry)) (more : ℕ)
    → rows_below (length words) rows ≡ true → IsMeet words rows met
    → IsMeet (widened_words words more) rows (widened_words met more)

-- a word and the complement of a mask have in common the word without the mask's bits
abbrev pub ComplementClears : Type 0
ComplementClears = (n mask : ℕ) → n < 2 ^ 64 → mask < 2 ^ 64
    → bit_and n (bit_not w64 mask) ≡ without n mask

-- rows that clear the same bits of the words have the same meets
abbrev pub MeetByBits : Type 0
MeetByBits = (words met : List ℕ) (rows others : List (List Entry))
    → ((i b : ℕ) → i < length words → b < 64 → rows_clear rows i b ≡ rows_clear others i b)
    → IsMeet words rows met → IsMeet words others met

-- words that are `bit_and` word by word are what the two have in common
abbrev pub CommonByAnd : Type 0
CommonByAnd = (old other new : List ℕ) → length new ≡ length old
    → ((k : ℕ) → k < length old
    → slice_index new k ≡ bit_and (slice_index old k) (slice_index other k))
    → IsCommon old other new

-- two lists of entries, one after the other, clear what either clears
abbrev pub ClearsAppend : Type 0
ClearsAppend = (row other : List Entry) (i b : ℕ)
    → clears (row ++ other) i b ≡ (clears row i b || clears other i b)

-- two lists of rows, one after the other, clear what either clears
abbrev pub RowsClearAppend : Type 0
RowsClearAppend = (rows others : List (List Entry)) (i b : ℕ)
    → rows_clear (rows ++ others) i b ≡ (rows_clear rows i b || rows_clear others i b)

-- two lists of readings, one after the other, lack what either lacks
abbrev pub LacksAppend : Type 0
LacksAppend = (readings others : List Reading) (i b : ℕ)
    → lacks (readings ++ others) i b ≡ (lacks readings i b || lacks others i b)

-- one reading of each word lacks the bits that are 0 in the words
abbrev pub BlockLacks : Type 0
BlockLacks = (words : List ℕ) (i b : ℕ)
    → lacks (readings_from 0 words) i b ≡ (nat_lt i (length words) && (bit_of words i b == 0))

-- rows that are the same by their entries are one row
abbrev pub SameRowIsOne : Type 0
SameRowIsOne = (row other : List Entry) → same_row row other ≡ true → row ≡ other

-- a row is the same as itself
abbrev pub RowIsSame : Type 0
RowIsSame = (row : List Entry) → same_row row row ≡ true
