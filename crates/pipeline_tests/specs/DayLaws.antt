-- What is promised of the words that traces leave, over the definitions alone.
use Rattle.std.specs.Prelude.{◌≡◌, ℕ, ◌≤◌, true, ◌↔◌, List, [], ◌++◌, length, All, IsPermutation}
use Rattle.hypothesis_index.specs.Places.{width_of}
use Rattle.pipeline_tests.specs.Rows.{AreWholeRows}
use Rattle.refute_tests.specs.Clearing.{HaveNamesBelow}
use Rattle.refute_tests.specs.Survivors.{AreSurvivors, IsRefutedPlace, LackRefuted}
use Rattle.trace_types.specs.declared.named_trace.NamedTrace.{NamedTrace}
use Rattle.word_rows.specs.Rows.{rows_clear}
use Rattle.word_rows.specs.Words.{AreWords, IsCommon, IsMeet, full_words, widened_words}
use Rattle.word_rows.specs.declared.entries.Entry.{Entry}

-- whole rows of traces clear exactly the places of the relations that some of the traces refutes
abbrev pub RowsClearRefuted : Type 0
RowsClearRefuted = (traces : List NamedTrace) (rows : List (List Entry)) → AreWholeRows traces rows
    → (i b : ℕ) → (rows_clear rows i b ≡ true) ↔ IsRefutedPlace traces i b

-- full words met by one whole row of each trace are the survivors of the traces
abbrev pub MetRowsSurvive : Type 0
MetRowsSurvive = (traces : List NamedTrace) (rows : List (List Entry)) (width : ℕ)
    (words : List ℕ) → AreWholeRows traces rows → IsMeet (full_words width) rows words
    → AreWords words → AreSurvivors traces words

-- full words are the survivors of no trace
abbrev pub FullWordsSurvive : Type 0
FullWordsSurvive = (width : ℕ) → AreSurvivors [] (full_words width)

-- where two lists of words lack exactly what either list of traces refutes, what they have in common
-- lacks exactly what the one list after the other refutes
abbrev pub CommonLacks : Type 0
CommonLacks = (traces others : List NamedTrace) (words other common : List ℕ)
    → LackRefuted traces words → LackRefuted others other → length words ≡ length other
    → IsCommon words other common → LackRefuted (traces ++ others) common

-- the survivors of traces in one order are those of the traces in every order
abbrev pub OrderOfTracesIsFree : Type 0
OrderOfTracesIsFree = (traces others : List NamedTrace) (words : List ℕ)
    → IsPermutation traces others → AreSurvivors traces words → AreSurvivors others words

-- where all names of the traces are below a number, words that lack exactly what the traces refute
-- still do when full words are appended
abbrev pub WidenedLacks : Type 0
WidenedLacks = (traces : List NamedTrace) (words : List ℕ) (names more : ℕ) → names ≤ 512
    → All (HaveNamesBelow names) traces → width_of names ≤ length words
    → LackRefuted traces words → LackRefuted traces (widened_words words more)

-- where all names of the traces are below a number, more words behind those of so many names stay
-- full
abbrev pub WidenedSurvive : Type 0
WidenedSurvive = (traces : List NamedTrace) (words : List ℕ) (names more : ℕ) → names ≤ 512
    → All (HaveNamesBelow names) traces → width_of names ≤ length words
    → AreSurvivors traces words → AreSurvivors traces (widened_words words more)

-- traces have one list of survivors of each width
abbrev pub SurvivorsAreUnique : Type 0
SurvivorsAreUnique = (traces : List NamedTrace) (words others : List ℕ)
    → AreSurvivors traces words → AreSurvivors traces others → length words ≡ length others
    → words ≡ others
