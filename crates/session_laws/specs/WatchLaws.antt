-- Of a text of parts only the watch numbers are free: statements that laws prove.
use Rattle.std.specs.Prelude.{◌≡◌, ℕ, List, [], ◌∷◌, ◌++◌, map}
use Rattle.std.specs.List.{flat_map}
use Rattle.session_rules.specs.Parts.{Part, IsPart, watch_row}
use Rattle.session_rules.specs.Parts.{Refusals, Watched, Dropped, KeptNewest, ModelOf, DigestOf}
use Rattle.session_rules.specs.Parts.{Header, PathOf, SlacksOf, GraphOf, ModelHead, ReportHead}
use Rattle.session_rules.specs.Parts.{LatenciesOf, SegmentOf, TailHead, TailOf, ForecastHead}
use Rattle.session_rules.specs.Parts.{ForecastOf, WhyHead, RefutedOf, Verdict, Verified, EvidenceOf}
use Rattle.text_rows.specs.TextsOfParts.{AreTexts}
use Rattle.trace_rules.specs.declared.watch_line.WatchLine.{WatchLine}
use Rattle.session_laws.specs.EndingLaws.{AreAlike}

-- which watch line it is: its worker, and how many of its traces this one had offered
abbrev pub mark_of : WatchLine → ℕ × ℕ
mark_of line = (line.worker, line.done)

-- both are watch rows of the day, with the same worker and count in each row; the watch numbers may
-- differ
pub record AreSameRows (day : ℕ) (text other : List ℕ) : Type 0 where
  pub lines : List WatchLine
  pub others : List WatchLine
  pub text_is : text ≡ flat_map (watch_row day) lines
  pub other_is : other ≡ flat_map (watch_row day) others
  pub marks : map mark_of lines ≡ map mark_of others

-- two texts are one, or where the part is watch lines they are the same rows
abbrev pub IsAlike : Part → List ℕ → List ℕ → Type 0
IsAlike (Refusals refused) text other = text ≡ other
IsAlike (Watched every workers day traces) text other = AreSameRows day text other
IsAlike (Dropped day count) text other = text ≡ other
IsAlike (KeptNewest days count) text other = text ≡ other
IsAlike (ModelOf given kept) text other = text ≡ other
IsAlike (DigestOf given kept) text other = text ≡ other
IsAlike (Header word count) text other = text ≡ other
IsAlike (PathOf given kept k) text other = text ≡ other
IsAlike (SlacksOf given kept k) text other = text ≡ other
IsAlike (GraphOf given kept k) text other = text ≡ other
IsAlike (ModelHead given kept) text other = text ≡ other
IsAlike (ReportHead given kept) text other = text ≡ other
IsAlike (LatenciesOf kept) text other = text ≡ other
IsAlike (SegmentOf given kept name) text other = text ≡ other
IsAlike (TailHead kept) text other = text ≡ other
IsAlike (TailOf given kept name) text other = text ≡ other
IsAlike (ForecastHead change given kept) text other = text ≡ other
IsAlike (ForecastOf change given kept k) text other = text ≡ other
IsAlike (WhyHead traces refuted) text other = text ≡ other
IsAlike (RefutedOf kept matter) text other = text ≡ other
IsAlike (Verdict verdict line) text other = text ≡ other
IsAlike (Verified shown claims) text other = text ≡ other
IsAlike (EvidenceOf choice kept) text other = text ≡ other

-- two texts are alike part by part
abbrev pub AreAlikeByPart : List Part → List ℕ → List ℕ → Type 0
AreAlikeByPart [] text other = (text ≡ []) × (other ≡ [])
AreAlikeByPart (part ∷ parts) text other = (first : List ℕ) × (rest : List ℕ)
    × (also : List ℕ) × (more : List ℕ) × IsAlike part first also
    × AreAlikeByPart parts rest more × (text ≡ first ++ rest) × (other ≡ also ++ more)

-- both are texts of the same parts, which differ in watch numbers alone
abbrev pub DifferInWatchNumbers : List ℕ → List ℕ → Type 0
DifferInWatchNumbers text other = (parts : List Part) × AreTexts IsPart parts text
    × AreTexts IsPart parts other × AreAlikeByPart parts text other

-- two texts of a part are one, or the same watch rows but for their numbers
abbrev pub PartHasOneText : Type 0
PartHasOneText = (part : Part) (text other : List ℕ) → IsPart part text → IsPart part other
    → IsAlike part text other

-- two texts of parts differ in watch numbers alone
abbrev pub OnlyWatchNumbersDiffer : Type 0
OnlyWatchNumbersDiffer = (parts : List Part) (text other : List ℕ) → AreTexts IsPart parts text
    → AreTexts IsPart parts other → AreAlikeByPart parts text other

-- so do texts that are alike
abbrev pub AlikeTextsDifferInNumbers : Type 0
AlikeTextsDifferInNumbers = (text other : List ℕ) → AreAlike text other
    → DifferInWatchNumbers text other
