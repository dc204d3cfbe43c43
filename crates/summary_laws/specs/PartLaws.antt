-- An input that is judged in two parts: a statement that a law proves.
use Rattle.std.specs.Prelude.{◌≡◌, ◌++◌, ℕ, List}
use Rattle.std.specs.Cmp.Lexicographic.{slice_cmp}
use Rattle.std.specs.Ordering.{nat_cmp}
use Rattle.digest_facts.specs.Digests.{Digest, IsInForm, merged}
use Rattle.digest_facts.specs.SplitLaws.{AreOfOtherRequests}
use Rattle.session_rules.specs.GivenDigests.{IsKeptDigest, SurvivesUnder}
use Rattle.session_rules.specs.KeptTraces.{Kept}
use Rattle.session_rules.specs.Parts.{Part}
use Rattle.session_rules.specs.Sessions.{Adds, State, first_state}
use Rattle.trace_types.specs.NameOrder.{name_cmp}
use Rattle.trace_types.specs.Segments.{SegmentName}
use Rattle.trace_types.specs.declared.event.Event.{Event}
use Rattle.summary_laws.specs.AlikeTexts.{JudgeAlike, PrintAlike}

-- a session to which this digest is given adds these events, passes no limit and then keeps these
-- traces
abbrev pub AddsFirst : Digest SegmentName (List ℕ) → List Event → List Kept → Type 0
AddsFirst given events kept = (workers : ℕ) × (parts : List Part) × (next : State)
    × Adds workers events (first_state given) parts next × (kept ≡ next.kept)

-- two batches no request of which is in both. One session adds the first, and the digest of what it
-- keeps is given, beside what was given, to one that adds the second: this prints what a session
-- prints that adds both at once, and judges its traces alike
abbrev pub PartsPrintWhatTheWholePrints : Type 0
PartsPrintWhatTheWholePrints = (given digest : Digest SegmentName (List ℕ))
    (batch more : List Event) (first second whole : List Kept) → AreOfOtherRequests batch more
    → IsInForm name_cmp (slice_cmp nat_cmp) given → AddsFirst given batch first
    → IsKeptDigest first digest
    → AddsFirst (merged name_cmp (slice_cmp nat_cmp) given digest) more second
    → AddsFirst given (batch ++ more) whole
    → PrintAlike (merged name_cmp (slice_cmp nat_cmp) given digest) second given whole
    × JudgeAlike (SurvivesUnder (merged name_cmp (slice_cmp nat_cmp) given digest) second)
    (SurvivesUnder given whole)
