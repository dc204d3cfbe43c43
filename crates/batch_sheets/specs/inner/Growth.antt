-- What naming the traces of a batch does to the catalogue.
use Rattle.std.specs.Prelude.{◌≡◌, ℕ, ◌≤◌, ◌++◌, ◌∷◌, [], List, length, map, take, ⊤}
use Rattle.book_laws.specs.Shown.{AreShown, IsShown}
use Rattle.segment_names.specs.Known.{Known, with_traces}
use Rattle.segment_names.specs.Limits.{Fits, IsKept, PassesLimit}
use Rattle.segment_names.specs.Naming.{HasUnknown}
use Rattle.segment_names.specs.declared.name_fault.NameLimit.{NameLimit}
use Rattle.session_rules.specs.KeptTraces.{kept_with}
use Rattle.trace_types.specs.declared.named_trace.NamedTrace.{NamedTrace}
use Rattle.trace_types.specs.declared.trace.Trace.{Trace}
use Rattle.event_table.specs.Texts.{TextLists}
use Rattle.segment_cut.specs.NumberedCuts.{NumberedCut}
use Rattle.batch_sheets.specs.declared.known_names.NamedOrNew.{NamedOrNew}
use Rattle.batch_sheets.specs.declared.known_names.NamedOrNew.TheVariants.{Named, New}
use Rattle.batch_sheets.specs.Named.{HasFewSegments}

-- the trace has few segments, and its numbers stand for these texts
pub record IsToBeNamed (texts : TextLists) (c : NumberedCut) : Type 0 where
  pub few : HasFewSegments c.trace
  pub same_texts : c.texts ≡ texts

-- the trace is named, with this grace, or it is as it was and some name of it is not in the
-- catalogue
abbrev pub IsNamedOrNew : Known → ℕ → Trace → NamedOrNew → Type 0
IsNamedOrNew known grace trace (Named named) = IsShown known named (kept_with grace trace)
IsNamedOrNew known grace trace (New cut) = (cut.trace ≡ trace) × HasUnknown known trace.segments

-- a trace with a new name has few segments
abbrev pub HasFewIfNew : NamedOrNew → Type 0
HasFewIfNew (Named named) = ⊤
HasFewIfNew (New cut) = HasFewSegments cut.trace

-- the names and tasks of the traces are added, no limit being passed by any of them, and the named
-- traces are these, with this grace, under the catalogue's numbers then
pub record AddsAndNames (old new : Known) (grace : ℕ) (traces : List Trace)
    (named : List NamedTrace) : Type 0 where
  pub kept : IsKept new
  pub added : new ≡ with_traces old traces
  pub fits : (j : ℕ) → j ≤ length traces → Fits (with_traces old (take j traces))
  pub shown : AreShown new named (map (kept_with grace) traces)

-- the same, with the named traces appended to those from before
abbrev pub AppendsNamed : Known → Known → ℕ → List Trace → List NamedTrace → List NamedTrace
    → Type 0
AppendsNamed old new grace traces before now = (more : List NamedTrace) × (now ≡ before ++ more)
    × AddsAndNames old new grace traces more

-- a trace that is named is taken as it is, and the names of a new one are added
abbrev pub CompletesOne : ℕ → Known → Known → NamedOrNew → NamedTrace → Type 0
CompletesOne grace old new (Named named) result = (new ≡ old) × (result ≡ named)
CompletesOne grace old new (New cut) result =
    AddsAndNames old new grace (cut.trace ∷ []) (result ∷ [])

-- the names of a new trace pass this limit
abbrev pub PassesIfNew : Known → NamedOrNew → NameLimit → Type 0
PassesIfNew known (Named named) limit = ⊥
PassesIfNew known (New cut) limit = PassesLimit known (cut.trace ∷ []) limit
