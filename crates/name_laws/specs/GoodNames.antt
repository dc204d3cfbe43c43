-- The names that spans give are texts that event lines may have: statements that laws prove.
use Rattle.std.specs.Prelude.{ℕ, ◌≡◌, ◌<◌, ◌^◌, ◌++◌, false, List, [], ◌∷◌, Option, Some, None, IfSome, ⊤}
use Rattle.std.specs.Prelude.{codes, length, map, slice_index_or}
use Rattle.std.specs.List.{All, Contains}
use Rattle.std.specs.Str.{IsUtf8}
use Rattle.event_lines.specs.EventFaults.{is_bad_text}
use Rattle.span_names.specs.declared.piece.Piece.{Piece}
use Rattle.call_contexts.specs.ContextOrder.{AreOrdered}
use Rattle.call_contexts.specs.Contexts.{Frame, HaveAbove}
use Rattle.context_names.specs.Bases.{event_base, task_base}
use Rattle.context_names.specs.Labels.{labels_of}
use Rattle.context_names.specs.Machines.{AreNamed}
use Rattle.context_names.specs.Tasks.{task_name, task_names}

-- a text that a line may have
pub record IsLineText (text : List ℕ) : Type 0 where
  pub utf8 : IsUtf8 text
  pub good : is_bad_text text ≡ false

-- what stands behind the name of a context in the names of events
abbrev pub endings : List (List ℕ)
endings = codes " start" ∷ codes " end" ∷ codes " forks" ∷ codes " joined" ∷ []

-- the name of an event tells that of its context, and its ending
abbrev pub EventsTellEndings : Type 0
EventsTellEndings = (name other ending end : List ℕ) → Contains endings ending → Contains endings end
    → name ++ ending ≡ other ++ end → (name ≡ other) × (ending ≡ end)

-- the services and the operations of contexts are UTF-8
abbrev pub HaveTexts : List Frame → Type 0
HaveTexts contexts = All (λ (f : Frame). IsUtf8 f.service × IsUtf8 f.name) contexts

-- the numbers of a piece have seven digits at most
abbrev pub IsShortPiece : Option Piece → Type 0
IsShortPiece None = ⊤
IsShortPiece (Some piece) = (piece.number < 10 ^ 7) × IfSome piece.gap (λ gap. gap < 10 ^ 7)

-- the events of each context have good names
abbrev pub EventsAreGood : Type 0
EventsAreGood = (contexts : List Frame) (order : List ℕ) (below : List (List ℕ)) (threads : List ℕ)
    → HaveAbove contexts → AreOrdered contexts order below → HaveTexts contexts
    → length contexts < 10 ^ 7 → (x : ℕ) → x < length contexts
    → All (λ (ending : List ℕ). IsLineText
    (slice_index_or (labels_of order threads (map event_base contexts)) x [] ++ ending)) endings

-- each piece of a thread has a good name
abbrev pub TasksAreGood : Type 0
TasksAreGood = (contexts : List Frame) (order : List ℕ) (below : List (List ℕ)) (threads : List ℕ)
    → HaveAbove contexts → AreOrdered contexts order below → HaveTexts contexts
    → length contexts < 10 ^ 7 → (x : ℕ) → x < length contexts → (p : Option Piece) → IsShortPiece p
    → IsLineText (task_name (task_names order threads (map task_base contexts)) x p)

-- each machine has a good name
abbrev pub MachinesAreGood : Type 0
MachinesAreGood = (machines names : List (List ℕ)) → AreNamed machines names
    → All (λ (m : List ℕ). IsUtf8 m × (0 < length m)) machines → length machines < 10 ^ 7
    → All IsLineText names
