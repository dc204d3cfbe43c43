-- What is found of one trace before its figures are noted.
use Rattle.std.specs.Prelude.{◌≡◌, ◌≢◌, ◌↔◌, ℕ, ◌<◌, ◌≤◌, List, [], Vec, length, map, slice_index_or}
use Rattle.std.specs.declared.alloc.Global.{Global}
use Rattle.hypothesis_index.specs.Places.{place_of}
use Rattle.hypothesis_index.specs.declared.relation.Relation.TheVariants.{Pipe}
use Rattle.shared_elements.specs.Elements.{AreElementsOf}
use Rattle.task_sharings.specs.declared.trace_shares.TraceShares.{TraceShares}
use Rattle.trace_types.specs.Parts.{by_number}
use Rattle.trace_types.specs.Pipelines.{RefutesPipe}
use Rattle.trace_types.specs.declared.named_trace.NamedTrace.{NamedTrace}
use Rattle.word_rows.specs.Words.{bit_of}

-- in the words of all tasks the bit of a pipe is 0 exactly where the trace refutes it
pub record TellPipes (trace : NamedTrace) (words : List ℕ) : Type 0 where
  pub width : length words ≡ 126
  pub bits : (t u : ℕ) → t ≢ u → t < 64 → u < 64
      → (bit_of words (place_of (Pipe t u)).word (place_of (Pipe t u)).bit ≡ 0)
      ↔ RefutesPipe by_number t u trace

-- the list of a task
abbrev pub list_at : List (Vec ℕ Global) → ℕ → List ℕ
list_at lists task = slice_index_or (map (λ (v : Vec ℕ Global). v.items) lists) task []

-- there is a list for each task below a number, of the elements that it handles in the trace
pub record AreListsOf (trace : NamedTrace) (tasks : ℕ) (lists : List (Vec ℕ Global))
    : Type 0 where
  pub long : length lists ≡ tasks
  pub each : (task : ℕ) → task < tasks → AreElementsOf trace task (list_at lists task)

-- what the tasks below a number, at most 64, share in a trace
pub record AreShares (s : TraceShares) : Type 0 where
  pub few : s.tasks ≤ 64
  pub listed : AreListsOf s.trace.now s.tasks s.lists.items
  pub told : TellPipes s.trace.now s.words
