-- Digests whose texts can be read again.
use Rattle.std.specs.Prelude.{◌≡◌, ℕ, ◌<◌, ◌≤◌, ◌^◌, List, length, All, Contains, Some, true}
use Rattle.std.specs.Cmp.Lexicographic.{slice_cmp}
use Rattle.std.specs.Ordering.{nat_cmp}
use Rattle.certificates.specs.Claims.{name_of_texts, text_of}
use Rattle.trace_types.specs.NameOrder.{name_cmp}
use Rattle.trace_types.specs.Segments.{SegmentName}
use Rattle.digest_facts.specs.Coherence.{IsCoherent}
use Rattle.digest_facts.specs.Digests.{Digest}
use Rattle.digest_reading.specs.DigestRows.{latest_day}
use Rattle.digest_reading.specs.Headers.{are_possible}

-- it hangs together; its tasks and names are read from their texts as they stand; its tasks are those
-- of its names; its counts can be those of traces; the number of traces fits 64 bits, and no day is
-- later than the latest one
pub record IsReadable (s : Digest SegmentName (List ℕ)) : Type 0 where
  pub coherent : IsCoherent name_cmp (slice_cmp nat_cmp) s
  pub task_texts : All (λ t. text_of t ≡ Some t) s.tasks
  pub name_texts : All (λ n. name_of_texts n.0 n.1 n.2 ≡ Some n) s.names
  pub listed : (name : SegmentName) → Contains s.names name → Contains s.tasks name.0
  pub named : (task : List ℕ) → Contains s.tasks task
      → (name : SegmentName) × Contains s.names name × (name.0 ≡ task)
  pub possible : are_possible (record {
    traces = s.traces;
    days = length s.days;
    tasks = length s.tasks;
    names = length s.names;
  }) ≡ true
  pub traces : s.traces < 2 ^ 64
  pub days : All (λ d. d ≤ latest_day) s.days
