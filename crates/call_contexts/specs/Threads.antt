-- The threads of control that run contexts. A thread begins with a context that is forked or has none
-- above it, and runs what is below it up to where another one begins.
use Rattle.std.specs.Prelude.{ℕ, ◌≡◌, List, Bool, false, Option, Some, None, length, slice_get}
use Rattle.std.specs.Prelude.{if◌then◌else◌, slice_index, slice_index_or}
use Rattle.call_contexts.specs.Contexts.{Frame}

-- the thread of the context with this number and this one above it, by the threads of contexts
abbrev pub thread_by : List ℕ → ℕ → Option ℕ → Bool → ℕ
thread_by threads i None forks = i
thread_by threads i (Some above) forks = if forks then i else slice_index threads above

-- each context has its thread: the number of the context that the thread begins with
pub record AreThreads (contexts : List Frame) (forked : List Bool) (threads : List ℕ) : Type 0 where
  pub size : length threads ≡ length contexts
  pub own : (i : ℕ) (f : Frame) → slice_get contexts i ≡ Some f
      → slice_index threads i ≡ thread_by threads i f.above (slice_index_or forked i false)
