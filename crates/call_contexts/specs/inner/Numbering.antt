-- Contexts of the first calls.
use Rattle.std.specs.Prelude.{ℕ, ◌≡◌, ◌<◌, ◌++◌, ◌∷◌, [], List, All, Some, length, slice_get, slice_index}
use Rattle.std.specs.Prelude.{if◌then◌else◌}
use Rattle.std.specs.List.{Contains, list_any}
use Rattle.span_calls.specs.declared.call.Call.{Call}
use Rattle.call_contexts.specs.Contexts.{Frame, HaveAbove, frame_at, frame_eq}

-- the contexts with one more, unless it is there
abbrev pub with_frame : List Frame → Frame → List Frame
with_frame frames f = if list_any (frame_eq f) frames then frames else frames ++ f ∷ []

-- the contexts of so many calls, by which of its like each call is
pub record AreSoFar (calls : List Call) (ordinals : List ℕ) (at : ℕ) (numbers : List ℕ) (frames : List Frame) : Type 0 where
  pub size : length numbers ≡ at
  pub within : All (λ n. n < length frames) numbers
  pub own : (i : ℕ) (c : Call) → i < at → slice_get calls i ≡ Some c
      → slice_get frames (slice_index numbers i) ≡ Some (frame_at numbers (slice_index ordinals i) c)
  pub apart : (i j : ℕ) (f : Frame) → slice_get frames i ≡ Some f → slice_get frames j ≡ Some f → i ≡ j
  pub used : (x : ℕ) → x < length frames → Contains numbers x
  pub before : HaveAbove frames
