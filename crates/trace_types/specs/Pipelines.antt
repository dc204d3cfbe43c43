-- What one trace refutes of two tasks T and U by the data elements that both handle. Indices count
-- from 0.
use Rattle.std.specs.Prelude.{◌≡◌, ◌⊎◌, ℕ, ◌<◌, ◌≤◌, Some, slice_get}
use Rattle.trace_types.specs.Parts.{Parts}
use Rattle.trace_types.specs.Refuting.{StartsEarly}

module _ {A S N T E : Type 0} (p : Parts A S N T E) where
  -- s is the segment at k, and in it the task t handles the element e
  pub record HandlesAt (trace : A) (t : T) (e : E) (k : ℕ) (s : S) : Type 0 where
    pub segment : slice_get (p.segments trace) k ≡ Some s
    pub task : p.task s ≡ t
    pub element : p.element s ≡ Some e

  -- it is the first such segment: with it t starts on e
  pub record StartsAt (trace : A) (t : T) (e : E) (k : ℕ) (s : S) : Type 0 where
    pub handles : HandlesAt trace t e k s
    pub first : (j : ℕ) (r : S) → HandlesAt trace t e j r → k ≤ j

  -- it is the last such segment: with it t is done with e
  pub record EndsAt (trace : A) (t : T) (e : E) (k : ℕ) (s : S) : Type 0 where
    pub handles : HandlesAt trace t e k s
    pub last : (j : ℕ) (r : S) → HandlesAt trace t e j r → j ≤ k

  -- t starts on e at a lower index than on f
  pub record StartsInOrder (trace : A) (t : T) (e f : E) : Type 0 where
    pub earlier : ℕ
    pub later : ℕ
    pub s : S
    pub r : S
    pub first : StartsAt trace t e earlier s
    pub second : StartsAt trace t f later r
    pub order : earlier < later

  -- U starts on an element before T is done with it, by more than the trace's grace
  pub record TakesUnfinished (t u : T) (trace : A) : Type 0 where
    pub element : E
    pub giver : ℕ
    pub taker : ℕ
    pub given : S
    pub taken : S
    pub ends : EndsAt trace t element giver given
    pub starts : StartsAt trace u element taker taken
    pub early : StartsEarly p trace taken given

  -- T starts on one element before the other, and U on the other before the one
  pub record TakesOutOfOrder (t u : T) (trace : A) : Type 0 where
    pub one : E
    pub other : E
    pub in_order : StartsInOrder trace t one other
    pub turned : StartsInOrder trace u other one

  -- it refutes that T and U are a pipeline: that U takes each element when T is done with it, in
  -- the order in which T started on them. The rule is this project's own.
  abbrev pub RefutesPipe : T → T → A → Type 0
  RefutesPipe t u trace = TakesUnfinished t u trace ⊎ TakesOutOfOrder t u trace

  -- it refutes that T and U share no element: both handle one
  pub record RefutesUnshared (t u : T) (trace : A) : Type 0 where
    pub element : E
    pub k : ℕ
    pub l : ℕ
    pub s : S
    pub r : S
    pub one : HandlesAt trace t element k s
    pub other : HandlesAt trace u element l r
