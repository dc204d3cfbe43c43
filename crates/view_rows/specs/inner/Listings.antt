-- Relations of texts with their numbers, by the bits of words.
use Rattle.std.specs.Prelude.{◌≡◌, ℕ, List}
use Rattle.std.specs.declared.cmp.Ordering.TheVariants.{Less}
use Rattle.kept_names.specs.Listings.{HoldsOfTexts}
use Rattle.model_meet.specs.RelationBits.{HasExclusion, HasOrder, HasPipe}
use Rattle.trace_types.specs.NameOrder.{name_cmp}
use Rattle.trace_types.specs.Segments.{SegmentName}

-- by the bits of words the one name happens before the other
abbrev pub IsOrder : List (SegmentName × ℕ) → List ℕ → SegmentName → SegmentName → Type 0
IsOrder items words x y = HoldsOfTexts items (HasOrder words) x y

-- the names rise, and are mutually exclusive with no fixed order
abbrev pub IsExclusion : List (SegmentName × ℕ) → List ℕ → SegmentName → SegmentName → Type 0
IsExclusion items words x y = (name_cmp x y ≡ Less) × HoldsOfTexts items (HasExclusion words) x y

-- the tasks are a pipeline
abbrev pub IsPipe : List (List ℕ × ℕ) → List ℕ → List ℕ → List ℕ → Type 0
IsPipe items words x y = HoldsOfTexts items (HasPipe words) x y
