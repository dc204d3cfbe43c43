-- One trace under two readings, whose names, tasks and elements are matched one to one, as texts
-- are with numbers.
use Rattle.std.specs.Prelude.{◌≡◌, ◌≢◌, ◌↔◌, Option, Some, None, List, Contains, ⊤}
use Rattle.std.specs.List.{AllPairs, AllZip}
use Rattle.trace_types.specs.Parts.{Parts}
use Rattle.trace_types.specs.Pipelines.{RefutesPipe, RefutesUnshared}
use Rattle.trace_types.specs.Refuting.{RefutesBefore, RefutesExclusive, RefutesApart}
use Rattle.trace_types.specs.Relations.{HappensBefore}
use Rattle.trace_types.specs.Surviving.{Survives, IsRefuted}

module _ {X Y : Type 0} (matches : List (X × Y)) where
  -- nothing stands in two pairs of the list
  abbrev pub IsOneToOne : Type 0
  IsOneToOne = AllPairs (λ m n. (m.0 ≢ n.0) × (m.1 ≢ n.1)) matches

  -- R holds of two names exactly where Q holds of those that they are matched with
  abbrev pub Agree : (X → X → Type 0) → (Y → Y → Type 0) → Type 0
  Agree R Q = (a b : X) (c d : Y) → Contains matches (a, c) → Contains matches (b, d)
      → R a b ↔ Q c d

  -- both are None, or what they have is matched
  abbrev pub AreOptionsMatched : Option X → Option Y → Type 0
  AreOptionsMatched None None = ⊤
  AreOptionsMatched None (Some y) = ⊥
  AreOptionsMatched (Some x) None = ⊥
  AreOptionsMatched (Some x) (Some y) = Contains matches (x, y)

  -- R survives the one list exactly where Q survives the other, and is refuted likewise
  pub record SurviveAlike {A B : Type 0} (R : X → X → A → Type 0) (Q : Y → Y → B → Type 0)
      (traces : List A) (others : List B) : Type 0 where
    pub survives : Agree (λ a b. Survives (R a b) traces) (λ c d. Survives (Q c d) others)
    pub refuted : Agree (λ a b. IsRefuted (R a b) traces) (λ c d. IsRefuted (Q c d) others)

module _ {A S N T E B X M U F : Type 0} (p : Parts A S N T E) (q : Parts B X M U F)
    (names : List (N × M)) (tasks : List (T × U)) where
  -- the two segments have equal times, and what the one has for name, task and element is matched
  -- with what the other has
  pub record IsSegmentRenamed (elements : List (E × F)) (s : S) (x : X) : Type 0 where
    pub name : Contains names (p.name s, q.name x)
    pub task : Contains tasks (p.task s, q.task x)
    pub element : AreOptionsMatched elements (p.element s) (q.element x)
    pub start : q.start x ≡ p.start s
    pub end : q.end x ≡ p.end s

  -- the two traces have equal graces, and segment by segment the second is the first renamed;
  -- elements are matched within the trace
  pub record IsTraceRenamed (trace : A) (other : B) : Type 0 where
    pub grace : q.grace other ≡ p.grace trace
    pub elements : List (E × F)
    pub one_to_one : IsOneToOne elements
    pub segments : AllZip (IsSegmentRenamed elements) (p.segments trace) (q.segments other)

  -- trace by trace the second list is the first renamed
  abbrev pub AreRenamed : List A → List B → Type 0
  AreRenamed traces others = AllZip IsTraceRenamed traces others

  -- under both readings the trace refutes the same, of names and of tasks
  pub record RefuteAlike (trace : A) (other : B) : Type 0 where
    pub before : Agree names (λ a b. RefutesBefore p a b trace) (λ c d. RefutesBefore q c d other)
    pub exclusive :
        Agree names (λ a b. RefutesExclusive p a b trace) (λ c d. RefutesExclusive q c d other)
    pub apart : Agree names (λ a b. RefutesApart p a b trace) (λ c d. RefutesApart q c d other)
    pub pipe : Agree tasks (λ t u. RefutesPipe p t u trace) (λ v w. RefutesPipe q v w other)
    pub unshared :
        Agree tasks (λ t u. RefutesUnshared p t u trace) (λ v w. RefutesUnshared q v w other)

  -- under both readings the traces leave the same relations
  pub record LeaveAlike (traces : List A) (others : List B) : Type 0 where
    pub before : SurviveAlike names (RefutesBefore p) (RefutesBefore q) traces others
    pub exclusive : SurviveAlike names (RefutesExclusive p) (RefutesExclusive q) traces others
    pub apart : SurviveAlike names (RefutesApart p) (RefutesApart q) traces others
    pub pipe : SurviveAlike tasks (RefutesPipe p) (RefutesPipe q) traces others
    pub unshared : SurviveAlike tasks (RefutesUnshared p) (RefutesUnshared q) traces others
    pub happens_before : Agree names (HappensBefore p traces) (HappensBefore q others)
