-- The table of a digest: what is printed of it. Each name has a byte for each name before it, and
-- each task one for each task before it.
use Rattle.std.specs.Prelude.{◌≡◌, ℕ, ◌+◌, Bool, true, false, List, [], ◌∷◌, ◌++◌, map}
use Rattle.std.specs.Prelude.{if◌then◌else◌}
use Rattle.std.specs.declared.cmp.Ordering.{Ordering}
use Rattle.std.specs.declared.cmp.Ordering.TheVariants.{Less, Equal, Greater}
use Rattle.trace_types.specs.NameOrder.{pair_cmp}
use Rattle.digest_facts.specs.Coherence.{IsCoherent}
use Rattle.digest_facts.specs.Digests.{Digest}

-- so many traces; the days; each task and each name with its bytes
pub record Table (N T : Type 0) : Type 0 where
  pub traces : ℕ
  pub days : List ℕ
  pub tasks : List (T × List ℕ)
  pub names : List (N × List ℕ)

-- whether the first of a list is the one sought, or else the rest has it
abbrev pub seen : Ordering → Bool → Bool
seen Less rest = rest
seen Equal rest = true
seen Greater rest = rest

-- the list has the element
abbrev pub has : {X : Type 0} → (X → X → Ordering) → List X → X → Bool
has cmp [] x = false
has cmp (y ∷ ys) x = seen (cmp y x) (has cmp ys x)

-- `.` where no trace has both; else the digit with 1 where the first order is refuted, 2 where the
-- other is, and 4 where mutual exclusion is
abbrev pub pair_byte : Bool → Bool → Bool → Bool → ℕ
pair_byte false before after exclusive = 46
pair_byte true before after exclusive =
    48 + ((if before then 1 else 0) + ((if after then 2 else 0) + (if exclusive then 4 else 0)))

-- each element of a list with its bytes: one for each element before it
abbrev pub rows_from : {X : Type 0} → (X → X → ℕ) → List X → List X → List (X × List ℕ)
rows_from byte earlier [] = []
rows_from byte earlier (x ∷ xs) =
    (x, map (λ a. byte a x) earlier) ∷ rows_from byte (earlier ++ x ∷ []) xs

module _ {N T : Type 0} (by_name : N → N → Ordering) (by_task : T → T → Ordering) where
  -- the byte of two names, and that of two tasks
  abbrev pub name_byte : Digest N T → N → N → ℕ
  name_byte s a b = pair_byte (has (pair_cmp by_name) s.together (a, b))
      (has (pair_cmp by_name) s.before (a, b)) (has (pair_cmp by_name) s.before (b, a))
      (has (pair_cmp by_name) s.exclusive (a, b))

  abbrev pub task_byte : Digest N T → T → T → ℕ
  task_byte s t u = pair_byte (has (pair_cmp by_task) s.shared (t, u))
      (has (pair_cmp by_task) s.pipe (t, u)) (has (pair_cmp by_task) s.pipe (u, t)) false

  -- the table of a digest
  abbrev pub table_of : Digest N T → Table N T
  table_of s = record {
    traces = s.traces;
    days = s.days;
    tasks = rows_from (task_byte s) [] s.tasks;
    names = rows_from (name_byte s) [] s.names;
  }

  -- a table is that of one digest
  abbrev pub TablesTellApart : Type 0
  TablesTellApart = (s t : Digest N T) → IsCoherent by_name by_task s
      → IsCoherent by_name by_task t → table_of s ≡ table_of t → s ≡ t
