-- A digest: what is kept of traces that are not at hand.
use Rattle.std.specs.Prelude.{◌≡◌, ℕ, ◌+◌, List, [], ◌∷◌, Contains, AllPairs}
use Rattle.std.specs.Cmp.{IsTotalOrder}
use Rattle.std.specs.Ordering.{nat_cmp}
use Rattle.std.specs.declared.cmp.Ordering.{Ordering}
use Rattle.std.specs.declared.cmp.Ordering.TheVariants.{Less, Equal, Greater}
use Rattle.trace_types.specs.NameOrder.{pair_cmp}
use Rattle.digest_facts.specs.Facts.{Facts}

-- how many traces there are; their days, names and tasks; the pairs of names that some trace has
-- both of, those of which some trace refutes that the first happens before the second, and those of
-- which some trace refutes mutual exclusion; the pairs of tasks that share an element in some trace,
-- and those of which some trace refutes the pipe. Each list rises, and a pair is of two different
-- names or tasks; where the order does not matter, it stands in both orders
pub record Digest (N T : Type 0) : Type 0 where
  pub traces : ℕ
  pub days : List ℕ
  pub names : List N
  pub tasks : List T
  pub together : List (N × N)
  pub before : List (N × N)
  pub exclusive : List (N × N)
  pub shared : List (T × T)
  pub pipe : List (T × T)

-- the digest of no trace
abbrev pub empty_digest : {N T : Type 0} → Digest N T
empty_digest = record {
  traces = 0;
  days = [];
  names = [];
  tasks = [];
  together = [];
  before = [];
  exclusive = [];
  shared = [];
  pipe = [];
}

-- what a digest says is refuted
abbrev pub told_by : {N T : Type 0} → Digest N T → Facts N T
told_by s = record {
  before = λ a b. Contains s.before (a, b);
  exclusive = λ a b. Contains s.exclusive (a, b);
  apart = λ a b. Contains s.together (a, b);
  pipe = λ t u. Contains s.pipe (t, u);
  unshared = λ t u. Contains s.shared (t, u);
}

-- an order by which two things that are equal are one
pub record TellsApart {X : Type 0} (cmp : X → X → Ordering) : Type 0 where
  pub total : IsTotalOrder cmp
  pub one : (x y : X) → cmp x y ≡ Equal → x ≡ y

-- an element before a list, beside it or behind its first, as it compares with this first; `more` is
-- the rest with the element in its place
abbrev pub placed : {X : Type 0} → Ordering → X → X → List X → List X → List X
placed Less x y ys more = x ∷ y ∷ ys
placed Equal x y ys more = y ∷ ys
placed Greater x y ys more = y ∷ more

-- a rising list with one more element in its place, if it is not there yet
abbrev pub with_one : {X : Type 0} → (X → X → Ordering) → X → List X → List X
with_one cmp x [] = x ∷ []
with_one cmp x (y ∷ ys) = placed (cmp x y) x y ys (with_one cmp x ys)

-- what is in the one list or in the other, each once, rising
abbrev pub union : {X : Type 0} → (X → X → Ordering) → List X → List X → List X
union cmp [] ys = ys
union cmp (x ∷ xs) ys = with_one cmp x (union cmp xs ys)

-- the list rises
abbrev pub Rises : {X : Type 0} → (X → X → Ordering) → List X → Type 0
Rises cmp xs = AllPairs (λ x y. cmp x y ≡ Less) xs

module _ {N T : Type 0} (by_name : N → N → Ordering) (by_task : T → T → Ordering) where
  -- the digest of the traces of both
  abbrev pub merged : Digest N T → Digest N T → Digest N T
  merged s t = record {
    traces = s.traces + t.traces;
    days = union nat_cmp s.days t.days;
    names = union by_name s.names t.names;
    tasks = union by_task s.tasks t.tasks;
    together = union (pair_cmp by_name) s.together t.together;
    before = union (pair_cmp by_name) s.before t.before;
    exclusive = union (pair_cmp by_name) s.exclusive t.exclusive;
    shared = union (pair_cmp by_task) s.shared t.shared;
    pipe = union (pair_cmp by_task) s.pipe t.pipe;
  }

  -- each list rises
  pub record IsInForm (s : Digest N T) : Type 0 where
    pub days : Rises nat_cmp s.days
    pub names : Rises by_name s.names
    pub tasks : Rises by_task s.tasks
    pub together : Rises (pair_cmp by_name) s.together
    pub before : Rises (pair_cmp by_name) s.before
    pub exclusive : Rises (pair_cmp by_name) s.exclusive
    pub shared : Rises (pair_cmp by_task) s.shared
    pub pipe : Rises (pair_cmp by_task) s.pipe
