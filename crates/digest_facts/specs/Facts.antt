-- What is refuted of names and of tasks, whoever refutes it: traces that are at hand, or a digest of
-- traces that are not. A relation that is not refuted survives.
use Rattle.std.specs.Prelude.{◌≡◌, ◌≢◌, ◌⊎◌, ◌↔◌, List}
use Rattle.std.specs.declared.cmp.Ordering.{Ordering}
use Rattle.std.specs.declared.cmp.Ordering.TheVariants.{Less}
use Rattle.trace_types.specs.Parts.{Parts}
use Rattle.trace_types.specs.Pipelines.{RefutesPipe, RefutesUnshared}
use Rattle.trace_types.specs.Refuting.{RefutesBefore, RefutesExclusive, RefutesApart}
use Rattle.trace_types.specs.Surviving.{IsRefuted}

-- which relations are refuted, of two names and of two tasks
pub record Facts (N T : Type 0) : Type 1 where
  pub before : N → N → Type 0
  pub exclusive : N → N → Type 0
  pub apart : N → N → Type 0
  pub pipe : T → T → Type 0
  pub unshared : T → T → Type 0

-- what the traces of a list refute
abbrev pub facts_of : {A S N T E : Type 0} → Parts A S N T E → List A → Facts N T
facts_of p traces = record {
  before = λ a b. IsRefuted (RefutesBefore p a b) traces;
  exclusive = λ a b. IsRefuted (RefutesExclusive p a b) traces;
  apart = λ a b. IsRefuted (RefutesApart p a b) traces;
  pipe = λ t u. IsRefuted (RefutesPipe p t u) traces;
  unshared = λ t u. IsRefuted (RefutesUnshared p t u) traces;
}

-- what is refuted by the one or by the other
abbrev pub both : {N T : Type 0} → Facts N T → Facts N T → Facts N T
both f g = record {
  before = λ a b. f.before a b ⊎ g.before a b;
  exclusive = λ a b. f.exclusive a b ⊎ g.exclusive a b;
  apart = λ a b. f.apart a b ⊎ g.apart a b;
  pipe = λ t u. f.pipe t u ⊎ g.pipe t u;
  unshared = λ t u. f.unshared t u ⊎ g.unshared t u;
}

-- of two different names, and of two different tasks, the same is refuted
pub record AreAlike {N T : Type 0} (f g : Facts N T) : Type 0 where
  pub before : (a b : N) → a ≢ b → f.before a b ↔ g.before a b
  pub exclusive : (a b : N) → a ≢ b → f.exclusive a b ↔ g.exclusive a b
  pub apart : (a b : N) → a ≢ b → f.apart a b ↔ g.apart a b
  pub pipe : (t u : T) → t ≢ u → f.pipe t u ↔ g.pipe t u
  pub unshared : (t u : T) → t ≢ u → f.unshared t u ↔ g.unshared t u

module _ {N T : Type 0} (f : Facts N T) where
  -- A happens before B: they are two names, some trace has both, and none refutes it
  pub record IsOrdered (a b : N) : Type 0 where
    pub differ : a ≢ b
    pub together : f.apart a b
    pub survives : f.before a b → ⊥

  -- A and B, in name order, are mutually exclusive with no fixed order: some trace has both, none
  -- refutes that they are mutually exclusive, and each order is refuted
  pub record IsUnordered (cmp : N → N → Ordering) (a b : N) : Type 0 where
    pub differ : a ≢ b
    pub rises : cmp a b ≡ Less
    pub together : f.apart a b
    pub survives : f.exclusive a b → ⊥
    pub not_before : f.before a b
    pub not_after : f.before b a

  -- T and U are a pipeline: they are two tasks, some trace has an element in both, and none refutes
  -- it
  pub record IsPiped (t u : T) : Type 0 where
    pub differ : t ≢ u
    pub shared : f.unshared t u
    pub survives : f.pipe t u → ⊥
