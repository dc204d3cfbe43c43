-- What the bits of relations say of two names or two tasks. A bit is 1 where the relation survives.
use Rattle.std.specs.Prelude.{◌≡◌, ◌≢◌, ℕ, min, max, List}
use Rattle.hypothesis_index.specs.Places.{place_of}
use Rattle.hypothesis_index.specs.declared.relation.Relation.{Relation}
use Rattle.hypothesis_index.specs.declared.relation.Relation.TheVariants.{Before, Exclusive, Apart}
use Rattle.hypothesis_index.specs.declared.relation.Relation.TheVariants.{Pipe, Unshared}
use Rattle.word_rows.specs.Words.{bit_of}

-- the bit of a relation: 0 or 1
abbrev pub relation_bit : List ℕ → Relation → ℕ
relation_bit words r = bit_of words (place_of r).word (place_of r).bit

-- the bit of a relation of two numbers whose order does not matter
abbrev pub bit_between : List ℕ → (ℕ → ℕ → Relation) → ℕ → ℕ → ℕ
bit_between words R a b = relation_bit words (R (min a b) (max a b))

-- the bit of the mutual exclusion of two names is 1
abbrev pub KeepsExclusion : List ℕ → ℕ → ℕ → Type 0
KeepsExclusion words a b = bit_between words Exclusive a b ≡ 1

-- of two names, apart is refuted, and A before B survives
pub record HasOrder (words : List ℕ) (a b : ℕ) : Type 0 where
  pub differ : a ≢ b
  pub together : bit_between words Apart a b ≡ 0
  pub survives : relation_bit words (Before a b) ≡ 1

-- of two names, apart and both orders are refuted, and mutual exclusion survives
pub record HasExclusion (words : List ℕ) (a b : ℕ) : Type 0 where
  pub differ : a ≢ b
  pub together : bit_between words Apart a b ≡ 0
  pub survives : bit_between words Exclusive a b ≡ 1
  pub not_before : relation_bit words (Before a b) ≡ 0
  pub not_after : relation_bit words (Before b a) ≡ 0

-- of two tasks, unshared is refuted, and the pipe from T to U survives
pub record HasPipe (words : List ℕ) (t u : ℕ) : Type 0 where
  pub differ : t ≢ u
  pub shared : bit_between words Unshared t u ≡ 0
  pub survives : relation_bit words (Pipe t u) ≡ 1
