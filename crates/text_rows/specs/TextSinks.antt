-- Texts that are made in memory.
use Rattle.std.specs.Prelude.{ℕ, List}
use Rattle.std.specs.List.{flat_map}
use Rattle.std.specs.declared.vec.Vec.{Vec}

-- what contracts see of a sink that keeps a text in memory: all bytes that were written, and how
-- many writes failed
pub record TextSinkState : Type 0 where
  pub bytes : List ℕ
  pub faults : ℕ

-- texts, one after another
abbrev pub all_bytes : {A : Type 0} → List (Vec ℕ A) → List ℕ
all_bytes {A} texts = flat_map (λ (text : Vec ℕ A). text.items) texts
