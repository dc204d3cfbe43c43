-- Marks that are joined.
use Rattle.std.proofs.Common.{◌≡◌, Bool, true, false, ◌||◌, refl, ◌∙◌}
use Rattle.digest_facts.specs.Tables.{pair_byte}
use Rattle.digest_merging.specs.inner.MergedRows.{joined_mark}

both_joined : (b a e c d f : Bool) → joined_mark (pair_byte true b a e) (pair_byte true c d f) ≡ pair_byte true (b || c) (a || d) (e || f)
both_joined false false false false false false = refl
both_joined true false false false false false = refl
both_joined false true false false false false = refl
both_joined true true false false false false = refl
both_joined false false true false false false = refl
both_joined true false true false false false = refl
both_joined false true true false false false = refl
both_joined true true true false false false = refl
both_joined false false false true false false = refl
both_joined true false false true false false = refl
both_joined false true false true false false = refl
both_joined true true false true false false = refl
both_joined false false true true false false = refl
both_joined true false true true false false = refl
both_joined false true true true false false = refl
both_joined true true true true false false = refl
both_joined false false false false true false = refl
both_joined true false false false true false = refl
both_joined false true false false true false = refl
both_joined true true false false true false = refl
both_joined false false true false true false = refl
both_joined true false true false true false = refl
both_joined false true true false true false = refl
both_joined true true true false true false = refl
both_joined false false false true true false = refl
both_joined true false false true true false = refl
both_joined false true false true true false = refl
both_joined true true false true true false = refl
both_joined false false true true true false = refl
both_joined true false true true true false = refl
both_joined false true true true true false = refl
both_joined true true true true true false = refl
both_joined false false false false false true = refl
both_joined true false false false false true = refl
both_joined false true false false false true = refl
both_joined true true false false false true = refl
both_joined false false true false false true = refl
both_joined true false true false false true = refl
both_joined false true true false false true = refl
both_joined true true true false false true = refl
both_joined false false false true false true = refl
both_joined true false false true false true = refl
both_joined false true false true false true = refl
both_joined true true false true false true = refl
both_joined false false true true false true = refl
both_joined true false true true false true = refl
both_joined false true true true false true = refl
both_joined true true true true false true = refl
both_joined false false false false true true = refl
both_joined true false false false true true = refl
both_joined false true false false true true = refl
both_joined true true false false true true = refl
both_joined false false true false true true = refl
both_joined true false true false true true = refl
both_joined false true true false true true = refl
both_joined true true true false true true = refl
both_joined false false false true true true = refl
both_joined true false false true true true = refl
both_joined false true false true true true = refl
both_joined true true false true true true = refl
both_joined false false true true true true = refl
both_joined true false true true true true = refl
both_joined false true true true true true = refl
both_joined true true true true true true = refl

-- a pair that is in no trace says nothing of the pair
pub record SaysNothing (t b a e : Bool) : Type 0 where
  pub first : t ≡ false → b ≡ false
  pub second : t ≡ false → a ≡ false
  pub third : t ≡ false → e ≡ false

right_alone : (b a e : Bool) → joined_mark (pair_byte true b a e) 46 ≡ pair_byte true b a e
right_alone false false false = refl
right_alone false false true = refl
right_alone false true false = refl
right_alone false true true = refl
right_alone true false false = refl
right_alone true false true = refl
right_alone true true false = refl
right_alone true true true = refl

or_false : (b : Bool) → b ≡ (b || false)
or_false true = refl
or_false false = refl

-- what either says
pub joined : (t b a e u c d f : Bool) → SaysNothing t b a e → SaysNothing u c d f → joined_mark (pair_byte t b a e) (pair_byte u c d f) ≡ pair_byte (t || u) (b || c) (a || d) (e || f)
joined false b a e u c d f h k = rw (h.first refl, h.second refl, h.third refl) refl
joined true b a e true c d f h k = both_joined b a e c d f
joined true b a e false c d f h k = rw (k.first refl, k.second refl, k.third refl) (right_alone b a e ∙ rw (← or_false b, ← or_false a, ← or_false e) refl)
