-- A place is read back as its relation.
use Rattle.std.proofs.Common.{◌≡◌, ℕ, ◌+◌, ◌-◌, ◌*◌, ◌/◌, ◌%◌, ◌<◌, ◌≤◌, MatchOption, Option, Some, None, sym, ◌∙◌, ap, arith}
use Rattle.hypothesis_index.specs.declared.relation.Relation.{Relation}
use Rattle.hypothesis_index.specs.declared.bit_place.BitPlace.{BitPlace}
use Rattle.hypothesis_index.specs.Places.{pair_number, IsRelation, pair_place, place_of}
use Rattle.hypothesis_index.proofs.PlaceLemmas.{places_apart, inside}

read_as : (begin i j : ℕ) (p : BitPlace) → begin ≤ p.word → p.bit < 64 → pair_number i j ≡ 16 * (p.word - begin) + p.bit / 4 → pair_place begin i j (p.bit % 4) ≡ p
read_as begin i j p low h e = let w : begin + pair_number i j / 16 ≡ p.word = omega arith in let b : 4 * (pair_number i j % 16) + p.bit % 4 ≡ p.bit = omega arith in λ k. record { word = w k; bit = b k }

pub outside : (p : BitPlace) (r : Relation) → IsRelation r → place_of r ≡ p → 8302 ≤ p.word → None ≡ Some r
outside p r v e h = let i = inside r v in let w : (place_of r).word ≡ p.word = ap (λ (q : BitPlace). q.word) e in let l = i.word in absurd (omega arith)

pub outside_bit : (p : BitPlace) (r : Relation) → IsRelation r → place_of r ≡ p → 64 ≤ p.bit → None ≡ Some r
outside_bit p r v e h = let i = inside r v in let w : (place_of r).bit ≡ p.bit = ap (λ (q : BitPlace). q.bit) e in let l = i.bit in absurd (omega arith)

pub task_back : (o : Option Relation) (i j : ℕ) (p : BitPlace) → p.word < 126 → p.bit < 64 → pair_number i j ≡ 16 * p.word + p.bit / 4 → MatchOption o (p.bit % 4 ≡ 3) (λ r. IsRelation r × (place_of r ≡ pair_place 0 i j (p.bit % 4))) → (r : Relation) → IsRelation r → place_of r ≡ p → o ≡ Some r
task_back None i j p l h e m r v is = let n = inside r v in let b : (place_of r).bit ≡ p.bit = ap (λ (q : BitPlace). q.bit) is in let w : (place_of r).word ≡ p.word = ap (λ (q : BitPlace). q.word) is in let t = n.task (omega arith) in absurd (omega arith)
task_back (Some s) i j p l h e m r v is = ap Some (places_apart s r m.0 v (m.1 ∙ read_as 0 i j p (omega arith) h (omega arith) ∙ sym is))

pub name_back : (s : Relation) (i j : ℕ) (p : BitPlace) → 126 ≤ p.word → p.bit < 64 → pair_number i j ≡ 16 * (p.word - 126) + p.bit / 4 → IsRelation s × (place_of s ≡ pair_place 126 i j (p.bit % 4)) → (r : Relation) → IsRelation r → place_of r ≡ p → Some s ≡ Some r
name_back s i j p l h e m r v is = ap Some (places_apart s r m.0 v (m.1 ∙ read_as 126 i j p l h e ∙ sym is))
