use Rattle.std.proofs.Common.{◌≡◌, ◌↔◌, ◌∙◌, ◌<◌, ◌+◌, ℕ, List, Bool, Vec, Global, true, false, not, length, get_or, refl, sym, subst, arith}
use Rattle.evidence_rules.specs.Reaching.{IsImplied}
use Rattle.graph_layers.proofs.ArrowLemmas.{KeptSoFar, kept_done, kept_no, kept_none, kept_yes, zip_at, zip_length}
use Rattle.graph_layers.proofs.arrows.unmarked.Goals as goal
use Rattle.graph_layers.proofs.arrows.unmarked.Goals.{then-is_unmarked+in_ok-push, else-is_unmarked}

pub pairs-init : goal.pairs-init
pairs-init c = kept_none c.args.pairs.now c.in_ok-left.left.items c.in_ok-left.ensures.items

is_false : (b : Bool) → not b ≡ true → b ≡ true → ⊥
is_false true e f = let g : false ≡ true = e in cc
is_false false e f = let g : false ≡ true = f in cc

is_true : (b : Bool) → not b ≡ false → b ≡ true
is_true true e = refl
is_true false e = let g : true ≡ false = e in cc

pub is_unmarked-requires : goal.is_unmarked-requires
is_unmarked-requires c =
    let pairs : List (ℕ × ℕ) = c.args.pairs.now in
    let same = zip_length (λ (q : ℕ × ℕ) (v : Bool). (v ≡ true) ↔ IsImplied pairs q.0 q.1) pairs c.args.marks.now c.requires in
    omega (arith, c.pairs-test.true, same)

pub pairs-preserved : goal.pairs-preserved
pairs-preserved c =
    let pairs : List (ℕ × ℕ) = c.args.pairs.now in
    let n = c.pairs.index in
    let p : ℕ × ℕ = get_or pairs n (0, 0) in
    let inside : n < length pairs = omega (arith, c.pairs-test.true) in
    let mark = get_or c.args.marks.now n false in
    let told : (mark ≡ true) ↔ IsImplied pairs p.0 p.1 = zip_at (λ (q : ℕ × ℕ) (v : Bool). (v ≡ true) ↔ IsImplied pairs q.0 q.1) pairs c.args.marks.now n c.requires inside in
    elim c.if-is_unmarked.branch [
      | then-is_unmarked+in_ok-push w ↦ subst (λ (v : Vec (ℕ × ℕ) Global). KeptSoFar pairs (n + 1) v.items) (sym w.left-is)
          (kept_yes pairs c.pairs.left.items w.push.new.self.items n p inside refl (λ i. is_false mark (sym c.is_unmarked.ensures ∙ w.if-is_unmarked.true) (told.1 i)) w.in_ok-push.ensures.items c.pairs.invariant)
      | else-is_unmarked w ↦ subst (λ (v : Vec (ℕ × ℕ) Global). KeptSoFar pairs (n + 1) v.items) (sym w.left-is)
          (kept_no pairs c.pairs.left.items n p inside refl (told.0 (is_true mark (sym c.is_unmarked.ensures ∙ w.if-is_unmarked.false))) c.pairs.invariant)
    ]

pub returns : goal.returns
returns c = kept_done c.args.pairs.now c.pairs.left.items c.pairs.index (omega (arith, c.pairs-test.false)) c.pairs.invariant
