use Rattle.std.proofs.Common.{◌≡◌, ◌∙◌, ℕ, List, ◌++◌, [], length, take, drop, ap, arith, subst, sym}
use Rattle.std.proofs.lemmas.List.{append-nil, drop_all, take_all}
use Rattle.std.proofs.lemmas.List.Sorted.{length_permutation}
use Rattle.task_pieces.specs.declared.task_key.TaskKey.{TaskKey}
use Rattle.task_pieces.specs.inner.Numbering.{ArePlaced}
use Rattle.task_pieces.proofs.PlacingLemmas.{placed_all, sorting}
use Rattle.task_pieces.proofs.piece_numbers.number_pieces.Goals as goal

whole : (n : ℕ) (xs ys : List ℕ) → length xs ≡ n → length ys ≡ n → take n (xs ++ drop (length xs) ys) ≡ xs
whole n xs ys e f =
    let none : drop (length xs) ys ≡ [] = drop_all (length xs) ys (omega (arith, e, f)) in
    ap (λ zs. take n (xs ++ zs)) none ∙ ap (take n) (append-nil xs) ∙ take_all n xs (omega (arith, e))

pub place_pieces-requires-clause-sorted : goal.place_pieces-requires-clause-sorted
place_pieces-requires-clause-sorted c =
    rw c.deref.ensures.value (sorting c.args.keys.items c.sort_unstable.new.self.items c.requires.indexed c.sort_unstable.ensures.permutation c.sort_unstable.ensures.sorted)

pub returns : goal.returns
returns c =
    let order = c.sort_unstable.new.self.items in
    let pieces = c.in_ok-pieces.pieces in
    let made : length pieces.items ≡ pieces.len = sym pieces.ok.0 in
    let full : length c.place_pieces.new.pieces ≡ pieces.len = c.place_pieces.ensures.length ∙ ap length c.deref_mut.ensures.value ∙ made in
    let all : length c.place_pieces.new.pieces ≡ length order =
    omega (arith, full, c.in_ok-pieces.ensures.len, c.len.ensures, length_permutation c.args.keys.items order c.sort_unstable.ensures.permutation, c.args.keys.ok.0) in
    whole pieces.len c.place_pieces.new.pieces pieces.items full made
    ∙ placed_all c.args.keys.items order c.requires.indexed c.sort_unstable.ensures.permutation c.place_pieces.new.pieces all
    (subst (λ (keys : List TaskKey). ArePlaced keys (length keys) c.place_pieces.new.pieces) c.deref.ensures.value c.place_pieces.ensures.placed)
