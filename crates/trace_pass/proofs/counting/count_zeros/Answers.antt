use Rattle.std.proofs.Common.{arith, ◌≡◌, ℕ, ◌+◌, ◌<◌, List, [], ◌∷◌, ◌++◌, length, get_or, take, ap, ◌∙◌}
use Rattle.std.proofs.lemmas.List.{take_more}
use Rattle.std.specs.Int.{count_zeros, w64}
use Rattle.trace_pass.specs.Counts.{zeros}
use Rattle.trace_pass.proofs.counting.count_zeros.Goals as goal

zeros-push : (xs : List ℕ) (x : ℕ) → zeros (xs ++ x ∷ []) ≡ zeros xs + count_zeros w64 x
zeros-push [] x = omega arith
zeros-push (y ∷ ys) x = let h = zeros-push ys x in omega arith

zeros_more : (words : List ℕ) (i d : ℕ) → i < length words → zeros (take (i + 1) words) ≡ zeros (take i words) + count_zeros w64 (get_or words i d)
zeros_more words i d h = ap zeros (take_more words i d h) ∙ zeros-push (take i words) (get_or words i d)

pub loop-word-preserved : goal.loop-word-preserved
loop-word-preserved c = let e = c.count_zeros-all.ensures.value in let b = c.count_zeros-all.ensures.bound in let inv = c.loop-word.invariant in let m = zeros_more c.args.words.now c.loop-word.word-index 0 c.loop-word-test.true in record { counted = omega arith; bound = omega arith }
