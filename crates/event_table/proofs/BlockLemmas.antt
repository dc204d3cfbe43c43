-- The groups of blocks.
use Rattle.std.proofs.Common.{◌≡◌, ℕ, zero, suc, ◌+◌, ◌<◌, List, [], ◌∷◌, ◌++◌, length, get_or, drop, slice_get, refl, sym, ap, ◌∙◌, length-append, arith}
use Rattle.std.proofs.lemmas.List.{drop_more}
use Rattle.event_table.specs.declared.block.Block.{Block}
use Rattle.event_table.specs.declared.event_numbers.EventNumbers.{EventNumbers}
use Rattle.event_table.specs.inner.Groups.{block_groups, groups_of_blocks}

-- an element of the first list, or of the second
get_first : {X : Type 0} (xs ys : List X) (i : ℕ) → i < length xs → slice_get (xs ++ ys) i ≡ slice_get xs i
get_first [] ys i lt = absurd (omega (arith, lt))
get_first (x ∷ xs) ys zero lt = refl
get_first (x ∷ xs) ys (suc i) lt = get_first xs ys i (omega (arith, lt))

get_later : {X : Type 0} (xs ys : List X) (i k : ℕ) → length xs + k ≡ i → slice_get (xs ++ ys) i ≡ slice_get ys k
get_later [] ys i k same = let e : i ≡ k = omega (arith, same) in ap (slice_get ys) e
get_later (x ∷ xs) ys zero k same = absurd (omega (arith, same))
get_later (x ∷ xs) ys (suc i) k same = get_later xs ys i k (omega (arith, same))

module _ (blocks : List Block) (at : ℕ) (block : Block) (there : at < length blocks) (is : block ≡ get_or blocks at block) where
  -- the groups of the blocks from one on
  left : groups_of_blocks (drop at blocks) ≡ block_groups block ++ groups_of_blocks (drop (at + 1) blocks)
  left = ap groups_of_blocks (drop_more blocks at block there) ∙ ap (λ (b : Block). block_groups b ++ groups_of_blocks (drop (at + 1) blocks)) (sym is)

  pub left_length : length (groups_of_blocks (drop at blocks)) ≡ length (block_groups block) + length (groups_of_blocks (drop (at + 1) blocks))
  left_length = ap (λ (gs : List (List EventNumbers)). length gs) left ∙ length-append (block_groups block) (groups_of_blocks (drop (at + 1) blocks))

  pub left_first : (index : ℕ) → index < length (block_groups block) → slice_get (groups_of_blocks (drop at blocks)) index ≡ slice_get (block_groups block) index
  left_first index lt = ap (λ (gs : List (List EventNumbers)). slice_get gs index) left ∙ get_first (block_groups block) (groups_of_blocks (drop (at + 1) blocks)) index lt

  pub left_later : (index less : ℕ) → length (block_groups block) + less ≡ index → slice_get (groups_of_blocks (drop at blocks)) index ≡ slice_get (groups_of_blocks (drop (at + 1) blocks)) less
  left_later index less same = ap (λ (gs : List (List EventNumbers)). slice_get gs index) left ∙ get_later (block_groups block) (groups_of_blocks (drop (at + 1) blocks)) index less same

-- where groups are left there is a block
pub left_within : (blocks : List Block) (at index : ℕ) → index < length (groups_of_blocks (drop at blocks)) → at < length blocks
left_within [] zero index lt = absurd (omega (arith, lt))
left_within [] (suc at) index lt = absurd (omega (arith, lt))
left_within (block ∷ blocks) zero index lt = omega arith
left_within (block ∷ blocks) (suc at) index lt = let rest = left_within blocks at index lt in omega arith
