-- Which of its like a call is, by keys.
use Rattle.std.proofs.Common.{◌≡◌, ℕ, suc, ◌+◌, List, [], ◌∷◌, ◌++◌, Bool, cond, length, map, refl, sym, ap, ◌∙◌}
use Rattle.std.specs.Prelude.{fold}
use Rattle.std.specs.List.{count_by}
use Rattle.std.proofs.lemmas.List.{length-map, map-append}
use Rattle.call_trees.specs.Ordinals.{ordinals_after, ordinals_of}
use Rattle.span_calls.specs.declared.call.Call.{Call}
use Rattle.call_contexts.specs.Contexts.{like_eq, like_of, ordinals_among}
use Rattle.call_contexts.specs.declared.like_key.LikeKey.{LikeKey}
use Rattle.call_contexts.specs.inner.LikeKeys.{like_of_key, likes_of_keys}

fold_map : {A X Y : Type 0} (f : X → Y) (g : A → Y → A) (a : A) (xs : List X) → fold g a (map f xs) ≡ fold (λ b x. g b (f x)) a xs
fold_map f g a [] = refl
fold_map f g a (x ∷ xs) = fold_map f g (g a (f x)) xs

count_map : {X Y : Type 0} (f : X → Y) (p : Y → Bool) (xs : List X) → count_by p (map f xs) ≡ count_by (λ x. p (f x)) xs
count_map f p xs = fold_map f (λ (a : ℕ) y. a + cond (p y) 1 0) 0 xs

ordinals_map : {X Y : Type 0} (f : X → Y) (like : Y → Y → Bool) (before xs : List X) → ordinals_after (λ a b. like (f a) (f b)) before xs ≡ ordinals_after like (map f before) (map f xs)
ordinals_map f like before [] = refl
ordinals_map {X} {Y} f like before (x ∷ xs) =
    ap (λ n. (n + 1) ∷ ordinals_after (λ a b. like (f a) (f b)) (before ++ x ∷ []) xs) (sym (count_map f (like (f x)) before))
    ∙ ap (λ (ns : List ℕ). (count_by (like (f x)) (map f before) + 1) ∷ ns) (ordinals_map f like (before ++ x ∷ []) xs ∙ ap (λ (ys : List Y). ordinals_after like ys (map f xs)) (map-append f before (x ∷ [])))

-- the ordinals of keys are those of calls
pub likes_are : (keys : List LikeKey) (calls : List Call) (ns : List ℕ) → likes_of_keys keys ≡ map like_of calls → ns ≡ ordinals_of (λ (k l : LikeKey). like_eq (like_of_key k) (like_of_key l)) keys → ns ≡ ordinals_among calls
likes_are keys calls ns h own = own ∙ ordinals_map like_of_key like_eq [] keys ∙ ap (ordinals_of like_eq) h

length-ordinals : {X : Type 0} (like : X → X → Bool) (before xs : List X) → length (ordinals_after like before xs) ≡ length xs
length-ordinals like before [] = refl
length-ordinals like before (x ∷ xs) = ap suc (length-ordinals like (before ++ x ∷ []) xs)

pub length-ordinals_among : (calls : List Call) → length (ordinals_among calls) ≡ length calls
length-ordinals_among calls = length-ordinals like_eq [] (map like_of calls) ∙ length-map calls like_of
