-- The numbers of texts in the whole table.
use Rattle.std.proofs.Common.{◌≡◌, ℕ, ◌+◌, ◌<◌, List, [], ◌∷◌, ◌++◌, length, get_or, take, map, slice_get, Some, refl, sym, ap, ◌∙◌, subst, append-nil, append_assoc, arith}
use Rattle.std.proofs.lemmas.List.{map-append, length_push, take_more}
use Rattle.std.proofs.lemmas.Option.{slice_get-get_or}
use Rattle.event_table.specs.inner.Growth.{GrowsBy}
use Rattle.event_table.specs.inner.Renumbering.{AreNumbersOf}
use Rattle.event_table.proofs.TextLemmas.{grows_more, still_there}

-- the texts up to those that are left have their numbers, and the table grew by at most these
abbrev pub AreNumberedUpTo : (old now all left : List (List ℕ)) → List ℕ → Type 0
AreNumberedUpTo old now all left numbers = (seen : List (List ℕ)) × (seen ++ left ≡ all) × AreNumbersOf now seen numbers × GrowsBy (length seen) old now

-- numbers stay those of their texts
pub numbers_later : (most : ℕ) (old new texts : List (List ℕ)) (numbers : List ℕ) → GrowsBy most old new → AreNumbersOf old texts numbers → AreNumbersOf new texts numbers
numbers_later most old new [] [] grown same = refl
numbers_later most old new [] (n ∷ ns) grown same = absurd (cc same)
numbers_later most old new (t ∷ ts) [] grown same = absurd (cc same)
numbers_later most old new (t ∷ ts) (n ∷ ns) grown same =
    let first : slice_get old n ≡ Some t = cc same in
    let others : map (slice_get old) ns ≡ map Some ts = cc same in
    let f = still_there most old new n t grown first in
    let r = numbers_later most old new ts ns grown others in
    λ k. f k ∷ r k

pub numbered_none : (whole all : List (List ℕ)) → AreNumberedUpTo whole whole all all []
numbered_none whole all = ([], refl, refl, ([], sym (append-nil whole), omega arith))

-- a text more
pub numbered_more : (old now new all left rest : List (List ℕ)) (numbers more : List ℕ) (text : List ℕ) (number : ℕ) → AreNumberedUpTo old now all left numbers → left ≡ text ∷ rest
    → GrowsBy 1 now new → slice_get new number ≡ Some text → more ≡ numbers ++ number ∷ [] → AreNumberedUpTo old new all rest more
numbered_more old now new all left rest numbers more text number so_far next grown at push =
    let seen = so_far.0 in
    let long : length (seen ++ text ∷ []) ≡ length seen + 1 = length_push seen text in (
      seen ++ text ∷ [],
      append_assoc seen (text ∷ []) rest ∙ ap (λ (xs : List (List ℕ)). seen ++ xs) (sym next) ∙ so_far.1,
      ap (map (slice_get new)) push ∙ map-append (slice_get new) numbers (number ∷ [])
          ∙ (λ k. numbers_later 1 now new seen numbers grown so_far.2 k ++ at k ∷ []) ∙ sym (map-append Some seen (text ∷ [])),
      grows_more (length seen) 1 (length (seen ++ text ∷ [])) old now new so_far.3 grown (omega arith),
    )

-- all texts
pub numbered_all : (old now all left : List (List ℕ)) (numbers : List ℕ) → AreNumberedUpTo old now all left numbers → left ≡ [] → AreNumbersOf now all numbers × GrowsBy (length all) old now
numbered_all old now all left numbers so_far none =
    let whole : so_far.0 ≡ all = sym (append-nil so_far.0) ∙ ap (λ (xs : List (List ℕ)). so_far.0 ++ xs) (sym none) ∙ so_far.1 in
    (subst (λ (texts : List (List ℕ)). AreNumbersOf now texts numbers) whole so_far.2, subst (λ (texts : List (List ℕ)). GrowsBy (length texts) old now) whole so_far.3)

-- a table's own numbers, one more
pub own_more : (texts : List (List ℕ)) (i : ℕ) (numbers more : List ℕ) → i < length texts → AreNumbersOf texts (take i texts) numbers → more ≡ numbers ++ i ∷ [] → AreNumbersOf texts (take (i + 1) texts) more
own_more texts i numbers more lt so_far push =
    let at : slice_get texts i ≡ Some (get_or texts i []) = slice_get-get_or texts i [] lt in
    ap (map (slice_get texts)) push ∙ map-append (slice_get texts) numbers (i ∷ []) ∙ (λ k. so_far k ++ at k ∷ [])
    ∙ sym (map-append Some (take i texts) (get_or texts i [] ∷ [])) ∙ ap (map Some) (sym (take_more texts i [] lt))
