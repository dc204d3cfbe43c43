-- The heads of groups, and their numbers.
use Rattle.std.proofs.Common.{◌≡◌, ◌⊎◌, inl, inr, ℕ, ◌+◌, ◌<◌, ◌≤◌, List, [], ◌∷◌, ◌++◌, All, Bool, true, false, length, get_or, map, set, take, drop, refl, sym, ap, ◌∙◌, subst, append_assoc, arith, eq-eqb, eqb}
use Rattle.std.specs.Prelude.{nat_eq, slice_index}
use Rattle.std.specs.List.{list_any, position_or_len}
use Rattle.std.proofs.lemmas.Bool.{cases_lt, eqb-true}
use Rattle.std.proofs.lemmas.List.{drop_more, get_or-map, get_or_at, get_or_past, length-map, length-take-le, map-append, set_at, take_more}
use Rattle.std.proofs.lemmas.List.Elements.{All-from_get_or, All-get_or}
use Rattle.std.proofs.lemmas.Option.{slice_get_within}
use Rattle.call_trees.specs.Ordinals.{ordinals_of}
use Rattle.call_contexts.specs.ContextOrder.{AreOrdered}
use Rattle.call_contexts.specs.Contexts.{Frame, HaveAbove}
use Rattle.call_contexts.proofs.ListLemmas.{any-map, place_short}
use Rattle.context_names.specs.Bases.{frame_of_number}
use Rattle.context_names.specs.Pieces.{AreNumbered, are_of_one_group, forked_in_order, head_numbers, heads, numbers_by_group, thread_above}
use Rattle.context_names.specs.Scattering.{scattered, value_of}
use Rattle.context_names.proofs.MachineLemmas.{any-firsts}
use Rattle.context_names.proofs.MemberLemmas.{any_in}
use Rattle.context_names.proofs.OrderLemmas.{forked_has}
use Rattle.context_names.proofs.OrdinalLemmas.{length-ordinals, ordinal_at}
use Rattle.context_names.proofs.ValueLemmas.{get_or-scattered, length-scattered}

-- ---- one more for each number

pub add_more : (old cur : List ℕ) (i : ℕ) → i < length old → cur ≡ map (λ n. n + 1) (take i old) ++ drop i old → set cur i (get_or cur i 0 + 1) ≡ map (λ n. n + 1) (take (i + 1) old) ++ drop (i + 1) old
add_more old cur i lt h =
    ap (λ (xs : List ℕ). set xs i (get_or xs i 0 + 1)) (h ∙ ap (λ (ys : List ℕ). map (λ n. n + 1) (take i old) ++ ys) (drop_more old i 0 lt))
    ∙ ap (λ n. set (front ++ y ∷ rest) i (n + 1)) (get_or_at front y rest 0 i long) ∙ set_at front y rest (y + 1) i long
    ∙ sym (append_assoc front ((y + 1) ∷ []) rest) ∙ ap (λ (ys : List ℕ). ys ++ rest) (sym (map-append (λ n. n + 1) (take i old) (y ∷ [])) ∙ ap (map (λ n. n + 1)) (sym (take_more old i 0 lt)))
  where
    front : List ℕ
    front = map (λ n. n + 1) (take i old)

    y : ℕ
    y = get_or old i 0

    rest : List ℕ
    rest = drop (i + 1) old

    long : length (map (λ n. n + 1) (take i old)) ≡ i
    long = length-map (take i old) (λ n. n + 1) ∙ length-take-le i old (omega (arith, lt))

-- ---- values that are heads

pub values_low : (n count : ℕ) (ns vs : List ℕ) → n ≡ count → All (λ x. x < n) vs → All (λ x. x < n) (scattered count ns vs)
values_low n count ns vs same h = All-from_get_or (λ x. x < n) (scattered count ns vs) 0 (λ i lt. subst (λ x. x < n) (sym (get_or-scattered count ns vs i 0 (omega (arith, lt, length-scattered count ns vs)))) (at i (omega (arith, lt, length-scattered count ns vs))))
  where
    at : (i : ℕ) → i < count → value_of ns vs i < n
    at i lt = by (cases_lt (position_or_len (λ m. eqb m i) ns) (length vs))
      where
        by : (position_or_len (λ m. eqb m i) ns < length vs) ⊎ (length vs ≤ position_or_len (λ m. eqb m i) ns) → value_of ns vs i < n
        by (inl l) = All-get_or (λ x. x < n) vs (position_or_len (λ m. eqb m i) ns) 0 l h
        by (inr p) = omega (arith, get_or_past vs (position_or_len (λ m. eqb m i) ns) 0 p, lt, same)

-- ---- the group of a context that is forked below another one has a number

module _ (contexts : List Frame) (order : List ℕ) (below : List (List ℕ)) (threads : List ℕ) (forked : List Bool) (groups : List ℕ) (h : AreOrdered contexts order below) (before : HaveAbove contexts)
    (size : length groups ≡ length contexts) (grouped : All (λ g. g < length groups) groups) where
  group_apart : (g y z : ℕ) → eqb (get_or groups y 0) g ≡ false → eqb (get_or groups z 0) g ≡ true → are_of_one_group groups y z ≡ false
  group_apart g y z e f = ap (eqb (get_or groups y 0)) (eqb-true (get_or groups z 0) g f) ∙ e

  pub numbers_least : AreNumbered contexts forked groups (numbers_by_group contexts order below threads forked groups)
  numbers_least x a f there up holds =
      subst (λ n. 2 ≤ n) (sym (get_or-scattered (length groups) (map (slice_index groups) hs) ns g 0 low)) least
    where
      g : ℕ
      g = get_or groups x 0

      hs : List ℕ
      hs = heads contexts order below threads forked groups

      ns : List ℕ
      ns = head_numbers contexts order below threads forked groups

      keys : List ℕ
      keys = map (λ y. thread_above threads (frame_of_number contexts y).above y) (heads contexts order below threads forked groups)

      low : get_or groups x 0 < length groups
      low = All-get_or (λ k. k < length groups) groups x 0 (omega (arith, slice_get_within contexts x f there, size)) grouped

      some : list_any (λ k. eqb k (get_or groups x 0)) (map (slice_index groups) (heads contexts order below threads forked groups)) ≡ true
      some = any-map (slice_index groups) (λ k. eqb k (get_or groups x 0)) (heads contexts order below threads forked groups)
          ∙ any-firsts (are_of_one_group groups) (λ y. eqb (get_or groups y 0) (get_or groups x 0)) (group_apart (get_or groups x 0)) (forked_in_order contexts order below threads forked groups)
          (any_in (λ y. eqb (get_or groups y 0) (get_or groups x 0)) (forked_in_order contexts order below threads forked groups) x (forked_has contexts order below h before forked x a f there up holds) (eq-eqb (get_or groups x 0) (get_or groups x 0) refl))

      place : ℕ
      place = position_or_len (λ k. eqb k (get_or groups x 0)) (map (slice_index groups) (heads contexts order below threads forked groups))

      near : position_or_len (λ k. eqb k (get_or groups x 0)) (map (slice_index groups) (heads contexts order below threads forked groups)) < length (map (λ y. thread_above threads (frame_of_number contexts y).above y) (heads contexts order below threads forked groups))
      near = omega (
        arith,
        place_short (λ k. eqb k (get_or groups x 0)) (map (slice_index groups) (heads contexts order below threads forked groups)) some,
        length-map (heads contexts order below threads forked groups) (slice_index groups),
        length-map (heads contexts order below threads forked groups) (λ y. thread_above threads (frame_of_number contexts y).above y),
      )

      least : 2 ≤ get_or ns place 0
      least = omega (arith, get_or-map (λ n. n + 1) (ordinals_of nat_eq keys) place 0 0 (omega (arith, near, length-ordinals nat_eq keys)), ordinal_at nat_eq keys place 0 near)

pub numbers_size : (f : ℕ → ℕ) (hs : List ℕ) → length (map (λ n. n + 1) (ordinals_of nat_eq (map f hs))) ≡ length hs
numbers_size f hs = length-map (ordinals_of nat_eq (map f hs)) (λ n. n + 1) ∙ length-ordinals nat_eq (map f hs) ∙ length-map hs f

-- numbers by group, from their parts
module _ (contexts : List Frame) (order : List ℕ) (below : List (List ℕ)) (threads : List ℕ) (forked : List Bool) (groups found ns hs lent first : List ℕ) where
  pub numbers_are : found ≡ scattered (length groups) (map (slice_index groups) hs) ns → ns ≡ map (λ n. n + 1) (ordinals_of nat_eq (map (λ x. thread_above threads (frame_of_number contexts x).above x) lent)) → hs ≡ first → lent ≡ first
      → first ≡ heads contexts order below threads forked groups → found ≡ numbers_by_group contexts order below threads forked groups
  numbers_are h own same also is =
      h ∙ ap (scattered (length groups) (map (slice_index groups) hs)) own
      ∙ ap (λ (zs : List ℕ). scattered (length groups) (map (slice_index groups) zs) (map (λ n. n + 1) (ordinals_of nat_eq (map (λ x. thread_above threads (frame_of_number contexts x).above x) lent)))) (same ∙ is)
      ∙ ap (λ (zs : List ℕ). scattered (length groups) (map (slice_index groups) (heads contexts order below threads forked groups)) (map (λ n. n + 1) (ordinals_of nat_eq (map (λ x. thread_above threads (frame_of_number contexts x).above x) zs)))) (also ∙ is)
