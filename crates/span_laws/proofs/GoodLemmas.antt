-- The lines of spans as readers give them are good.
use Rattle.std.proofs.Common.{◌≡◌, ◌⊎◌, inl, inr, ⊎_elim, ℕ, zero, suc, ◌+◌, ◌^◌, ◌<◌, ◌≤◌, ◌==◌, List, [], ◌∷◌, Bool, false, length, map, filter, Option, Some, None, IfSome, get_or, sym, ap, subst, ◌∙◌, arith}
use Rattle.std.specs.List.{All, range_with_len, position_or_len}
use Rattle.std.specs.Str.{IsUtf8, bytes_eq}
use Rattle.std.proofs.lemmas.List.{length-map}
use Rattle.std.proofs.lemmas.List.Elements.{All-map}
use Rattle.std.proofs.lemmas.List.FromFn.{length-map-range_with_len, length-range_with_len, get_or-range_with_len}
use Rattle.std.proofs.lemmas.List.Sorted.{All-permutation}
use Rattle.trace_types.proofs.ShortLemmas.{firsts_all}
use Rattle.span_types.specs.declared.span.Span.{Span}
use Rattle.span_names.specs.Names.{base_of, most_of_event}
use Rattle.span_names.specs.declared.piece.Piece.{Piece}
use Rattle.call_contexts.specs.ContextOrder.{AreOrdered, all_above, title_of}
use Rattle.call_contexts.specs.Contexts.{Frame}
use Rattle.call_trees.proofs.GroupLemmas.{group_at, groups_length}
use Rattle.call_trees.specs.Below.{is_number}
use Rattle.context_names.specs.Machines.{AreNamed, MachineNames, machines_of}
use Rattle.context_names.specs.Pieces.{are_of_one_group, forked_among, forked_in_order, heads, heads_by_group}
use Rattle.name_laws.specs.GoodNames.{IsLineText, IsShortPiece, MachinesAreGood}
use Rattle.span_laws.specs.GoodLines.{IsGiven}
use Rattle.span_laws.proofs.ApartLemmas.{Every, In, in_filter, in_flat, at_in}
use Rattle.span_laws.proofs.SizeLemmas.{IsSmall}

-- ---- contexts that are first in their groups

low_at : (xs : List ℕ) (n k : ℕ) → 0 < n → Every (λ x. x < n) xs → get_or xs k 0 < n
low_at [] n k p h = p
low_at (x ∷ xs) n zero p h = h.0
low_at (x ∷ xs) n (suc k) p h = low_at xs n k p h.1

every_at_in : (P : ℕ → Type 0) (xs : List ℕ) → All P xs → (x : ℕ) → In xs x → P x
every_at_in P [] h x i = absurd i
every_at_in P (y ∷ xs) h x (inl e) = subst P e (h 0 0 (omega arith))
every_at_in P (y ∷ xs) h x (inr i) = every_at_in P xs (λ k d l. h (suc k) d (omega (arith, l))) x i

module _ (contexts : List Frame) (order : List ℕ) (below : List (List ℕ)) (threads : List ℕ) (forked : List Bool) (groups : List ℕ) (ordered : AreOrdered contexts order below) where
  titled_low : All (λ x. x < length contexts) ordered.titled
  titled_low = All-permutation (λ x. x < length contexts) (range_with_len 0 (length (map title_of contexts))) ordered.titled ordered.rise.all
      (λ k d l. let n = length-range_with_len 0 (length (map title_of contexts)) in let m = length-map contexts title_of in
      let w : k < length (map title_of contexts) = omega (arith, l, n) in
      let e = get_or-range_with_len 0 (length (map title_of contexts)) k d w in omega (arith, e, w, m))

  below_low : (x y : ℕ) → In (get_or below x []) y → y < length contexts
  below_low x y i = by (order_of x (length (all_above contexts))) (subst (λ (bs : List (List ℕ)). In (get_or bs x []) y) ordered.lists i)
    where
      order_of : (a c : ℕ) → (a < c) ⊎ (c ≤ a)
      order_of a zero = inr (omega arith)
      order_of zero (suc c) = inl (omega arith)
      order_of (suc a) (suc c) = ⊎_elim (λ h. inl (omega (arith, h))) (λ h. inr (omega (arith, h))) (order_of a c)

      past : (bs : List (List ℕ)) (k : ℕ) → length bs ≤ k → In (get_or bs k []) y → ⊥
      past [] k l q = q
      past (b ∷ bs) zero l q = omega (arith, l)
      past (b ∷ bs) (suc k) l q = past bs k (omega (arith, l)) q

      by : (x < length (all_above contexts)) ⊎ (length (all_above contexts) ≤ x) → In (get_or (map (λ n. filter (λ j. is_number n (get_or (all_above contexts) j None)) ordered.titled) (range_with_len 0 (length (all_above contexts)))) x []) y → y < length contexts
      by (inl l) q = every_at_in (λ z. z < length contexts) ordered.titled titled_low y (in_filter (λ j. is_number x (get_or (all_above contexts) j None)) ordered.titled y (subst (λ (ys : List ℕ). In ys y) (group_at (all_above contexts) ordered.titled x [] l) q)).0
      by (inr l) q = absurd (past (map (λ n. filter (λ j. is_number n (get_or (all_above contexts) j None)) ordered.titled) (range_with_len 0 (length (all_above contexts)))) x (let n = groups_length (all_above contexts) ordered.titled in omega (arith, l, n)) q)

  forked_low : (y : ℕ) → In (forked_in_order contexts order below threads forked groups) y → y < length contexts
  forked_low y i =
      let p = in_flat (λ x. forked_among forked (get_or below x [])) order y i in
      below_low p.0 y (in_filter (λ z. get_or forked z false) (get_or below p.0 []) y p.2).0

  heads_low : All (λ x. x < length contexts) (heads contexts order below threads forked groups)
  heads_low = firsts_all (λ x. x < length contexts) (are_of_one_group groups) (forked_in_order contexts order below threads forked groups)
      (λ k d l. forked_low (get_or (forked_in_order contexts order below threads forked groups) k d) (at_in (forked_in_order contexts order below threads forked groups) k d l))

  -- the first context of a group is one
  pub head_low : 0 < length contexts → (g : ℕ) → get_or (heads_by_group contexts order below threads forked groups) g 0 < length contexts
  head_low some g = low_at (heads_by_group contexts order below threads forked groups) (length contexts) g some
      (table_low (length groups) 0)
    where
      every_of_all : (xs : List ℕ) → All (λ x. x < length contexts) xs → Every (λ x. x < length contexts) xs
      every_of_all [] h = tt
      every_of_all (x ∷ xs) h = (h 0 0 (omega arith), every_of_all xs (λ k d l. h (suc k) d (omega (arith, l))))

      value : ℕ → ℕ
      value x = get_or (heads contexts order below threads forked groups) (position_or_len (λ n. n == x) (map (λ z. get_or groups z 0) (heads contexts order below threads forked groups))) 0

      table_low : (n a : ℕ) → Every (λ x. x < length contexts) (map value (range_with_len a n))
      table_low zero a = tt
      table_low (suc n) a = (low_at (heads contexts order below threads forked groups) (length contexts) (position_or_len (λ n. n == a) (map (λ z. get_or groups z 0) (heads contexts order below threads forked groups))) some (every_of_all (heads contexts order below threads forked groups) heads_low), table_low n (a + 1))

-- ---- machines

-- the name of a machine of spans is good
pub machine_good : MachinesAreGood → (spans : List Span) (machines : MachineNames) → machines.machines ≡ machines_of spans → AreNamed machines.machines machines.names → All IsGiven spans → length machines.machines < 10 ^ 7
    → (a : ℕ) → a < length machines.machines → IsLineText (get_or machines.names a [])
machine_good law spans machines known named given few a lt =
    law machines.machines machines.names named
    (subst (λ (xs : List (List ℕ)). All (λ x. IsUtf8 x × (0 < length x)) xs) (sym known)
    (firsts_all (λ x. IsUtf8 x × (0 < length x)) bytes_eq (map (λ (s : Span). s.machine) spans) (All-map (λ x. IsUtf8 x × (0 < length x)) (λ (s : Span). s.machine) spans (λ k d l. let g = given k d l in (g.machine, g.has_machine)))))
    few a [] (let n = ap length named.numbered in let m = length-map machines.machines (base_of most_of_event) in let t = size named in omega (arith, lt, n, m, t))
  where
    size : (nm : AreNamed machines.machines machines.names) → length machines.names ≡ length machines.machines
    size nm = ap length nm.numbered ∙ length-map-range_with_len _ 0 (length (map (base_of most_of_event) machines.machines)) ∙ length-map machines.machines (base_of most_of_event)

-- ---- pieces

pub short_piece : (n g : ℕ) (piece : Piece) → n < 10 ^ 7 → g < 10 ^ 7 → IsSmall n g piece → IsShortPiece (Some piece)
short_piece n g piece a b s = (let q = s.number in omega (arith, q, a), by piece.gap s.gap)
  where
    by : (o : Option ℕ) → IfSome o (λ x. x ≤ g) → IfSome o (λ x. x < 10 ^ 7)
    by None q = tt
    by (Some x) q = omega (arith, q, b)
