-- Where boxes stand, by ranks and rows.
use Rattle.std.proofs.Common.{◌≡◌, ◌≢◌, ◌⊎◌, ℕ, zero, suc, ◌+◌, ◌-◌, ◌*◌, ◌/◌, ◌%◌, ◌<◌, ◌≤◌, ◌++◌, ◌∷◌, [], Bool, true, false, eqb, ltb, ◌&&◌, ◌||◌, List, length, get_or, max, min, refl, sym, ap, ◌∙◌, subst, arith, inl, inr, ⊎_elim}
use Rattle.std.proofs.lemmas.Bool.{cases_lt, eq-eqb, eqb-true, lt-ltb, le-ltb}
use Rattle.std.proofs.lemmas.List.{get_or_append_left, get_or_push, length_push}
use Rattle.graph_layers.specs.declared.place.Place.{Place}
use Rattle.graph_layers.specs.Places.{ArePlaces, IsAbove, IsLeftOf, place_at}
use Rattle.graph_layers.specs.inner.Seats.{AreLow, AreSeats, IsPlaced, is_before, rank_of, row_length, rows_above, rows_of, seat_in, seat_of, size_of, widest_of}
use Rattle.graph_layers.proofs.DepthLemmas.{not_both, suc_is, tally_less}
use Rattle.graph_layers.proofs.ReachLemmas.{and_first, and_second, both_true, or_cases, or_left, or_right}

-- ---- one place
pub across : (widest size rank rows : ℕ) → rank < size → min 8 size ≤ widest → (seat_in widest size rank rows).x + 150 ≤ 164 * widest
across widest size rank rows h k = omega (arith, h, k)

pub beside : (widest size rank other rows : ℕ) → rank < other → other < size → IsLeftOf (seat_in widest size rank rows) (seat_in widest size other rows) ⊎ IsAbove (seat_in widest size rank rows) (seat_in widest size other rows)
beside widest size rank other rows h k = ⊎_elim
    (λ (l : rank / 8 < other / 8). inr (omega (arith, l)))
    (λ (g : other / 8 ≤ rank / 8).
    let same : rank / 8 ≡ other / 8 = omega (arith, g, h) in
    inl (ap (λ (r : ℕ). 4 + 64 * (rows + r)) same, left widest size rank other same h))
    (cases_lt (rank / 8) (other / 8))
  where
    left : (widest size rank other : ℕ) → rank / 8 ≡ other / 8 → rank < other → 4 + 82 * (widest - row_length size rank) + 164 * (rank % 8) + 150 + 14 ≤ 4 + 82 * (widest - row_length size other) + 164 * (other % 8)
    left widest size rank other same h =
        let alike : row_length size rank ≡ row_length size other = ap (λ (r : ℕ). min 8 (size - r * 8)) same in
        let free : widest - row_length size rank ≡ widest - row_length size other = ap (λ (r : ℕ). widest - r) alike in
        further (widest - row_length size rank) (widest - row_length size other) rank other free same h
      where
        further : (f g rank other : ℕ) → f ≡ g → rank / 8 ≡ other / 8 → rank < other → 4 + 82 * f + 164 * (rank % 8) + 150 + 14 ≤ 4 + 82 * g + 164 * (other % 8)
        further f g rank other e same h = omega (arith, e, same, h)

pub under : (widest size rank rows others also there : ℕ) → rank < size → rows + (size + 7) / 8 ≤ there → IsAbove (seat_in widest size rank rows) (seat_in widest others also there)
under widest size rank rows others also there h k = omega (arith, h, k)

-- ---- rows
pub rows_below : (count : ℕ) (layers : List ℕ) (l m : ℕ) → l < m → rows_above count layers l + rows_of count layers l ≤ rows_above count layers m
rows_below count layers l zero h = absurd (omega (arith, h))
rows_below count layers l (suc m) h = ⊎_elim
    (λ (lt : l < m). omega (arith, rows_below count layers l m lt))
    (λ (g : m ≤ l). let same : l ≡ m = omega (arith, g, h) in subst (λ (k : ℕ). rows_above count layers k + rows_of count layers k ≤ rows_above count layers m + rows_of count layers m) (sym same) (omega arith))
    (cases_lt l m)

pub rows_more : (count : ℕ) (layers : List ℕ) (l : ℕ) → rows_above count layers (l + 1) ≡ rows_above count layers l + rows_of count layers l
rows_more count layers l = sym (ap (rows_above count layers) (suc_is l))

pub widest_more : (layers : List ℕ) (n : ℕ) → widest_of layers (n + 1) ≡ max (widest_of layers n) (min 8 (size_of (length layers) layers (get_or layers n 0)))
widest_more layers n = sym (ap (widest_of layers) (suc_is n))

pub widest_least : (layers : List ℕ) (n b : ℕ) → b < n → min 8 (size_of (length layers) layers (get_or layers b 0)) ≤ widest_of layers n
widest_least layers zero b h = absurd (omega (arith, h))
widest_least layers (suc n) b h = ⊎_elim
    (λ (l : b < n). omega (arith, widest_least layers n b l))
    (λ (g : n ≤ b). let same : b ≡ n = omega (arith, g, h) in subst (λ (k : ℕ). min 8 (size_of (length layers) layers (get_or layers k 0)) ≤ max (widest_of layers n) (min 8 (size_of (length layers) layers (get_or layers n 0)))) (sym same) (omega arith))
    (cases_lt b n)

pub widest_most : (layers : List ℕ) (n : ℕ) → widest_of layers n ≤ 8
widest_most layers zero = omega arith
widest_most layers (suc n) = omega (arith, widest_most layers n)

-- ---- ranks
module _ (layers keys : List ℕ) where
  abbrev layer : ℕ → ℕ
  layer a = get_or layers a 0

  abbrev key : ℕ → ℕ
  key a = get_or keys a 0

  abbrev Precedes : ℕ → ℕ → Type 0
  Precedes a b = (layer a ≡ layer b) × ((key a < key b) ⊎ ((key a ≡ key b) × (a < b)))

  ltb_lt : (x y : ℕ) → ltb x y ≡ true → x < y
  ltb_lt x y e = ⊎_elim (λ (l : x < y). l) (λ (g : y ≤ x). absurd (not_both (ltb x y) e (le-ltb x y g))) (cases_lt x y)

  precedes : (a b : ℕ) → is_before layers keys a b ≡ true → Precedes a b
  precedes a b e =
      let rest = and_second (eqb (layer a) (layer b)) (ltb (key a) (key b) || (eqb (key a) (key b) && ltb a b)) e in (
        eqb-true (layer a) (layer b) (and_first (eqb (layer a) (layer b)) (ltb (key a) (key b) || (eqb (key a) (key b) && ltb a b)) e),
        ⊎_elim
            (λ (l : ltb (key a) (key b) ≡ true). inl (ltb_lt (key a) (key b) l))
            (λ (g : (eqb (key a) (key b) && ltb a b) ≡ true). inr (eqb-true (key a) (key b) (and_first (eqb (key a) (key b)) (ltb a b) g), ltb_lt a b (and_second (eqb (key a) (key b)) (ltb a b) g)))
            (or_cases (ltb (key a) (key b)) (eqb (key a) (key b) && ltb a b) rest),
      )

  is_so : (a b : ℕ) → Precedes a b → is_before layers keys a b ≡ true
  is_so a b h = both_true (eqb (layer a) (layer b)) (ltb (key a) (key b) || (eqb (key a) (key b) && ltb a b)) (eq-eqb (layer a) (layer b) h.0) (⊎_elim
      (λ (l : key a < key b). or_left (ltb (key a) (key b)) (eqb (key a) (key b) && ltb a b) (lt-ltb (key a) (key b) l))
      (λ (g : (key a ≡ key b) × (a < b)). or_right (ltb (key a) (key b)) (eqb (key a) (key b) && ltb a b) (both_true (eqb (key a) (key b)) (ltb a b) (eq-eqb (key a) (key b) g.0) (lt-ltb a b g.1)))
      h.1)

  over : (a b c : ℕ) → Precedes a b → Precedes b c → Precedes a c
  over a b c h k = (h.0 ∙ k.0, both h.1 k.1)
    where
      both : (key a < key b) ⊎ ((key a ≡ key b) × (a < b)) → (key b < key c) ⊎ ((key b ≡ key c) × (b < c)) → (key a < key c) ⊎ ((key a ≡ key c) × (a < c))
      both (inl l) (inl m) = inl (omega (arith, l, m))
      both (inl l) (inr m) = inl (omega (arith, l, m.0))
      both (inr l) (inl m) = inl (omega (arith, l.0, m))
      both (inr l) (inr m) = inr (l.0 ∙ m.0, omega (arith, l.1, m.1))

  never : (a : ℕ) → Precedes a a → ⊥
  never a h = ⊎_elim (λ (l : key a < key a). omega (arith, l)) (λ (g : (key a ≡ key a) × (a < a)). omega (arith, g.1)) h.1

  either : (a b : ℕ) → layer a ≡ layer b → a ≢ b → Precedes a b ⊎ Precedes b a
  either a b e ne = ⊎_elim
      (λ (l : key a < key b). inl (e, inl l))
      (λ (g : key b ≤ key a). ⊎_elim
      (λ (l : key b < key a). inr (sym e, inl l))
      (λ (h : key a ≤ key b).
      let same : key a ≡ key b = omega (arith, g, h) in
      ⊎_elim
      (λ (l : a < b). inl (e, inr (same, l)))
      (λ (k : b ≤ a). inr (sym e, inr (sym same, less a b k ne)))
      (cases_lt a b))
      (cases_lt (key b) (key a)))
      (cases_lt (key a) (key b))
    where
      less : (a b : ℕ) → b ≤ a → a ≢ b → b < a
      less a b h ne = ⊎_elim (λ (l : b < a). l) (λ (g : a ≤ b). absurd (ne (omega (arith, g, h)))) (cases_lt b a)

  the_false : (x : Bool) → (x ≡ true → ⊥) → x ≡ false
  the_false true f = absurd (f refl)
  the_false false f = refl

  pub rank_less : (a b : ℕ) → a < length layers → Precedes a b → rank_of (length layers) layers keys a < rank_of (length layers) layers keys b
  rank_less a b ha h = tally_less (λ x. is_before layers keys x a) (λ x. is_before layers keys x b) (length layers)
      (λ x hx e. is_so x b (over x a b (precedes x a e) h)) a ha
      (the_false (is_before layers keys a a) (λ e. never a (precedes a a e))) (is_so a b h)

  pub rank_within : (b : ℕ) → b < length layers → rank_of (length layers) layers keys b < size_of (length layers) layers (layer b)
  rank_within b hb = tally_less (λ x. is_before layers keys x b) (λ x. eqb (layer x) (layer b)) (length layers)
      (λ x hx e. eq-eqb (layer x) (layer b) (precedes x b e).0) b hb
      (the_false (is_before layers keys b b) (λ e. never b (precedes b b e))) (eq-eqb (layer b) (layer b) refl)

  -- ---- all places
  module _ (places : List Place) (height : ℕ) (so : AreSeats layers keys (length layers) places)
      (low : (a : ℕ) → a < length places → (place_at places a).y + 64 ≤ height) where
    abbrev widest : ℕ
    widest = widest_of layers (length layers)

    abbrev size : ℕ → ℕ
    size a = size_of (length layers) layers (layer a)

    abbrev rank : ℕ → ℕ
    rank a = rank_of (length layers) layers keys a

    abbrev rows : ℕ → ℕ
    rows a = rows_above (length layers) layers (layer a)

    abbrev seat : ℕ → Place
    seat a = seat_in widest (size a) (rank a) (rows a)

    abbrev Apart : Place → Place → Type 0
    Apart p q = IsLeftOf p q ⊎ (IsLeftOf q p ⊎ (IsAbove p q ⊎ IsAbove q p))

    one_layer : (a b : ℕ) → layer a ≡ layer b → a < length layers → b < length layers → Precedes a b → IsLeftOf (seat a) (seat b) ⊎ IsAbove (seat a) (seat b)
    one_layer a b e ha hb h =
        let same_size : size b ≡ size a = ap (size_of (length layers) layers) (sym e) in
        let same_rows : rows b ≡ rows a = ap (rows_above (length layers) layers) (sym e) in
        let s : Place = seat_in widest (size a) (rank b) (rows a) in
        let is : seat b ≡ s = ap (λ (n : ℕ). seat_in widest n (rank b) (rows b)) same_size ∙ ap (λ (n : ℕ). seat_in widest (size a) (rank b) n) same_rows in
        subst (λ (q : Place). IsLeftOf (seat a) q ⊎ IsAbove (seat a) q) (sym is) (beside widest (size a) (rank a) (rank b) (rows a) (rank_less a b ha h) (let r = rank_within b hb in omega (arith, r, same_size)))

    lower : (a b : ℕ) → a < length layers → layer a < layer b → IsAbove (seat a) (seat b)
    lower a b ha h = under widest (size a) (rank a) (rows a) (size b) (rank b) (rows b) (rank_within a ha) (rows_below (length layers) layers (layer a) (layer b) h)

    apart : (a b : ℕ) → a < length layers → b < length layers → a ≢ b → Apart (seat a) (seat b)
    apart a b ha hb ne = ⊎_elim
        (λ (l : layer a < layer b). inr (inr (inl (lower a b ha l))))
        (λ (g : layer b ≤ layer a). ⊎_elim
        (λ (l : layer b < layer a). inr (inr (inr (lower b a hb l))))
        (λ (h : layer a ≤ layer b).
        let e : layer a ≡ layer b = omega (arith, g, h) in
        ⊎_elim
        (λ (p : Precedes a b). ⊎_elim (λ (x : IsLeftOf (seat a) (seat b)). inl x) (λ (y : IsAbove (seat a) (seat b)). inr (inr (inl y))) (one_layer a b e ha hb p))
        (λ (p : Precedes b a). ⊎_elim (λ (x : IsLeftOf (seat b) (seat a)). inr (inl x)) (λ (y : IsAbove (seat b) (seat a)). inr (inr (inr y))) (one_layer b a (sym e) hb ha p))
        (either a b e ne))
        (cases_lt (layer b) (layer a)))
        (cases_lt (layer a) (layer b))

    pub are_places : ArePlaces (length layers) layers places (164 * widest) height
    are_places = record {
      size = so.size;
      across = λ a ha. subst (λ (p : Place). p.x + 150 ≤ 164 * widest) (sym (so.each a ha)) (across widest (size a) (rank a) (rows a) (rank_within a ha) (widest_least layers (length layers) a ha));
      along = λ a ha. let l = low a (omega (arith, ha, so.size)) in omega (arith, l);
      apart = λ a b ha hb ne. subst (λ (p : Place). Apart p (place_at places b)) (sym (so.each a ha)) (subst (λ (q : Place). Apart (seat a) q) (sym (so.each b hb)) (apart a b ha hb ne));
      down = λ a b ha hb l. subst (λ (p : Place). IsAbove p (place_at places b)) (sym (so.each a ha)) (subst (λ (q : Place). IsAbove (seat a) q) (sym (so.each b hb)) (lower a b ha l));
      narrow = omega (arith, widest_most layers (length layers));
    }

-- ---- places, one behind the other
pub seats_none : (layers keys : List ℕ) (places : List Place) → places ≡ [] → AreSeats layers keys 0 places
seats_none layers keys places e = record { size = ap length e; each = λ a h. absurd (omega (arith, h)) }

pub seats_more : (layers keys : List ℕ) (n : ℕ) (old new : List Place) (p : Place) → AreSeats layers keys n old → p ≡ seat_of layers keys (widest_of layers (length layers)) n → new ≡ old ++ p ∷ [] → AreSeats layers keys (n + 1) new
seats_more layers keys n old new p so is e = subst (AreSeats layers keys (n + 1)) (sym e) (record {
  size = length_push old p ∙ (let s = so.size in let r : length old + 1 ≡ n + 1 = omega (arith, s) in r);
  each = λ a h. ⊎_elim
      (λ (l : a < n). get_or_append_left old (p ∷ []) (record { x = 0; y = 0 }) a (omega (arith, l, so.size)) ∙ so.each a l)
      (λ (g : n ≤ a). let same : a ≡ n = omega (arith, g, h) in
      get_or_push old p (record { x = 0; y = 0 }) a (so.size ∙ sym same) ∙ is ∙ ap (seat_of layers keys (widest_of layers (length layers))) (sym same))
      (cases_lt a n);
})

pub low_none : (places : List Place) → places ≡ [] → AreLow places
low_none places e a h = absurd (omega (arith, h, ap length e))

pub low_more : (old new : List Place) (p : Place) → AreLow old → p.y ≤ 200000 → new ≡ old ++ p ∷ [] → AreLow new
low_more old new p so low e = subst AreLow (sym e) (λ a h. ⊎_elim
    (λ (l : a < length old). subst (λ (q : Place). q.y ≤ 200000) (sym (get_or_append_left old (p ∷ []) (record { x = 0; y = 0 }) a l)) (so a l))
    (λ (g : length old ≤ a).
    let same : length old ≡ a = omega (arith, g, h, length_push old p) in
    subst (λ (q : Place). q.y ≤ 200000) (sym (get_or_push old p (record { x = 0; y = 0 }) a same)) low)
    (cases_lt a (length old)))

pub framed_places : (layers lent : List ℕ) (places shown : List Place) (widest height : ℕ) → IsPlaced layers places → lent ≡ layers → shown ≡ places → widest ≡ widest_of lent (length lent)
    → ((a : ℕ) → a < length shown → (place_at shown a).y + 64 ≤ height) → ArePlaces (length layers) layers places (164 * widest) height
framed_places layers lent places shown widest height so e f w low =
    let is : widest ≡ widest_of layers (length layers) = w ∙ ap (λ (l : List ℕ). widest_of l (length l)) e in
    subst (λ (n : ℕ). ArePlaces (length layers) layers places (164 * n) height) (sym is)
    (are_places layers so.keys places height so.seats (subst (λ (l : List Place). (a : ℕ) → a < length l → (place_at l a).y + 64 ≤ height) f low))
