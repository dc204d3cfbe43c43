-- Rows in a list of words, and the list of the free ones.
use Rattle.std.proofs.Common.{◌≡◌, ◌≢◌, ℕ, zero, suc, ◌+◌, ◌-◌, ◌*◌, ◌<◌, ◌≤◌, ◌⊎◌, inl, inr, true, false, not, ◌||◌, List, [], ◌∷◌, length, take, drop, get_or, refl, sym, ap, ◌∙◌, arith, nat_lt, eqb, length-take, length-drop}
use Rattle.std.proofs.lemmas.Nat.{mul-add-lt}
use Rattle.std.proofs.Math.Nat.{mul_comm}
use Rattle.std.proofs.lemmas.Bool.{cases_order, cases_lt, cases_Bool, or_from, and_parts, and_from, not-true, ltb-true, lt-ltb, eq-eqb, ne_eqb, true≢false}
use Rattle.std.proofs.lemmas.List.{same_lists, get_or-take, get_or-drop}
use Rattle.row_pool.specs.inner.Layout.{row_in, chain, has, distinct_below, Changes}

pub apart : (w i q k : ℕ) → q ≢ i → k < w → (q * w + k < i * w) ⊎ (i * w + w ≤ q * w + k)
apart w i q k other below =
    elim (cases_order q i) [
      | inl e ↦ absurd (other e)
      | inr (inl l) ↦ inl (let h = mul-add-lt q w k i l below in omega (arith, h, mul_comm w i))
      | inr (inr l) ↦ inr (let h = mul-add-lt i w (w - 1) q l (omega arith) in omega (arith, h, mul_comm w q))
    ]

-- the row i is within n rows
pub row_within : (w i n : ℕ) → i < n → i * w + w ≤ n * w
row_within zero i n l = omega arith
row_within (suc v) i n l = let h = mul-add-lt i (suc v) v n l (omega arith) in omega (arith, h, mul_comm (suc v) n)

pub row_in-at : (w i : ℕ) (vs xs : List ℕ) → i * w + w ≤ length vs → length xs ≡ w → ((k d : ℕ) → k < w → get_or vs (i * w + k) d ≡ get_or xs k d) → row_in vs w i ≡ xs
row_in-at w i vs xs within long at =
    let size : length (take w (drop (i * w) vs)) ≡ w = omega (arith, length-take w (drop (i * w) vs), length-drop (i * w) vs) in
    same_lists _ _ (size ∙ sym long) (λ k d h.
    let below : k < w = omega arith in
    get_or-take w (drop (i * w) vs) k d below ∙ get_or-drop (i * w) vs k d ∙ at k d below)

pub length-row_in : (w i : ℕ) (ws : List ℕ) → i * w + w ≤ length ws → length (row_in ws w i) ≡ w
length-row_in w i ws within = omega (arith, length-take w (drop (i * w) ws), length-drop (i * w) ws)

pub get_or-row_in : (w i : ℕ) (ws : List ℕ) (k d : ℕ) → k < w → get_or (row_in ws w i) k d ≡ get_or ws (i * w + k) d
get_or-row_in w i ws k d below = get_or-take w (drop (i * w) ws) k d below ∙ get_or-drop (i * w) ws k d

pub row_in-other : (w i q : ℕ) (ws vs : List ℕ) → q ≢ i → Changes w i ws vs → row_in vs w q ≡ row_in ws w q
row_in-other w i q ws vs other c =
    let size : length (take w (drop (q * w) vs)) ≡ length (take w (drop (q * w) ws)) = omega (arith, c.size, length-take w (drop (q * w) vs), length-drop (q * w) vs, length-take w (drop (q * w) ws), length-drop (q * w) ws) in
    same_lists _ _ size (λ k d h.
    let below : k < w = omega (arith, length-take w (drop (q * w) vs)) in
    get_or-take w (drop (q * w) vs) k d below ∙ get_or-drop (q * w) vs k d ∙ c.others (q * w + k) d (apart w i q k other below)
    ∙ sym (get_or-take w (drop (q * w) ws) k d below ∙ get_or-drop (q * w) ws k d))

pub has_head : (q : ℕ) (fs : List ℕ) → has q (q ∷ fs) ≡ true
has_head q fs = ap (λ b. b || has q fs) (eq-eqb q q refl)

pub has_tail : (q f : ℕ) (fs : List ℕ) → has q fs ≡ true → has q (f ∷ fs) ≡ true
has_tail q f fs h = elim (cases_Bool (eqb q f)) [ inl e ↦ ap (λ b. b || has q fs) e | inr e ↦ ap (λ b. b || has q fs) e ∙ h ]

pub chain-same : (ws vs : List ℕ) (w n h : ℕ) → ((q : ℕ) → has q (chain ws w n h) ≡ true → get_or vs (q * w) 0 ≡ get_or ws (q * w) 0) → chain vs w n h ≡ chain ws w n h
chain-same ws vs w zero h same = refl
chain-same ws vs w (suc n) h same =
    let next = get_or ws (h * w) 0 in
    let first : get_or vs (h * w) 0 ≡ next = same h (has_head h (chain ws w n next)) in
    ap (λ t. h ∷ t) (ap (chain vs w n) first ∙ chain-same ws vs w n next (λ q there. same q (has_tail q h (chain ws w n next) there)))

pub not_has_other : (i q : ℕ) (fs : List ℕ) → has i fs ≡ false → has q fs ≡ true → q ≢ i
not_has_other i q fs free there e = true≢false (sym there ∙ ap (λ x. has x fs) e ∙ free)

pub chain-other : (ws vs : List ℕ) (w n h i : ℕ) → 0 < w → has i (chain ws w n h) ≡ false → Changes w i ws vs → chain vs w n h ≡ chain ws w n h
chain-other ws vs w n h i wide free c =
    chain-same ws vs w n h (λ q there.
    let at : q * w + 0 ≡ q * w = omega arith in
    ap (λ x. get_or vs x 0) (sym at) ∙ c.others (q * w + 0) 0 (apart w i q 0 (not_has_other i q _ free there) wide) ∙ ap (λ x. get_or ws x 0) at)

-- what `distinct_below` says of a first element, and of those after it
pub record FirstIs (n f : ℕ) (fs : List ℕ) : Type 0 where
  pub below : f < n
  pub once : has f fs ≡ false
  pub rest : distinct_below n fs ≡ true

pub first_is : (n f : ℕ) (fs : List ℕ) → distinct_below n (f ∷ fs) ≡ true → FirstIs n f fs
first_is n f fs h =
    let a = and_parts (nat_lt f n) _ h in
    let b = and_parts (not (has f fs)) _ a.1 in
    record { below = ltb-true f n a.0; once = not-true _ b.0; rest = b.1 }

pub first_from : (n f : ℕ) (fs : List ℕ) → FirstIs n f fs → distinct_below n (f ∷ fs) ≡ true
first_from n f fs h = and_from _ _ (lt-ltb f n h.below) (and_from _ _ (ap not h.once) h.rest)

pub distinct_more : (n m : ℕ) (fs : List ℕ) → n ≤ m → distinct_below n fs ≡ true → distinct_below m fs ≡ true
distinct_more n m [] l h = refl
distinct_more n m (f ∷ fs) l h =
    let p = first_is n f fs h in
    first_from m f fs (record { below = omega (arith, p.below); once = p.once; rest = distinct_more n m fs l p.rest })

pub not_has_past : (n q : ℕ) (fs : List ℕ) → distinct_below n fs ≡ true → n ≤ q → has q fs ≡ false
not_has_past n q [] h l = refl
not_has_past n q (f ∷ fs) h l =
    let p = first_is n f fs h in
    or_from _ _ (ne_eqb q f (λ e. omega (arith, p.below, e))) (not_has_past n q fs p.rest l)

pub has_below : (n q : ℕ) (fs : List ℕ) → distinct_below n fs ≡ true → has q fs ≡ true → q < n
has_below n q fs d h = elim (cases_lt q n) [ inl l ↦ l | inr l ↦ absurd (true≢false (sym h ∙ not_has_past n q fs d l)) ]
