-- Blocks of numbers of which whole spans are raised at once.
use Rattle.std.proofs.Common.{◌≡◌, ◌≢◌, ◌⊎◌, ℕ, zero, suc, ◌+◌, ◌-◌, ◌*◌, ◌/◌, ◌%◌, ◌^◌, ◌<◌, ◌≤◌, max, Bool, true, false, cond, leb, ltb, ◌&&◌, List, [], ◌∷◌, ◌++◌, length, get_or, set, inl, inr, ⊎_elim, refl, sym, ap, ◌∙◌, subst, arith, get_or-set_same, get_or-set_other, length-append, length-set, map, replicate}
use Rattle.std.proofs.Math.Nat.{div-eq_of_lt, mod-eq_of_lt, mul-le-mul_right, two-pow-succ}
use Rattle.std.proofs.Math.Pow.{pow_mono}
use Rattle.std.proofs.lemmas.Bool.{cases_lt, cases_eq}
use Rattle.std.proofs.lemmas.Bool.Decides.{nat_tests}
use Rattle.std.proofs.lemmas.Grind.{pow_more}
use Rattle.std.proofs.lemmas.List.{get_or_append_left, get_or_push, get_or-map, get_or-replicate, length-map, length-replicate, map_push}
use Rattle.std.proofs.lemmas.Nat.{div-add-mod', div-mul-add, div_below, le-div, mod-mul-add, mod_below, one_shl, pow_pos}
use Rattle.path_gains.specs.inner.Spans.{HaveRoom, RaisesBlock, RaisesIn, has_block, shown_at, shown_of}

-- true is not false
true_false : true ≡ false → ⊥
true_false e = subst (λ (b : Bool). cond b (Unit {0}) ⊥) e tt

-- the block of 2 ^ level numbers from the index on has exactly these
block_yes : (count level index v : ℕ) → index < count → index ≤ v → v < index + 2 ^ level → index + 2 ^ level ≤ count → has_block count (level * count + index) v ≡ true
block_yes count level index v inside low high fits =
    ap (λ (i : ℕ). leb i v && (ltb v (i + 2 ^ ((level * count + index) / count)) && leb (i + 2 ^ ((level * count + index) / count)) count)) (mod-mul-add level count index inside)
    ∙ ap (λ (l : ℕ). leb index v && (ltb v (index + 2 ^ l) && leb (index + 2 ^ l) count)) (div-mul-add level count index inside)
    ∙ over index (2 ^ level) count v low high fits
  where
    over : (i s c v : ℕ) → i ≤ v → v < i + s → i + s ≤ c → (leb i v && (ltb v (i + s) && leb (i + s) c)) ≡ true
    over i s c v a b d = grind (arith, nat_tests)

block_no : (count level index v : ℕ) → index < count → (v < index) ⊎ (index + 2 ^ level ≤ v) → has_block count (level * count + index) v ≡ false
block_no count level index v inside out =
    ap (λ (i : ℕ). leb i v && (ltb v (i + 2 ^ ((level * count + index) / count)) && leb (i + 2 ^ ((level * count + index) / count)) count)) (mod-mul-add level count index inside)
    ∙ ap (λ (l : ℕ). leb index v && (ltb v (index + 2 ^ l) && leb (index + 2 ^ l) count)) (div-mul-add level count index inside)
    ∙ ⊎_elim (λ (a : v < index). before index (2 ^ level) count v a) (λ (a : index + 2 ^ level ≤ v). after index (2 ^ level) count v a) out
  where
    before : (i s c v : ℕ) → v < i → (leb i v && (ltb v (i + s) && leb (i + s) c)) ≡ false
    before i s c v a = grind (arith, nat_tests)

    after : (i s c v : ℕ) → i + s ≤ v → (leb i v && (ltb v (i + s) && leb (i + s) c)) ≡ false
    after i s c v a = grind (arith, nat_tests)

-- a block that does not end within the count has nothing
block_none : (count level index v : ℕ) → index < count → count < index + 2 ^ level → has_block count (level * count + index) v ≡ false
block_none count level index v inside out =
    ap (λ (i : ℕ). leb i v && (ltb v (i + 2 ^ ((level * count + index) / count)) && leb (i + 2 ^ ((level * count + index) / count)) count)) (mod-mul-add level count index inside)
    ∙ ap (λ (l : ℕ). leb index v && (ltb v (index + 2 ^ l) && leb (index + 2 ^ l) count)) (div-mul-add level count index inside)
    ∙ over index (2 ^ level) count v out
  where
    over : (i s c v : ℕ) → c < i + s → (leb i v && (ltb v (i + s) && leb (i + s) c)) ≡ false
    over i s c v a = grind (arith, nat_tests)

module _ (count : ℕ) where
  -- what one block adds to the numbers of those before it
  adds : (blocks : List ℕ) (v k : ℕ) → (b : Bool) → has_block count k v ≡ b → shown_of count blocks v (suc k) ≡ max (shown_of count blocks v k) (cond b (get_or blocks k 0) 0)
  adds blocks v k b e = ap (λ (t : Bool). max (shown_of count blocks v k) (cond t (get_or blocks k 0) 0)) e

  -- one block is raised
  module _ (blocks : List ℕ) (p least v : ℕ) (inside : p < length blocks) where
    abbrev raised : List ℕ
    raised = set blocks p (max (get_or blocks p 0) least)

    -- the first k blocks without it
    misses : (k : ℕ) → (k ≤ p) ⊎ (has_block count p v ≡ false) → shown_of count raised v k ≡ shown_of count blocks v k
    misses zero none = refl
    misses (suc k) none = ⊎_elim
        (λ (e : k ≡ p). ⊎_elim
        (λ (l : suc k ≤ p). absurd (omega arith))
        (λ (f : has_block count p v ≡ false).
        let no : has_block count k v ≡ false = ap (λ (q : ℕ). has_block count q v) e ∙ f in
        let a = adds raised v k false no in
        let b = adds blocks v k false no in
        let rest = misses k (inl (omega arith)) in
        omega arith)
        none)
        (λ (e : k ≢ p).
        let same : get_or raised k 0 ≡ get_or blocks k 0 = get_or-set_other blocks p k (max (get_or blocks p 0) least) 0 e in
        let rest = misses k (⊎_elim (λ (l : suc k ≤ p). inl (omega arith)) (λ (f : has_block count p v ≡ false). inr f) none) in
        ap (λ (x : ℕ). max (shown_of count raised v k) (cond (has_block count k v) x 0)) same ∙ ap (λ (x : ℕ). max x (cond (has_block count k v) (get_or blocks k 0) 0)) rest)
        (cases_eq k p)

    -- the first k blocks with it
    hits : (k : ℕ) → p < k → has_block count p v ≡ true → shown_of count raised v k ≡ max (shown_of count blocks v k) least
    hits zero low has = absurd (omega arith)
    hits (suc k) low has = ⊎_elim
        (λ (e : k ≡ p).
        let is : has_block count k v ≡ true = ap (λ (q : ℕ). has_block count q v) e ∙ has in
        let a = adds raised v k true is in
        let b = adds blocks v k true is in
        let here : get_or raised k 0 ≡ max (get_or blocks p 0) least = ap (λ (q : ℕ). get_or raised q 0) e ∙ get_or-set_same blocks p (max (get_or blocks p 0) least) 0 inside in
        let there : get_or blocks k 0 ≡ get_or blocks p 0 = ap (λ (q : ℕ). get_or blocks q 0) e in
        let rest = misses k (inl (omega arith)) in
        omega arith)
        (λ (e : k ≢ p).
        let same : get_or raised k 0 ≡ get_or blocks k 0 = get_or-set_other blocks p k (max (get_or blocks p 0) least) 0 e in
        let rest = hits k (omega arith) has in
        let x : ℕ = cond (has_block count k v) (get_or blocks k 0) 0 in
        let a : shown_of count raised v (suc k) ≡ max (shown_of count raised v k) x = ap (λ (y : ℕ). max (shown_of count raised v k) (cond (has_block count k v) y 0)) same in
        let b : shown_of count blocks v (suc k) ≡ max (shown_of count blocks v k) x = refl in
        omega arith)
        (cases_eq k p)

    pub RaisesBlock-set : RaisesBlock count p least v (shown_at count blocks v) (shown_of count raised v (length blocks))
    RaisesBlock-set = at (has_block count p v) refl
      where
        at : (b : Bool) → has_block count p v ≡ b → RaisesBlock count p least v (shown_at count blocks v) (shown_of count raised v (length blocks))
        at true e = inl (e, hits (length blocks) inside e)
        at false e = inr (e, misses (length blocks) (inr e))

    pub RaisesBlock-at : RaisesBlock count p least v (shown_at count blocks v) (shown_at count raised v)
    RaisesBlock-at = subst (λ (n : ℕ). RaisesBlock count p least v (shown_at count blocks v) (shown_of count raised v n)) (sym (length-set blocks p (max (get_or blocks p 0) least))) RaisesBlock-set

  -- two blocks of one size, of which at least one has each number of the span
  pub both : (level first second low high least v old new after : ℕ) → first < count → second < count
      → low ≡ first → high ≡ second + 2 ^ level → first ≤ second → second ≤ first + 2 ^ level → second + 2 ^ level ≤ count
      → RaisesBlock count (level * count + first) least v old new → RaisesBlock count (level * count + second) least v new after
      → RaisesIn low high least v old after
  both level first second low high least v old new after in1 in2 is is' order close fits one two = ⊎_elim
      (λ (l : v < first). outside (inl l) (inl (omega arith)) (inl (omega arith)))
      (λ (l : first ≤ v). ⊎_elim
      (λ (h : v < second + 2 ^ level).
      inl (
        omega arith,
        omega arith,
        ⊎_elim
            (λ (k : v < first + 2 ^ level).
            let x = hit first new old in1 l k (omega arith) one in
            ⊎_elim (λ (y : after ≡ max new least). omega arith) (λ (y : after ≡ new). omega arith) (more second after new two))
            (λ (k : first + 2 ^ level ≤ v).
            let x = hit second after new in2 (omega arith) h fits two in
            let y = stays first new old in1 (inr k) one in
            omega arith)
            (cases_lt v (first + 2 ^ level)),
      ))
      (λ (h : second + 2 ^ level ≤ v). outside (inr (omega arith)) (inr h) (inr (omega arith)))
      (cases_lt v (second + 2 ^ level)))
      (cases_lt v first)
    where
      hit : (i n o : ℕ) → i < count → i ≤ v → v < i + 2 ^ level → i + 2 ^ level ≤ count → RaisesBlock count (level * count + i) least v o n → n ≡ max o least
      hit i n o inside a b d r = ⊎_elim
          (λ (h : (has_block count (level * count + i) v ≡ true) × (n ≡ max o least)). h.1)
          (λ (h : (has_block count (level * count + i) v ≡ false) × (n ≡ o)). absurd (true_false (sym (block_yes count level i v inside a b d) ∙ h.0)))
          r

      stays : (i n o : ℕ) → i < count → (v < i) ⊎ (i + 2 ^ level ≤ v) → RaisesBlock count (level * count + i) least v o n → n ≡ o
      stays i n o inside out r = ⊎_elim
          (λ (h : (has_block count (level * count + i) v ≡ true) × (n ≡ max o least)). absurd (true_false (sym h.0 ∙ block_no count level i v inside out)))
          (λ (h : (has_block count (level * count + i) v ≡ false) × (n ≡ o)). h.1)
          r

      -- where the first raised it, the second changes nothing more
      more : (i n o : ℕ) → RaisesBlock count (level * count + i) least v o n → (n ≡ max o least) ⊎ (n ≡ o)
      more i n o r = ⊎_elim
          (λ (h : (has_block count (level * count + i) v ≡ true) × (n ≡ max o least)). inl h.1)
          (λ (h : (has_block count (level * count + i) v ≡ false) × (n ≡ o)). inr h.1)
          r

      outside : (v < first) ⊎ (first + 2 ^ level ≤ v) → (v < second) ⊎ (second + 2 ^ level ≤ v) → (v < low) ⊎ (high ≤ v) → RaisesIn low high least v old after
      outside out out' all = inr (all, stays second after new in2 out' two ∙ stays first new old in1 out one)

  -- the two greatest blocks that cover a span
  pub spanned : (level low high least v old new after place : ℕ) → low < high → high ≤ count → 2 ^ level ≤ high - low → high - low < 2 * 2 ^ level → place ≡ level * count + (high - 2 ^ level)
      → RaisesBlock count (level * count + low) least v old new → RaisesBlock count place least v new after → RaisesIn low high least v old after
  spanned level low high least v old new after place some most lower upper is one two =
      let size = pow_pos level in
      both level low (high - 2 ^ level) low high least v old new after (omega arith) (omega arith) refl (omega arith) (omega arith) (omega arith) (omega arith) one
      (subst (λ (p : ℕ). RaisesBlock count p least v new after) is two)

  -- a block is handed on to its two halves
  pub halved : (level index v y old new after place other block : ℕ) → index < count → index + 2 ^ suc level ≤ count → place ≡ level * count + index → other ≡ level * count + (index + 2 ^ level) → block ≡ suc level * count + index
      → RaisesBlock count place y v old new → RaisesBlock count other y v new after → max old (cond (has_block count block v) y 0) ≡ after
  halved level index v y old new after place other block inside fits is is' is'' one two =
      let size = pow_pos level in
      let twice : 2 ^ suc level ≡ 2 ^ level + 2 ^ level = two-pow-succ level in
      subst (λ (b : ℕ). max old (cond (has_block count b v) y 0) ≡ after) (sym is'') (⊎_elim
      (λ (h : (index ≤ v) × (v < index + 2 ^ suc level) × (after ≡ max old y)).
      ap (λ (t : Bool). max old (cond t y 0)) (block_yes count (suc level) index v inside h.0 h.1 fits) ∙ sym h.2)
      (λ (h : ((v < index) ⊎ (index + 2 ^ suc level ≤ v)) × (after ≡ old)).
      let none : max old 0 ≡ after = let e : after ≡ old = h.1 in omega arith in
      ap (λ (t : Bool). max old (cond t y 0)) (block_no count (suc level) index v inside h.0) ∙ none)
      (both level index (index + 2 ^ level) index (index + 2 ^ suc level) y v old new after inside (omega arith) refl (omega arith) (omega arith) (omega arith) (omega arith)
      (subst (λ (p : ℕ). RaisesBlock count p y v old new) is one) (subst (λ (p : ℕ). RaisesBlock count p y v new after) is' two)))

  -- a block that ends past the count has no number
  pub hollow : (level index v y old block : ℕ) → index < count → count < index + 2 ^ level → block ≡ level * count + index → max old (cond (has_block count block v) y 0) ≡ old
  hollow level index v y old block inside out is =
      let none : max old 0 ≡ old = omega arith in
      subst (λ (b : ℕ). max old (cond (has_block count b v) y 0) ≡ old) (sym is) (ap (λ (t : Bool). max old (cond t y 0)) (block_none count level index v inside out) ∙ none)

  -- the first k blocks do not see one more at the end
  before_last : (xs : List ℕ) (y v k : ℕ) → k ≤ length xs → shown_of count (xs ++ y ∷ []) v k ≡ shown_of count xs v k
  before_last xs y v zero low = refl
  before_last xs y v (suc k) low =
      ap (λ (x : ℕ). max (shown_of count (xs ++ y ∷ []) v k) (cond (has_block count k v) x 0)) (get_or_append_left xs (y ∷ []) 0 k (omega arith))
      ∙ ap (λ (x : ℕ). max x (cond (has_block count k v) (get_or xs k 0) 0)) (before_last xs y v k (omega arith))

  -- the last block is taken away
  pub with_last : (xs : List ℕ) (y v : ℕ) → shown_at count (xs ++ y ∷ []) v ≡ max (shown_at count xs v) (cond (has_block count (length xs) v) y 0)
  with_last xs y v =
      let size : length (xs ++ y ∷ []) ≡ suc (length xs) = let n = length-append xs (y ∷ []) in omega arith in
      ap (shown_of count (xs ++ y ∷ []) v) size
      ∙ ap (λ (x : ℕ). max (shown_of count (xs ++ y ∷ []) v (length xs)) (cond (has_block count (length xs) v) x 0)) (get_or_push xs y 0 (length xs) refl)
      ∙ ap (λ (x : ℕ). max x (cond (has_block count (length xs) v) y 0)) (before_last xs y v (length xs) (omega arith))

  -- blocks of one number
  pub ones : (xs : List ℕ) (v : ℕ) → length xs ≡ count → v < count → shown_at count xs v ≡ get_or xs v 0
  ones xs v size inside = ap (shown_of count xs v) size ∙ with_v count inside (omega arith)
    where
      itself : (k : ℕ) → k < count → has_block count k v ≡ (leb k v && (ltb v (k + 1) && leb (k + 1) count))
      itself k low =
          ap (λ (i : ℕ). leb i v && (ltb v (i + 2 ^ (k / count)) && leb (i + 2 ^ (k / count)) count)) (mod-eq_of_lt low)
          ∙ ap (λ (l : ℕ). leb k v && (ltb v (k + 2 ^ l) && leb (k + 2 ^ l) count)) (div-eq_of_lt low)

      yes : (k v c : ℕ) → k ≡ v → k < c → (leb k v && (ltb v (k + 1) && leb (k + 1) c)) ≡ true
      yes k v c e low = grind (arith, nat_tests)

      no : (k v c : ℕ) → k ≢ v → (leb k v && (ltb v (k + 1) && leb (k + 1) c)) ≡ false
      no k v c e = ⊎_elim (λ (l : k < v). late k v c l) (λ (l : v ≤ k). early k v c (omega arith)) (cases_lt k v)
        where
          late : (k v c : ℕ) → k < v → (leb k v && (ltb v (k + 1) && leb (k + 1) c)) ≡ false
          late k v c l = grind (arith, nat_tests)

          early : (k v c : ℕ) → v < k → (leb k v && (ltb v (k + 1) && leb (k + 1) c)) ≡ false
          early k v c l = grind (arith, nat_tests)

      without_v : (k : ℕ) → k ≤ v → shown_of count xs v k ≡ 0
      without_v zero low = refl
      without_v (suc k) low =
          let a = adds xs v k false (itself k (omega arith) ∙ no k v count (λ (e : k ≡ v). omega arith)) in
          let rest = without_v k (omega arith) in
          omega arith

      with_v : (k : ℕ) → v < k → k ≤ count → shown_of count xs v k ≡ get_or xs v 0
      with_v zero low high = absurd (omega arith)
      with_v (suc k) low high = ⊎_elim
          (λ (e : k ≡ v).
          let a = adds xs v k true (itself k (omega arith) ∙ yes k v count e (omega arith)) in
          let rest = without_v k (omega arith) in
          let same : get_or xs k 0 ≡ get_or xs v 0 = ap (λ (i : ℕ). get_or xs i 0) e in
          omega arith)
          (λ (e : k ≢ v).
          let a = adds xs v k false (itself k (omega arith) ∙ no k v count e) in
          let rest = with_v k (omega arith) (omega arith) in
          omega arith)
          (cases_eq k v)

  -- blocks that are all 0
  pub zeros : (xs : List ℕ) (v k : ℕ) → ((i : ℕ) → i < k → get_or xs i 0 ≡ 0) → shown_of count xs v k ≡ 0
  zeros xs v zero all = refl
  zeros xs v (suc k) all =
      let rest = zeros xs v k (λ i low. all i (omega arith)) in
      let is = all k (omega arith) in
      let a : shown_of count xs v (suc k) ≡ max (shown_of count xs v k) (cond (has_block count k v) 0 0) = ap (λ (x : ℕ). max (shown_of count xs v k) (cond (has_block count k v) x 0)) is in
      let b : ◌≡◌ {A = ℕ} (cond (has_block count k v) 0 0) 0 = none (has_block count k v) in
      omega arith
    where
      none : (b : Bool) → ◌≡◌ {A = ℕ} (cond b 0 0) 0
      none true = refl
      none false = refl

  -- blocks that were made of one number that is 0
  pub zeros-replicate : {X : Type 0} (f : X → ℕ) (x : X) (n v : ℕ) (xs : List X) → f x ≡ 0 → xs ≡ replicate n x → shown_at count (map f xs) v ≡ 0
  zeros-replicate {X} f x n v xs zero_of is = subst (λ (ys : List X). shown_at count (map f ys) v ≡ 0) (sym is)
      (zeros (map f (replicate n x)) v (length (map f (replicate n x))) (λ i low.
      let size = length-replicate n x in
      let mapped = length-map (replicate n x) f in
      get_or-map f (replicate n x) i x 0 (omega arith) ∙ (ap f (get_or-replicate n i x x (omega arith)) ∙ zero_of)))

  -- enough levels give room
  pub HaveRoom-levels : (levels : ℕ) → count < 2 ^ 32 → ((level : ℕ) → 2 ^ level ≤ count → level < levels) → levels ≤ 32 → HaveRoom count (levels * count)
  HaveRoom-levels levels small enough few = record {
    small = small;
    levels = λ level fits.
        let low = enough level fits in
        let more : (level + 1) * count ≤ levels * count = mul-le-mul_right count (omega arith) in
        let one : (level + 1) * count ≡ level * count + count = grind arith in
        omega arith;
    few = mul-le-mul_right count (omega arith);
  }

-- the room of the blocks of one number
pub first_row : (count places : ℕ) → HaveRoom count places → count ≤ places
first_row count places room = ⊎_elim
    (λ (l : 0 < count). let least = room.levels 0 (omega arith) in let e : 0 * count ≡ 0 = omega arith in omega arith)
    (λ (l : count ≤ 0). omega arith)
    (cases_lt 0 count)

-- a power of 2 that is not above a number is below the next one after it
pub level_below : (level top n : ℕ) → 2 ^ level ≤ n → n < 2 * 2 ^ top → level < top + 1
level_below level top n low high = ⊎_elim
    (λ (l : level < top + 1). l)
    (λ (l : top + 1 ≤ level).
    let more : 2 ^ (top + 1) ≤ 2 ^ level = pow_mono l in
    let twice : 2 ^ (top + 1) ≡ 2 ^ top * 2 = pow_more 2 top in
    absurd (omega arith))
    (cases_lt level (top + 1))

-- a power of 2 that is not above a number below 2 ^ 32
pub level_small : (top n : ℕ) → 2 ^ top ≤ n → n < 2 ^ 32 → top < 32
level_small top n low high = ⊎_elim
    (λ (l : top < 32). l)
    (λ (l : 32 ≤ top). let more : 2 ^ 32 ≤ 2 ^ top = pow_mono l in absurd (omega arith))
    (cases_lt top 32)

-- the level and the index of the block that comes next after so many
pub record IsNext (count size level index : ℕ) : Type 0 where
  pub some : 0 < count
  pub first : 1 ≤ level
  pub few : level < 64
  pub inside : index < count
  pub whole : size ≡ level * count + index

pub next_is : (count size : ℕ) → count ≤ size → size < 64 * count → IsNext count size (size / count) (size % count)
next_is count size low high =
    let some : 0 < count = omega arith in
    record {
      some = some;
      first = le-div 1 size count some (omega arith);
      few = div_below size count 64 some high;
      inside = mod_below size count some;
      whole = sym (div-add-mod' size count);
    }

-- half of the block's size fits
pub half_is : (level : ℕ) → level < 64 → 1 * 2 ^ (level - 1) % 18446744073709551616 ≡ 2 ^ (level - 1)
half_is level few = one_shl (level - 1) 64 (omega arith)

pub half_fits : (level : ℕ) → level < 64 → 1 ≤ level → 2 ^ (level - 1) ≤ 4611686018427387904
half_fits level few first = let low : level - 1 ≤ 62 = omega arith in pow_mono low

module _ (count size level index v y old : ℕ) (is : IsNext count size level index) where
  abbrev below : ℕ
  below = level - 1

  up : suc below ≡ level
  up = let first = is.first in omega arith

  block : size ≡ suc below * count + index
  block = is.whole ∙ ap (λ (k : ℕ). k * count + index) (sym up)

  twice : 2 ^ suc below ≡ 2 ^ below + 2 ^ below
  twice = two-pow-succ below

  pub handed : (new after other : ℕ) → index + 2 * 2 ^ (level - 1) ≤ count → other ≡ (level - 1) * count + index + 2 ^ (level - 1)
      → RaisesBlock count ((level - 1) * count + index) y v old new → RaisesBlock count other y v new after → after ≡ max old (cond (has_block count size v) y 0)
  handed new after other fits is' one two =
      let double = twice in
      sym (halved count below index v y old new after (below * count + index) other size is.inside (omega arith) refl (omega arith) block one two)

  pub kept : count < index + 2 * 2 ^ (level - 1) → old ≡ max old (cond (has_block count size v) y 0)
  kept out =
      let double = twice in
      sym (hollow count (suc below) index v y old size is.inside (omega arith) block)

-- the numbers stay where the last block is handed on
pub handed_on : {X : Type 0} (count : ℕ) (f : X → ℕ) (old popped held new : List X) (number : X) (v : ℕ) → held ≡ popped → old ≡ popped ++ number ∷ []
    → shown_at count (map f new) v ≡ max (shown_at count (map f held) v) (cond (has_block count (length held) v) (f number) 0) → shown_at count (map f new) v ≡ shown_at count (map f old) v
handed_on {X} count f old popped held new number v same is gives =
    subst (λ (ys : List X). shown_at count (map f new) v ≡ max (shown_at count (map f ys) v) (cond (has_block count (length ys) v) (f number) 0)) same gives
    ∙ (ap (λ (n : ℕ). max (shown_at count (map f popped) v) (cond (has_block count n v) (f number) 0)) (sym (length-map popped f))
    ∙ (sym (with_last count (map f popped) (f number) v)
    ∙ ap (λ (ys : List ℕ). shown_at count ys v) (sym (map_push f popped number) ∙ ap (map f) (sym is))))
