-- The marks of rows, looked up by the two elements of a pair.
use Rattle.std.proofs.Common.{◌≡◌, ℕ, List, [], ◌∷◌, ◌++◌, length, get_or, map, Bool, true, refl, ap, ◌∙◌, subst, ⊎_elim, inl, inr, arith, Ordering}
use Rattle.std.specs.Prelude.{Contains}
use Rattle.std.specs.List.{list_all}
use Rattle.std.specs.declared.cmp.Ordering.TheVariants.{Less, Equal, Greater}
use Rattle.std.proofs.lemmas.Bool.{and_parts}
use Rattle.std.proofs.lemmas.Cmp.{tied_itself}
use Rattle.std.proofs.lemmas.List.Elements.{Contains-get_or, Contains-push_cases}
use Rattle.std.proofs.lemmas.List.Quantifiers.{all_pairs_push}
use Rattle.digest_facts.specs.Digests.{Rises, TellsApart}
use Rattle.digest_facts.specs.Tables.{rows_from}
use Rattle.digest_facts.proofs.TableLemmas.{StandsBefore}
use Rattle.digest_facts.proofs.UnionLemmas.{cons_here, cons_there, head_before, pairs_tail}
use Rattle.digest_laws.proofs.AcceptedLemmas.{keys}

-- the one of two by how elements compare
abbrev pub pick : Ordering → ℕ → ℕ → ℕ
pick Less mark rest = rest
pick Equal mark rest = mark
pick Greater mark rest = rest

pick_mark : (is_mark : ℕ → Bool) (c : Ordering) (mark rest : ℕ) → is_mark mark ≡ true → is_mark rest ≡ true → is_mark (pick c mark rest) ≡ true
pick_mark is_mark Less mark rest h k = k
pick_mark is_mark Equal mark rest h k = h
pick_mark is_mark Greater mark rest h k = k

-- each row has one mark for each element before it
abbrev pub HasLengths : {X : Type 0} → List X → List (X × List ℕ) → Type 0
HasLengths earlier [] = Unit {0}
HasLengths earlier (row ∷ rows) = (length row.1 ≡ length earlier) × HasLengths (earlier ++ row.0 ∷ []) rows

-- each mark of each row passes
abbrev pub HasMarks : {X : Type 0} → (ℕ → Bool) → List (X × List ℕ) → Type 0
HasMarks is_mark [] = Unit {0}
HasMarks is_mark (row ∷ rows) = (list_all is_mark row.1 ≡ true) × HasMarks is_mark rows

-- maps that agree on the elements of a list
map_agrees : {X Y : Type 0} (f g : X → Y) (xs : List X) → ((x : X) → Contains xs x → f x ≡ g x) → map f xs ≡ map g xs
map_agrees f g [] h = refl
map_agrees {X} {Y} f g (x ∷ xs) h =
    let head : f x ≡ g x = h x (cons_here x xs) in
    let tail : map f xs ≡ map g xs = map_agrees f g xs (λ y c. h y (cons_there x xs y c)) in
    λ i. head i ∷ tail i

module _ {X : Type 0} (cmp : X → X → Ordering) (o : TellsApart cmp) where
  -- the mark of an element among those before; `.` where it is none of them
  abbrev pub find : List X → List ℕ → X → ℕ
  find [] marks a = 46
  find (e ∷ es) [] a = 46
  find (e ∷ es) (m ∷ ms) a = pick (cmp e a) m (find es ms a)

  -- the mark of the first element in the row of the second
  abbrev pub look : List X → List (X × List ℕ) → X → X → ℕ
  look earlier [] a b = 46
  look earlier (row ∷ rows) a b = pick (cmp row.0 b) (find earlier row.1 a) (look (earlier ++ row.0 ∷ []) rows a b)

  pick_less : (c : Ordering) (mark rest : ℕ) → c ≡ Less → pick c mark rest ≡ rest
  pick_less c mark rest e = ap (λ (d : Ordering). pick d mark rest) e

  pick_equal : (c : Ordering) (mark rest : ℕ) → c ≡ Equal → pick c mark rest ≡ mark
  pick_equal c mark rest e = ap (λ (d : Ordering). pick d mark rest) e

  -- each element before has its own mark
  find_all : (es : List X) (ms : List ℕ) → Rises cmp es → length ms ≡ length es → map (λ a. find es ms a) es ≡ ms
  find_all [] [] up long = refl
  find_all [] (m ∷ ms) up long = absurd (omega (arith, long))
  find_all (e ∷ es) [] up long = absurd (omega (arith, long))
  find_all (e ∷ es) (m ∷ ms) up long =
      let head : find (e ∷ es) (m ∷ ms) e ≡ m = pick_equal (cmp e e) m (find es ms e) (tied_itself o.total e) in
      let same : map (λ a. find (e ∷ es) (m ∷ ms) a) es ≡ map (λ a. find es ms a) es = map_agrees (λ a. find (e ∷ es) (m ∷ ms) a) (λ a. find es ms a) es
      (λ x c. pick_less (cmp e x) m (find es ms x) (head_before (λ (a b : X). cmp a b ≡ Less) e es x up c)) in
      let tail : map (λ a. find (e ∷ es) (m ∷ ms) a) es ≡ ms = same ∙ find_all es ms (pairs_tail (λ (a b : X). cmp a b ≡ Less) e es up) (omega (arith, long)) in
      λ i. head i ∷ tail i

  -- an element that is none of those before has no mark
  find_none : (es : List X) (ms : List ℕ) (a : X) → ((y : X) → Contains es y → cmp y a ≡ Equal → ⊥) → find es ms a ≡ 46
  find_none [] ms a none = refl
  find_none (e ∷ es) [] a none = refl
  find_none (e ∷ es) (m ∷ ms) a none = by (cmp e a) (find es ms a) refl (find_none es ms a (λ y c. none y (cons_there e es y c)))
    where
      by : (c : Ordering) (rest : ℕ) → cmp e a ≡ c → rest ≡ 46 → pick c m rest ≡ 46
      by Less rest q r = r
      by Equal rest q r = absurd (none e (cons_here e es) q)
      by Greater rest q r = r

  find_mark : (is_mark : ℕ → Bool) → is_mark 46 ≡ true → (es : List X) (ms : List ℕ) (a : X) → list_all is_mark ms ≡ true → is_mark (find es ms a) ≡ true
  find_mark is_mark none [] ms a h = none
  find_mark is_mark none (e ∷ es) [] a h = none
  find_mark is_mark none (e ∷ es) (m ∷ ms) a h =
      let p = and_parts (is_mark m) (list_all is_mark ms) h in
      pick_mark is_mark (cmp e a) m (find es ms a) p.0 (find_mark is_mark none es ms a p.1)

  pub look_mark : (is_mark : ℕ → Bool) → is_mark 46 ≡ true → (earlier : List X) (rows : List (X × List ℕ)) (a b : X) → HasMarks is_mark rows → is_mark (look earlier rows a b) ≡ true
  look_mark is_mark none earlier [] a b h = none
  look_mark is_mark none earlier (row ∷ rows) a b h = pick_mark is_mark (cmp row.0 b) (find earlier row.1 a) (look (earlier ++ row.0 ∷ []) rows a b) (find_mark is_mark none earlier row.1 a h.0) (look_mark is_mark none (earlier ++ row.0 ∷ []) rows a b h.1)

  -- the elements before are all less than those of the rows
  abbrev pub AreBelow : List X → List X → Type 0
  AreBelow earlier xs = (y x : X) → Contains earlier y → Contains xs x → cmp y x ≡ Less

  pub below_next : (earlier : List X) (x : X) (xs : List X) → Rises cmp (x ∷ xs) → AreBelow earlier (x ∷ xs) → AreBelow (earlier ++ x ∷ []) xs
  below_next earlier x xs up below y z c d = ⊎_elim
      (λ (k : Contains earlier y). below y z k (cons_there x xs z d))
      (λ (k : x ≡ y). subst (λ (v : X). cmp v z ≡ Less) k (head_before (λ (a b : X). cmp a b ≡ Less) x xs z up d))
      (Contains-push_cases earlier x y c)

  -- an element that does not come before another has no mark in its row
  pub look_none : (earlier : List X) (rows : List (X × List ℕ)) (a b : X) → Rises cmp (keys rows) → AreBelow earlier (keys rows) → (cmp a b ≡ Less → ⊥) → look earlier rows a b ≡ 46
  look_none earlier [] a b up below not_less = refl
  look_none earlier (row ∷ rows) a b up below not_less =
      by (cmp row.0 b) (look (earlier ++ row.0 ∷ []) rows a b) refl (look_none (earlier ++ row.0 ∷ []) rows a b (pairs_tail (λ (x y : X). cmp x y ≡ Less) row.0 (keys rows) up) (below_next earlier row.0 (keys rows) up below) not_less)
    where
      by : (c : Ordering) (rest : ℕ) → cmp row.0 b ≡ c → rest ≡ 46 → pick c (find earlier row.1 a) rest ≡ 46
      by Less rest q r = r
      by Equal rest q r = find_none earlier row.1 a (λ y c e.
          let here : row.0 ≡ b = o.one row.0 b q in
          let there : y ≡ a = o.one y a e in
          let less : cmp y row.0 ≡ Less = below y row.0 c (cons_here row.0 (keys rows)) in
          not_less (subst (λ (v : X). cmp a v ≡ Less) here (subst (λ (v : X). cmp v row.0 ≡ Less) there less)))
      by Greater rest q r = r

  rises_push : (xs : List X) (x : X) → Rises cmp xs → ((y : X) → Contains xs y → cmp y x ≡ Less) → Rises cmp (xs ++ x ∷ [])
  rises_push xs x up above = all_pairs_push (λ (a b : X). cmp a b ≡ Less) xs x up (λ k d lt. above (get_or xs k d) (Contains-get_or xs k d lt))

  -- rows are those of their elements, with the marks that are looked up
  pub rows_looked : (f : X → X → ℕ) (earlier : List X) (rows : List (X × List ℕ)) → ((a x : X) → Contains (keys rows) x → f a x ≡ look earlier rows a x) → HasLengths earlier rows → Rises cmp earlier → Rises cmp (keys rows) → AreBelow earlier (keys rows) → rows_from f earlier (keys rows) ≡ rows
  rows_looked f earlier [] each long before up below = refl
  rows_looked f earlier (row ∷ rows) each long before up below =
      let seen : map (λ a. f a row.0) earlier ≡ map (λ a. find earlier row.1 a) earlier = map_agrees (λ a. f a row.0) (λ a. find earlier row.1 a) earlier
      (λ a c. each a row.0 (cons_here row.0 (keys rows)) ∙ pick_equal (cmp row.0 row.0) (find earlier row.1 a) (look (earlier ++ row.0 ∷ []) rows a row.0) (tied_itself o.total row.0)) in
      let marks : map (λ a. f a row.0) earlier ≡ row.1 = seen ∙ find_all earlier row.1 before long.0 in
      let rest : rows_from f (earlier ++ row.0 ∷ []) (keys rows) ≡ rows = rows_looked f (earlier ++ row.0 ∷ []) rows
      (λ a z c. each a z (cons_there row.0 (keys rows) z c) ∙ pick_less (cmp row.0 z) (find earlier row.1 a) (look (earlier ++ row.0 ∷ []) rows a z) (head_before (λ (u v : X). cmp u v ≡ Less) row.0 (keys rows) z up c))
      long.1 (rises_push earlier row.0 before (λ y c. below y row.0 c (cons_here row.0 (keys rows))))
      (pairs_tail (λ (u v : X). cmp u v ≡ Less) row.0 (keys rows) up) (below_next earlier row.0 (keys rows) up below) in
      λ i. (row.0, marks i) ∷ rest i

  -- rows whose marks agree on each pair in order
  pub rows_agree : (f g : X → X → ℕ) (earlier xs : List X) → ((a b : X) → Contains earlier a → Contains xs b → f a b ≡ g a b) → ((a b : X) → StandsBefore a b xs → f a b ≡ g a b) → rows_from f earlier xs ≡ rows_from g earlier xs
  rows_agree f g earlier [] behind within = refl
  rows_agree f g earlier (x ∷ xs) behind within =
      let marks : map (λ a. f a x) earlier ≡ map (λ a. g a x) earlier = map_agrees (λ a. f a x) (λ a. g a x) earlier (λ a c. behind a x c (cons_here x xs)) in
      let rest : rows_from f (earlier ++ x ∷ []) xs ≡ rows_from g (earlier ++ x ∷ []) xs = rows_agree f g (earlier ++ x ∷ []) xs
      (λ a b c d. ⊎_elim
      (λ (k : Contains earlier a). behind a b k (cons_there x xs b d))
      (λ (k : x ≡ a). within a b (inl (k, d)))
      (Contains-push_cases earlier x a c))
      (λ a b h. within a b (inr h)) in
      λ i. (x, marks i) ∷ rest i

  -- of a rising list an element that stands before another is less
  pub stands_less : (xs : List X) (a b : X) → Rises cmp xs → StandsBefore a b xs → (cmp a b ≡ Less) × Contains xs a × Contains xs b
  stands_less [] a b up h = absurd h
  stands_less (x ∷ xs) a b up h = ⊎_elim
      (λ (q : (x ≡ a) × Contains xs b). (
        subst (λ (v : X). cmp v b ≡ Less) q.0 (head_before (λ (u v : X). cmp u v ≡ Less) x xs b up q.1),
        subst (λ (v : X). Contains (x ∷ xs) v) q.0 (cons_here x xs),
        cons_there x xs b q.1,
      ))
      (λ (q : StandsBefore a b xs).
      let r = stands_less xs a b (pairs_tail (λ (u v : X). cmp u v ≡ Less) x xs up) q in
      (r.0, cons_there x xs a r.1, cons_there x xs b r.2))
      h
