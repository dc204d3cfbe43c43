-- A table tells its digest.
use Rattle.std.proofs.Common.{◌≡◌, ◌≢◌, ◌⊎◌, ℕ, suc, ◌-◌, ◌/◌, ◌%◌, ◌==◌, not, Bool, true, false, true≢false, List, [], ◌∷◌, ◌++◌, length, map, get_or, drop, refl, sym, ap, ◌∙◌, subst, ⊎_elim, inl, inr, arith, Ordering}
use Rattle.std.specs.declared.cmp.Ordering.TheVariants.{Less, Equal, Greater}
use Rattle.std.specs.List.{Contains}
use Rattle.std.proofs.lemmas.Cmp.{tied_itself}
use Rattle.std.proofs.lemmas.List.Elements.{Contains-append_left, Contains-push}
use Rattle.trace_types.specs.NameOrder.{pair_cmp}
use Rattle.digest_facts.specs.Coherence.{AreAmong, ArePairsOf, IsCoherent}
use Rattle.digest_facts.specs.Digests.{Digest, TellsApart}
use Rattle.digest_facts.specs.Tables.{Table, TablesTellApart, has, name_byte, pair_byte, rows_from, seen, task_byte}
use Rattle.digest_facts.proofs.MergeLemmas.{one_rising, pair_apart, same_digest}
use Rattle.digest_facts.proofs.UnionLemmas.{cons_cases, cons_here, cons_there, nil_has}

-- ---- whether a list has an element
module _ {X : Type 0} (cmp : X → X → Ordering) (o : TellsApart cmp) where
  seen_cases : (c : Ordering) (rest : Bool) → seen c rest ≡ true → (c ≡ Equal) ⊎ (rest ≡ true)
  seen_cases Less rest e = inr e
  seen_cases Equal rest e = inl refl
  seen_cases Greater rest e = inr e

  seen_here : (c : Ordering) (rest : Bool) → c ≡ Equal → seen c rest ≡ true
  seen_here c rest e = ap (λ (d : Ordering). seen d rest) e

  seen_rest : (c : Ordering) (rest : Bool) → rest ≡ true → seen c rest ≡ true
  seen_rest Less rest e = e
  seen_rest Equal rest e = refl
  seen_rest Greater rest e = e

  pub has_to : (xs : List X) (x : X) → has cmp xs x ≡ true → Contains xs x
  has_to [] x e = absurd (true≢false (sym e))
  has_to (y ∷ ys) x e = ⊎_elim
      (λ (q : cmp y x ≡ Equal). subst (λ (v : X). Contains (y ∷ ys) v) (o.one y x q) (cons_here y ys))
      (λ (q : has cmp ys x ≡ true). cons_there y ys x (has_to ys x q))
      (seen_cases (cmp y x) (has cmp ys x) e)

  pub has_from : (xs : List X) (x : X) → Contains xs x → has cmp xs x ≡ true
  has_from [] x c = absurd (nil_has x c)
  has_from (y ∷ ys) x c = ⊎_elim
      (λ (q : y ≡ x). seen_here (cmp y x) (has cmp ys x) (subst (λ (v : X). cmp y v ≡ Equal) q (tied_itself o.total y)))
      (λ (q : Contains ys x). seen_rest (cmp y x) (has cmp ys x) (has_from ys x q))
      (cons_cases y ys x c)

-- ---- what a byte tells
abbrev together_in : ℕ → Bool
together_in byte = not (byte == 46)

abbrev first_in : ℕ → Bool
first_in byte = (byte - 48) % 2 == 1

abbrev second_in : ℕ → Bool
second_in byte = (byte - 48) / 2 % 2 == 1

abbrev third_in : ℕ → Bool
third_in byte = (byte - 48) / 4 == 1

together_told : (t b a e : Bool) → together_in (pair_byte t b a e) ≡ t
together_told false b a e = refl
together_told true false false false = refl
together_told true false false true = refl
together_told true false true false = refl
together_told true false true true = refl
together_told true true false false = refl
together_told true true false true = refl
together_told true true true false = refl
together_told true true true true = refl

first_told : (b a e : Bool) → first_in (pair_byte true b a e) ≡ b
first_told false false false = refl
first_told false false true = refl
first_told false true false = refl
first_told false true true = refl
first_told true false false = refl
first_told true false true = refl
first_told true true false = refl
first_told true true true = refl

second_told : (b a e : Bool) → second_in (pair_byte true b a e) ≡ a
second_told false false false = refl
second_told false false true = refl
second_told false true false = refl
second_told false true true = refl
second_told true false false = refl
second_told true false true = refl
second_told true true false = refl
second_told true true true = refl

third_told : (b a e : Bool) → third_in (pair_byte true b a e) ≡ e
third_told false false false = refl
third_told false false true = refl
third_told false true false = refl
third_told false true true = refl
third_told true false false = refl
third_told true false true = refl
third_told true true false = refl
third_told true true true = refl

-- two bytes that are one tell the same
pub record TellSame (t b a e t' b' a' e' : Bool) : Type 0 where
  pub together : t ≡ t'
  pub first : t ≡ true → b ≡ b'
  pub second : t ≡ true → a ≡ a'
  pub third : t ≡ true → e ≡ e'

pub byte_tells : (t b a e t' b' a' e' : Bool) → pair_byte t b a e ≡ pair_byte t' b' a' e' → TellSame t b a e t' b' a' e'
byte_tells t b a e t' b' a' e' same =
    let one : t ≡ t' = sym (together_told t b a e) ∙ ap together_in same ∙ together_told t' b' a' e' in
    let true_same : t ≡ true → pair_byte true b a e ≡ pair_byte true b' a' e' = λ h.
    let h' : t' ≡ true = sym one ∙ h in
    sym (ap (λ (v : Bool). pair_byte v b a e) h) ∙ same ∙ ap (λ (v : Bool). pair_byte v b' a' e') h' in
    record {
      together = one;
      first = λ h. sym (first_told b a e) ∙ ap first_in (true_same h) ∙ first_told b' a' e';
      second = λ h. sym (second_told b a e) ∙ ap second_in (true_same h) ∙ second_told b' a' e';
      third = λ h. sym (third_told b a e) ∙ ap third_in (true_same h) ∙ third_told b' a' e';
    }

-- ---- rows
-- the one stands before the other
abbrev pub StandsBefore : {X : Type 0} → X → X → List X → Type 0
StandsBefore a b [] = ⊥
StandsBefore a b (x ∷ xs) = ((x ≡ a) × Contains xs b) ⊎ StandsBefore a b xs

pub one_before : {X : Type 0} (xs : List X) (a b : X) → a ≢ b → Contains xs a → Contains xs b → StandsBefore a b xs ⊎ StandsBefore b a xs
one_before [] a b differ c d = absurd (nil_has a c)
one_before {X} (x ∷ xs) a b differ c d = ⊎_elim
    (λ (e : x ≡ a). ⊎_elim
    (λ (f : x ≡ b). absurd (differ (sym e ∙ f)))
    (λ (g : Contains xs b). inl (inl (e, g)))
    (cons_cases x xs b d))
    (λ (h : Contains xs a). ⊎_elim
    (λ (f : x ≡ b). inr (inl (f, h)))
    (λ (g : Contains xs b). ⊎_elim (λ (l : StandsBefore a b xs). inl (inr l)) (λ (r : StandsBefore b a xs). inr (inr r)) (one_before xs a b differ h g))
    (cons_cases x xs b d))
    (cons_cases x xs a c)

-- lists that are one have one first element and one rest
pub first_same : {X : Type 0} (x y : X) (xs ys : List X) → x ∷ xs ≡ y ∷ ys → x ≡ y
first_same {X} x y xs ys e = ap (λ (l : List X). get_or l 0 x) e

pub rest_same : {X : Type 0} (x y : X) (xs ys : List X) → x ∷ xs ≡ y ∷ ys → xs ≡ ys
rest_same {X} x y xs ys e = ap (λ (l : List X). drop 1 l) e

-- maps that are one agree on each element
map_same : {X Y : Type 0} (f g : X → Y) (xs : List X) (x : X) → map f xs ≡ map g xs → Contains xs x → f x ≡ g x
map_same f g [] x e c = absurd (nil_has x c)
map_same {X} {Y} f g (z ∷ xs) x e c = ⊎_elim
    (λ (q : z ≡ x). sym (ap f q) ∙ first_same (f z) (g z) (map f xs) (map g xs) e ∙ ap g q)
    (λ (q : Contains xs x). map_same f g xs x (rest_same (f z) (g z) (map f xs) (map g xs) e) q)
    (cons_cases z xs x c)

-- what rows that are one tell
pub record TellRows {X : Type 0} (f g : X → X → ℕ) (earlier xs ys : List X) : Type 0 where
  pub listed : xs ≡ ys
  pub behind : (a b : X) → Contains earlier a → Contains xs b → f a b ≡ g a b
  pub within : (a b : X) → StandsBefore a b xs → f a b ≡ g a b

pub rows_tell : {X : Type 0} (f g : X → X → ℕ) (earlier xs ys : List X) → rows_from f earlier xs ≡ rows_from g earlier ys → TellRows f g earlier xs ys
rows_tell f g earlier [] [] e = record { listed = refl; behind = λ a b c d. absurd (nil_has b d); within = λ a b h. absurd h }
rows_tell f g earlier [] (y ∷ ys) e =
    let n : 0 ≡ suc (length (rows_from g (earlier ++ y ∷ []) ys)) = ap length e in
    absurd (omega arith)
rows_tell f g earlier (x ∷ xs) [] e =
    let n : suc (length (rows_from f (earlier ++ x ∷ []) xs)) ≡ 0 = ap length e in
    absurd (omega arith)
rows_tell {X} f g earlier (x ∷ xs) (y ∷ ys) e =
    let row : (x, map (λ a. f a x) earlier) ≡ (y, map (λ a. g a y) earlier) = first_same (x, map (λ a. f a x) earlier) (y, map (λ a. g a y) earlier) (rows_from f (earlier ++ x ∷ []) xs) (rows_from g (earlier ++ y ∷ []) ys) e in
    let head : x ≡ y = ap (λ (r : X × List ℕ). r.0) row in
    let bytes : map (λ a. f a x) earlier ≡ map (λ a. g a x) earlier = ap (λ (r : X × List ℕ). r.1) row ∙ ap (λ (v : X). map (λ a. g a v) earlier) (sym head) in
    let more : rows_from f (earlier ++ x ∷ []) xs ≡ rows_from g (earlier ++ x ∷ []) ys = rest_same (x, map (λ a. f a x) earlier) (y, map (λ a. g a y) earlier) (rows_from f (earlier ++ x ∷ []) xs) (rows_from g (earlier ++ y ∷ []) ys) e ∙ ap (λ (v : X). rows_from g (earlier ++ v ∷ []) ys) (sym head) in
    let tail = rows_tell f g (earlier ++ x ∷ []) xs ys more in
    record {
      listed = ap (λ (v : X). v ∷ xs) head ∙ ap (λ (l : List X). y ∷ l) tail.listed;
      behind = λ a b c d. ⊎_elim
          (λ (q : x ≡ b). subst (λ (v : X). f a v ≡ g a v) q (map_same (λ z. f z x) (λ z. g z x) earlier a bytes c))
          (λ (q : Contains xs b). tail.behind a b (Contains-append_left earlier (x ∷ []) a c) q)
          (cons_cases x xs b d);
      within = λ a b h. ⊎_elim
          (λ (q : (x ≡ a) × Contains xs b). tail.behind a b (subst (λ (v : X). Contains (earlier ++ x ∷ []) v) q.0 (Contains-push earlier x)) q.1)
          (λ (q : StandsBefore a b xs). tail.within a b q)
          h;
    }

-- ---- pairs whose bytes are one
module _ {X : Type 0} (cmp : X → X → Ordering) (o : TellsApart cmp) where
  there : (xs ys : List (X × X)) (x : X × X) → has (pair_cmp cmp) xs x ≡ has (pair_cmp cmp) ys x → Contains xs x → Contains ys x
  there xs ys x e c = has_to (pair_cmp cmp) (pair_apart cmp o) ys x (sym e ∙ has_from (pair_cmp cmp) (pair_apart cmp o) xs x c)

  -- the byte of a pair by three lists, or the third by a test
  abbrev pub byte_by : List (X × X) → List (X × X) → (X → X → Bool) → X → X → ℕ
  byte_by ts bs e a b = pair_byte (has (pair_cmp cmp) ts (a, b)) (has (pair_cmp cmp) bs (a, b)) (has (pair_cmp cmp) bs (b, a)) (e a b)

  module _ (listed : List X) (ts us bs cs : List (X × X)) (e f : X → X → Bool) (pt : ArePairsOf listed ts) (same : (a b : X) → StandsBefore a b listed → byte_by ts bs e a b ≡ byte_by us cs f a b) where
    tells : (a b : X) → StandsBefore a b listed → TellSame (has (pair_cmp cmp) ts (a, b)) (has (pair_cmp cmp) bs (a, b)) (has (pair_cmp cmp) bs (b, a)) (e a b) (has (pair_cmp cmp) us (a, b)) (has (pair_cmp cmp) cs (a, b)) (has (pair_cmp cmp) cs (b, a)) (f a b)
    tells a b h = byte_tells (has (pair_cmp cmp) ts (a, b)) (has (pair_cmp cmp) bs (a, b)) (has (pair_cmp cmp) bs (b, a)) (e a b) (has (pair_cmp cmp) us (a, b)) (has (pair_cmp cmp) cs (a, b)) (has (pair_cmp cmp) cs (b, a)) (f a b) (same a b h)

    order_of : (a b : X) → Contains ts (a, b) → StandsBefore a b listed ⊎ StandsBefore b a listed
    order_of a b c = one_before listed a b (pt.differ a b c) (pt.first a b c) (pt.second a b c)

    is_there : (xs : List (X × X)) (x : X × X) → Contains xs x → has (pair_cmp cmp) xs x ≡ true
    is_there xs x c = has_from (pair_cmp cmp) (pair_apart cmp o) xs x c

    pub first_to : ((a b : X) → Contains us (a, b) → Contains us (b, a)) → (a b : X) → Contains ts (a, b) → Contains us (a, b)
    first_to turn a b c = ⊎_elim
        (λ (h : StandsBefore a b listed). there ts us (a, b) (tells a b h).together c)
        (λ (h : StandsBefore b a listed). turn b a (there ts us (b, a) (tells b a h).together (pt.turned a b c)))
        (order_of a b c)

    pub second_to : AreAmong bs ts → (a b : X) → Contains bs (a, b) → Contains cs (a, b)
    second_to among a b d =
        let c = among a b d in
        ⊎_elim
        (λ (h : StandsBefore a b listed). there bs cs (a, b) ((tells a b h).first (is_there ts (a, b) c)) d)
        (λ (h : StandsBefore b a listed). there bs cs (a, b) ((tells b a h).second (is_there ts (b, a) (pt.turned a b c))) d)
        (order_of a b c)

    pub third_to : (a b : X) → Contains ts (a, b) → e a b ≡ true → e b a ≡ true → (f b a ≡ true → f a b ≡ true) → f a b ≡ true
    third_to a b c x y turn = ⊎_elim
        (λ (h : StandsBefore a b listed). sym ((tells a b h).third (is_there ts (a, b) c)) ∙ x)
        (λ (h : StandsBefore b a listed). turn (sym ((tells b a h).third (is_there ts (b, a) (pt.turned a b c))) ∙ y))
        (order_of a b c)

-- one digest's facts are another's
module _ {N T : Type 0} (by_name : N → N → Ordering) (by_task : T → T → Ordering) (n : TellsApart by_name) (k : TellsApart by_task) (s t : Digest N T) (hs : IsCoherent by_name by_task s) (ht : IsCoherent by_name by_task t)
    (names : (a b : N) → StandsBefore a b s.names → name_byte by_name by_task s a b ≡ name_byte by_name by_task t a b) (tasks : (a b : T) → StandsBefore a b s.tasks → task_byte by_name by_task s a b ≡ task_byte by_name by_task t a b) where
  pub together_to : (x : N × N) → Contains s.together x → Contains t.together x
  together_to x c = first_to by_name n s.names s.together t.together s.before t.before (λ a b. has (pair_cmp by_name) s.exclusive (a, b)) (λ a b. has (pair_cmp by_name) t.exclusive (a, b)) hs.together names ht.together.turned x.0 x.1 c

  pub before_to : (x : N × N) → Contains s.before x → Contains t.before x
  before_to x c = second_to by_name n s.names s.together t.together s.before t.before (λ a b. has (pair_cmp by_name) s.exclusive (a, b)) (λ a b. has (pair_cmp by_name) t.exclusive (a, b)) hs.together names hs.before x.0 x.1 c

  pub exclusive_to : (x : N × N) → Contains s.exclusive x → Contains t.exclusive x
  exclusive_to x c =
      has_to (pair_cmp by_name) (pair_apart by_name n) t.exclusive x (third_to by_name n s.names s.together t.together s.before t.before (λ a b. has (pair_cmp by_name) s.exclusive (a, b)) (λ a b. has (pair_cmp by_name) t.exclusive (a, b)) hs.together names x.0 x.1
      (hs.before x.0 x.1 (hs.exclusive x.0 x.1 c))
      (has_from (pair_cmp by_name) (pair_apart by_name n) s.exclusive (x.0, x.1) c)
      (has_from (pair_cmp by_name) (pair_apart by_name n) s.exclusive (x.1, x.0) (hs.turned x.0 x.1 c))
      (λ h. has_from (pair_cmp by_name) (pair_apart by_name n) t.exclusive (x.0, x.1) (ht.turned x.1 x.0 (has_to (pair_cmp by_name) (pair_apart by_name n) t.exclusive (x.1, x.0) h))))

  pub shared_to : (x : T × T) → Contains s.shared x → Contains t.shared x
  shared_to x c = first_to by_task k s.tasks s.shared t.shared s.pipe t.pipe (λ a b. false) (λ a b. false) hs.shared tasks ht.shared.turned x.0 x.1 c

  pub pipe_to : (x : T × T) → Contains s.pipe x → Contains t.pipe x
  pipe_to x c = second_to by_task k s.tasks s.shared t.shared s.pipe t.pipe (λ a b. false) (λ a b. false) hs.shared tasks hs.pipe x.0 x.1 c

pub tables_tell_apart : {N T : Type 0} (by_name : N → N → Ordering) (by_task : T → T → Ordering) → TellsApart by_name → TellsApart by_task → TablesTellApart by_name by_task
tables_tell_apart {N} {T} by_name by_task n k s t hs ht e =
    let ns : rows_from (name_byte by_name by_task s) [] s.names ≡ rows_from (name_byte by_name by_task t) [] t.names = ap (λ (u : Table N T). u.names) e in
    let ts : rows_from (task_byte by_name by_task s) [] s.tasks ≡ rows_from (task_byte by_name by_task t) [] t.tasks = ap (λ (u : Table N T). u.tasks) e in
    let a = rows_tell (name_byte by_name by_task s) (name_byte by_name by_task t) [] s.names t.names ns in
    let b = rows_tell (task_byte by_name by_task s) (task_byte by_name by_task t) [] s.tasks t.tasks ts in
    let c = rows_tell (name_byte by_name by_task t) (name_byte by_name by_task s) [] t.names s.names (sym ns) in
    let d = rows_tell (task_byte by_name by_task t) (task_byte by_name by_task s) [] t.tasks s.tasks (sym ts) in
    same_digest s t
    (ap (λ (u : Table N T). u.traces) e)
    (ap (λ (u : Table N T). u.days) e)
    a.listed
    b.listed
    (one_rising (pair_cmp by_name) (pair_apart by_name n) s.together t.together hs.form.together ht.form.together (λ x. (together_to by_name by_task n k s t hs ht a.within b.within x, together_to by_name by_task n k t s ht hs c.within d.within x)))
    (one_rising (pair_cmp by_name) (pair_apart by_name n) s.before t.before hs.form.before ht.form.before (λ x. (before_to by_name by_task n k s t hs ht a.within b.within x, before_to by_name by_task n k t s ht hs c.within d.within x)))
    (one_rising (pair_cmp by_name) (pair_apart by_name n) s.exclusive t.exclusive hs.form.exclusive ht.form.exclusive (λ x. (exclusive_to by_name by_task n k s t hs ht a.within b.within x, exclusive_to by_name by_task n k t s ht hs c.within d.within x)))
    (one_rising (pair_cmp by_task) (pair_apart by_task k) s.shared t.shared hs.form.shared ht.form.shared (λ x. (shared_to by_name by_task n k s t hs ht a.within b.within x, shared_to by_name by_task n k t s ht hs c.within d.within x)))
    (one_rising (pair_cmp by_task) (pair_apart by_task k) s.pipe t.pipe hs.form.pipe ht.form.pipe (λ x. (pipe_to by_name by_task n k s t hs ht a.within b.within x, pipe_to by_name by_task n k t s ht hs c.within d.within x)))
