-- What the marks of a digest's table tell: which relations the digest lists.
use Rattle.std.proofs.Common.{◌≡◌, ◌≢◌, ◌⊎◌, ℕ, zero, suc, ◌<◌, ◌≤◌, Bool, true, false, true≢false, List, [], ◌∷◌, ◌++◌, length, map, take, get_or, Some, refl, sym, ap, ◌∙◌, subst, ⊎_elim, inl, inr, arith}
use Rattle.std.specs.Prelude.{AllPairs, Contains, Option, slice_get}
use Rattle.std.specs.Cmp.Lexicographic.{slice_cmp}
use Rattle.std.specs.Option.{option_map_or}
use Rattle.std.specs.Ordering.{nat_cmp}
use Rattle.std.proofs.lemmas.Bool.{cases_order}
use Rattle.std.proofs.lemmas.List.{append-nil, append_assoc, length-map, length-take-le}
use Rattle.std.proofs.lemmas.Option.{slice_get-get_or, slice_get_within}
use Rattle.hypothesis_index.specs.Places.{IsRelation}
use Rattle.hypothesis_index.specs.declared.relation.Relation.{Relation}
use Rattle.hypothesis_index.specs.declared.relation.Relation.TheVariants.{Before, Exclusive, Apart, Pipe, Unshared}
use Rattle.segment_names.specs.Known.{Known}
use Rattle.segment_names.specs.Limits.{IsKept}
use Rattle.trace_types.proofs.ElementLemmas.{one_place}
use Rattle.trace_types.specs.NameOrder.{name_cmp, pair_cmp}
use Rattle.trace_types.specs.Segments.{SegmentName}
use Rattle.digest_facts.specs.Coherence.{IsCoherent}
use Rattle.digest_facts.specs.Digests.{Digest}
use Rattle.digest_facts.specs.Tables.{Table, has, name_byte, pair_byte, rows_from, task_byte}
use Rattle.digest_facts.proofs.MergeLemmas.{name_apart, pair_apart, text_apart}
use Rattle.digest_facts.proofs.TableLemmas.{has_from, has_to}
use Rattle.digest_merging.specs.Merges.{IsGivenTable, IsTableOf}
use Rattle.digest_merging.proofs.AllLemmas.{no_limit_small}
use Rattle.pipeline_tests.proofs.TaskLemmas.{place_map}
use Rattle.refute_tests.specs.Clearing.{ClearsExactly}
use Rattle.word_rows.specs.declared.entries.Entry.{Entry}
use Rattle.judged_books.specs.GivenDigests.{BeginsWith, IsListed}
use Rattle.judged_books.specs.inner.MarkedRows.{AreTriangle, RowsTell, TellsOfNames, TellsOfTasks, tells_after, tells_before, tells_both, tells_exclusive}
use Rattle.judged_books.proofs.RowLemmas.{get_take, take_get}

-- ---- what a byte tells
pub both_told : (t b a e : Bool) → tells_both (pair_byte t b a e) ≡ t
both_told false b a e = refl
both_told true false false false = refl
both_told true false false true = refl
both_told true false true false = refl
both_told true false true true = refl
both_told true true false false = refl
both_told true true false true = refl
both_told true true true false = refl
both_told true true true true = refl

pub before_told : (t b a e : Bool) → (b ≡ true → t ≡ true) → tells_before (pair_byte t b a e) ≡ b
before_told false true a e h = absurd (true≢false (sym (h refl)))
before_told false false a e h = refl
before_told true false false false h = refl
before_told true false false true h = refl
before_told true false true false h = refl
before_told true false true true h = refl
before_told true true false false h = refl
before_told true true false true h = refl
before_told true true true false h = refl
before_told true true true true h = refl

pub after_told : (t b a e : Bool) → (a ≡ true → t ≡ true) → tells_after (pair_byte t b a e) ≡ a
after_told false b true e h = absurd (true≢false (sym (h refl)))
after_told false b false e h = refl
after_told true false false false h = refl
after_told true false false true h = refl
after_told true false true false h = refl
after_told true false true true h = refl
after_told true true false false h = refl
after_told true true false true h = refl
after_told true true true false h = refl
after_told true true true true h = refl

pub exclusive_told : (t b a e : Bool) → (e ≡ true → t ≡ true) → tells_exclusive (pair_byte t b a e) ≡ e
exclusive_told false b a true h = absurd (true≢false (sym (h refl)))
exclusive_told false b a false h = refl
exclusive_told true false false false h = refl
exclusive_told true false false true h = refl
exclusive_told true false true false h = refl
exclusive_told true false true true h = refl
exclusive_told true true false false h = refl
exclusive_told true true false true h = refl
exclusive_told true true true false h = refl
exclusive_told true true true true h = refl

-- ---- rows by their places
some_of : {X : Type 0} (x y : X) → Some x ≡ Some y → x ≡ y
some_of {X} x y e = ap (λ (o : Option X). option_map_or (λ (v : X). v) o x) e

get_map : {X Y : Type 0} (f : X → Y) (xs : List X) (k : ℕ) (y : Y) → slice_get (map f xs) k ≡ Some y → (x : X) × (slice_get xs k ≡ Some x) × (y ≡ f x)
get_map f [] zero y e = cc
get_map f [] (suc k) y e = cc
get_map f (x ∷ xs) zero y e = (x, refl, sym (some_of (f x) y e))
get_map f (x ∷ xs) (suc k) y e = get_map f xs k y e

map_get : {X Y : Type 0} (f : X → Y) (xs : List X) (k : ℕ) (x : X) → slice_get xs k ≡ Some x → slice_get (map f xs) k ≡ Some (f x)
map_get f [] zero x e = cc
map_get f [] (suc k) x e = cc
map_get {X} {Y} f (y ∷ ys) zero x e = ap (λ (v : X). Some (f v)) (some_of y x e)
map_get f (y ∷ ys) (suc k) x e = map_get f ys k x e

rows_at : {X : Type 0} (byte : X → X → ℕ) (earlier xs : List X) (k : ℕ) (row : X × List ℕ) → slice_get (rows_from byte earlier xs) k ≡ Some row → (x : X) × (slice_get xs k ≡ Some x) × (row ≡ (x, map (λ a. byte a x) (earlier ++ take k xs)))
rows_at byte earlier [] zero row e = cc
rows_at byte earlier [] (suc k) row e = cc
rows_at {X} byte earlier (x ∷ xs) zero row e = (x, refl, sym (some_of (x, map (λ a. byte a x) earlier) row e) ∙ ap (λ (l : List X). (x, map (λ a. byte a x) l)) (sym (append-nil earlier)))
rows_at {X} byte earlier (x ∷ xs) (suc k) row e =
    let r = rows_at byte (earlier ++ x ∷ []) xs k row e in
    (r.0, r.1, r.2 ∙ ap (λ (l : List X). (r.0, map (λ a. byte a r.0) l)) (append_assoc earlier (x ∷ []) (take k xs)))

rows_there : {X : Type 0} (byte : X → X → ℕ) (earlier xs : List X) (k : ℕ) (x : X) → slice_get xs k ≡ Some x → slice_get (rows_from byte earlier xs) k ≡ Some (x, map (λ a. byte a x) (earlier ++ take k xs))
rows_there byte earlier [] zero x e = cc
rows_there byte earlier [] (suc k) x e = cc
rows_there {X} byte earlier (y ∷ ys) zero x e =
    ap (λ (v : X). Some (v, map (λ a. byte a v) earlier)) (some_of y x e) ∙ ap (λ (l : List X). Some (x, map (λ a. byte a x) l)) (sym (append-nil earlier))
rows_there {X} byte earlier (y ∷ ys) (suc k) x e =
    rows_there byte (earlier ++ y ∷ []) ys k x e ∙ ap (λ (l : List X). Some (x, map (λ a. byte a x) l)) (append_assoc earlier (y ∷ []) (take k ys))

take_long : {X : Type 0} (k : ℕ) (xs : List X) (x : X) → slice_get xs k ≡ Some x → length (take k xs) ≡ k
take_long k xs x e = let lt = slice_get_within xs k x e in length-take-le k xs (omega (arith, lt))

rows_long : {X : Type 0} (byte : X → X → ℕ) (earlier xs : List X) → length (rows_from byte earlier xs) ≡ length xs
rows_long byte earlier [] = refl
rows_long byte earlier (x ∷ xs) = let n = rows_long byte (earlier ++ x ∷ []) xs in omega (arith, n)

pub triangle_of : {X : Type 0} (byte : X → X → ℕ) (xs : List X) (most : ℕ) → length xs ≤ most → AreTriangle most (rows_from byte [] xs)
triangle_of {X} byte xs most few = record {
  few = omega (arith, few, rows_long byte [] xs);
  each = λ k row at.
      let r = rows_at byte [] xs k row at in
      ap (λ (p : X × List ℕ). length p.1) r.2 ∙ length-map (take k xs) (λ a. byte a r.0) ∙ take_long k xs r.0 r.1;
}

-- the two elements of a mark, and the mark of two elements
pub record IsMarkOf {X : Type 0} (byte : X → X → ℕ) (xs : List X) (low high mark : ℕ) : Type 0 where
  pub x : X
  pub y : X
  pub first : slice_get xs low ≡ Some x
  pub second : slice_get xs high ≡ Some y
  pub less : low < high
  pub is : mark ≡ byte x y

module _ {X : Type 0} (byte : X → X → ℕ) (xs : List X) where
  pub mark_to : (low high mark : ℕ) (row : X × List ℕ) → slice_get (rows_from byte [] xs) high ≡ Some row → slice_get row.1 low ≡ Some mark → IsMarkOf byte xs low high mark
  mark_to low high mark row at there =
      let r = rows_at byte [] xs high row at in
      let here : slice_get (map (λ a. byte a r.0) (take high xs)) low ≡ Some mark = subst (λ (p : X × List ℕ). slice_get p.1 low ≡ Some mark) r.2 there in
      let m = get_map (λ a. byte a r.0) (take high xs) low mark here in
      let t = take_get high xs low m.0 m.1 in
      record { x = m.0; y = r.0; first = t.1; second = r.1; less = t.0; is = m.2 }

  pub mark_from : (low high : ℕ) (x y : X) → slice_get xs low ≡ Some x → slice_get xs high ≡ Some y → low < high
      → (Tells : ℕ → ℕ → ℕ → Relation → Type 0) (r : Relation) → Tells low high (byte x y) r → RowsTell Tells (rows_from byte [] xs) r
  mark_from low high x y first second less Tells r h =
      (high, (y, map (λ a. byte a y) (take high xs)), rows_there byte [] xs high y second, (low, byte x y, map_get (λ a. byte a y) (take high xs) low x (get_take high xs low x less first), h))

-- ---- texts of a catalogue that begins with those of a digest
module _ {X : Type 0} (xs more texts : List X) (begins : texts ≡ xs ++ more) (differ : AllPairs (λ x y. x ≢ y) texts) where
  left_get : (ys : List X) (k : ℕ) (x : X) → slice_get ys k ≡ Some x → slice_get (ys ++ more) k ≡ Some x
  left_get [] zero x e = cc
  left_get [] (suc k) x e = cc
  left_get (y ∷ ys) zero x e = e
  left_get (y ∷ ys) (suc k) x e = left_get ys k x e

  pub known_at : (k : ℕ) (x : X) → slice_get xs k ≡ Some x → slice_get texts k ≡ Some x
  known_at k x e = ap (λ (l : List X). slice_get l k) begins ∙ left_get xs k x e

  pub given_at : (k : ℕ) (x : X) → slice_get texts k ≡ Some x → Contains xs x → slice_get xs k ≡ Some x
  given_at k x e c =
      let here : slice_get xs c.0 ≡ Some (get_or xs c.0 x) = slice_get-get_or xs c.0 x c.1 in
      let at : slice_get xs c.0 ≡ Some x = here ∙ ap (λ (v : X). Some v) c.2 in
      let one : k ≡ c.0 = one_place texts differ k c.0 x e (known_at c.0 x at) in
      ap (λ (n : ℕ). slice_get xs n) one ∙ at

-- ---- the relations of names and of tasks
module _ (known : Known) (kept : IsKept known) (s : Digest SegmentName (List ℕ)) (h : IsCoherent name_cmp (slice_cmp nat_cmp) s) (begins : BeginsWith s known) where
  abbrev byte : SegmentName → SegmentName → ℕ
  byte = name_byte name_cmp (slice_cmp nat_cmp) s

  abbrev mark : List ℕ → List ℕ → ℕ
  mark = task_byte name_cmp (slice_cmp nat_cmp) s

  pair_there : (ps : List (SegmentName × SegmentName)) (x y : SegmentName) → has (pair_cmp name_cmp) ps (x, y) ≡ true → Contains ps (x, y)
  pair_there ps x y e = has_to (pair_cmp name_cmp) (pair_apart name_cmp name_apart) ps (x, y) e

  pair_has : (ps : List (SegmentName × SegmentName)) (x y : SegmentName) → Contains ps (x, y) → has (pair_cmp name_cmp) ps (x, y) ≡ true
  pair_has ps x y c = has_from (pair_cmp name_cmp) (pair_apart name_cmp name_apart) ps (x, y) c

  task_there : (ps : List (List ℕ × List ℕ)) (x y : List ℕ) → has (pair_cmp (slice_cmp nat_cmp)) ps (x, y) ≡ true → Contains ps (x, y)
  task_there ps x y e = has_to (pair_cmp (slice_cmp nat_cmp)) (pair_apart (slice_cmp nat_cmp) text_apart) ps (x, y) e

  task_has : (ps : List (List ℕ × List ℕ)) (x y : List ℕ) → Contains ps (x, y) → has (pair_cmp (slice_cmp nat_cmp)) ps (x, y) ≡ true
  task_has ps x y c = has_from (pair_cmp (slice_cmp nat_cmp)) (pair_apart (slice_cmp nat_cmp) text_apart) ps (x, y) c

  name_known : (k : ℕ) (x : SegmentName) → slice_get s.names k ≡ Some x → slice_get known.names k ≡ Some x
  name_known = known_at s.names begins.more_names known.names begins.names kept.names_differ

  task_known : (k : ℕ) (x : List ℕ) → slice_get s.tasks k ≡ Some x → slice_get known.tasks k ≡ Some x
  task_known = known_at s.tasks begins.more_tasks known.tasks begins.tasks kept.tasks_differ

  name_given : (k : ℕ) (x : SegmentName) → slice_get known.names k ≡ Some x → Contains s.names x → slice_get s.names k ≡ Some x
  name_given = given_at s.names begins.more_names known.names begins.names kept.names_differ

  task_given : (k : ℕ) (x : List ℕ) → slice_get known.tasks k ≡ Some x → Contains s.tasks x → slice_get s.tasks k ≡ Some x
  task_given = given_at s.tasks begins.more_tasks known.tasks begins.tasks kept.tasks_differ

  -- what the four bits of a byte say
  module _ (x y : SegmentName) where
    both_is : tells_both (byte x y) ≡ has (pair_cmp name_cmp) s.together (x, y)
    both_is = both_told (has (pair_cmp name_cmp) s.together (x, y)) (has (pair_cmp name_cmp) s.before (x, y)) (has (pair_cmp name_cmp) s.before (y, x)) (has (pair_cmp name_cmp) s.exclusive (x, y))

    before_is : tells_before (byte x y) ≡ has (pair_cmp name_cmp) s.before (x, y)
    before_is = before_told (has (pair_cmp name_cmp) s.together (x, y)) (has (pair_cmp name_cmp) s.before (x, y)) (has (pair_cmp name_cmp) s.before (y, x)) (has (pair_cmp name_cmp) s.exclusive (x, y))
        (λ e. pair_has s.together x y (h.before x y (pair_there s.before x y e)))

    after_is : tells_after (byte x y) ≡ has (pair_cmp name_cmp) s.before (y, x)
    after_is = after_told (has (pair_cmp name_cmp) s.together (x, y)) (has (pair_cmp name_cmp) s.before (x, y)) (has (pair_cmp name_cmp) s.before (y, x)) (has (pair_cmp name_cmp) s.exclusive (x, y))
        (λ e. pair_has s.together x y (h.together.turned y x (h.before y x (pair_there s.before y x e))))

    exclusive_is : tells_exclusive (byte x y) ≡ has (pair_cmp name_cmp) s.exclusive (x, y)
    exclusive_is = exclusive_told (has (pair_cmp name_cmp) s.together (x, y)) (has (pair_cmp name_cmp) s.before (x, y)) (has (pair_cmp name_cmp) s.before (y, x)) (has (pair_cmp name_cmp) s.exclusive (x, y))
        (λ e. pair_has s.together x y (h.before x y (h.exclusive x y (pair_there s.exclusive x y e))))

  module _ (x y : List ℕ) where
    shared_is : tells_both (mark x y) ≡ has (pair_cmp (slice_cmp nat_cmp)) s.shared (x, y)
    shared_is = both_told (has (pair_cmp (slice_cmp nat_cmp)) s.shared (x, y)) (has (pair_cmp (slice_cmp nat_cmp)) s.pipe (x, y)) (has (pair_cmp (slice_cmp nat_cmp)) s.pipe (y, x)) false

    pipe_is : tells_before (mark x y) ≡ has (pair_cmp (slice_cmp nat_cmp)) s.pipe (x, y)
    pipe_is = before_told (has (pair_cmp (slice_cmp nat_cmp)) s.shared (x, y)) (has (pair_cmp (slice_cmp nat_cmp)) s.pipe (x, y)) (has (pair_cmp (slice_cmp nat_cmp)) s.pipe (y, x)) false
        (λ e. task_has s.shared x y (h.pipe x y (task_there s.pipe x y e)))

    back_is : tells_after (mark x y) ≡ has (pair_cmp (slice_cmp nat_cmp)) s.pipe (y, x)
    back_is = after_told (has (pair_cmp (slice_cmp nat_cmp)) s.shared (x, y)) (has (pair_cmp (slice_cmp nat_cmp)) s.pipe (x, y)) (has (pair_cmp (slice_cmp nat_cmp)) s.pipe (y, x)) false
        (λ e. task_has s.shared x y (h.shared.turned y x (h.pipe y x (task_there s.pipe y x e))))

  -- a relation that a mark tells is listed
  names_to : (low high m : ℕ) → IsMarkOf byte s.names low high m → (r : Relation) → TellsOfNames low high m r → IsListed known s r
  names_to low high m k (Before a b) (inl t) =
      let f : slice_get known.names a ≡ Some k.x = ap (λ (n : ℕ). slice_get known.names n) t.0 ∙ name_known low k.x k.first in
      let g : slice_get known.names b ≡ Some k.y = ap (λ (n : ℕ). slice_get known.names n) t.1 ∙ name_known high k.y k.second in
      (k.x, k.y, f, g, pair_there s.before k.x k.y (sym (before_is k.x k.y) ∙ ap tells_before (sym k.is) ∙ t.2))
  names_to low high m k (Before a b) (inr t) =
      let f : slice_get known.names a ≡ Some k.y = ap (λ (n : ℕ). slice_get known.names n) t.0 ∙ name_known high k.y k.second in
      let g : slice_get known.names b ≡ Some k.x = ap (λ (n : ℕ). slice_get known.names n) t.1 ∙ name_known low k.x k.first in
      (k.y, k.x, f, g, pair_there s.before k.y k.x (sym (after_is k.x k.y) ∙ ap tells_after (sym k.is) ∙ t.2))
  names_to low high m k (Exclusive a b) t =
      let f : slice_get known.names a ≡ Some k.x = ap (λ (n : ℕ). slice_get known.names n) t.0 ∙ name_known low k.x k.first in
      let g : slice_get known.names b ≡ Some k.y = ap (λ (n : ℕ). slice_get known.names n) t.1 ∙ name_known high k.y k.second in
      (k.x, k.y, f, g, pair_there s.exclusive k.x k.y (sym (exclusive_is k.x k.y) ∙ ap tells_exclusive (sym k.is) ∙ t.2))
  names_to low high m k (Apart a b) t =
      let f : slice_get known.names a ≡ Some k.x = ap (λ (n : ℕ). slice_get known.names n) t.0 ∙ name_known low k.x k.first in
      let g : slice_get known.names b ≡ Some k.y = ap (λ (n : ℕ). slice_get known.names n) t.1 ∙ name_known high k.y k.second in
      (k.x, k.y, f, g, pair_there s.together k.x k.y (sym (both_is k.x k.y) ∙ ap tells_both (sym k.is) ∙ t.2))
  names_to low high m k (Pipe t u) h = absurd h
  names_to low high m k (Unshared t u) h = absurd h

  tasks_to : (low high m : ℕ) → IsMarkOf mark s.tasks low high m → (r : Relation) → TellsOfTasks low high m r → IsListed known s r
  tasks_to low high m k (Before a b) h = absurd h
  tasks_to low high m k (Exclusive a b) h = absurd h
  tasks_to low high m k (Apart a b) h = absurd h
  tasks_to low high m k (Pipe a b) (inl t) =
      let f : slice_get known.tasks a ≡ Some k.x = ap (λ (n : ℕ). slice_get known.tasks n) t.0 ∙ task_known low k.x k.first in
      let g : slice_get known.tasks b ≡ Some k.y = ap (λ (n : ℕ). slice_get known.tasks n) t.1 ∙ task_known high k.y k.second in
      (k.x, k.y, f, g, task_there s.pipe k.x k.y (sym (pipe_is k.x k.y) ∙ ap tells_before (sym k.is) ∙ t.2))
  tasks_to low high m k (Pipe a b) (inr t) =
      let f : slice_get known.tasks a ≡ Some k.y = ap (λ (n : ℕ). slice_get known.tasks n) t.0 ∙ task_known high k.y k.second in
      let g : slice_get known.tasks b ≡ Some k.x = ap (λ (n : ℕ). slice_get known.tasks n) t.1 ∙ task_known low k.x k.first in
      (k.y, k.x, f, g, task_there s.pipe k.y k.x (sym (back_is k.x k.y) ∙ ap tells_after (sym k.is) ∙ t.2))
  tasks_to low high m k (Unshared a b) t =
      let f : slice_get known.tasks a ≡ Some k.x = ap (λ (n : ℕ). slice_get known.tasks n) t.0 ∙ task_known low k.x k.first in
      let g : slice_get known.tasks b ≡ Some k.y = ap (λ (n : ℕ). slice_get known.tasks n) t.1 ∙ task_known high k.y k.second in
      (k.x, k.y, f, g, task_there s.shared k.x k.y (sym (shared_is k.x k.y) ∙ ap tells_both (sym k.is) ∙ t.2))

  -- what is listed is told by a mark
  listed_told : (r : Relation) → IsRelation r → IsListed known s r → RowsTell TellsOfTasks (rows_from mark [] s.tasks) r ⊎ RowsTell TellsOfNames (rows_from byte [] s.names) r
  listed_told (Before a b) is (x, y, f, g, c) =
      let t = h.before x y c in
      let p = name_given a x f (h.together.first x y t) in
      let q = name_given b y g (h.together.second x y t) in
      ⊎_elim (λ (e : a ≡ b). absurd (is.0 e)) (λ (o : (a < b) ⊎ (b < a)). ⊎_elim
      (λ (lt : a < b). inr (mark_from byte s.names a b x y p q lt TellsOfNames (Before a b) (inl (refl, refl, before_is x y ∙ pair_has s.before x y c))))
      (λ (lt : b < a). inr (mark_from byte s.names b a y x q p lt TellsOfNames (Before a b) (inr (refl, refl, after_is y x ∙ pair_has s.before x y c))))
      o) (cases_order a b)
  listed_told (Exclusive a b) is (x, y, f, g, c) =
      let t = h.before x y (h.exclusive x y c) in
      let p = name_given a x f (h.together.first x y t) in
      let q = name_given b y g (h.together.second x y t) in
      inr (mark_from byte s.names a b x y p q is.0 TellsOfNames (Exclusive a b) (refl, refl, exclusive_is x y ∙ pair_has s.exclusive x y c))
  listed_told (Apart a b) is (x, y, f, g, c) =
      let p = name_given a x f (h.together.first x y c) in
      let q = name_given b y g (h.together.second x y c) in
      inr (mark_from byte s.names a b x y p q is.0 TellsOfNames (Apart a b) (refl, refl, both_is x y ∙ pair_has s.together x y c))
  listed_told (Pipe a b) is (x, y, f, g, c) =
      let t = h.pipe x y c in
      let p = task_given a x f (h.shared.first x y t) in
      let q = task_given b y g (h.shared.second x y t) in
      ⊎_elim (λ (e : a ≡ b). absurd (is.0 e)) (λ (o : (a < b) ⊎ (b < a)). ⊎_elim
      (λ (lt : a < b). inl (mark_from mark s.tasks a b x y p q lt TellsOfTasks (Pipe a b) (inl (refl, refl, pipe_is x y ∙ task_has s.pipe x y c))))
      (λ (lt : b < a). inl (mark_from mark s.tasks b a y x q p lt TellsOfTasks (Pipe a b) (inr (refl, refl, back_is y x ∙ task_has s.pipe x y c))))
      o) (cases_order a b)
  listed_told (Unshared a b) is (x, y, f, g, c) =
      let p = task_given a x f (h.shared.first x y c) in
      let q = task_given b y g (h.shared.second x y c) in
      inl (mark_from mark s.tasks a b x y p q is.0 TellsOfTasks (Unshared a b) (refl, refl, shared_is x y ∙ task_has s.shared x y c))

  pub told_listed : (r : Relation) → RowsTell TellsOfTasks (rows_from mark [] s.tasks) r ⊎ RowsTell TellsOfNames (rows_from byte [] s.names) r → IsListed known s r
  told_listed r (inl t) = tasks_to t.3.0 t.0 t.3.1 (mark_to mark s.tasks t.3.0 t.0 t.3.1 t.1 t.2 t.3.2) r t.3.3
  told_listed r (inr t) = names_to t.3.0 t.0 t.3.1 (mark_to byte s.names t.3.0 t.0 t.3.1 t.1 t.2 t.3.2) r t.3.3

  pub told_back : (r : Relation) → IsRelation r → IsListed known s r → RowsTell TellsOfTasks (rows_from mark [] s.tasks) r ⊎ RowsTell TellsOfNames (rows_from byte [] s.names) r
  told_back = listed_told

-- ---- the table of a given digest
abbrev U : Type 0
U = Table SegmentName (List ℕ)

abbrev Said : U → Relation → Type 0
Said u r = RowsTell TellsOfTasks u.tasks r ⊎ RowsTell TellsOfNames u.names r

pub names_long : (u : U) (s : Digest SegmentName (List ℕ)) → IsTableOf s u → length u.names ≡ length s.names
names_long u s h = ap (λ (v : U). length v.names) h.table ∙ rows_long (name_byte name_cmp (slice_cmp nat_cmp) s) [] s.names

pub name_triangle : (u : U) → IsGivenTable u → AreTriangle 512 u.names
name_triangle u (s, h, few) = subst (λ (v : U). AreTriangle 512 v.names) (sym h.table) (triangle_of (name_byte name_cmp (slice_cmp nat_cmp) s) s.names 512 (no_limit_small s few).names)

pub task_triangle : (u : U) → IsGivenTable u → AreTriangle 64 u.tasks
task_triangle u (s, h, few) = subst (λ (v : U). AreTriangle 64 v.tasks) (sym h.table) (triangle_of (task_byte name_cmp (slice_cmp nat_cmp) s) s.tasks 64 (no_limit_small s few).tasks)

-- the row that clears what the marks tell clears what the digest lists
pub given_clears : (u : U) (s : Digest SegmentName (List ℕ)) → IsTableOf s u → (row : List Entry) → ClearsExactly row (λ r. RowsTell TellsOfTasks u.tasks r ⊎ RowsTell TellsOfNames u.names r)
    → (known : Known) → IsKept known → BeginsWith s known → ClearsExactly row (IsListed known s)
given_clears u s h row clear known kept begins i b = (
  (λ c. place_map (Said u) (IsListed known s) i b to ((clear i b).0 c)),
  (λ p. (clear i b).1 (place_map (IsListed known s) (Said u) i b back p)),
)
  where
    to : (r : Relation) → IsRelation r → Said u r → IsListed known s r
    to r is t = told_listed known kept s h.coherent begins r (subst (λ (v : U). Said v r) h.table t)

    back : (r : Relation) → IsRelation r → IsListed known s r → Said u r
    back r is l = subst (λ (v : U). Said v r) (sym h.table) (told_back known kept s h.coherent begins r is l)
