-- The merge of all digests of a list of tables.
use Rattle.std.proofs.Common.{◌≡◌, ◌↔◌, ℕ, zero, suc, ◌-◌, ◌^◌, ◌<◌, ◌≤◌, List, [], ◌∷◌, length, get_or, map, take, drop, refl, sym, ap, ◌∙◌, subst, ⊎_elim, inl, inr, arith, false, true, Some, None, Ordering, true≢false}
use Rattle.std.specs.Prelude.{Bool, IfNone, IfSome, Option, is_some, nat_lt, if◌then◌else◌}
use Rattle.std.specs.Cmp.Lexicographic.{slice_cmp}
use Rattle.std.specs.List.{AllZip, Contains}
use Rattle.std.specs.Ordering.{nat_cmp}
use Rattle.std.specs.declared.cmp.Ordering.TheVariants.{Less, Equal, Greater}
use Rattle.std.proofs.lemmas.Bool.{le-ltb, lt-ltb, ltb-false}
use Rattle.std.proofs.lemmas.List.Elements.{Contains-append_left, Contains-append_right, Contains-append_cases}
use Rattle.trace_types.specs.NameOrder.{name_cmp}
use Rattle.trace_types.specs.Segments.{SegmentName}
use Rattle.digest_facts.specs.Coherence.{IsCoherent}
use Rattle.digest_facts.specs.Digests.{Digest, IsInForm, TellsApart, Rises, empty_digest, placed, union, with_one}
use Rattle.digest_facts.specs.Tables.{Table}
use Rattle.digest_facts.proofs.CoherenceLemmas.{merged_coherent}
use Rattle.digest_facts.proofs.MergeLemmas.{commutes, merges_freely, name_apart, text_apart}
use Rattle.digest_facts.proofs.TableLemmas.{tables_tell_apart}
use Rattle.digest_facts.proofs.UnionLemmas.{nil_has, union_has}
use Rattle.digest_merging.specs.Limits.{limit_passed}
use Rattle.digest_merging.specs.inner.AllTables.{all_counts, all_names, all_tasks}
use Rattle.digest_merging.specs.Merges.{AGivenDigestIsOne, IsGivenBy, IsMergeFault, IsMergeOf, IsMergeOfAll, IsOutOfMemory, IsTableOf, merged_digest, merged_of}
use Rattle.digest_merging.specs.declared.merge_fault.MergeFault.{MergeFault}
use Rattle.digest_merging.specs.declared.merge_fault.MergeFault.TheVariants.{Limit, Memory}
use Rattle.digest_merging.specs.declared.digest_limit.DigestLimit.{DigestLimit}
use Rattle.digest_merging.specs.declared.digest_limit.DigestLimit.TheVariants.{Names, Tasks, Traces}
use Rattle.digest_merging.proofs.MergeLemmas.{AreTasksOf, merged_tasks, names_left, tasks_left}

abbrev pub D : Type 0
D = Digest SegmentName (List ℕ)

abbrev pub U : Type 0
U = Table SegmentName (List ℕ)

-- ---- one digest of tables
same_digests : (ss ts : List D) (us : List U) → AllZip IsTableOf ss us → AllZip IsTableOf ts us → ss ≡ ts
same_digests [] [] us h k = refl
same_digests [] (t ∷ ts) [] h k = absurd k
same_digests [] (t ∷ ts) (u ∷ us) h k = absurd h
same_digests (s ∷ ss) [] [] h k = absurd h
same_digests (s ∷ ss) [] (u ∷ us) h k = absurd k
same_digests (s ∷ ss) (t ∷ ts) [] h k = absurd h
same_digests (s ∷ ss) (t ∷ ts) (u ∷ us) h k =
    let one : s ≡ t = tables_tell_apart name_cmp (slice_cmp nat_cmp) name_apart text_apart s t h.0.coherent k.0.coherent (sym h.0.table ∙ k.0.table) in
    let more : ss ≡ ts = same_digests ss ts us h.1 k.1 in
    λ i. one i ∷ more i

pub one_given : AGivenDigestIsOne
one_given us given other h k = h.merge ∙ ap merged_of (same_digests h.digests k.digests us h.tables k.tables) ∙ sym k.merge

-- ---- what a merge of all keeps
-- it is coherent, and its tasks are those of its names
pub record IsSound (s : D) : Type 0 where
  pub coherent : IsCoherent name_cmp (slice_cmp nat_cmp) s
  pub tasks : AreTasksOf s.tasks s.names

pub empty_sound : IsSound empty_digest
empty_sound = record {
  coherent = record {
    form = (merges_freely name_cmp (slice_cmp nat_cmp) name_apart text_apart).starts;
    together = record { differ = λ a b c. absurd (nil_has (a, b) c); first = λ a b c. absurd (nil_has (a, b) c); second = λ a b c. absurd (nil_has (a, b) c); turned = λ a b c. absurd (nil_has (a, b) c) };
    before = λ a b c. absurd (nil_has (a, b) c);
    exclusive = λ a b c. absurd (nil_has (a, b) c);
    turned = λ a b c. absurd (nil_has (a, b) c);
    shared = record { differ = λ a b c. absurd (nil_has (a, b) c); first = λ a b c. absurd (nil_has (a, b) c); second = λ a b c. absurd (nil_has (a, b) c); turned = λ a b c. absurd (nil_has (a, b) c) };
    pipe = λ a b c. absurd (nil_has (a, b) c);
  };
  tasks = λ task. ((λ c. absurd (nil_has task c)), (λ n. absurd (nil_has n.0 n.1)));
}

pub empty_table : IsTableOf empty_digest (record { traces = 0; days = []; tasks = []; names = [] })
empty_table = record { coherent = empty_sound.coherent; tasks = empty_sound.tasks; table = refl }

pub all_sound : (ss : List D) (us : List U) → AllZip IsTableOf ss us → IsSound (merged_of ss)
all_sound [] us h = empty_sound
all_sound (s ∷ ss) [] h = absurd h
all_sound (s ∷ ss) (u ∷ us) h =
    let more = all_sound ss us h.1 in
    record {
      coherent = merged_coherent name_cmp (slice_cmp nat_cmp) name_apart text_apart s (merged_of ss) h.0.coherent more.coherent;
      tasks = merged_tasks s (merged_of ss) h.0.tasks more.tasks;
    }

form_of : (ss : List D) (us : List U) → AllZip IsTableOf ss us → IsInForm name_cmp (slice_cmp nat_cmp) (merged_of ss)
form_of ss us h = (all_sound ss us h).coherent.form

-- ---- the merge of two parts
zip_take : (n : ℕ) (ss : List D) (us : List U) → AllZip IsTableOf ss us → AllZip IsTableOf (take n ss) (take n us)
zip_take zero ss us h = tt
zip_take (suc n) [] [] h = tt
zip_take (suc n) [] (u ∷ us) h = absurd h
zip_take (suc n) (s ∷ ss) [] h = absurd h
zip_take (suc n) (s ∷ ss) (u ∷ us) h = (h.0, zip_take n ss us h.1)

zip_drop : (n : ℕ) (ss : List D) (us : List U) → AllZip IsTableOf ss us → AllZip IsTableOf (drop n ss) (drop n us)
zip_drop zero ss us h = h
zip_drop (suc n) [] [] h = tt
zip_drop (suc n) [] (u ∷ us) h = absurd h
zip_drop (suc n) (s ∷ ss) [] h = absurd h
zip_drop (suc n) (s ∷ ss) (u ∷ us) h = zip_drop n ss us h.1

parts_merge : (n : ℕ) (ss : List D) (us : List U) → AllZip IsTableOf ss us → merged_of ss ≡ merged_digest (merged_of (take n ss)) (merged_of (drop n ss))
parts_merge zero ss us h = sym ((merges_freely name_cmp (slice_cmp nat_cmp) name_apart text_apart).begins (merged_of ss))
parts_merge (suc n) [] us h = sym ((merges_freely name_cmp (slice_cmp nat_cmp) name_apart text_apart).begins (merged_of []))
parts_merge (suc n) (s ∷ ss) [] h = absurd h
parts_merge (suc n) (s ∷ ss) (u ∷ us) h =
    ap (λ (d : D). merged_digest s d) (parts_merge n ss us h.1)
    ∙ sym ((merges_freely name_cmp (slice_cmp nat_cmp) name_apart text_apart).associates s (merged_of (take n ss)) (merged_of (drop n ss)) h.0.coherent.form (form_of (take n ss) (take n us) (zip_take n ss us h.1)) (form_of (drop n ss) (drop n us) (zip_drop n ss us h.1)))

-- what a list of tables gives is the merge of what its two parts give
pub record AreParts (us vs : List U) (given : D) : Type 0 where
  pub left : D
  pub right : D
  pub of_left : IsGivenBy us left
  pub of_right : IsGivenBy vs right
  pub merge : given ≡ merged_digest left right
  pub sound_left : IsSound left
  pub sound_right : IsSound right

pub parts_given : (n : ℕ) (us : List U) (given : D) → IsGivenBy us given → AreParts (take n us) (drop n us) given
parts_given n us given h = record {
  left = merged_of (take n h.digests);
  right = merged_of (drop n h.digests);
  of_left = record { digests = take n h.digests; tables = zip_take n h.digests us h.tables; merge = refl };
  of_right = record { digests = drop n h.digests; tables = zip_drop n h.digests us h.tables; merge = refl };
  merge = h.merge ∙ parts_merge n h.digests us h.tables;
  sound_left = all_sound (take n h.digests) (take n us) (zip_take n h.digests us h.tables);
  sound_right = all_sound (drop n h.digests) (drop n us) (zip_drop n h.digests us h.tables);
}

-- what one table gives is its digest, and what two give their merge
pub record IsOne (u : U) (given : D) : Type 0 where
  pub digest : D
  pub table : IsTableOf digest u
  pub merge : given ≡ digest

pub one_table : (u : U) (given : D) → IsGivenBy (u ∷ []) given → IsOne u given
one_table u given h = by h.digests h.tables h.merge
  where
    by : (ss : List D) → AllZip IsTableOf ss (u ∷ []) → given ≡ merged_of ss → IsOne u given
    by [] z e = absurd z
    by (s ∷ []) z e = record { digest = s; table = z.0; merge = e ∙ (merges_freely name_cmp (slice_cmp nat_cmp) name_apart text_apart).ends s z.0.coherent.form }
    by (s ∷ t ∷ ss) z e = absurd z.1

pub record AreTwo (u v : U) (given : D) : Type 0 where
  pub first : D
  pub second : D
  pub of_first : IsTableOf first u
  pub of_second : IsTableOf second v
  pub merge : given ≡ merged_digest first second

pub two_tables : (u v : U) (given : D) → IsGivenBy (u ∷ v ∷ []) given → AreTwo u v given
two_tables u v given h = by h.digests h.tables h.merge
  where
    by : (ss : List D) → AllZip IsTableOf ss (u ∷ v ∷ []) → given ≡ merged_of ss → AreTwo u v given
    by [] z e = absurd z
    by (s ∷ []) z e = absurd z.1
    by (s ∷ t ∷ []) z e = record { first = s; second = t; of_first = z.0; of_second = z.1.0; merge = e ∙ ap (λ (d : D). merged_digest s d) ((merges_freely name_cmp (slice_cmp nat_cmp) name_apart text_apart).ends t z.1.0.coherent.form) }
    by (s ∷ t ∷ r ∷ ss) z e = absurd z.1.1

pub none_given : (given : D) → IsGivenBy [] given → given ≡ empty_digest
none_given given h = by h.digests h.tables h.merge
  where
    by : (ss : List D) → AllZip IsTableOf ss [] → given ≡ merged_of ss → given ≡ empty_digest
    by [] z e = e
    by (s ∷ ss) z e = absurd z

-- ---- limits of parts
module _ {X : Type 0} (cmp : X → X → Ordering) (o : TellsApart cmp) where
  with_one_long : (x : X) (ys : List X) → length ys ≤ length (with_one cmp x ys)
  with_one_long x [] = omega arith
  with_one_long x (y ∷ ys) = by (cmp x y) (with_one_long x ys)
    where
      by : (c : Ordering) → length ys ≤ length (with_one cmp x ys) → length (y ∷ ys) ≤ length (placed c x y ys (with_one cmp x ys))
      by Less h = omega arith
      by Equal h = omega arith
      by Greater h = omega (arith, h)

  long_right : (xs ys : List X) → length ys ≤ length (union cmp xs ys)
  long_right [] ys = omega arith
  long_right (x ∷ xs) ys = let a = long_right xs ys in let b = with_one_long x (union cmp xs ys) in omega (arith, a, b)

  long_left : (xs ys : List X) → Rises cmp xs → Rises cmp ys → length xs ≤ length (union cmp xs ys)
  long_left xs ys p q = subst (λ (l : List X). length xs ≤ length l) (commutes cmp o ys xs q p) (long_right ys xs)

-- it passes no limit
pub record IsSmall (s : D) : Type 0 where
  pub names : length s.names ≤ 512
  pub tasks : length s.tasks ≤ 64
  pub traces : s.traces < 2 ^ 64

pub no_limit_small : (s : D) → limit_passed s ≡ None → IsSmall s
no_limit_small s e = by (nat_lt 512 (length s.names)) refl (nat_lt 64 (length s.tasks)) refl (nat_lt (2 ^ 64 - 1) s.traces) refl e
  where
    by : (a : Bool) → nat_lt 512 (length s.names) ≡ a → (b : Bool) → nat_lt 64 (length s.tasks) ≡ b → (c : Bool) → nat_lt (2 ^ 64 - 1) s.traces ≡ c
        → (if a then Some (Names (length s.names)) else (if b then Some (Tasks (length s.tasks)) else (if c then Some Traces else None))) ≡ None → IsSmall s
    by true p b q c r h = let n : Some (Names (length s.names)) ≡ None = h in cc
    by false p true q c r h = let n : Some (Tasks (length s.tasks)) ≡ None = h in cc
    by false p false q true r h = let n : Some Traces ≡ None = h in cc
    by false p false q false r h = record { names = omega (arith, ltb-false 512 (length s.names) p); tasks = omega (arith, ltb-false 64 (length s.tasks) q); traces = omega (arith, ltb-false (2 ^ 64 - 1) s.traces r) }

pub small_no_limit : (s : D) → IsSmall s → limit_passed s ≡ None
small_no_limit s h = rw (le-ltb 512 (length s.names) h.names, le-ltb 64 (length s.tasks) h.tasks, le-ltb (2 ^ 64 - 1) s.traces (omega (arith, h.traces))) refl

pub small_left : (s t : D) → IsSound s → IsSound t → limit_passed (merged_digest s t) ≡ None → limit_passed s ≡ None
small_left s t h k e =
    let m = no_limit_small (merged_digest s t) e in
    let a : length s.names ≤ length (union name_cmp s.names t.names) = long_left name_cmp name_apart s.names t.names h.coherent.form.names k.coherent.form.names in
    let b : length s.tasks ≤ length (union (slice_cmp nat_cmp) s.tasks t.tasks) = long_left (slice_cmp nat_cmp) text_apart s.tasks t.tasks h.coherent.form.tasks k.coherent.form.tasks in
    small_no_limit s (record { names = omega (arith, a, m.names); tasks = omega (arith, b, m.tasks); traces = omega (arith, m.traces) })

pub small_right : (s t : D) → IsSound s → IsSound t → limit_passed (merged_digest s t) ≡ None → limit_passed t ≡ None
small_right s t h k e =
    let m = no_limit_small (merged_digest s t) e in
    let a : length t.names ≤ length (union name_cmp s.names t.names) = long_right name_cmp name_apart s.names t.names in
    let b : length t.tasks ≤ length (union (slice_cmp nat_cmp) s.tasks t.tasks) = long_right (slice_cmp nat_cmp) text_apart s.tasks t.tasks in
    small_no_limit t (record { names = omega (arith, a, m.names); tasks = omega (arith, b, m.tasks); traces = omega (arith, m.traces) })

-- ---- names, tasks and traces of all tables
pub names_of_all : (ss : List D) (us : List U) → AllZip IsTableOf ss us → (x : SegmentName) → Contains (merged_of ss).names x ↔ Contains (all_names us) x
names_of_all [] [] h x = ((λ c. c), (λ c. c))
names_of_all [] (u ∷ us) h x = absurd h
names_of_all (s ∷ ss) [] h x = absurd h
names_of_all (s ∷ ss) (u ∷ us) h x =
    let keys : List SegmentName = map (λ (r : SegmentName × List ℕ). r.0) u.names in
    let same : keys ≡ s.names = names_left u u s s h.0 h.0 in
    let more = names_of_all ss us h.1 x in (
      (λ c. ⊎_elim
          (λ (l : Contains s.names x). Contains-append_left keys (all_names us) x (subst (λ (l : List SegmentName). Contains l x) (sym same) l))
          (λ (r : Contains (merged_of ss).names x). Contains-append_right keys (all_names us) x (more.0 r))
          ((union_has name_cmp name_apart s.names (merged_of ss).names x).0 c)),
      (λ c. (union_has name_cmp name_apart s.names (merged_of ss).names x).1 (⊎_elim
          (λ (l : Contains keys x). inl (subst (λ (l : List SegmentName). Contains l x) same l))
          (λ (r : Contains (all_names us) x). inr (more.1 r))
          (Contains-append_cases keys (all_names us) x c))),
    )

pub tasks_of_all : (ss : List D) (us : List U) → AllZip IsTableOf ss us → (x : List ℕ) → Contains (merged_of ss).tasks x ↔ Contains (all_tasks us) x
tasks_of_all [] [] h x = ((λ c. c), (λ c. c))
tasks_of_all [] (u ∷ us) h x = absurd h
tasks_of_all (s ∷ ss) [] h x = absurd h
tasks_of_all (s ∷ ss) (u ∷ us) h x =
    let keys : List (List ℕ) = map (λ (r : List ℕ × List ℕ). r.0) u.tasks in
    let same : keys ≡ s.tasks = tasks_left u u s s h.0 h.0 in
    let more = tasks_of_all ss us h.1 x in (
      (λ c. ⊎_elim
          (λ (l : Contains s.tasks x). Contains-append_left keys (all_tasks us) x (subst (λ (l : List (List ℕ)). Contains l x) (sym same) l))
          (λ (r : Contains (merged_of ss).tasks x). Contains-append_right keys (all_tasks us) x (more.0 r))
          ((union_has (slice_cmp nat_cmp) text_apart s.tasks (merged_of ss).tasks x).0 c)),
      (λ c. (union_has (slice_cmp nat_cmp) text_apart s.tasks (merged_of ss).tasks x).1 (⊎_elim
          (λ (l : Contains keys x). inl (subst (λ (l : List (List ℕ)). Contains l x) same l))
          (λ (r : Contains (all_tasks us) x). inr (more.1 r))
          (Contains-append_cases keys (all_tasks us) x c))),
    )

pub traces_of_all : (ss : List D) (us : List U) → AllZip IsTableOf ss us → (merged_of ss).traces ≡ all_counts us
traces_of_all [] [] h = refl
traces_of_all [] (u ∷ us) h = absurd h
traces_of_all (s ∷ ss) [] h = absurd h
traces_of_all (s ∷ ss) (u ∷ us) h =
    let first : u.traces ≡ s.traces = ap (λ (w : U). w.traces) h.0.table in
    let more = traces_of_all ss us h.1 in
    omega (arith, first, more)

-- ---- what merges of parts give
some_none : (l : DigestLimit) → Some l ≡ None → ⊥
some_none l e = cc

-- the table of a digest that passes no limit
abbrev pub IsTableWithin : D → U → Type 0
IsTableWithin d w = IsTableOf d w × (limit_passed d ≡ None)

pub none_merge : (us : List U) (w : U) → us ≡ [] → IsTableOf empty_digest w → (given : D) → IsGivenBy us given → IsTableWithin given w
none_merge us w e h given g = subst (λ (d : D). IsTableWithin d w) (sym (none_given given (subst (λ (l : List U). IsGivenBy l given) e g))) (h, refl)

module _ (u : U) (us : List U) (e : us ≡ u ∷ []) (v : U) (empty : IsTableOf empty_digest v) (given : D) (g : IsGivenBy us given) where
  only : IsOne u given
  only = one_table u given (subst (λ (l : List U). IsGivenBy l given) e g)

  with_none : given ≡ merged_digest only.digest empty_digest
  with_none = only.merge ∙ sym ((merges_freely name_cmp (slice_cmp nat_cmp) name_apart text_apart).ends only.digest only.table.coherent.form)

  pub one_merge : (w : U) → IsMergeOf u v w → IsTableWithin given w
  one_merge w h = subst (λ (d : D). IsTableWithin d w) (sym with_none) (h only.digest empty_digest only.table empty)

  pub one_fault : limit_passed given ≡ None → (fault : MergeFault) → IsMergeFault u v fault → IsOutOfMemory fault
  one_fault few Memory h = refl
  one_fault few (Limit l) h = absurd (some_none l (sym (h only.digest empty_digest only.table empty) ∙ ap limit_passed (sym with_none) ∙ few))

module _ (u v : U) (us : List U) (e : us ≡ u ∷ v ∷ []) (given : D) (g : IsGivenBy us given) where
  both : AreTwo u v given
  both = two_tables u v given (subst (λ (l : List U). IsGivenBy l given) e g)

  pub two_merge : (w : U) → IsMergeOf u v w → IsTableWithin given w
  two_merge w h = subst (λ (d : D). IsTableWithin d w) (sym both.merge) (h both.first both.second both.of_first both.of_second)

  pub two_fault : limit_passed given ≡ None → (fault : MergeFault) → IsMergeFault u v fault → IsOutOfMemory fault
  two_fault few Memory h = refl
  two_fault few (Limit l) h = absurd (some_none l (sym (h both.first both.second both.of_first both.of_second) ∙ ap limit_passed (sym both.merge) ∙ few))

module _ (us lefts rights : List U) (n : ℕ) (el : lefts ≡ take n us) (er : rights ≡ drop n us) (given : D) (g : IsGivenBy us given) where
  halves : AreParts lefts rights given
  halves = subst (λ (l : List U). AreParts l rights given) (sym el) (subst (λ (l : List U). AreParts (take n us) l given) (sym er) (parts_given n us given g))

  few_both : limit_passed given ≡ None → limit_passed (merged_digest halves.left halves.right) ≡ None
  few_both few = ap limit_passed (sym halves.merge) ∙ few

  pub left_fault : limit_passed given ≡ None → (fault : MergeFault) → ((d : D) → IsGivenBy lefts d → limit_passed d ≡ None → IsOutOfMemory fault) → IsOutOfMemory fault
  left_fault few fault h = h halves.left halves.of_left (small_left halves.left halves.right halves.sound_left halves.sound_right (few_both few))

  pub right_fault : limit_passed given ≡ None → (fault : MergeFault) → ((d : D) → IsGivenBy rights d → limit_passed d ≡ None → IsOutOfMemory fault) → IsOutOfMemory fault
  right_fault few fault h = h halves.right halves.of_right (small_right halves.left halves.right halves.sound_left halves.sound_right (few_both few))

  module _ (l r : U) (hl : IsMergeOfAll lefts l) (hr : IsMergeOfAll rights r) where
    pub halves_merge : (w : U) → IsMergeOf l r w → IsTableWithin given w
    halves_merge w h = subst (λ (d : D). IsTableWithin d w) (sym halves.merge) (h halves.left halves.right (hl halves.left halves.of_left).0 (hr halves.right halves.of_right).0)

    pub halves_fault : limit_passed given ≡ None → (fault : MergeFault) → IsMergeFault l r fault → IsOutOfMemory fault
    halves_fault few Memory h = refl
    halves_fault few (Limit x) h = absurd (some_none x (sym (h halves.left halves.right (hl halves.left halves.of_left).0 (hr halves.right halves.of_right).0) ∙ few_both few))

-- ---- what the counts of all tell
module _ (us : List U) (given : D) (g : IsGivenBy us given) where
  sound : IsSound (merged_of g.digests)
  sound = all_sound g.digests us g.tables

  -- a count of different names is that of the names, and so with tasks
  pub names_counted : (count : ℕ) → ((xs : List SegmentName) → Rises name_cmp xs → ((x : SegmentName) → Contains xs x ↔ Contains (all_names us) x) → count ≡ length xs) → count ≡ length given.names
  names_counted count h = h (merged_of g.digests).names sound.coherent.form.names (names_of_all g.digests us g.tables) ∙ ap (λ (d : D). length d.names) (sym g.merge)

  pub tasks_counted : (count : ℕ) → ((xs : List (List ℕ)) → Rises (slice_cmp nat_cmp) xs → ((x : List ℕ) → Contains xs x ↔ Contains (all_tasks us) x) → count ≡ length xs) → count ≡ length given.tasks
  tasks_counted count h = h (merged_of g.digests).tasks sound.coherent.form.tasks (tasks_of_all g.digests us g.tables) ∙ ap (λ (d : D). length d.tasks) (sym g.merge)

  pub traces_counted : given.traces ≡ all_counts us
  traces_counted = ap (λ (d : D). d.traces) g.merge ∙ traces_of_all g.digests us g.tables

-- the first limit, by the counts
pub too_many_names : (s : D) (count : ℕ) → count ≡ length s.names → 512 < count → limit_passed s ≡ Some (Names count)
too_many_names s count e gt = rw (lt-ltb 512 (length s.names) (omega (arith, e, gt))) (ap (λ (n : ℕ). Some (Names n)) (sym e))

pub too_many_tasks : (s : D) (names count : ℕ) → names ≡ length s.names → names ≤ 512 → count ≡ length s.tasks → 64 < count → limit_passed s ≡ Some (Tasks count)
too_many_tasks s names count d few e gt = rw (le-ltb 512 (length s.names) (omega (arith, d, few)), lt-ltb 64 (length s.tasks) (omega (arith, e, gt))) (ap (λ (n : ℕ). Some (Tasks n)) (sym e))

pub too_many_traces : (s : D) (names tasks : ℕ) → names ≡ length s.names → names ≤ 512 → tasks ≡ length s.tasks → tasks ≤ 64 → 2 ^ 64 ≤ s.traces → limit_passed s ≡ Some Traces
too_many_traces s names tasks d few e less gt = rw (le-ltb 512 (length s.names) (omega (arith, d, few)), le-ltb 64 (length s.tasks) (omega (arith, e, less)), lt-ltb (2 ^ 64 - 1) s.traces (omega (arith, gt))) refl

-- what an option of a number tells
pub counted_none : (o : Option ℕ) (P : Type 0) → is_some o ≡ false → IfNone o P → P
counted_none None P e h = h
counted_none (Some n) P e h = absurd (true≢false e)

pub counted_some : (o : Option ℕ) (P : Type 0) → is_some o ≡ true → IfSome o (λ n. P) → P
counted_some None P e h = absurd (true≢false (sym e))
counted_some (Some n) P e h = h

pub same_list : {X : Type 0} (xs ys zs : List X) → zs ≡ ys → ((x : X) → Contains xs x ↔ Contains ys x) → (x : X) → Contains xs x ↔ Contains zs x
same_list {X} xs ys zs e same x = (
  (λ c. subst (λ (l : List X). Contains l x) (sym e) ((same x).0 c)),
  (λ c. (same x).1 (subst (λ (l : List X). Contains l x) e c)),
)

-- lists of no element, of one and of two
pub list_none : (us : List U) → length us < 1 → us ≡ []
list_none [] lt = refl
list_none (u ∷ us) lt = absurd (omega (arith, lt))

pub list_one : (us : List U) (u : U) → 1 ≤ length us → length us < 2 → u ≡ get_or us 0 u → us ≡ u ∷ []
list_one [] u some few at = absurd (omega (arith, some))
list_one (v ∷ []) u some few at = ap (λ (w : U). w ∷ []) (sym at)
list_one (v ∷ w ∷ us) u some few at = absurd (omega (arith, few))

pub list_two : (us : List U) (u v : U) → 2 ≤ length us → length us < 3 → u ≡ get_or us 0 u → v ≡ get_or us 1 v → us ≡ u ∷ v ∷ []
list_two [] u v some few at there = absurd (omega (arith, some))
list_two (x ∷ []) u v some few at there = absurd (omega (arith, some))
list_two (x ∷ y ∷ []) u v some few at there = λ i. sym at i ∷ sym there i ∷ []
list_two (x ∷ y ∷ z ∷ us) u v some few at there = absurd (omega (arith, few))
