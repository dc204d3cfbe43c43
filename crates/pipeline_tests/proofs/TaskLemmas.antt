-- One more pair of tasks, one more task, and all of them. Words rise by themselves.
use Rattle.std.proofs.Common.{◌≡◌, ℕ, ◌+◌, ◌<◌, ◌≤◌, true, List, [], ◌∷◌, ◌++◌, length, get_or, take, All, sym, ap, ◌∙◌, subst, ⊎_elim, ◌⊎◌, inl, inr, arith}
use Rattle.std.proofs.lemmas.Bool.{cases_order}
use Rattle.std.proofs.lemmas.List.{get_or_default, get_or-take, length-take-le}
use Rattle.std.proofs.lemmas.List.Elements.{All-contains, Contains-append_left, Contains-push, Contains-push_cases}
use Rattle.std.specs.List.{Contains}
use Rattle.hypothesis_index.specs.Places.{IsRelation, pairs_below}
use Rattle.hypothesis_index.specs.Refuting.{IsPlaceOfSome, Refutes, RefutesNames, RefutesTasks}
use Rattle.hypothesis_index.specs.declared.relation.Relation.{Relation}
use Rattle.hypothesis_index.specs.declared.relation.Relation.TheVariants.{Before, Exclusive, Apart, Pipe, Unshared}
use Rattle.hypothesis_index.proofs.PairLemmas.{pairs_below-64}
use Rattle.pipeline_tests.specs.declared.groups.TaskStays.{TaskStays}
use Rattle.pipeline_tests.specs.inner.Groups.{AreGroups, HasTask, TasksRise}
use Rattle.pipeline_tests.specs.inner.Pairs.{IsAmong, IsBetween, IsWithBefore, task_start, task_word}
use Rattle.refute_tests.specs.Clearing.{AddsExactly}
use Rattle.trace_types.specs.declared.named_trace.NamedTrace.{NamedTrace}
use Rattle.word_rows.specs.Meeting.{BelowWider}
use Rattle.word_rows.specs.Rows.{below, clears}
use Rattle.word_rows.specs.declared.entries.Entry.{Entry}

-- ---- rows that add places to rows

pub place_map : (P Q : Relation → Type 0) (i b : ℕ) → ((r : Relation) → IsRelation r → P r → Q r) → IsPlaceOfSome P i b → IsPlaceOfSome Q i b
place_map P Q i b f p = (p.0, p.1, p.2, f p.0 p.1 p.3)

pub adds_none : (row : List Entry) (P : Relation → Type 0) → ((r : Relation) → P r → ⊥) → AddsExactly row P row
adds_none row P none i b = ((λ c. inl c), (λ o. ⊎_elim (λ (c : clears row i b ≡ true). c) (λ (p : IsPlaceOfSome P i b). absurd (none p.0 p.3)) o))

-- what two steps add, together
pub adds_then : (first old new : List Entry) (P Q R : Relation → Type 0) → AddsExactly first P old → AddsExactly old Q new
    → ((r : Relation) → IsRelation r → P r → R r) → ((r : Relation) → IsRelation r → Q r → R r) → ((r : Relation) → IsRelation r → R r → P r ⊎ Q r) → AddsExactly first R new
adds_then first old new P Q R a c p q back i b = (
  (λ h. ⊎_elim
      (λ (o : clears old i b ≡ true). ⊎_elim (λ (x : clears first i b ≡ true). inl x) (λ (x : IsPlaceOfSome P i b). inr (place_map P R i b p x)) ((a i b).0 o))
      (λ (o : IsPlaceOfSome Q i b). inr (place_map Q R i b q o))
      ((c i b).0 h)),
  (λ h. ⊎_elim
      (λ (o : clears first i b ≡ true). (c i b).1 (inl ((a i b).1 (inl o))))
      (λ (o : IsPlaceOfSome R i b). ⊎_elim
      (λ (x : P o.0). (c i b).1 (inl ((a i b).1 (inr (o.0, o.1, o.2, x)))))
      (λ (x : Q o.0). (c i b).1 (inr (o.0, o.1, o.2, x)))
      (back o.0 o.1 o.3))
      h),
)

pub adds_same : (old new : List Entry) (P Q : Relation → Type 0) → AddsExactly old P new → ((r : Relation) → IsRelation r → P r → Q r) → ((r : Relation) → IsRelation r → Q r → P r) → AddsExactly old Q new
adds_same old new P Q a to from i b = (
  (λ h. ⊎_elim (λ (o : clears old i b ≡ true). inl o) (λ (o : IsPlaceOfSome P i b). inr (place_map P Q i b to o)) ((a i b).0 h)),
  (λ h. (a i b).1 (⊎_elim (λ (o : clears old i b ≡ true). inl o) (λ (o : IsPlaceOfSome Q i b). inr (place_map Q P i b from o)) h)),
)

-- a relation that is refuted is one of tasks or one of names
pub either_kind : (trace : NamedTrace) (r : Relation) → Refutes r trace → RefutesTasks r trace ⊎ RefutesNames r trace
either_kind trace (Before a b) f = inr f
either_kind trace (Exclusive a b) f = inr f
either_kind trace (Apart a b) f = inr f
either_kind trace (Pipe t u) f = inl f
either_kind trace (Unshared t u) f = inl f

pub of_tasks : (trace : NamedTrace) (r : Relation) → RefutesTasks r trace → Refutes r trace
of_tasks trace (Before a b) f = absurd f
of_tasks trace (Exclusive a b) f = absurd f
of_tasks trace (Apart a b) f = absurd f
of_tasks trace (Pipe t u) f = f
of_tasks trace (Unshared t u) f = f

pub of_names : (trace : NamedTrace) (r : Relation) → RefutesNames r trace → Refutes r trace
of_names trace (Before a b) f = f
of_names trace (Exclusive a b) f = f
of_names trace (Apart a b) f = f
of_names trace (Pipe t u) f = absurd f
of_names trace (Unshared t u) f = absurd f

-- ---- groups

pub no_task : (t : ℕ) → HasTask [] t → ⊥
no_task t h = let l : h.1.0 < 0 = h.1.1 in omega arith

pub task_kept : (groups : List TaskStays) (g : TaskStays) (t : ℕ) → HasTask groups t → HasTask (groups ++ g ∷ []) t
task_kept groups g t h = (h.0, Contains-append_left groups (g ∷ []) h.0 h.1, h.2)

pub task_last : (groups : List TaskStays) (g : TaskStays) (t : ℕ) → t ≡ g.task → HasTask (groups ++ g ∷ []) t
task_last groups g t e = (g, Contains-push groups g, sym e)

pub task_cases : (groups : List TaskStays) (g : TaskStays) (t : ℕ) → HasTask (groups ++ g ∷ []) t → HasTask groups t ⊎ (t ≡ g.task)
task_cases groups g t h = ⊎_elim
    (λ (o : Contains groups h.0). inl (h.0, o, h.2))
    (λ (o : g ≡ h.0). inr (sym h.2 ∙ ap (λ (x : TaskStays). x.task) (sym o)))
    (Contains-push_cases groups g h.0 h.1)

-- ---- one more pair of a task

pub with_none : (high : ℕ) (r : Relation) → IsWithBefore [] high r → ⊥
with_none high (Before a b) h = h
with_none high (Exclusive a b) h = h
with_none high (Apart a b) h = h
with_none high (Pipe t u) (inl h) = no_task t h.0
with_none high (Pipe t u) (inr h) = no_task u h.1
with_none high (Unshared t u) h = no_task t h.0

module _ (before : List TaskStays) (g : TaskStays) (high : ℕ) where
  pub with_kept : (r : Relation) → IsWithBefore before high r → IsWithBefore (before ++ g ∷ []) high r
  with_kept (Before a b) h = absurd h
  with_kept (Exclusive a b) h = absurd h
  with_kept (Apart a b) h = absurd h
  with_kept (Pipe t u) (inl h) = inl (task_kept before g t h.0, h.1)
  with_kept (Pipe t u) (inr h) = inr (h.0, task_kept before g u h.1)
  with_kept (Unshared t u) h = (task_kept before g t h.0, h.1)

  pub with_last : (r : Relation) → IsBetween g.task high r → IsWithBefore (before ++ g ∷ []) high r
  with_last (Before a b) h = absurd h
  with_last (Exclusive a b) h = absurd h
  with_last (Apart a b) h = absurd h
  with_last (Pipe t u) (inl h) = inl (task_last before g t h.0, h.1)
  with_last (Pipe t u) (inr h) = inr (h.0, task_last before g u h.1)
  with_last (Unshared t u) h = (task_last before g t h.0, h.1)

  pub with_cases : (r : Relation) → IsWithBefore (before ++ g ∷ []) high r → IsWithBefore before high r ⊎ IsBetween g.task high r
  with_cases (Before a b) h = absurd h
  with_cases (Exclusive a b) h = absurd h
  with_cases (Apart a b) h = absurd h
  with_cases (Pipe t u) (inl h) = ⊎_elim (λ (o : HasTask before t). inl (inl (o, h.1))) (λ (o : t ≡ g.task). inr (inl (o, h.1))) (task_cases before g t h.0)
  with_cases (Pipe t u) (inr h) = ⊎_elim (λ (o : HasTask before u). inl (inr (h.0, o))) (λ (o : u ≡ g.task). inr (inr (h.0, o))) (task_cases before g u h.1)
  with_cases (Unshared t u) h = ⊎_elim (λ (o : HasTask before t). inl (o, h.1)) (λ (o : t ≡ g.task). inr (o, h.1)) (task_cases before g t h.0)

  pub pair_more : (trace : NamedTrace) (first old new : List Entry) → AddsExactly first (λ r. IsWithBefore before high r × RefutesTasks r trace) old → AddsExactly old (λ r. IsBetween g.task high r × RefutesTasks r trace) new
      → AddsExactly first (λ r. IsWithBefore (before ++ g ∷ []) high r × RefutesTasks r trace) new
  pair_more trace first old new a b = adds_then first old new (λ r. IsWithBefore before high r × RefutesTasks r trace) (λ r. IsBetween g.task high r × RefutesTasks r trace) (λ r. IsWithBefore (before ++ g ∷ []) high r × RefutesTasks r trace) a b
      (λ r v h. (with_kept r h.0, h.1))
      (λ r v h. (with_last r h.0, h.1))
      (λ r v h. ⊎_elim (λ (o : IsWithBefore before high r). inl (o, h.1)) (λ (o : IsBetween g.task high r). inr (o, h.1)) (with_cases r h.0))

-- ---- one more task

pub among_none : (r : Relation) → IsAmong [] r → ⊥
among_none (Before a b) h = h
among_none (Exclusive a b) h = h
among_none (Apart a b) h = h
among_none (Pipe t u) h = no_task t h.0
among_none (Unshared t u) h = no_task t h.0

module _ (groups : List TaskStays) (g : TaskStays) (less : All (λ (x : TaskStays). x.task < g.task) groups) where
  among_kept : (r : Relation) → IsAmong groups r → IsAmong (groups ++ g ∷ []) r
  among_kept (Before a b) h = absurd h
  among_kept (Exclusive a b) h = absurd h
  among_kept (Apart a b) h = absurd h
  among_kept (Pipe t u) h = (task_kept groups g t h.0, task_kept groups g u h.1)
  among_kept (Unshared t u) h = (task_kept groups g t h.0, task_kept groups g u h.1)

  among_last : (r : Relation) → IsWithBefore groups g.task r → IsAmong (groups ++ g ∷ []) r
  among_last (Before a b) h = absurd h
  among_last (Exclusive a b) h = absurd h
  among_last (Apart a b) h = absurd h
  among_last (Pipe t u) (inl h) = (task_kept groups g t h.0, task_last groups g u h.1)
  among_last (Pipe t u) (inr h) = (task_last groups g t h.0, task_kept groups g u h.1)
  among_last (Unshared t u) h = (task_kept groups g t h.0, task_last groups g u h.1)

  is_less : (t : ℕ) → HasTask groups t → t < g.task
  is_less t h = let l : h.0.task < g.task = All-contains (λ (x : TaskStays). x.task < g.task) groups h.0 less h.1 in let e : h.0.task ≡ t = h.2 in omega arith

  among_cases : (r : Relation) → IsRelation r → IsAmong (groups ++ g ∷ []) r → IsAmong groups r ⊎ IsWithBefore groups g.task r
  among_cases (Before a b) v h = absurd h
  among_cases (Exclusive a b) v h = absurd h
  among_cases (Apart a b) v h = absurd h
  among_cases (Pipe t u) v h = ⊎_elim
      (λ (x : HasTask groups t). ⊎_elim (λ (y : HasTask groups u). inl (x, y)) (λ (y : u ≡ g.task). inr (inl (x, y))) (task_cases groups g u h.1))
      (λ (x : t ≡ g.task). ⊎_elim (λ (y : HasTask groups u). inr (inr (x, y))) (λ (y : u ≡ g.task). absurd (let apart = v.0 in apart (x ∙ sym y))) (task_cases groups g u h.1))
      (task_cases groups g t h.0)
  among_cases (Unshared t u) v h = let up : t < u = v.0 in ⊎_elim
      (λ (x : HasTask groups t). ⊎_elim (λ (y : HasTask groups u). inl (x, y)) (λ (y : u ≡ g.task). inr (x, y)) (task_cases groups g u h.1))
      (λ (x : t ≡ g.task). ⊎_elim (λ (y : HasTask groups u). absurd (let l = is_less u y in omega arith)) (λ (y : u ≡ g.task). absurd (omega arith)) (task_cases groups g u h.1))
      (task_cases groups g t h.0)

  pub task_more : (trace : NamedTrace) (first old new : List Entry) → AddsExactly first (λ r. IsAmong groups r × RefutesTasks r trace) old → AddsExactly old (λ r. IsWithBefore groups g.task r × RefutesTasks r trace) new
      → AddsExactly first (λ r. IsAmong (groups ++ g ∷ []) r × RefutesTasks r trace) new
  task_more trace first old new a b = adds_then first old new (λ r. IsAmong groups r × RefutesTasks r trace) (λ r. IsWithBefore groups g.task r × RefutesTasks r trace) (λ r. IsAmong (groups ++ g ∷ []) r × RefutesTasks r trace) a b
      (λ r v h. (among_kept r h.0, h.1))
      (λ r v h. (among_last r h.0, h.1))
      (λ r v h. ⊎_elim (λ (o : IsAmong groups r). inl (o, h.1)) (λ (o : IsWithBefore groups g.task r). inr (o, h.1)) (among_cases r v h.0))

-- the tasks of a relation that is refuted all have groups
pub are_among : (trace : NamedTrace) (groups : List TaskStays) → AreGroups trace 64 groups → (r : Relation) → IsRelation r → RefutesTasks r trace → IsAmong groups r
are_among trace groups g (Before a b) v f = absurd f
are_among trace groups g (Exclusive a b) v f = absurd f
are_among trace groups g (Apart a b) v f = absurd f
are_among trace groups g (Pipe t u) v (inl f) = (g.complete t f.element f.giver f.given v.1 f.ends.handles, g.complete u f.element f.taker f.taken v.2 f.starts.handles)
are_among trace groups g (Pipe t u) v (inr f) = let a = f.in_order in let b = f.turned in (g.complete t f.one a.earlier a.s v.1 a.first.handles, g.complete u f.other b.earlier b.s v.2 b.first.handles)
are_among trace groups g (Unshared t u) v f = let up : t < u = v.0 in let small : u < 64 = v.1 in (g.complete t f.element f.k f.s (omega arith) f.one, g.complete u f.element f.l f.r small f.other)

pub all_among : (trace : NamedTrace) (groups : List TaskStays) → AreGroups trace 64 groups → (old new : List Entry) → AddsExactly old (λ r. IsAmong groups r × RefutesTasks r trace) new → AddsExactly old (λ r. RefutesTasks r trace) new
all_among trace groups g old new a = adds_same old new (λ r. IsAmong groups r × RefutesTasks r trace) (λ r. RefutesTasks r trace) a (λ r v h. h.1) (λ r v h. (are_among trace groups g r v h, h))

-- ---- parts of a list of groups

pub less_take : (k : ℕ) (groups : List TaskStays) (g : TaskStays) → TasksRise groups → k < length groups → g ≡ get_or groups k g → All (λ (x : TaskStays). x.task < g.task) (take k groups)
less_take k groups g rise h at i d l =
    let long : length (take k groups) ≡ k = length-take-le k groups (omega arith) in
    let a = get_or-take k groups i d (omega arith) in
    let here : get_or groups k d ≡ g = get_or_default groups k d g h ∙ sym at in
    subst (λ (x : TaskStays). x.task < g.task) (sym a) (subst (λ (y : TaskStays). (get_or groups i d).task < y.task) here (rise i k d (omega arith) h))

pub rise_take : (k : ℕ) (groups : List TaskStays) → TasksRise groups → k ≤ length groups → TasksRise (take k groups)
rise_take k groups rise h i j d l m =
    let long : length (take k groups) ≡ k = length-take-le k groups h in
    let a = get_or-take k groups i d (omega arith) in
    let b = get_or-take k groups j d (omega arith) in
    subst (λ (x : TaskStays). x.task < (get_or (take k groups) j d).task) (sym a) (subst (λ (y : TaskStays). (get_or groups i d).task < y.task) (sym b) (rise i j d l (omega arith)))

-- ---- words

abbrev pub PairsFollow : Type 0
PairsFollow = (high higher : ℕ) → high < higher → (pairs_below high + high) ≤ pairs_below higher

module _ (wider : BelowWider) (follow : PairsFollow) (row : List Entry) where
  pub starts : (i j : ℕ) → i < j → below (task_start j + 1) row ≡ true → below (task_word i j + 1) row ≡ true
  starts i j l t = wider (task_start j + 1) (task_word i j + 1) row (omega arith) t

  pub ends_empty : (j : ℕ) → below (task_start j + 1) row ≡ true → below (task_start (j + 1) + 1) row ≡ true
  ends_empty j t = let s = follow j (j + 1) (omega arith) in wider (task_start j + 1) (task_start (j + 1) + 1) row (omega arith) t

  pub next_pair : (i i' j : ℕ) → i < i' → below (task_word i j + 1) row ≡ true → below (task_word i' j + 1) row ≡ true
  next_pair i i' j l t = wider (task_word i j + 1) (task_word i' j + 1) row (omega arith) t

  pub ends_pair : (i j : ℕ) → i < j → below (task_word i j + 1) row ≡ true → below (task_start (j + 1) + 1) row ≡ true
  ends_pair i j l t = let s = follow j (j + 1) (omega arith) in wider (task_word i j + 1) (task_start (j + 1) + 1) row (omega arith) t

  pub pair_fits : (i j : ℕ) → i < j → j < 64 → below (task_word i j + 1) row ≡ true → below 126 row ≡ true
  pair_fits i j l m t = let s = follow j 64 m in let e = pairs_below-64 in wider (task_word i j + 1) 126 row (omega arith) t

  pub next_task : (j j' : ℕ) → j < j' → below (task_start (j + 1) + 1) row ≡ true → below (task_start j' + 1) row ≡ true
  next_task j j' l t = ⊎_elim
      (λ (e : j + 1 ≡ j'). subst (λ (n : ℕ). below (task_start n + 1) row ≡ true) e t)
      (⊎_elim
      (λ (e : j + 1 < j'). let s = follow (j + 1) j' e in wider (task_start (j + 1) + 1) (task_start j' + 1) row (omega arith) t)
      (λ (e : j' < j + 1). absurd (omega arith)))
      (cases_order (j + 1) j')

  pub first_task : (j : ℕ) → below 1 row ≡ true → below (task_start j + 1) row ≡ true
  first_task j t = wider 1 (task_start j + 1) row (omega arith) t
