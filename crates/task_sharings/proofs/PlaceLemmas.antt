-- A table of figures, place by place.
use Rattle.std.proofs.Common.{◌≡◌, ◌≢◌, ℕ, ◌+◌, ◌*◌, ◌<◌, ◌≤◌, List, [], ◌∷◌, ◌++◌, length, drop, take, set, replicate, refl, sym, ◌∙◌, subst, arith, ⊎_elim, length-set, get_or-set_same, get_or-set_other}
use Rattle.std.proofs.Math.Nat.{mul-le-mul_right}
use Rattle.std.proofs.lemmas.Bool.{cases_lt}
use Rattle.std.proofs.lemmas.List.{get_or-replicate, length-replicate, take_at}
use Rattle.std.proofs.lemmas.Nat.{mul-add-lt, same_from_place}
use Rattle.evidence_rules.specs.Sharings.{Share}
use Rattle.evidence_rules.specs.declared.sharing.Sharing.{Sharing}
use Rattle.task_rows.specs.Tables.{IsTableOf, entry, no_figures}
use Rattle.trace_types.specs.Parts.{by_number}
use Rattle.trace_types.specs.declared.named_trace.NamedTrace.{NamedTrace}
use Rattle.task_sharings.specs.inner.Tables.{AreSoFar, IsHalfway, IsTableSoFar}
use Rattle.task_sharings.proofs.FigureLemmas.{apart_more, figures_all, figures_none}

-- the entry of two tasks is within the table
pub place_within : (tasks t u : ℕ) (figures : List Sharing) → length figures ≡ tasks * tasks → t < tasks → u < tasks → t * tasks + u < length figures
place_within tasks t u figures long ht hu = let l = mul-add-lt t tasks u tasks ht hu in subst (λ (n : ℕ). t * tasks + u < n) (sym long) l

module _ (all tasks : ℕ) (traces : List NamedTrace) (trace : NamedTrace) where
  abbrev longer : List NamedTrace
  longer = traces ++ trace ∷ []

  pub halfway_none : (figures : List Sharing) → IsTableSoFar all tasks traces figures → IsHalfway all tasks traces trace 0 figures
  halfway_none figures so = record { long = so.long; done = λ t u ht hu l. absurd (omega (arith, l)); left = λ t u ht hu l. so.each t u ht hu }

  pub halfway_all : (figures : List Sharing) → IsHalfway all tasks traces trace (tasks * tasks) figures → IsTableSoFar all tasks longer figures
  halfway_all figures so = record { long = so.long; each = λ t u ht hu. so.done t u ht hu (mul-add-lt t tasks u tasks ht hu) }

  module _ (t u : ℕ) (ht : t < tasks) (hu : u < tasks) (figures : List Sharing) (so : IsHalfway all tasks traces trace (t * tasks + u) figures) where
    abbrev place : ℕ
    place = t * tasks + u

    -- the entry of these two tasks in a table, by which both are found
    at_same : (l : List Sharing) (a b : ℕ) → b < tasks → a * tasks + b ≡ place → AreSoFar all longer t u (entry l place) → AreSoFar all longer a b (entry l (a * tasks + b))
    at_same l a b hb e is =
        let same = same_from_place a b t u tasks hb hu e in
        subst (λ (x : ℕ). AreSoFar all longer x b (entry l (x * tasks + b))) (sym same.0)
        (subst (λ (y : ℕ). AreSoFar all longer t y (entry l (t * tasks + y))) (sym same.1) is)

    pub halfway_kept : AreSoFar all longer t u (entry figures place) → IsHalfway all tasks traces trace (place + 1) figures
    halfway_kept is = record {
      long = so.long;
      done = λ a b ha hb l. ⊎_elim
          (λ (low : a * tasks + b < place). so.done a b ha hb low)
          (λ (high : place ≤ a * tasks + b). at_same figures a b hb (omega (arith, l, high)) is)
          (cases_lt (a * tasks + b) place);
      left = λ a b ha hb l. so.left a b ha hb (omega (arith, l));
    }

    pub halfway_set : (g : Sharing) → AreSoFar all longer t u g → IsHalfway all tasks traces trace (place + 1) (set figures place g)
    halfway_set g is = record {
      long = length-set figures place g ∙ so.long;
      done = λ a b ha hb l. ⊎_elim
          (λ (low : a * tasks + b < place). subst (AreSoFar all longer a b) (sym (other_entry (a * tasks + b) (λ e. absurd (omega (arith, low, e))))) (so.done a b ha hb low))
          (λ (high : place ≤ a * tasks + b). at_same (set figures place g) a b hb (omega (arith, l, high)) (subst (AreSoFar all longer t u) (sym same_entry) is))
          (cases_lt (a * tasks + b) place);
      left = λ a b ha hb l. subst (AreSoFar all traces a b) (sym (other_entry (a * tasks + b) (λ e. absurd (omega (arith, l, e))))) (so.left a b ha hb (omega (arith, l)));
    }
      where
        same_entry : entry (set figures place g) place ≡ g
        same_entry = get_or-set_same figures place g no_figures (place_within tasks t u figures so.long ht hu)

        other_entry : (k : ℕ) → k ≢ place → entry (set figures place g) k ≡ entry figures k
        other_entry k ne = get_or-set_other figures place k g no_figures ne

  -- a task without elements
  pub halfway_row : (t : ℕ) → t < tasks → ((u e : ℕ) → Share by_number trace t u e → ⊥) → (figures : List Sharing) → IsHalfway all tasks traces trace (t * tasks) figures → IsHalfway all tasks traces trace ((t + 1) * tasks) figures
  halfway_row t ht none figures so = record {
    long = so.long;
    done = λ a b ha hb l. ⊎_elim
        (λ (low : a * tasks + b < t * tasks). so.done a b ha hb low)
        (λ (high : t * tasks ≤ a * tasks + b).
        let same : a ≡ t = row_of a b hb l high in
        apart_more all traces trace a b (entry figures (a * tasks + b)) (so.left a b ha hb high) (λ e. subst (λ (x : ℕ). Share by_number trace x b e → ⊥) (sym same) (none b e)))
        (cases_lt (a * tasks + b) (t * tasks));
    left = λ a b ha hb l. so.left a b ha hb (let m = mul-le-mul_right {m = t} {n = t + 1} tasks (omega arith) in omega (arith, l, m));
  }
    where
      row_of : (a b : ℕ) → b < tasks → a * tasks + b < (t + 1) * tasks → t * tasks ≤ a * tasks + b → a ≡ t
      row_of a b hb l high = ⊎_elim
          (λ (low : a < t). let m = mul-le-mul_right {m = a + 1} {n = t} tasks (omega (arith, low)) in let e : (a + 1) * tasks ≡ a * tasks + tasks = grind arith in absurd (omega (arith, hb, high, m, e)))
          (λ (ge : t ≤ a). ⊎_elim
          (λ (here : a < t + 1). omega (arith, ge, here))
          (λ (past : t + 1 ≤ a). let m = mul-le-mul_right {m = t + 1} {n = a} tasks past in absurd (omega (arith, l, m)))
          (cases_lt a (t + 1)))
          (cases_lt a t)

-- ---- before all traces, one trace more, and after all
pub table_none : (all tasks count : ℕ) → count ≡ tasks * tasks → IsTableSoFar all tasks [] (replicate count (record { traces = 0; elements = 0; refuted = 0; first_refuted = all }))
table_none all tasks count e = record {
  long = length-replicate count none ∙ e;
  each = λ t u ht hu. subst (AreSoFar all [] t u) (sym (get_or-replicate count (t * tasks + u) none no_figures (let l = mul-add-lt t tasks u tasks ht hu in subst (λ (k : ℕ). t * tasks + u < k) (sym e) l))) (figures_none all t u);
}
  where
    none : Sharing
    none = record { traces = 0; elements = 0; refuted = 0; first_refuted = all }

pub table_all : (tasks : ℕ) (traces : List NamedTrace) (figures : List Sharing) → IsTableSoFar (length traces) tasks traces figures → IsTableOf tasks traces (record { tasks = tasks; figures = figures })
table_all tasks traces figures so = λ t u ht hu. figures_all (length traces) traces t u (entry figures (t * tasks + u)) refl (so.each t u ht hu)

-- a list that was lent is written back
pub written_back : {X : Type 0} (n : ℕ) (old new : List X) → n ≡ length old → length new ≡ length old → take n (new ++ drop (length new) old) ≡ new
written_back n old new size same = take_at new (drop (length new) old) n (omega (arith, size, same))
