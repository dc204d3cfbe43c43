-- The lists of the elements of each task of a trace.
use Rattle.std.proofs.Common.{Bool, true, false, not, ◌==◌, ◌≡◌, ℕ, ◌+◌, ◌<◌, ◌≤◌, List, [], ◌∷◌, ◌++◌, Vec, length, map, get_or, Contains, refl, sym, ap, ◌∙◌, subst, arith, ⊎_elim}
use Rattle.std.specs.declared.alloc.Global.{Global}
use Rattle.std.proofs.lemmas.Bool.{cases_lt, eqb-true, false≢true}
use Rattle.std.proofs.lemmas.List.{get_or-map, get_or_append_left, get_or_push, length-map, length_push, map_push}
use Rattle.evidence_rules.specs.Sharings.{Share}
use Rattle.shared_elements.specs.Elements.{AreElementsOf, IsElementOf}
use Rattle.trace_types.specs.Listing.{AreExactly}
use Rattle.trace_types.specs.Parts.{by_number}
use Rattle.trace_types.specs.declared.named_trace.NamedTrace.{NamedTrace}
use Rattle.task_sharings.specs.inner.Traces.{AreListsOf}

abbrev lists_of : List (Vec ℕ Global) → List (List ℕ)
lists_of lists = map (λ (v : Vec ℕ Global). v.items) lists

pub lists_none : (trace : NamedTrace) → AreListsOf trace 0 []
lists_none trace = record { long = refl; each = λ t l. absurd (omega (arith, l)) }

pub lists_more : (trace : NamedTrace) (tasks : ℕ) (lists : List (Vec ℕ Global)) (v : Vec ℕ Global) → AreListsOf trace tasks lists → AreElementsOf trace tasks v.items → AreListsOf trace (tasks + 1) (lists ++ v ∷ [])
lists_more trace tasks lists v so is = record {
  long = length_push lists v ∙ ap (λ (n : ℕ). n + 1) so.long;
  each = λ t l. subst (λ (ls : List (List ℕ)). AreElementsOf trace t (get_or ls t [])) (sym (map_push (λ (w : Vec ℕ Global). w.items) lists v))
      (⊎_elim
      (λ (low : t < tasks). subst (AreElementsOf trace t) (sym (get_or_append_left (lists_of lists) (v.items ∷ []) [] t (omega (arith, low, size)))) (so.each t low))
      (λ (high : tasks ≤ t). let here : tasks ≡ t = omega (arith, l, high) in
      subst (AreElementsOf trace t) (sym (get_or_push (lists_of lists) v.items [] t (omega (arith, size, here)))) (subst (λ (n : ℕ). AreElementsOf trace n v.items) here is))
      (cases_lt t tasks));
}
  where
    size : length (lists_of lists) ≡ tasks
    size = length-map lists (λ (w : Vec ℕ Global). w.items) ∙ so.long

-- the list that is read
pub list_read : (trace : NamedTrace) (tasks task : ℕ) (lists : List (Vec ℕ Global)) (v : Vec ℕ Global) → AreListsOf trace tasks lists → task < tasks → v ≡ get_or lists task v → AreElementsOf trace task v.items
list_read trace tasks task lists v so inside is =
    subst (AreElementsOf trace task) (get_or-map (λ (w : Vec ℕ Global). w.items) lists task v [] (let l = so.long in omega arith) ∙ sym (ap (λ (w : Vec ℕ Global). w.items) is)) (so.each task inside)

-- what two lists have in common the two tasks share
pub common_shared : (trace : NamedTrace) (t u n : ℕ) (one other : List ℕ) → AreElementsOf trace t one → AreElementsOf trace u other → AreExactly (λ e. Contains one e × Contains other e) n → AreExactly (Share by_number trace t u) n
common_shared trace t u n one other first second are = record {
  all = are.all;
  differ = are.differ;
  exactly = λ e. (
    (λ c. let both = (are.exactly e).0 c in let a = (first.exactly e).0 both.0 in let b = (second.exactly e).0 both.1 in record { k = a.0; l = b.0; s = a.1; r = b.1; one = a.2; other = b.2 }),
    (λ s. (are.exactly e).1 ((first.exactly e).1 (s.k, s.s, s.one), (second.exactly e).1 (s.l, s.r, s.other))),
  );
  count = are.count;
}

-- of no element in common there is no share
pub none_shared : (trace : NamedTrace) (t u : ℕ) → AreExactly (Share by_number trace t u) 0 → (e : ℕ) → Share by_number trace t u e → ⊥
none_shared trace t u are e s = let c = (are.exactly e).1 s in let l = c.1 in let n = are.count in omega arith

-- an empty list
pub nothing_listed : (trace : NamedTrace) (task : ℕ) (elements : List ℕ) (long : ℕ) (empty : Bool) → AreElementsOf trace task elements → long ≡ length elements → empty ≡ (long == 0) → not empty ≡ false → (e : ℕ) → IsElementOf trace task e → ⊥
nothing_listed trace task elements long false are size is none e h = absurd (false≢true (sym none))
nothing_listed trace task elements long true are size is none e h = let l = ((are.exactly e).1 h).1 in let z = eqb-true long 0 (sym is) in omega arith
