-- Which tasks have lanes.
use Rattle.std.proofs.Common.{◌≡◌, ℕ, ◌+◌, ◌==◌, ◌||◌, List, [], ◌∷◌, ◌++◌, Bool, true, false, refl, sym, ap, ◌∙◌, arith, true≢false}
use Rattle.std.specs.List.{list_any}
use Rattle.std.specs.Prelude.{bytes_eq, if◌then◌else◌}
use Rattle.std.proofs.lemmas.Bool.{eqb-false}
use Rattle.std.proofs.lemmas.List.Folds.{list_any-append}
use Rattle.page_rows.specs.declared.placed_bar.PlacedBar.{PlacedBar}
use Rattle.trace_types.proofs.ComparingLemmas.{text_means, text_own}
use Rattle.lanes_picture.specs.Lanes.{LanesAreOfOneTask, TasksHaveLanes, lane_of, lanes_of, with_bar, with_bars, with_task}

-- a test that one element passes is passed with more of them
any_more : (p : List ℕ → Bool) (xs ys : List (List ℕ)) → list_any p xs ≡ true → list_any p (xs ++ ys) ≡ true
any_more p xs ys h = list_any-append p xs ys ∙ ap (λ b. b || list_any p ys) h

any_last : (p : List ℕ → Bool) (xs : List (List ℕ)) (x : List ℕ) → p x ≡ true → list_any p (xs ++ x ∷ []) ≡ true
any_last p xs x h = list_any-append p xs (x ∷ []) ∙ ap (λ b. list_any p xs || (b || false)) h ∙ or_true (list_any p xs)
  where
    or_true : (b : Bool) → (b || (true || false)) ≡ true
    or_true true = refl
    or_true false = refl

-- a task that was seen stays so
added : (seen : List (List ℕ)) (task : List ℕ) → list_any (bytes_eq task) (with_task seen task) ≡ true
added seen task = by (list_any (bytes_eq task) seen) refl
  where
    by : (b : Bool) → list_any (bytes_eq task) seen ≡ b → list_any (bytes_eq task) (if b then seen else seen ++ task ∷ []) ≡ true
    by true e = e
    by false e = any_last (bytes_eq task) seen task (text_own task)

kept_task : (seen : List (List ℕ)) (task other : List ℕ) → list_any (bytes_eq task) seen ≡ true → list_any (bytes_eq task) (with_task seen other) ≡ true
kept_task seen task other h = by (list_any (bytes_eq other) seen)
  where
    by : (b : Bool) → list_any (bytes_eq task) (if b then seen else seen ++ other ∷ []) ≡ true
    by true = h
    by false = any_more (bytes_eq task) seen (other ∷ []) h

kept_bar : (number : ℕ) (seen : List (List ℕ)) (placed : PlacedBar) (task : List ℕ) → list_any (bytes_eq task) seen ≡ true → list_any (bytes_eq task) (with_bar number seen placed) ≡ true
kept_bar number seen placed task h = by (placed.load == number)
  where
    by : (b : Bool) → list_any (bytes_eq task) (if b then with_task seen placed.bar.name.0 else seen) ≡ true
    by true = kept_task seen task placed.bar.name.0 h
    by false = h

kept : (number : ℕ) (seen : List (List ℕ)) (bars : List PlacedBar) (task : List ℕ) → list_any (bytes_eq task) seen ≡ true → list_any (bytes_eq task) (with_bars number seen bars) ≡ true
kept number seen [] task h = h
kept number seen (placed ∷ bars) task h = kept number (with_bar number seen placed) bars task (kept_bar number seen placed task h)

-- the task of a bar of the load is seen
here : (number : ℕ) (seen : List (List ℕ)) (placed : PlacedBar) → placed.load ≡ number → list_any (bytes_eq placed.bar.name.0) (with_bar number seen placed) ≡ true
here number seen placed e = by (placed.load == number) refl
  where
    by : (b : Bool) → (placed.load == number) ≡ b → list_any (bytes_eq placed.bar.name.0) (if b then with_task seen placed.bar.name.0 else seen) ≡ true
    by true q = added seen placed.bar.name.0
    by false q = absurd (omega (arith, eqb-false placed.load number q, e))

from_here : (number : ℕ) (seen : List (List ℕ)) (before after : List PlacedBar) (placed : PlacedBar) → placed.load ≡ number → list_any (bytes_eq placed.bar.name.0) (with_bars number seen (before ++ placed ∷ after)) ≡ true
from_here number seen [] after placed e = kept number (with_bar number seen placed) after placed.bar.name.0 (here number seen placed e)
from_here number seen (first ∷ before) after placed e = from_here number (with_bar number seen first) before after placed e

pub have_lanes : TasksHaveLanes
have_lanes number bars before after placed is e =
    ap (λ (bs : List PlacedBar). list_any (bytes_eq placed.bar.name.0) (lanes_of number bs)) is ∙ from_here number [] before after placed e

pub of_one : LanesAreOfOneTask
of_one [] task other seen same = absurd (true≢false (sym seen))
of_one (lane ∷ lanes) task other seen same = by (bytes_eq task lane) refl (bytes_eq other lane) refl (λ s k. of_one lanes task other s k) seen same
  where
    by : (b : Bool) → bytes_eq task lane ≡ b → (d : Bool) → bytes_eq other lane ≡ d → (list_any (bytes_eq task) lanes ≡ true → lane_of lanes task ≡ lane_of lanes other → task ≡ other)
        → (b || list_any (bytes_eq task) lanes) ≡ true → (if b then 0 else 1 + lane_of lanes task) ≡ (if d then 0 else 1 + lane_of lanes other) → task ≡ other
    by true e true f rest s k = text_means task lane e ∙ sym (text_means other lane f)
    by true e false f rest s k = absurd (omega (arith, k))
    by false e true f rest s k = absurd (omega (arith, k))
    by false e false f rest s k = rest s (omega (arith, k))
