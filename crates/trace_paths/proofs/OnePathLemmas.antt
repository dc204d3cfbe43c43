-- A trace has one critical path.
use Rattle.std.proofs.Common.{◌≡◌, ◌⊎◌, ℕ, ◌<◌, List, [], ◌∷◌, slice_get, refl, sym, ap, ◌∙◌, subst, ⊎_elim, inl, inr}
use Rattle.std.specs.List.{AllZip}
use Rattle.std.proofs.lemmas.Bool.{cases_order}
use Rattle.std.proofs.lemmas.Option.{same_Some}
use Rattle.trace_types.specs.Parts.{Parts}
use Rattle.trace_graph.specs.GraphLaws.{HasOneGraph}
use Rattle.trace_rules.specs.CriticalPaths.{IsCriticalPath, StandsFor}
use Rattle.weighted_dag.specs.Chains.{IsBefore, IsLongest, NoLongestIsBefore}
use Rattle.weighted_dag.specs.Graphs.{Graph}
use Rattle.trace_paths.specs.PathLaws.{PathsAreOne}

-- of two lists one comes before the other, or they are one
pub one_before : (c d : List ℕ) → (c ≡ d) ⊎ (IsBefore c d ⊎ IsBefore d c)
one_before [] [] = inl refl
one_before [] (b ∷ d) = inr (inl tt)
one_before (a ∷ c) [] = inr (inr tt)
one_before (a ∷ c) (b ∷ d) = ⊎_elim
    (λ (same : a ≡ b). ⊎_elim
    (λ (e : c ≡ d). inl (ap (λ (n : ℕ). n ∷ c) same ∙ ap (λ (l : List ℕ). b ∷ l) e))
    (λ (either : IsBefore c d ⊎ IsBefore d c). inr (⊎_elim
    (λ (before : IsBefore c d). inl (inr (same, before)))
    (λ (after : IsBefore d c). inr (inr (sym same, after)))
    either))
    (one_before c d))
    (λ (either : (a < b) ⊎ (b < a)). inr (⊎_elim
    (λ (before : a < b). inl (inl before))
    (λ (after : b < a). inr (inl after))
    either))
    (cases_order a b)

-- the first longest chain is one
one_chain : (g : Graph) (c d : List ℕ) → IsLongest g c → IsLongest g d → NoLongestIsBefore g c → NoLongestIsBefore g d → c ≡ d
one_chain g c d long_c long_d first_c first_d = ⊎_elim
    (λ (same : c ≡ d). same)
    (λ (either : IsBefore c d ⊎ IsBefore d c). absurd (⊎_elim
    (λ (before : IsBefore c d). first_d c long_c before)
    (λ (after : IsBefore d c). first_c d long_d after)
    either))
    (one_before c d)

-- vertices stand for one list of segments
one_list : {S : Type 0} (segments : List S) (order chain : List ℕ) (path other : List S) → AllZip (StandsFor segments order) chain path → AllZip (StandsFor segments order) chain other → path ≡ other
one_list segments order [] [] [] all more = refl
one_list segments order [] [] (t ∷ other) all more = absurd more
one_list segments order [] (s ∷ path) other all more = absurd all
one_list segments order (v ∷ chain) [] other all more = absurd all
one_list segments order (v ∷ chain) (s ∷ path) [] all more = absurd more
one_list {S} segments order (v ∷ chain) (s ∷ path) (t ∷ other) all more =
    let index : all.0.0 ≡ more.0.0 = same_Some all.0.0 more.0.0 (sym all.0.1 ∙ more.0.1) in
    let segment : s ≡ t = same_Some s t (sym all.0.2 ∙ (ap (slice_get segments) index ∙ more.0.2)) in
    ap (λ (x : S). x ∷ path) segment ∙ ap (λ (l : List S). t ∷ l) (one_list segments order chain path other all.1 more.1)

one_path : {A S N T E : Type 0} (p : Parts A S N T E) (Excludes : N → N → Type 0) → HasOneGraph p Excludes → (trace : A) (path other : List S) → IsCriticalPath p Excludes trace path → IsCriticalPath p Excludes trace other → path ≡ other
one_path {A} {S} p Excludes one trace path other is was =
    let both = one trace is.order was.order is.graph was.graph is.form was.form is.dependencies was.dependencies in
    let chain : is.chain ≡ was.chain = one_chain was.graph is.chain was.chain (subst (λ (g : Graph). IsLongest g is.chain) both.1 is.longest) was.longest (subst (λ (g : Graph). NoLongestIsBefore g is.chain) both.1 is.first) was.first in
    one_list (p.segments trace) was.order was.chain path other
    (subst (λ (c : List ℕ). AllZip (StandsFor (p.segments trace) was.order) c path) chain (subst (λ (o : List ℕ). AllZip (StandsFor (p.segments trace) o) is.chain path) both.0 is.segments)) was.segments

pub paths_one : {A S N T E : Type 0} (p : Parts A S N T E) (Excludes : N → N → Type 0) → HasOneGraph p Excludes → PathsAreOne p Excludes
paths_one {A} {S} p Excludes one = go
  where
    go : (ts : List A) (paths others : List (List S)) → AllZip (IsCriticalPath p Excludes) ts paths → AllZip (IsCriticalPath p Excludes) ts others → paths ≡ others
    go [] [] [] all more = refl
    go [] [] (o ∷ others) all more = absurd more
    go [] (c ∷ paths) others all more = absurd all
    go (t ∷ ts) [] others all more = absurd all
    go (t ∷ ts) (c ∷ paths) [] all more = absurd more
    go (t ∷ ts) (c ∷ paths) (o ∷ others) all more =
        ap (λ (x : List S). x ∷ paths) (one_path p Excludes one t c o all.0 more.0) ∙ ap (λ (l : List (List S)). o ∷ l) (go ts paths others all.1 more.1)
