-- The figures of two tasks, trace by trace.
use Rattle.std.proofs.Common.{◌≡◌, ◌↔◌, ℕ, zero, suc, ◌+◌, ◌<◌, ◌≤◌, ◌^◌, Bool, true, false, cond, eqb, ◌&&◌, List, [], ◌∷◌, ◌++◌, length, get_or, sum, count_by, refl, sym, ap, ◌∙◌, subst, arith, ⊎_elim, lt_irrefl, zero-add}
use Rattle.std.proofs.Math.Nat.{add-zero}
use Rattle.std.specs.List.{AllZip}
use Rattle.std.proofs.lemmas.Bool.{ne_eqb}
use Rattle.std.proofs.lemmas.List.{length_push}
use Rattle.std.proofs.lemmas.List.Elements.{Contains-get_or}
use Rattle.std.proofs.lemmas.List.Sums.{sum_by-append, sum_by-cons}
use Rattle.evidence_rules.specs.Sharings.{AreSharings, Share, first_true}
use Rattle.evidence_rules.specs.declared.sharing.Sharing.{Sharing}
use Rattle.trace_types.specs.Listing.{AreExactly}
use Rattle.trace_types.specs.Parts.{by_number}
use Rattle.trace_types.specs.Pipelines.{RefutesPipe, RefutesUnshared, TakesOutOfOrder, TakesUnfinished}
use Rattle.trace_types.specs.declared.named_trace.NamedTrace.{NamedTrace}
use Rattle.task_sharings.specs.inner.Adding.{told_after, with_trace}
use Rattle.task_sharings.specs.inner.Tables.{AreSoFar}

zip_push : {X Y : Type 0} (R : X → Y → Type 0) (xs : List X) (ys : List Y) (x : X) (y : Y) → AllZip R xs ys → R x y → AllZip R (xs ++ x ∷ []) (ys ++ y ∷ [])
zip_push R [] [] x y z r = (r, tt)
zip_push R [] (v ∷ ys) x y z r = absurd z
zip_push R (u ∷ xs) [] x y z r = absurd z
zip_push R (u ∷ xs) (v ∷ ys) x y z r = (z.0, zip_push R xs ys x y z.1 r)

-- ---- truth values
abbrev trues : List Bool → ℕ
trues vs = count_by (λ v. v) vs

trues_push : (vs : List Bool) (v : Bool) → trues (vs ++ v ∷ []) ≡ trues vs + cond v 1 0
trues_push vs v = sum_by-append (λ (w : Bool). cond w 1 0) vs (v ∷ []) ∙ ap (λ (n : ℕ). trues vs + n) (zero-add (cond v 1 0))

trues_first : (v : Bool) (vs : List Bool) → trues (v ∷ vs) ≡ cond v 1 0 + trues vs
trues_first v vs = sum_by-cons (λ (w : Bool). cond w 1 0) v vs

sum_push : (ns : List ℕ) (n : ℕ) → sum (ns ++ n ∷ []) ≡ sum ns + n
sum_push ns n = sum_by-append (λ (k : ℕ). k) ns (n ∷ []) ∙ ap (λ (k : ℕ). sum ns + k) (zero-add n)

first_true_push : (vs : List Bool) → first_true (vs ++ true ∷ []) ≡ first_true vs
first_true_push [] = refl
first_true_push (true ∷ vs) = refl
first_true_push (false ∷ vs) = ap (λ (n : ℕ). n + 1) (first_true_push vs)

first_false_push : (vs : List Bool) → trues vs ≡ 0 → first_true (vs ++ false ∷ []) ≡ first_true vs + 1
first_false_push [] e = refl
first_false_push (true ∷ vs) e = absurd (let f : trues (true ∷ vs) ≡ 1 + trues vs = trues_first true vs in omega arith)
first_false_push (false ∷ vs) e = ap (λ (n : ℕ). n + 1) (first_false_push vs (let f : trues (false ∷ vs) ≡ 0 + trues vs = trues_first false vs in omega arith))

first_false_past : (vs : List Bool) → 0 < trues vs → first_true (vs ++ false ∷ []) ≡ first_true vs
first_false_past [] l = absurd (lt_irrefl 0 l)
first_false_past (true ∷ vs) l = refl
first_false_past (false ∷ vs) l = ap (λ (n : ℕ). n + 1) (first_false_past vs (let f : trues (false ∷ vs) ≡ 0 + trues vs = trues_first false vs in omega arith))

past : (count many first : ℕ) → 0 < count → cond (eqb count 0) many first ≡ first
past count many first l = ap (λ (b : Bool). cond b many first) (ne_eqb count 0 (λ e. absurd (omega (arith, l, e))))

-- the first that is true, with one more
first_more : (r : Bool) (count many first : ℕ) (vs : List Bool) → count ≡ trues vs → cond (eqb count 0) many first ≡ first_true vs
    → cond (eqb (count + cond r 1 0) 0) (many + 1) (cond (r && eqb count 0) many first) ≡ first_true (vs ++ r ∷ [])
first_more true zero many first vs counted is = is ∙ sym (first_true_push vs)
first_more true (suc count) many first vs counted is = past (suc count + 1) (many + 1) (cond (eqb (suc count) 0) many first) (omega arith) ∙ (is ∙ sym (first_true_push vs))
first_more false zero many first vs counted is = ap (λ (n : ℕ). n + 1) is ∙ sym (first_false_push vs (sym counted))
first_more false (suc count) many first vs counted is = past (suc count + 0) (many + 1) first (omega arith) ∙ (sym (past (suc count) many first (omega arith)) ∙ (is ∙ sym (first_false_past vs (let c = counted in omega arith))))

unset_more : (r : Bool) (count many first all : ℕ) → (count ≡ 0 → first ≡ all) → count + cond r 1 0 ≡ 0 → cond (r && eqb count 0) many first ≡ all
unset_more true count many first all unset none = absurd (omega (arith, none))
unset_more false count many first all unset none = unset (omega (arith, none))

at_most_one : (r : Bool) (count many : ℕ) → count ≤ many → count + cond r 1 0 ≤ many + 1
at_most_one true count many l = omega (arith, l)
at_most_one false count many l = omega (arith, l)

first_all : (count many first all told : ℕ) → (count ≡ 0 → first ≡ all) → many ≡ all → cond (eqb count 0) many first ≡ told → first ≡ told
first_all zero many first all told unset same is = unset refl ∙ (sym same ∙ is)
first_all (suc count) many first all told unset same is = sym (past (suc count) many first (omega arith)) ∙ is

-- ---- what a trace tells
-- a trace that refutes the pipe has an element in both tasks
pipe_shares : (t u : ℕ) (trace : NamedTrace) → RefutesPipe by_number t u trace → RefutesUnshared by_number t u trace
pipe_shares t u trace h = ⊎_elim
    (λ (a : TakesUnfinished by_number t u trace). record { element = a.element; k = a.giver; l = a.taker; s = a.given; r = a.taken; one = a.ends.handles; other = a.starts.handles })
    (λ (b : TakesOutOfOrder by_number t u trace). record { element = b.one; k = b.in_order.earlier; l = b.turned.later; s = b.in_order.s; r = b.turned.r; one = b.in_order.first.handles; other = b.turned.second.handles })
    h

shared : (t u : ℕ) (trace : NamedTrace) (n : ℕ) → 0 < n → AreExactly (Share by_number trace t u) n → RefutesUnshared by_number t u trace
shared t u trace n some are =
    let e = get_or are.all 0 0 in
    let s : Share by_number trace t u e = (are.exactly e).0 (Contains-get_or are.all 0 0 (let c = are.count in omega arith)) in
    record { element = e; k = s.k; l = s.l; s = s.s; r = s.r; one = s.one; other = s.other }

module _ (all : ℕ) (traces : List NamedTrace) (trace : NamedTrace) (t u : ℕ) (f : Sharing) (so : AreSoFar all traces t u f) where
  abbrev old : AreSharings by_number traces t u (told_after (length traces) f)
  old = so.figures

  pub shared_more : (n : ℕ) (r : Bool) → 0 < n → n < 2 ^ 64 → AreExactly (Share by_number trace t u) n → (r ≡ true) ↔ RefutesPipe by_number t u trace → AreSoFar all (traces ++ trace ∷ []) t u (with_trace f (length traces) n r)
  shared_more n r some fits are tells = record {
    figures = record {
      shared = old.shared ++ true ∷ [];
      share = zip_push (λ (x : NamedTrace) (v : Bool). (v ≡ true) ↔ RefutesUnshared by_number t u x) traces old.shared trace true old.share ((λ _. shared t u trace n some are), (λ _. refl));
      traces_are = ap (λ (k : ℕ). k + 1) old.traces_are ∙ sym (trues_push old.shared true);
      elements = old.elements ++ n ∷ [];
      are = zip_push (λ (x : NamedTrace) (k : ℕ). AreExactly (Share by_number x t u) k) traces old.elements trace n old.are are;
      elements_are = ap (λ (k : ℕ). k + n) old.elements_are ∙ sym (sum_push old.elements n);
      refuted = old.refuted ++ r ∷ [];
      refute = zip_push (λ (x : NamedTrace) (v : Bool). (v ≡ true) ↔ RefutesPipe by_number t u x) traces old.refuted trace r old.refute tells;
      refuted_are = ap (λ (k : ℕ). k + cond r 1 0) old.refuted_are ∙ sym (trues_push old.refuted r);
      first = subst (λ (k : ℕ). cond (eqb (f.refuted + cond r 1 0) 0) k (cond (r && eqb f.refuted 0) (length traces) f.first_refuted) ≡ first_true (old.refuted ++ r ∷ [])) (sym (length_push traces trace))
          (first_more r f.refuted (length traces) f.first_refuted old.refuted old.refuted_are old.first);
    };
    unset = unset_more r f.refuted (length traces) f.first_refuted all so.unset;
    few_traces = let l = length_push traces trace in let w = so.few_traces in omega arith;
    few_elements = let l = length_push traces trace in let w = so.few_elements in omega arith;
    few_refuted = subst (λ (k : ℕ). f.refuted + cond r 1 0 ≤ k) (sym (length_push traces trace)) (at_most_one r f.refuted (length traces) so.few_refuted);
  }

  pub apart_more : ((e : ℕ) → Share by_number trace t u e → ⊥) → AreSoFar all (traces ++ trace ∷ []) t u f
  apart_more none = record {
    figures = record {
      shared = old.shared ++ false ∷ [];
      share = zip_push (λ (x : NamedTrace) (v : Bool). (v ≡ true) ↔ RefutesUnshared by_number t u x) traces old.shared trace false old.share
          ((λ e. absurd (let two : false ≡ true = e in cc)), (λ h. absurd (is_apart h)));
      traces_are = old.traces_are ∙ sym (trues_push old.shared false ∙ add-zero (trues old.shared));
      elements = old.elements ++ 0 ∷ [];
      are = zip_push (λ (x : NamedTrace) (k : ℕ). AreExactly (Share by_number x t u) k) traces old.elements trace 0 old.are (record {
        all = [];
        differ = λ i j d lt inside. absurd (omega arith);
        exactly = λ e. ((λ c. absurd (let l = c.1 in omega arith)), (λ s. absurd (none e s)));
        count = refl;
      });
      elements_are = old.elements_are ∙ sym (sum_push old.elements 0 ∙ add-zero (sum old.elements));
      refuted = old.refuted ++ false ∷ [];
      refute = zip_push (λ (x : NamedTrace) (v : Bool). (v ≡ true) ↔ RefutesPipe by_number t u x) traces old.refuted trace false old.refute
          ((λ e. absurd (let two : false ≡ true = e in cc)), (λ h. absurd (is_apart (pipe_shares t u trace h))));
      refuted_are = old.refuted_are ∙ sym (trues_push old.refuted false ∙ add-zero (trues old.refuted));
      first = subst (λ (k : ℕ). cond (eqb f.refuted 0) k f.first_refuted ≡ first_true (old.refuted ++ false ∷ [])) (sym (length_push traces trace))
          (subst (λ (k : ℕ). cond (eqb k 0) (length traces + 1) f.first_refuted ≡ first_true (old.refuted ++ false ∷ [])) (add-zero f.refuted)
          (first_more false f.refuted (length traces) f.first_refuted old.refuted old.refuted_are old.first));
    };
    unset = so.unset;
    few_traces = let l = length_push traces trace in let w = so.few_traces in omega arith;
    few_elements = let l = length_push traces trace in let w = so.few_elements in omega arith;
    few_refuted = let l = length_push traces trace in let w = so.few_refuted in omega arith;
  }
    where
      is_apart : RefutesUnshared by_number t u trace → ⊥
      is_apart h = none h.element (record { k = h.k; l = h.l; s = h.s; r = h.r; one = h.one; other = h.other })

-- after all traces
pub figures_all : (all : ℕ) (traces : List NamedTrace) (t u : ℕ) (f : Sharing) → length traces ≡ all → AreSoFar all traces t u f → AreSharings by_number traces t u f
figures_all all traces t u f many so = record {
  shared = so.figures.shared;
  share = so.figures.share;
  traces_are = so.figures.traces_are;
  elements = so.figures.elements;
  are = so.figures.are;
  elements_are = so.figures.elements_are;
  refuted = so.figures.refuted;
  refute = so.figures.refute;
  refuted_are = so.figures.refuted_are;
  first = first_all f.refuted (length traces) f.first_refuted all (first_true so.figures.refuted) so.unset many so.figures.first;
}

-- before all
pub figures_none : (all t u : ℕ) → AreSoFar all [] t u (record { traces = 0; elements = 0; refuted = 0; first_refuted = all })
figures_none all t u = record {
  figures = record { shared = []; share = tt; traces_are = refl; elements = []; are = tt; elements_are = refl; refuted = []; refute = tt; refuted_are = refl; first = refl };
  unset = λ _. refl;
  few_traces = omega arith;
  few_elements = omega arith;
  few_refuted = omega arith;
}
