-- Calls to other machines.
use Rattle.std.proofs.Common.{◌≡◌, ◌∙◌, ℕ, ◌+◌, ◌<◌, ◌≤◌, List, [], ◌∷◌, ◌++◌, Bool, true, false, cond, Option, Some, None, filter, length, get_or, take, slice_get, ap, sym, subst, append-nil, arith}
use Rattle.std.specs.Prelude.{IfSome, nat_lt, if◌then◌else◌}
use Rattle.std.proofs.lemmas.Bool.{le-ltb, lt-ltb}
use Rattle.std.proofs.lemmas.List.Elements.{filter_more}
use Rattle.span_calls.specs.declared.call.Call.{Call}
use Rattle.context_forks.specs.Partners.{end_of, last_to_end}
use Rattle.context_forks.specs.inner.Siblings.{last_with}
use Rattle.context_forks.proofs.PartnerLemmas.{last_push}
use Rattle.span_lines.specs.inner.FarCalls.{AreFar}
use Rattle.span_lines.specs.declared.messages.FarCalls.{FarCalls}

pub later_yes : (calls : List Call) (i j : ℕ) (m n : ℕ) → end_of calls i ≡ m → end_of calls j ≡ n → m < n → j ≡ last_with calls (Some i) j
later_yes calls i j m n e f lt =
    let t : nat_lt (end_of calls i) (end_of calls j) ≡ true = lt-ltb (end_of calls i) (end_of calls j) (omega (arith, e, f, lt)) in sym (ap (λ b. if b then j else i) t)

pub later_no : (calls : List Call) (i j : ℕ) (m n : ℕ) → end_of calls i ≡ m → end_of calls j ≡ n → n ≤ m → i ≡ last_with calls (Some i) j
later_no calls i j m n e f le =
    let t : nat_lt (end_of calls i) (end_of calls j) ≡ false = le-ltb (end_of calls i) (end_of calls j) (omega (arith, e, f, le)) in sym (ap (λ b. if b then j else i) t)

-- the one that ends last of these and one more
pub later_is : (calls : List Call) (o : Option ℕ) (i j k : ℕ) → o ≡ Some i → k ≡ last_with calls (Some i) j → (list : List ℕ) → o ≡ last_to_end calls list → Some k ≡ last_to_end calls (list ++ j ∷ [])
later_is calls o i j k is own list h =
    ap (λ (n : ℕ). Some n) (own ∙ ap (λ (p : Option ℕ). last_with calls p j) (sym is ∙ h)) ∙ sym (last_push calls list j)

-- what is found among the first of these calls that pass a test
pub record AreFarTo (calls : List Call) (p : ℕ → Bool) (below : List ℕ) (at : ℕ) (far : FarCalls) : Type 0 where
  pub are : AreFar calls (filter p (take at below)) far
  pub first_in : IfSome far.first (λ j. j < length calls)
  pub last_in : IfSome far.last (λ j. j < length calls)

module _ (calls : List Call) (p : ℕ → Bool) (below : List ℕ) where
  pub far_none : (far : FarCalls) → far.first ≡ None → far.last ≡ None → AreFarTo calls p below 0 far
  far_none far e f = record {
    are = record { first = e; last = f };
    first_in = subst (λ (o : Option ℕ). IfSome o (λ j. j < length calls)) (sym e) tt;
    last_in = subst (λ (o : Option ℕ). IfSome o (λ j. j < length calls)) (sym f) tt;
  }

  module _ (at j : ℕ) (lt : at < length below) (is : j ≡ get_or below at 0) where
    more : filter p (take (at + 1) below) ≡ filter p (take at below) ++ cond (p j) (j ∷ []) []
    more = filter_more p below at 0 lt ∙ ap (λ k. filter p (take at below) ++ cond (p k) (k ∷ []) []) (sym is)

    pub far_same : (far : FarCalls) → p j ≡ false → AreFarTo calls p below at far → AreFarTo calls p below (at + 1) far
    far_same far test h = record {
      are = subst (λ (xs : List ℕ). AreFar calls xs far) (sym (more ∙ ap (λ b. filter p (take at below) ++ cond b (j ∷ []) []) test ∙ append-nil (filter p (take at below)))) h.are;
      first_in = h.first_in;
      last_in = h.last_in;
    }

    pub far_more : (far new : FarCalls) → j < length calls → p j ≡ true → ((list : List ℕ) → far.first ≡ slice_get list 0 → new.first ≡ slice_get (list ++ j ∷ []) 0) → IfSome new.first (λ k. k < length calls)
        → ((list : List ℕ) → far.last ≡ last_to_end calls list → new.last ≡ last_to_end calls (list ++ j ∷ [])) → IfSome new.last (λ k. k < length calls) → AreFarTo calls p below at far → AreFarTo calls p below (at + 1) new
    far_more far new low test first first_low last last_low h = record {
      are = subst (λ (xs : List ℕ). AreFar calls xs new) (sym (more ∙ ap (λ b. filter p (take at below) ++ cond b (j ∷ []) []) test)) (record {
        first = first (filter p (take at below)) h.are.first;
        last = last (filter p (take at below)) h.are.last;
      });
      first_in = first_low;
      last_in = last_low;
    }
