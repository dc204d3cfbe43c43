-- What a definition tells of a list or an element tells which one it is.
use Rattle.std.proofs.Common.{◌≡◌, ℕ, Option, Some, None, List, [], ◌∷◌, ◌++◌, Contains, refl, sym, ap, ◌∙◌, subst}
use Rattle.trace_types.proofs.ListingLemmas.{Contains-cons, cons_here}
use Rattle.segment_cut.specs.Elements.{at_sign, HasElement}

tail_of : List ℕ → List ℕ
tail_of [] = []
tail_of (c ∷ cs) = cs

head_of : List ℕ → ℕ
head_of [] = 0
head_of (c ∷ cs) = c

-- what stands after the first `@` is one text
pub one_rest : (f g e d : List ℕ) → f ++ at_sign ∷ e ≡ g ++ at_sign ∷ d → (Contains f at_sign → ⊥) → (Contains g at_sign → ⊥) → e ≡ d
unfolding tail_of head_of
one_rest [] [] e d is nf ng = ap tail_of is
one_rest [] (c ∷ g) e d is nf ng = absurd (ng (subst (λ (x : ℕ). Contains (c ∷ g) x) (sym (ap head_of is)) (cons_here c g)))
one_rest (c ∷ f) [] e d is nf ng = absurd (nf (subst (λ (x : ℕ). Contains (c ∷ f) x) (ap head_of is) (cons_here c f)))
one_rest (c ∷ f) (b ∷ g) e d is nf ng = one_rest f g e d (ap tail_of is) (λ h. nf (Contains-cons c f at_sign h)) (λ h. ng (Contains-cons b g at_sign h))

-- a name has one element, or none
pub one_element : (name : List ℕ) (a b : Option (List ℕ)) → HasElement name a → HasElement name b → a ≡ b
one_element name None None p q = refl
one_element name None (Some e) p q = absurd (p e q)
one_element name (Some e) None p q = absurd (q e p)
one_element name (Some e) (Some d) (f, is_f, nf, sf) (g, is_g, ng, sg) = ap Some (one_rest f g e d (sym is_f ∙ is_g) nf ng)
