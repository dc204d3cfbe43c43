-- Lists of numbers, and the numbers of callers above numbers.
use Rattle.std.proofs.Common.{◌≡◌, ◌⊎◌, inl, inr, ⊎_elim, ℕ, zero, suc, ◌<◌, List, [], ◌∷◌, length, map, Option, Some, None, get_or, refl, sym, ap, subst, ◌∙◌, arith}
use Rattle.std.specs.List.{All}
use Rattle.std.specs.Option.{option_and_then}
use Rattle.span_requests.specs.CallerNumbers.{number_above}
use Rattle.span_laws.proofs.ApartLemmas.{In, Pairs, at_in, every_in, in_contains}

pub lower : (k l : ℕ) → (k ≡ l → ⊥) → (k < l) ⊎ (l < k)
lower zero zero f = absurd (f refl)
lower zero (suc l) f = inl (omega arith)
lower (suc k) zero f = inr (omega arith)
lower (suc k) (suc l) f = ⊎_elim (λ h. inl (omega (arith, h))) (λ h. inr (omega (arith, h))) (lower k l (λ q. f (ap suc q)))

pub some_none : (o : Option ℕ) (c : ℕ) → o ≡ Some c → o ≡ None → ⊥
some_none o c e f = let w : ◌≡◌ {A = Option ℕ} (Some c) None = sym e ∙ f in cc

pub pairs_at : {X : Type 0} (R : X → X → Type 0) (xs : List X) → Pairs R xs → (i j : ℕ) (d : X) → i < j → j < length xs → R (get_or xs i d) (get_or xs j d)
pairs_at R [] h i j d l w = absurd (omega (arith, w))
pairs_at R (x ∷ xs) h i zero d l w = absurd (omega (arith, l))
pairs_at R (x ∷ xs) h zero (suc j) d l w = every_in (R x) xs h.0 (get_or xs j d) (at_in xs j d (omega (arith, w)))
pairs_at R (x ∷ xs) h (suc i) (suc j) d l w = pairs_at R xs h.1 i j d (omega (arith, l)) (omega (arith, w))

pub some_is : (i r : ℕ) → ◌≡◌ {A = Option ℕ} (Some i) (Some r) → i ≡ r
some_is i r e = ap value e
  where
    value : Option ℕ → ℕ
    value (Some x) = x
    value None = i

-- there is one number above another one that has no caller itself
pub one_top : (callers : List (Option ℕ)) (k l n e f : ℕ) → number_above callers k n ≡ Some e → get_or callers e None ≡ None → number_above callers l n ≡ Some f → get_or callers f None ≡ None → e ≡ f
one_top callers zero zero n e f a x b y = sym (some_is n e a) ∙ some_is n f b
one_top callers zero (suc l) n e f a x b y = let w : ◌≡◌ {A = Option ℕ} None (Some f) = sym (ap (option_and_then (number_above callers l)) (ap (λ i. get_or callers i None) (some_is n e a) ∙ x)) ∙ b in cc
one_top callers (suc k) zero n e f a x b y = let w : ◌≡◌ {A = Option ℕ} None (Some e) = sym (ap (option_and_then (number_above callers k)) (ap (λ i. get_or callers i None) (some_is n f b) ∙ y)) ∙ a in cc
one_top callers (suc k) (suc l) n e f a x b y = by (get_or callers n None) refl (λ c. one_top callers k l c e f)
  where
    by : (o : Option ℕ) → get_or callers n None ≡ o → ((c : ℕ) → number_above callers k c ≡ Some e → get_or callers e None ≡ None → number_above callers l c ≡ Some f → get_or callers f None ≡ None → e ≡ f) → e ≡ f
    by None q more = let w : ◌≡◌ {A = Option ℕ} None (Some e) = ap (option_and_then (number_above callers k)) (sym q) ∙ a in cc
    by (Some c) q more = more c (ap (option_and_then (number_above callers k)) (sym q) ∙ a) x (ap (option_and_then (number_above callers l)) (sym q) ∙ b) y

pub all_in : (P : ℕ → Type 0) (xs : List ℕ) → All P xs → (x : ℕ) → In xs x → P x
all_in P xs all x i = let c = in_contains xs x i in subst P c.2 (all c.0 x c.1)

pub map_agree_in : {X Y : Type 0} (f g : X → Y) (xs : List X) → ((x : X) → In xs x → f x ≡ g x) → map f xs ≡ map g xs
map_agree_in f g [] e = refl
map_agree_in f g (x ∷ xs) e = (λ i. e x (inl refl) i ∷ map_agree_in f g xs (λ y h. e y (inr h)) i)
