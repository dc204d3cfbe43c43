-- The order of first sight of numbers.
use Rattle.std.proofs.Common.{◌≡◌, ◌≢◌, ℕ, suc, List, [], ◌∷◌, ◌++◌, get_or, filter, Bool, true, false, not, nat_eq, if◌then◌else◌, refl, sym, ap, ◌∙◌, subst, All, true≢false, append-nil, arith}
use Rattle.std.specs.List.{list_any}
use Rattle.std.proofs.lemmas.Bool.{eq-eqb, ne_eqb}
use Rattle.std.proofs.lemmas.List.Elements.{All-cons, All-filter, All-weaker, filter-append, filter_passes}
use Rattle.std.proofs.lemmas.List.Folds.{list_any_none}
use Rattle.std.proofs.lemmas.List.Kept.{AllPairs-cons, AllPairs-filter}
use Rattle.trace_types.specs.Firsts.{firsts_of}
use Rattle.trace_types.proofs.ComparingLemmas.{nat_means}
use Rattle.event_table.specs.Texts.{AreDifferent}

pub flips : (x y : ℕ) (b : Bool) → nat_eq x y ≡ b → nat_eq y x ≡ b
flips x y true e = let same = nat_means x y e in eq-eqb y x (sym same)
flips x y false e = ne_eqb y x (λ (h : y ≡ x). true≢false (sym (eq-eqb x y (sym h)) ∙ e))

-- a filter that loses none that passes p leaves whether some passes p
any-filter : (p q : ℕ → Bool) → ((z : ℕ) → p z ≡ true → q z ≡ true) → (xs : List ℕ) → list_any p (filter q xs) ≡ list_any p xs
any-filter p q keeps [] = refl
any-filter p q keeps (x ∷ xs) = by (q x) (p x) refl refl (any-filter p q keeps xs)
  where
    by : (b c : Bool) → q x ≡ b → p x ≡ c → list_any p (filter q xs) ≡ list_any p xs → list_any p (filter q (x ∷ xs)) ≡ list_any p (x ∷ xs)
    by true c e f rest = rw (e, rest) refl
    by false true e f rest = absurd (true≢false (sym (keeps x f) ∙ e))
    by false false e f rest = rw (e, f, rest) refl

keeps : (x y : ℕ) → nat_eq x y ≡ false → (z : ℕ) → nat_eq x z ≡ true → not (nat_eq y z) ≡ true
keeps x y e z h =
    let f : nat_eq y x ≡ false = flips x y false e in
    let g : nat_eq y z ≡ false = subst (λ (w : ℕ). nat_eq y w ≡ false) (nat_means x z h) f in
    rw g refl

-- what is there is among the first
pub any-firsts : (x : ℕ) (xs : List ℕ) → list_any (nat_eq x) (firsts_of nat_eq xs) ≡ list_any (nat_eq x) xs
any-firsts x [] = refl
any-firsts x (y ∷ ys) = by (nat_eq x y) refl (any-firsts x ys)
  where
    by : (b : Bool) → nat_eq x y ≡ b → list_any (nat_eq x) (firsts_of nat_eq ys) ≡ list_any (nat_eq x) ys → list_any (nat_eq x) (firsts_of nat_eq (y ∷ ys)) ≡ list_any (nat_eq x) (y ∷ ys)
    by true e rest = rw e refl
    by false e rest = let a = any-filter (nat_eq x) (λ z. not (nat_eq y z)) (keeps x y e) (firsts_of nat_eq ys) in rw (e, a) rest

-- the list with one more at its end, unless it is there
abbrev pub with_number : List ℕ → ℕ → List ℕ
with_number xs x = if list_any (nat_eq x) xs then xs else xs ++ x ∷ []

-- the order of first sight with one more at the end
pub firsts-push : (xs : List ℕ) (x : ℕ) → firsts_of nat_eq (xs ++ x ∷ []) ≡ with_number (firsts_of nat_eq xs) x
firsts-push [] x = refl
firsts-push (y ∷ ys) x = by (nat_eq x y) (list_any (nat_eq x) (firsts_of nat_eq ys)) refl refl (firsts-push ys x)
  where
    by : (b c : Bool) → nat_eq x y ≡ b → list_any (nat_eq x) (firsts_of nat_eq ys) ≡ c → firsts_of nat_eq (ys ++ x ∷ []) ≡ with_number (firsts_of nat_eq ys) x
        → firsts_of nat_eq ((y ∷ ys) ++ x ∷ []) ≡ with_number (firsts_of nat_eq (y ∷ ys)) x
    by true true e f r = rw (r, f, e) refl
    by true false e f r = let g : nat_eq y x ≡ true = flips x y true e in
        rw (r, f, e, filter-append (λ z. not (nat_eq y z)) (firsts_of nat_eq ys) (x ∷ []), g, append-nil (filter (λ z. not (nat_eq y z)) (firsts_of nat_eq ys))) refl
    by false true e f r = let a = any-filter (nat_eq x) (λ z. not (nat_eq y z)) (keeps x y e) (firsts_of nat_eq ys) in rw (r, f, e, a, f) refl
    by false false e f r = let g : nat_eq y x ≡ false = flips x y false e in let a = any-filter (nat_eq x) (λ z. not (nat_eq y z)) (keeps x y e) (firsts_of nat_eq ys) in
        rw (r, f, e, a, f, filter-append (λ z. not (nat_eq y z)) (firsts_of nat_eq ys) (x ∷ []), g) refl

-- none stands twice
pub firsts_apart : (xs : List ℕ) → AreDifferent (firsts_of nat_eq xs)
firsts_apart [] = λ i j d lt within. absurd (omega (arith, within))
firsts_apart (x ∷ xs) =
    let others : List ℕ = filter (λ z. not (nat_eq x z)) (firsts_of nat_eq xs) in
    AllPairs-cons (λ a b. a ≢ b) x others
    (All-weaker (λ z. not (nat_eq x z) ≡ true) (λ z. x ≢ z) (λ z passes same. true≢false (sym passes ∙ ap not (eq-eqb x z same))) others (filter_passes (λ z. not (nat_eq x z)) (firsts_of nat_eq xs)))
    (AllPairs-filter (λ a b. a ≢ b) (λ z. not (nat_eq x z)) (firsts_of nat_eq xs) (firsts_apart xs))

-- what holds of each holds of the first ones
pub firsts_all : (P : ℕ → Type 0) (xs : List ℕ) → All P xs → All P (firsts_of nat_eq xs)
firsts_all P [] all = λ k d lt. absurd (omega (arith, lt))
firsts_all P (x ∷ xs) all =
    All-cons P x (filter (λ z. not (nat_eq x z)) (firsts_of nat_eq xs)) (all 0 x (omega arith))
    (All-filter (λ z. not (nat_eq x z)) P (firsts_of nat_eq xs) (firsts_all P xs (λ k d lt. all (suc k) d (omega (arith, lt)))))

-- of numbers apart, the first is none of the others, and these are apart
pub apart_head : (x : ℕ) (xs : List ℕ) → AreDifferent (x ∷ xs) → list_any (nat_eq x) xs ≡ false
apart_head x xs apart = list_any_none (nat_eq x) xs (λ k d lt. ne_eqb x (get_or xs k d) (λ (h : x ≡ get_or xs k d). apart 0 (suc k) d (omega arith) (omega (arith, lt)) h))

pub apart_tail : (x : ℕ) (xs : List ℕ) → AreDifferent (x ∷ xs) → AreDifferent xs
apart_tail x xs apart i j d lt within = apart (suc i) (suc j) d (omega (arith, lt)) (omega (arith, within))
