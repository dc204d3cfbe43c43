-- Counts of numbers, and depths over those that pass a test.
use Rattle.std.proofs.Common.{◌≡◌, ◌⊎◌, ℕ, zero, suc, ◌+◌, ◌<◌, ◌≤◌, Bool, true, false, max, refl, sym, ap, ◌∙◌, subst, arith, inl, inr, ⊎_elim}
use Rattle.std.specs.Prelude.{if◌then◌else◌}
use Rattle.std.proofs.lemmas.Bool.{cases_lt}
use Rattle.graph_layers.specs.inner.Depths.{depth_after, depth_over, tally}

-- ---- truth values
pub bool_cases : (b : Bool) → (b ≡ true) ⊎ (b ≡ false)
bool_cases true = inl refl
bool_cases false = inr refl

pub not_both : (b : Bool) → b ≡ true → b ≡ false → ⊥
not_both b e f = let g : true ≡ false = sym e ∙ f in cc

pub suc_is : (n : ℕ) → suc n ≡ n + 1
suc_is n = omega arith

-- ---- counts
module _ (p : ℕ → Bool) where
  pub tally_yes : (n : ℕ) → p n ≡ true → tally p (suc n) ≡ tally p n + 1
  tally_yes n e = ap (λ (b : Bool). tally p n + (if b then 1 else 0)) e

  pub tally_no : (n : ℕ) → p n ≡ false → tally p (suc n) ≡ tally p n
  tally_no n e = ap (λ (b : Bool). tally p n + (if b then 1 else 0)) e ∙ (let z : tally p n + 0 ≡ tally p n = omega arith in z)

  pub tally_more : (n : ℕ) → p n ≡ true → tally p (n + 1) ≡ tally p n + 1
  tally_more n e = subst (λ (k : ℕ). tally p k ≡ tally p n + 1) (suc_is n) (tally_yes n e)

  pub tally_same_more : (n : ℕ) → p n ≡ false → tally p (n + 1) ≡ tally p n
  tally_same_more n e = subst (λ (k : ℕ). tally p k ≡ tally p n) (suc_is n) (tally_no n e)

  pub tally_most : (n : ℕ) → tally p n ≤ n
  tally_most zero = omega arith
  tally_most (suc n) = ⊎_elim
      (λ (e : p n ≡ true). omega (arith, tally_yes n e, tally_most n))
      (λ (e : p n ≡ false). omega (arith, tally_no n e, tally_most n))
      (bool_cases (p n))

  -- where none is counted, none passes
  pub tally_none : (n : ℕ) → tally p n ≡ 0 → (a : ℕ) → a < n → p a ≡ false
  tally_none zero e a lt = absurd (omega (arith, lt))
  tally_none (suc n) e a lt = ⊎_elim
      (λ (yes : p n ≡ true). absurd (omega (arith, tally_yes n yes, e)))
      (λ (no : p n ≡ false). ⊎_elim
      (λ (l : a < n). tally_none n (sym (tally_no n no) ∙ e) a l)
      (λ (g : n ≤ a). let same : a ≡ n = omega (arith, g, lt) in ap p same ∙ no)
      (cases_lt a n))
      (bool_cases (p n))

module _ (p q : ℕ → Bool) where
  -- what passes the one passes the other
  pub tally_within : (n : ℕ) → ((a : ℕ) → a < n → p a ≡ true → q a ≡ true) → tally p n ≤ tally q n
  tally_within zero h = omega arith
  tally_within (suc n) h =
      let less = tally_within n (λ a lt e. h a (omega (arith, lt)) e) in
      ⊎_elim
      (λ (e : p n ≡ true). omega (arith, tally_yes p n e, tally_yes q n (h n (omega arith) e), less))
      (λ (e : p n ≡ false). ⊎_elim
      (λ (f : q n ≡ true). omega (arith, tally_no p n e, tally_yes q n f, less))
      (λ (f : q n ≡ false). omega (arith, tally_no p n e, tally_no q n f, less))
      (bool_cases (q n)))
      (bool_cases (p n))

  -- and a number passes the other alone
  pub tally_less : (n : ℕ) → ((a : ℕ) → a < n → p a ≡ true → q a ≡ true) → (b : ℕ) → b < n → p b ≡ false → q b ≡ true → tally p n < tally q n
  tally_less zero h b lt fails passes = absurd (omega (arith, lt))
  tally_less (suc n) h b lt fails passes = ⊎_elim
      (λ (l : b < n).
      let less = tally_less n (λ a la e. h a (omega (arith, la)) e) b l fails passes in
      ⊎_elim
      (λ (e : p n ≡ true). omega (arith, tally_yes p n e, tally_yes q n (h n (omega arith) e), less))
      (λ (e : p n ≡ false). ⊎_elim
      (λ (f : q n ≡ true). omega (arith, tally_no p n e, tally_yes q n f, less))
      (λ (f : q n ≡ false). omega (arith, tally_no p n e, tally_no q n f, less))
      (bool_cases (q n)))
      (bool_cases (p n)))
      (λ (g : n ≤ b).
      let same : b ≡ n = omega (arith, g, lt) in
      let less = tally_within n (λ a la e. h a (omega (arith, la)) e) in
      let here : p n ≡ false = sym (ap p same) ∙ fails in
      let there : q n ≡ true = sym (ap q same) ∙ passes in
      omega (arith, tally_no p n here, tally_yes q n there, less))
      (cases_lt b n)

  pub tally_same : (n : ℕ) → ((a : ℕ) → a < n → p a ≡ q a) → tally p n ≡ tally q n
  tally_same zero h = refl
  tally_same (suc n) h = ap (λ (b : Bool). tally p n + (if b then 1 else 0)) (h n (omega arith)) ∙ ap (λ (k : ℕ). k + (if q n then 1 else 0)) (tally_same n (λ a lt. h a (omega (arith, lt))))

-- ---- depths
module _ (p : ℕ → Bool) (f : ℕ → ℕ) where
  pub depth_yes : (n : ℕ) → p n ≡ true → depth_over p f (suc n) ≡ max (depth_over p f n) (f n + 1)
  depth_yes n e = ap (λ (b : Bool). if b then max (depth_over p f n) (f n + 1) else depth_over p f n) e

  pub depth_no : (n : ℕ) → p n ≡ false → depth_over p f (suc n) ≡ depth_over p f n
  depth_no n e = ap (λ (b : Bool). if b then max (depth_over p f n) (f n + 1) else depth_over p f n) e

  pub depth_more : (n : ℕ) → p n ≡ true → depth_over p f (n + 1) ≡ max (depth_over p f n) (f n + 1)
  depth_more n e = subst (λ (k : ℕ). depth_over p f k ≡ max (depth_over p f n) (f n + 1)) (suc_is n) (depth_yes n e)

  pub depth_same_more : (n : ℕ) → p n ≡ false → depth_over p f (n + 1) ≡ depth_over p f n
  depth_same_more n e = subst (λ (k : ℕ). depth_over p f k ≡ depth_over p f n) (suc_is n) (depth_no n e)

  -- each that passes is less deep
  pub depth_below : (n a : ℕ) → a < n → p a ≡ true → f a + 1 ≤ depth_over p f n
  depth_below zero a lt e = absurd (omega (arith, lt))
  depth_below (suc n) a lt e = ⊎_elim
      (λ (l : a < n).
      let so = depth_below n a l e in
      ⊎_elim
      (λ (yes : p n ≡ true). omega (arith, depth_yes n yes, so))
      (λ (no : p n ≡ false). omega (arith, depth_no n no, so))
      (bool_cases (p n)))
      (λ (g : n ≤ a).
      let same : a ≡ n = omega (arith, g, lt) in
      let yes : p n ≡ true = sym (ap p same) ∙ e in
      let deep : f a ≡ f n = ap f same in
      omega (arith, depth_yes n yes, deep))
      (cases_lt a n)

  -- and one of them by one, where the depth is not 0
  pub depth_reached : (n : ℕ) → 0 < depth_over p f n → (a : ℕ) × (a < n) × (p a ≡ true) × (f a + 1 ≡ depth_over p f n)
  depth_reached zero h = absurd (omega (arith, h))
  depth_reached (suc n) h = ⊎_elim
      (λ (yes : p n ≡ true). ⊎_elim
      (λ (l : f n + 1 < depth_over p f n).
      let so = depth_reached n (omega (arith, l)) in
      (so.0, omega (arith, so.1), so.2, omega (arith, so.3, depth_yes n yes, l)))
      (λ (g : depth_over p f n ≤ f n + 1). (n, omega arith, yes, omega (arith, depth_yes n yes, g)))
      (cases_lt (f n + 1) (depth_over p f n)))
      (λ (no : p n ≡ false).
      let so = depth_reached n (omega (arith, h, depth_no n no)) in
      (so.0, omega (arith, so.1), so.2, omega (arith, so.3, depth_no n no)))
      (bool_cases (p n))

  pub depth_small : (k n : ℕ) → ((a : ℕ) → a < n → f a ≤ k) → depth_over p f n ≤ k + 1
  depth_small k zero h = omega arith
  depth_small k (suc n) h =
      let so = depth_small k n (λ a lt. h a (omega (arith, lt))) in
      let here = h n (omega arith) in
      ⊎_elim
      (λ (yes : p n ≡ true). omega (arith, depth_yes n yes, so, here))
      (λ (no : p n ≡ false). omega (arith, depth_no n no, so))
      (bool_cases (p n))

  -- where none passes, the depth is 0
  pub depth_none : (n : ℕ) → ((a : ℕ) → a < n → p a ≡ false) → depth_over p f n ≡ 0
  depth_none zero h = refl
  depth_none (suc n) h = depth_no n (h n (omega arith)) ∙ depth_none n (λ a lt. h a (omega (arith, lt)))

-- it is the same for the same that pass and their depths
pub depth_same : (p q : ℕ → Bool) (f g : ℕ → ℕ) (n : ℕ) → ((a : ℕ) → a < n → p a ≡ q a) → ((a : ℕ) → a < n → p a ≡ true → f a ≡ g a) → depth_over p f n ≡ depth_over q g n
depth_same p q f g zero hp hf = refl
depth_same p q f g (suc n) hp hf =
    let so = depth_same p q f g n (λ a lt. hp a (omega (arith, lt))) (λ a lt e. hf a (omega (arith, lt)) e) in
    let here = hp n (omega arith) in
    ⊎_elim
    (λ (yes : p n ≡ true).
    let deep = hf n (omega arith) yes in
    let also : q n ≡ true = sym here ∙ yes in
    omega (arith, depth_yes p f n yes, depth_yes q g n also, so, deep))
    (λ (no : p n ≡ false). depth_no p f n no ∙ so ∙ sym (depth_no q g n (sym here ∙ no)))
    (bool_cases (p n))

-- ---- rounds
module _ (count : ℕ) (above : ℕ → ℕ → Bool)
    (over : (a b c : ℕ) → a < count → b < count → c < count → above a b ≡ true → above b c ≡ true → above a c ≡ true)
    (self : (a : ℕ) → a < count → above a a ≡ false) where
  -- fewer stand above what stands above another
  fewer : (a b : ℕ) → a < count → b < count → above a b ≡ true → tally (λ x. above x a) count < tally (λ x. above x b) count
  fewer a b ha hb e = tally_less (λ x. above x a) (λ x. above x b) count (λ x hx u. over x a b hx ha hb u e) a ha (self a ha) e

  -- after as many rounds as there are numbers above one, it is at its depth
  pub settled : (k b : ℕ) → b < count → tally (λ x. above x b) count ≤ k → depth_after count above k b ≡ depth_after count above (suc k) b
  settled zero b hb few =
      let none : tally (λ x. above x b) count ≡ 0 = omega (arith, few) in
      sym (depth_none (λ a. above a b) (depth_after count above zero) count (tally_none (λ x. above x b) count none))
  settled (suc k) b hb few = depth_same (λ a. above a b) (λ a. above a b) (depth_after count above k) (depth_after count above (suc k)) count (λ a ha. refl)
      (λ a ha e. settled k a ha (omega (arith, fewer a b ha hb e, few)))

  pub at_last : (b : ℕ) → b < count → depth_after count above count b ≡ depth_over (λ a. above a b) (depth_after count above count) count
  at_last b hb = settled count b hb (tally_most (λ x. above x b) count)
