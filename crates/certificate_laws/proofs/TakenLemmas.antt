-- What is kept after traces are taken in.
use Rattle.std.proofs.Common.{◌≡◌, ◌+◌, List, [], ◌∷◌, Bool, true, false, length, arith}
use Rattle.std.specs.Prelude.{All, nat_le, if◌then◌else◌}
use Rattle.std.proofs.lemmas.List.Elements.{All-cons, All-head, All-tail}
use Rattle.session_rules.specs.KeptTraces.{Kept, day_of, taken_in, with_taken}

-- ---- what holds of all

module _ (P : Kept → Type 0) where
  taken_by : (before : Bool) (k t : Kept) (kept more : List Kept) → All P (k ∷ kept) → P t → All P more → All P (if before then k ∷ more else t ∷ k ∷ kept)
  taken_by true k t kept more h p q = All-cons P k more (All-head P k kept h) q
  taken_by false k t kept more h p q = All-cons P t (k ∷ kept) p h

  taken : (kept : List Kept) (t : Kept) → All P kept → P t → All P (taken_in kept t)
  taken [] t h p = All-cons P t [] p h
  taken (k ∷ kept) t h p = taken_by (nat_le (day_of k) (day_of t)) k t kept (taken_in kept t) h p (taken kept t (All-tail P k kept h) p)

  pub all_taken : (kept ts : List Kept) → All P kept → All P ts → All P (with_taken kept ts)
  all_taken kept [] h p = h
  all_taken kept (t ∷ ts) h p = all_taken (taken_in kept t) ts (taken kept t h (All-head P t ts p)) (All-tail P t ts p)

-- ---- how many there are

length-taken_by : (before : Bool) (k t : Kept) (kept more : List Kept) → length more ≡ length kept + 1 → length (if before then k ∷ more else t ∷ k ∷ kept) ≡ length kept + 2
length-taken_by true k t kept more e = omega arith
length-taken_by false k t kept more e = omega arith

length-taken_in : (kept : List Kept) (t : Kept) → length (taken_in kept t) ≡ length kept + 1
length-taken_in [] t = omega arith
length-taken_in (k ∷ kept) t = omega (arith, length-taken_by (nat_le (day_of k) (day_of t)) k t kept (taken_in kept t) (length-taken_in kept t))

pub length-with_taken : (kept ts : List Kept) → length (with_taken kept ts) ≡ length kept + length ts
length-with_taken kept [] = omega arith
length-with_taken kept (t ∷ ts) = omega (arith, length-with_taken (taken_in kept t) ts, length-taken_in kept t)
