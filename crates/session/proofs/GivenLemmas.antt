-- The given digest of a session, and how many traces there are with those that it stands for.
use Rattle.std.proofs.Common.{◌≡◌, ℕ, ◌+◌, ◌<◌, ◌≤◌, ◌^◌, ◌-◌, ◌↔◌, inl, inr, Bool, true, false, true≢false, List, [], ◌∷◌, length, Option, Some, None, refl, sym, ap, ◌∙◌, subst, arith}
use Rattle.std.specs.Prelude.{IfOk, IsTrue, Result, Ok, Err, if◌then◌else◌, nat_le, nat_lt}
use Rattle.std.proofs.lemmas.Bool.{cases_lt, ltb-false}
use Rattle.std.proofs.lemmas.List.{append-nil}
use Rattle.digest_facts.specs.Digests.{Digest}
use Rattle.digest_facts.specs.Tables.{Table}
use Rattle.digest_merging.specs.Limits.{limit_passed}
use Rattle.digest_merging.specs.Merges.{IsGivenTable, IsTableOf}
use Rattle.judged_books.specs.GivenDigests.{BeginsWith, known_of}
use Rattle.session_rules.specs.KeptTraces.{Kept, day_of, taken_in, with_taken}
use Rattle.trace_types.specs.Segments.{SegmentName}

-- ---- a digest that passes no limit
last_test : {X : Type 0} (a b c : Bool) (x y z : X) → (if a then Some x else (if b then Some y else (if c then Some z else None))) ≡ None → c ≡ false
last_test true b c x y z e = absurd (cc e)
last_test false true c x y z e = absurd (cc e)
last_test false false true x y z e = absurd (cc e)
last_test false false false x y z e = refl

few_traces : (s : Digest SegmentName (List ℕ)) → limit_passed s ≡ None → s.traces < 2 ^ 64
few_traces s e =
    let most = ltb-false (2 ^ 64 - 1) s.traces (last_test (nat_lt 512 (length s.names)) (nat_lt 64 (length s.tasks)) (nat_lt (2 ^ 64 - 1) s.traces) _ _ _ e) in
    omega (arith, most)

-- a table and its digest are of as many traces
pub same_traces : (s : Digest SegmentName (List ℕ)) (u : Table SegmentName (List ℕ)) → IsTableOf s u → u.traces ≡ s.traces
same_traces s u t = ap (λ (v : Table SegmentName (List ℕ)). v.traces) t.table

-- of whatever digest a given table is, its traces can be counted
pub traces_fit : (u : Table SegmentName (List ℕ)) → IsGivenTable u → (s : Digest SegmentName (List ℕ)) → IsTableOf s u → s.traces + length {A = Kept} [] < 2 ^ 64
traces_fit u some s t = fits _ _ _ (few_traces some.0 some.2) (same_traces some.0 u some.1) (same_traces s u t)
  where
    fits : (few all traces : ℕ) → few < 2 ^ 64 → all ≡ few → all ≡ traces → traces + 0 < 2 ^ 64
    fits few all traces l e f = omega (arith, l, e, f)

-- a catalogue of the names and tasks of a digest begins with them
pub begins : (s : Digest SegmentName (List ℕ)) → BeginsWith s (known_of s)
begins s = record { more_names = []; more_tasks = []; names = sym (append-nil s.names); tasks = sym (append-nil s.tasks) }

-- ---- three facts of a result
pub if_ok_three : {T E : Type 0} (r : Result T E) (P Q R S : T → Type 0) → ((x : T) → P x → Q x → R x → S x) → IfOk r P → IfOk r Q → IfOk r R → IfOk r S
if_ok_three (Ok x) P Q R S f p q r = f x p q r
if_ok_three (Err e) P Q R S f p q r = p

-- ---- how many traces there are once others are taken
length-taken_by : (before : Bool) (k t : Kept) (kept more : List Kept) → length more ≡ length kept + 1 → length (if before then k ∷ more else t ∷ k ∷ kept) ≡ length kept + 2
length-taken_by true k t kept more e = omega arith
length-taken_by false k t kept more e = omega arith

length-taken_in : (kept : List Kept) (t : Kept) → length (taken_in kept t) ≡ length kept + 1
length-taken_in [] t = omega arith
length-taken_in (k ∷ kept) t = omega (arith, length-taken_by (nat_le (day_of k) (day_of t)) k t kept (taken_in kept t) (length-taken_in kept t))

pub length-with_taken : (kept ts : List Kept) → length (with_taken kept ts) ≡ length kept + length ts
length-with_taken kept [] = omega arith
length-with_taken kept (t ∷ ts) = omega (arith, length-with_taken (taken_in kept t) ts, length-taken_in kept t)

-- ---- counts in 64 bits
pub is_counted : (b : Bool) (n : ℕ) → IsTrue b ↔ (n < 2 ^ 64) → b ≡ true → n < 2 ^ 64
is_counted b n e t = e.0 t

pub not_counted : (b : Bool) (n : ℕ) → IsTrue b ↔ (n < 2 ^ 64) → b ≡ false → 2 ^ 64 ≤ n
not_counted b n e f = elim (cases_lt n (2 ^ 64)) [
  | inl l ↦ absurd (true≢false (sym (e.1 l) ∙ f))
  | inr m ↦ m
]

pub too_many : (n : ℕ) → n < 2 ^ 64 → 2 ^ 64 ≤ n → ⊥
too_many n l m = omega (arith, l, m)

pub fewer : (given kept left : ℕ) → given + kept < 2 ^ 64 → left ≤ kept → given + left < 2 ^ 64
fewer given kept left l m = omega (arith, l, m)
