-- How much work it is to offer traces, added up.
use Rattle.std.proofs.Common.{◌≡◌, ℕ, ◌+◌, ◌*◌, ◌<◌, ◌≤◌, true, false, nat_lt, List, length, take, get_or, sym, ap, ◌∙◌, subst, arith}
use Rattle.std.proofs.Math.Nat.{mul-le-mul_left}
use Rattle.std.proofs.lemmas.Bool.{lt-ltb, le-ltb}
use Rattle.std.proofs.lemmas.List.{take_all}
use Rattle.std.proofs.lemmas.List.Sums.{sum_by_more, sum_by_more_le}
use Rattle.std.specs.List.{sum_by}
use Rattle.trace_types.specs.declared.named_trace.NamedTrace.{NamedTrace}
use Rattle.trace_pass.specs.inner.LittleWork.{is_little_work, work_of}

pub square_small : (n : ℕ) → n < 512 → n * n < 262144
square_small n h = let a = mul-le-mul_left n (omega arith) in small n (n * n) h a
  where
    small : (n square : ℕ) → n < 512 → square ≤ n * 511 → square < 262144
    small n square h a = omega arith

square_large : (n : ℕ) → 512 ≤ n → 262144 ≤ n * n
square_large n h = large n (n * n) h (mul-le-mul_left n h)
  where
    large : (n square : ℕ) → 512 ≤ n → n * 512 ≤ square → 262144 ≤ square
    large n square h a = omega arith

-- the traces with one more
pub work_more : (traces : List NamedTrace) (i : ℕ) (t : NamedTrace) (work : ℕ) → i < length traces → get_or traces i t ≡ t → work ≡ sum_by work_of (take i traces) → work + work_of t ≡ sum_by work_of (take (i + 1) traces)
work_more traces i t work inside here is = ap (λ (n : ℕ). n + work_of t) is ∙ ap (λ (u : NamedTrace). sum_by work_of (take i traces) + work_of u) (sym here) ∙ sym (sum_by_more work_of traces i t inside)

-- where the traces so far and one more are much work, all are
pub much_work : (traces : List NamedTrace) (i : ℕ) (t : NamedTrace) (work : ℕ) → i < length traces → get_or traces i t ≡ t → work ≡ sum_by work_of (take i traces) → 262144 ≤ work + work_of t → is_little_work traces ≡ false
much_work traces i t work inside here is many =
    let within = sum_by_more_le work_of traces i t inside in
    let part : sum_by work_of (take i traces) + work_of t ≤ sum_by work_of traces = subst (λ (u : NamedTrace). sum_by work_of (take i traces) + work_of u ≤ sum_by work_of traces) here within in
    le-ltb (sum_by work_of traces) 262144 (under _ _ _ _ is part many)
  where
    under : (work first one all : ℕ) → work ≡ first → first + one ≤ all → 262144 ≤ work + one → 262144 ≤ all
    under work first one all e l m = omega arith

-- a trace of many segments is much work by itself
pub one_is_much : (traces : List NamedTrace) (i : ℕ) (t : NamedTrace) (work : ℕ) → i < length traces → get_or traces i t ≡ t → work ≡ sum_by work_of (take i traces) → 512 ≤ length t.segments → is_little_work traces ≡ false
one_is_much traces i t work inside here is many = much_work traces i t work inside here is (let l = square_large (length t.segments) many in over _ _ l)
  where
    over : (work square : ℕ) → 262144 ≤ square → 262144 ≤ work + (square + 256)
    over work square l = omega arith

-- where all traces are looked at and the work is little, they are
pub all_little : (traces : List NamedTrace) (i work : ℕ) → length traces ≤ i → work ≡ sum_by work_of (take i traces) → work < 262144 → is_little_work traces ≡ true
all_little traces i work all is little = lt-ltb (sum_by work_of traces) 262144 (subst (λ (n : ℕ). n < 262144) (is ∙ ap (sum_by work_of) (take_all i traces all)) little)
