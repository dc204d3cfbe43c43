-- Days that rise and are no later than the latest one are few.
use Rattle.std.proofs.Common.{ℕ, zero, suc, ◌<◌, ◌≤◌, ◌^◌, List, length, get_or, arith}
use Rattle.std.specs.Prelude.{All}
use Rattle.std.specs.Ordering.{nat_cmp}
use Rattle.std.proofs.lemmas.Bool.{cases_lt}
use Rattle.std.proofs.Common.{⊎_elim}
use Rattle.trace_types.proofs.ComparingLemmas.{less_means}
use Rattle.digest_facts.specs.Digests.{Rises}
use Rattle.digest_reading.specs.DigestRows.{latest_day}

-- the day at an index is no less than the index
at_least : (days : List ℕ) → Rises nat_cmp days → (i d : ℕ) → i < length days → i ≤ get_or days i d
at_least days up zero d within = omega arith
at_least days up (suc i) d within =
    let before = at_least days up i d (omega (arith, within)) in
    let less = less_means (get_or days i d) (get_or days (suc i) d) (up i (suc i) d (omega arith) within) in
    omega (arith, before, less)

pub few_days : (days : List ℕ) → Rises nat_cmp days → All (λ d. d ≤ latest_day) days → length days < 2 ^ 32
few_days days up small = ⊎_elim
    (λ (lt : length days < 47484). omega (arith, lt))
    (λ (ge : 47484 ≤ length days).
    let last = at_least days up 47483 0 (omega (arith, ge)) in
    let most : get_or days 47483 0 ≤ latest_day = small 47483 0 (omega (arith, ge)) in
    absurd (omega (arith, last, most)))
    (cases_lt (length days) 47484)
