-- The traces of the first days.
use Rattle.std.proofs.Common.{◌≡◌, ℕ, zero, suc, ◌+◌, ◌<◌, ◌≤◌, List, [], ◌∷◌, length, get_or, take, add-one, arith}
use Rattle.day_partitions.specs.inner.Slots.{shown, shown_days}
use Rattle.day_partitions.specs.declared.day.Day.{Day}
use Rattle.day_partitions.proofs.DayLemmas.{total, total_cons}

one_more : (ds : List Day) (i : ℕ) (e : Day) → i < length ds → total (shown_days (take (suc i) ds)) ≡ total (shown_days (take i ds)) + length (get_or ds i e).traces.items
one_more [] i e l = absurd (omega arith)
one_more (d ∷ ds) zero e l = let a = total_cons (shown d) [] in omega arith
one_more (d ∷ ds) (suc i) e l =
    let a = total_cons (shown d) (shown_days (take (suc i) ds)) in
    let b = total_cons (shown d) (shown_days (take i ds)) in
    let c = one_more ds i e (omega arith) in omega arith

pub count_more : (ds : List Day) (i : ℕ) (e : Day) → i < length ds → total (shown_days (take (i + 1) ds)) ≡ total (shown_days (take i ds)) + length (get_or ds i e).traces.items
count_more ds i e l = rw add-one (one_more ds i e l)

pub count_within : (ds : List Day) (i : ℕ) → total (shown_days (take i ds)) ≤ total (shown_days ds)
count_within ds zero = omega arith
count_within [] (suc i) = omega arith
count_within (d ∷ ds) (suc i) =
    let a = total_cons (shown d) (shown_days (take i ds)) in
    let b = total_cons (shown d) (shown_days ds) in
    let c = count_within ds i in omega arith
