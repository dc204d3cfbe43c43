-- The definitions that compute, on the two page loads of the examples, whose latencies are
-- 84,100,000 and 67,000,000 ns, and on some counts.
use Rattle.std.specs.Prelude.{◌≡◌, [], ◌∷◌, codes, refl}
use Rattle.std.specs.declared.cmp.Ordering.TheVariants.{Less}
use Rattle.latency_ranks.specs.Buckets.{bucket_marks, buckets_of}
use Rattle.page_rules.specs.Boxes.{OfName, OfTask, box_cmp}
use Rattle.page_rules.specs.LoadRanks.{latency_rank, picks_of}
use Rattle.page_rules.specs.declared.pick.Pick.TheVariants.{Median, Slow, Slowest}

the_first_is_slowest : latency_rank (84100000 ∷ 67000000 ∷ []) (84100000, 0) ≡ 1
the_first_is_slowest = refl

the_second_is_quickest : latency_rank (84100000 ∷ 67000000 ∷ []) (67000000, 1) ≡ 0
the_second_is_quickest = refl

of_equal_ones_the_later_is_slower : latency_rank (5 ∷ 5 ∷ []) (5, 1) ≡ 1
of_equal_ones_the_later_is_slower = refl

none_is_shown : picks_of 0 ≡ []
none_is_shown = refl

one_is_shown : picks_of 1 ≡ Median ∷ []
one_is_shown = refl

two_are_shown : picks_of 2 ≡ Median ∷ Slow ∷ []
two_are_shown = refl

three_are_shown : picks_of 21 ≡ Median ∷ Slow ∷ Slowest ∷ []
three_are_shown = refl

two_buckets : bucket_marks (84100000 ∷ 67000000 ∷ []) ≡ 1 ∷ 0 ∷ []
two_buckets = refl

twenty_buckets : buckets_of 420 ≡ 20
twenty_buckets = refl

a_task_comes_first : box_cmp (OfTask (codes "b")) (OfName (codes "b", codes "", codes "")) ≡ Less
a_task_comes_first = refl
