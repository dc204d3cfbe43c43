use Rattle.std.proofs.Common.{◌≡◌, ◌<◌, ℕ, false, eqb, length, arith, sym, ◌∙◌}
use Rattle.std.proofs.lemmas.Bool.Decides.{nat_tests}
use Rattle.slack_spread.proofs.AlongLemmas.{IsAlong-sorted}
use Rattle.slack_spread.proofs.measuring.measure_spread.Goals as goal

-- what is not 0
some_of : (n : ℕ) → eqb n 0 ≡ false → 0 < n
some_of n e = grind (arith, nat_tests)

pub returns : goal.returns
returns c =
    let numbers = c.args.numbers.now in
    let sorted = c.sort_unstable.new.self in
    let says = c.sort_unstable.ensures in
    let some : 0 < length numbers = some_of (length numbers) (sym c.is_empty.ensures ∙ c.if-is_empty.false) in
    record {
      count = says.len;
      zero = c.count_zeros-zero.ensures;
      least = IsAlong-sorted 0 numbers sorted c.along.result (omega arith) some says.len says.permutation says.sorted c.along.ensures;
      tenth = IsAlong-sorted 1 numbers sorted c.along-2.result (omega arith) some says.len says.permutation says.sorted c.along-2.ensures;
      median = IsAlong-sorted 5 numbers sorted c.along-3.result (omega arith) some says.len says.permutation says.sorted c.along-3.ensures;
      ninetieth = IsAlong-sorted 9 numbers sorted c.along-4.result (omega arith) some says.len says.permutation says.sorted c.along-4.ensures;
      greatest = IsAlong-sorted 10 numbers sorted c.along-5.result (omega arith) some says.len says.permutation says.sorted c.along-5.ensures;
    }
