use Rattle.std.proofs.Common.{◌≡◌, ℤ, pos, ◌+ℤ◌, ◌-ℤ◌, ◌≤ℤ◌, ap, ◌∙◌, arith}
use Rattle.std.proofs.lemmas.Int.{ints}
use Rattle.std.specs.Int.{int_div_euclid}
use Rattle.clock_offsets.specs.Messages.{IsHalf}
use Rattle.clock_offsets.proofs.TimeLemmas.{half_is}
use Rattle.clock_offsets.proofs.links.half_difference.Goals as goal

pub returns : goal.returns
returns c =
    let quotient : c.div_euclid.result ≡ int_div_euclid (c.args.there -ℤ c.args.back) (pos 2) = c.div_euclid.ensures ∙ ap (λ (x : ℤ). int_div_euclid x (pos 2)) (omega (arith, ints)) in
    let half : IsHalf (c.args.there -ℤ c.args.back) c.div_euclid.result = rw quotient (half_is (c.args.there -ℤ c.args.back)) in
    let low : (c.div_euclid.result +ℤ c.div_euclid.result) ≤ℤ (c.args.there -ℤ c.args.back) = half.0 in
    let high : (c.args.there -ℤ c.args.back) ≤ℤ ((c.div_euclid.result +ℤ c.div_euclid.result) +ℤ pos 1) = half.1 in
    (omega (arith, ints), omega (arith, ints))
