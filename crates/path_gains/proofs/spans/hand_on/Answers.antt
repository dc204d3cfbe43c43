use Rattle.std.proofs.Common.{ℕ, ◌+◌, ◌-◌, ◌*◌, ◌/◌, ◌%◌, ◌^◌, ◌<◌, ◌≤◌, length, map, ap, arith}
use Rattle.path_gains.specs.inner.Spans.{shown_at}
use Rattle.path_gains.proofs.SpanLemmas.{IsNext, half_fits, half_is, handed, kept, next_is}
use Rattle.path_gains.proofs.spans.hand_on.Given.{Over}
use Rattle.path_gains.proofs.spans.hand_on.Goals as goal
use Rattle.path_gains.proofs.spans.hand_on.Goals.{Start}

-- the level and the index of the block
next : (g : Over) (c : Start g) → IsNext c.args.count (length c.args.blocks.now) (length c.args.blocks.now / c.args.count) (length c.args.blocks.now % c.args.count)
next g c = next_is c.args.count (length c.args.blocks.now) c.requires.row c.requires.few

pub overflow_mul-half : goal.overflow_mul-half
overflow_mul-half g c =
    let level = length c.args.blocks.now / c.args.count in
    let is = next g c in
    let bit = half_is level is.few in
    let small = half_fits level is.few is.first in
    omega arith

pub overflow_add-index : goal.overflow_add-index
overflow_add-index g c =
    let level = length c.args.blocks.now / c.args.count in
    let is = next g c in
    let inside = is.inside in
    let few = c.requires.small in
    let bit = half_is level is.few in
    let small = half_fits level is.few is.first in
    omega arith

pub returns-then-index-half : goal.returns-then-index-half
returns-then-index-half g c = λ v.
    let f = g.L.Length.value in
    let count = c.args.count in
    let size = length c.args.blocks.now in
    let level = length c.args.blocks.now / c.args.count in
    let index = length c.args.blocks.now % c.args.count in
    let is = next_is count size c.requires.row c.requires.few in
    let bit = half_is level is.few in
    let within : index + 2 * 2 ^ (level - 1) ≤ count = omega (arith, bit, c.if-index-half.true) in
    handed count size level index v (f c.args.number) (shown_at count (map f c.args.blocks.now) v) is
    (shown_at count (map f c.raise_block.new.blocks) v) (shown_at count (map f c.raise_block-then-index-half.new.blocks) v)
    ((level - 1) * count + index + 1 * 2 ^ (level - 1) % 18446744073709551616) within
    (ap (λ (k : ℕ). (level - 1) * count + index + k) bit) (c.raise_block.ensures v) (c.raise_block-then-index-half.ensures v)

pub returns-else-index-half : goal.returns-else-index-half
returns-else-index-half g c = λ v.
    let f = g.L.Length.value in
    let count = c.args.count in
    let size = length c.args.blocks.now in
    let level = length c.args.blocks.now / c.args.count in
    let index = length c.args.blocks.now % c.args.count in
    let is = next_is count size c.requires.row c.requires.few in
    let bit = half_is level is.few in
    let out : count < index + 2 * 2 ^ (level - 1) = omega (arith, bit, c.if-index-half.false) in
    kept count size level index v (f c.args.number) (shown_at count (map f c.args.blocks.now) v) is out
