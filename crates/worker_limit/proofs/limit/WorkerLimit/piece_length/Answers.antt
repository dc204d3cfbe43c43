use Rattle.std.proofs.Common.{◌≤◌, ◌/◌, arith}
use Rattle.std.specs.Prelude.{max}
use Rattle.std.proofs.Math.Nat.{max-le, le-max_left, le-max_right}
use Rattle.worker_limit.proofs.PieceLemmas.{makes_at_most, shares_among}
use Rattle.worker_limit.proofs.limit.WorkerLimit.piece_length.Goals as goal

pub returns-clause-most : goal.returns-clause-most
returns-clause-most g c =
    let p = c.most_pieces-pieces.result in
    let n = c.args.length in
    let inner = c.max.ensures in
    let outer = c.max-2.ensures in
    let a = le-max_left c.max.result c.least_items.result in
    let b = le-max_right c.max.result c.least_items.result in
    let even = le-max_right c.args.fewest (n / p) in
    makes_at_most c.args.self.now.most n p c.max-2.result c.most_pieces-pieces.ensures
    (omega (arith, inner, outer, a, even))
    (let one = c.least_items.ensures.some in omega (arith, outer, b, one))
    (λ more. let two = c.least_items.ensures.two more in omega (arith, outer, b, two))

pub returns-clause-shared : goal.returns-clause-shared
returns-clause-shared g c =
    let p = c.most_pieces-pieces.result in
    let n = c.args.length in
    let top = max (max 2 c.args.fewest) (n / p) in
    let left = le-max_left (max 2 c.args.fewest) (n / p) in
    let two = le-max_left 2 c.args.fewest in
    let fewest = le-max_right 2 c.args.fewest in
    let even = le-max_right (max 2 c.args.fewest) (n / p) in
    let inner : c.max.result ≤ top = rw c.max.ensures (max-le (omega (arith, fewest, left)) even) in
    let least : c.least_items.result ≤ top = let most = c.least_items.ensures.most in omega (arith, most, two, left) in
    shares_among c.args.self.now.most n p c.args.fewest c.max-2.result c.most_pieces-pieces.ensures (rw c.max-2.ensures (max-le inner least))
