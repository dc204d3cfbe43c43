use Rattle.std.proofs.Common.{◌≡◌, ◌+◌, ◌-◌, ◌*◌, ◌^◌, ◌%◌, map, arith}
use Rattle.std.proofs.lemmas.Nat.{one_shl}
use Rattle.path_gains.specs.inner.Spans.{shown_at}
use Rattle.path_gains.proofs.SpanLemmas.{spanned}
use Rattle.path_gains.proofs.spans.raise_span.Goals as goal

pub returns-then-low-high : goal.returns-then-low-high
returns-then-low-high g c = record {
  raises = λ v inside.
      let f = g.L.Length.value in
      let count = c.args.count in
      let level = c.ilog2-level.result in
      let says = c.ilog2-level.ensures in
      let bit : 1 * 2 ^ level % 18446744073709551616 ≡ 2 ^ level = one_shl level 64 says.bound in
      spanned count level c.args.low c.args.high (f c.args.least) v
      (shown_at count (map f c.args.blocks.now) v) (shown_at count (map f c.raise_block.new.blocks) v) (shown_at count (map f c.raise_block-then-low-high.new.blocks) v)
      (level * count + c.args.high - 1 * 2 ^ level % 18446744073709551616)
      c.if-low-high.true c.requires.high says.power_le says.next_power_gt (omega (arith, bit, says.power_le)) (c.raise_block.ensures v) (c.raise_block-then-low-high.ensures v);
}
