use Rattle.std.proofs.Common.{arith}
use Rattle.std.proofs.lemmas.Simd.{zip2_splat}
use Rattle.event_lines.proofs.StopLemmas.{hit, below, either, masked}
use Rattle.event_lines.specs.inner.PlainObjects.{is_stop}
use Rattle.event_lines.proofs.plain_lines.find_stops.Goals as goal

pub returns : goal.returns
returns c =
    let v = c.args.bytes in
    let long = c.fits-bytes.0 in
    masked _ is_stop v _ (omega arith) c.fits-bytes.1
    (either _ _ v (either _ _ v (zip2_splat hit v 16 34 long) (zip2_splat hit v 16 92 long)) (either _ _ v (zip2_splat below v 16 32 long) (zip2_splat hit v 16 127 long))) tt
