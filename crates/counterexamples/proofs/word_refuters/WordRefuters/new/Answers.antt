use Rattle.std.proofs.Common.{◌≡◌, refl}
use Rattle.std.specs.Int.{bit_at}
use Rattle.std.proofs.lemmas.Nat.Bits.{bit_at_ones}
use Rattle.counterexamples.proofs.word_refuters.WordRefuters.new.Goals as goal

pub returns : goal.returns
returns c = λ bit h. let e : bit_at 18446744073709551615 bit ≡ 1 = bit_at_ones 64 bit h in rw e refl
