use Rattle.std.proofs.Common.{arith}
use Rattle.event_lines.proofs.PlainObjectLemmas.{whole}
use Rattle.event_lines.proofs.plain_lines.read_whole.Goals as goal

pub returns : goal.returns
returns c =
    whole c.args.text.now c.args.at c.find_digits_end-end.result c.in_ok-number.number c.find_digits_end-end.ensures.value c.find_digits_end-end.ensures.bound (λ e. omega arith) (λ e. omega arith) c.in_ok-number.ensures
