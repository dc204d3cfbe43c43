use Rattle.std.proofs.Common.{◌≡◌, ◌<◌, ap, arith, length, length-append, ◌∙◌, ◌∷◌, []}
use Rattle.std.proofs.lemmas.Str.{encode_ascii}
use Rattle.mystery_run.proofs.HexLemmas.{all_digits, digit_more, first_digits, no_digits}
use Rattle.mystery_run.proofs.hex.hex_text.Goals as goal

pub push-requires : goal.push-requires
push-requires c =
    let ascii : c.from.result < 128 = rw c.from.ensures c.hex_digit.ensures.ascii in
    let one = ap length (encode_ascii c.from.result ascii) in
    omega (arith, one, c.loop-place.invariant.count, c.loop-place-test.true)

pub loop-place-init : goal.loop-place-init
loop-place-init c = record { digits = c.new-text.ensures ∙ no_digits c.args.word; count = ap length c.new-text.ensures }

pub loop-place-preserved : goal.loop-place-preserved
loop-place-preserved c =
    let ascii : c.from.result < 128 = rw c.from.ensures c.hex_digit.ensures.ascii in
    let pushed = c.push.ensures.ascii ascii in
    let one = ap length pushed in
    let more = length-append c.loop-place.text.bytes (c.from.result ∷ []) in
    record {
      digits = digit_more c.args.word c.loop-place.place c.from.result c.loop-place.text.bytes c.push.new.self.bytes c.loop-place.invariant.digits (c.from.ensures ∙ c.hex_digit.ensures.digit) pushed;
      count = omega (arith, one, more, c.loop-place.invariant.count);
    }

pub returns : goal.returns
returns c =
    let e : c.loop-place.place ≡ 16 = omega arith in
    c.loop-place.invariant.digits ∙ ap (first_digits c.args.word) e ∙ all_digits c.args.word
