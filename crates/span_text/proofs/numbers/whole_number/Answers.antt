use Rattle.std.proofs.Common.{◌≡◌, true, sym, ap, ◌∙◌}
use Rattle.span_text.specs.Numbers.{is_decimal}
use Rattle.span_text.proofs.NumberLemmas.{parsed}
use Rattle.span_text.proofs.numbers.whole_number.Goals as goal

pub returns : goal.returns
returns c =
    let digits : is_decimal c.args.text.now ≡ true = ap is_decimal (sym c.as_bytes.ensures.value) ∙ sym c.is_decimal.ensures ∙ c.if-not-is_decimal.false in
    c.ok.ensures.value ∙ parsed c.args.text.now c.parse.result digits c.parse.ensures.value.0
