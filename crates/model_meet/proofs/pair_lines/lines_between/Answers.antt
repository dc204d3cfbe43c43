use Rattle.std.proofs.Common.{◌≡◌, Bool, false, ◌&&◌, sym, ap}
use Rattle.trace_types.specs.Parts.{by_number}
use Rattle.model_meet.proofs.PairLineLemmas.{exclusion_told, no_exclusion, no_order, one_answer, order_told, ordered_told, together_turned}
use Rattle.model_meet.proofs.pair_lines.lines_between.Goals.{then-not_before, else-not_before}
use Rattle.model_meet.proofs.pair_lines.lines_between.Goals as goal

pub returns-then-not-together-clause-before_told : goal.returns-then-not-together-clause-before_told
returns-then-not-together-clause-before_told c = λ traces s.
    let both = c.together.ensures.told traces s in
    no_order traces c.args.a c.args.b (λ x. one_answer c.together.result c.if-not-together.true (both.1 x))

pub returns-then-not-together-clause-after_told : goal.returns-then-not-together-clause-after_told
returns-then-not-together-clause-after_told c = λ traces s.
    let both = c.together.ensures.told traces s in
    let turned = together_turned traces c.args.a c.args.b (c.relations_are_symmetric.ensures.apart by_number) in
    no_order traces c.args.b c.args.a (λ x. one_answer c.together.result c.if-not-together.true (both.1 (turned.1 x)))

pub returns-then-not-together-clause-exclusive_told : goal.returns-then-not-together-clause-exclusive_told
returns-then-not-together-clause-exclusive_told c = λ traces cmp s less.
    let both = c.together.ensures.told traces s in
    no_exclusion traces c.args.a c.args.b cmp (λ x. one_answer c.together.result c.if-not-together.true (both.1 x))

pub returns-then-unordered-clause-before_told : goal.returns-then-unordered-clause-before_told
returns-then-unordered-clause-before_told c = λ traces s.
    let both = c.together.ensures.told traces s in
    order_told traces c.args.a c.args.b c.is_order_refuted-not_before.result c.requires.differ (both.0 c.if-not-together.false) (c.is_order_refuted-not_before.ensures.told traces s)

pub returns-then-unordered-clause-after_told : goal.returns-then-unordered-clause-after_told
returns-then-unordered-clause-after_told c = λ traces s.
    let both = c.together.ensures.told traces s in
    let turned = together_turned traces c.args.a c.args.b (c.relations_are_symmetric.ensures.apart by_number) in
    order_told traces c.args.b c.args.a c.is_order_refuted-not_after.result (λ e. c.requires.differ (sym e)) (turned.0 (both.0 c.if-not-together.false)) (c.is_order_refuted-not_after.ensures.told traces s)

pub returns-then-unordered-clause-exclusive_told : goal.returns-then-unordered-clause-exclusive_told
returns-then-unordered-clause-exclusive_told c = λ traces cmp s less.
    let both = c.together.ensures.told traces s in
    let not_before = c.is_order_refuted-not_before in
    let not_after = c.is_order_refuted-not_after in
    let joined : not_before.result && not_after.result ≡ c.if-not_before.unordered = elim c.if-not_before.branch [
      | then-not_before w ↦ let e = ap (λ (b : Bool). b && not_after.result) w.if-not_before.true in let u = w.unordered-is in cc
      | else-not_before w ↦ let e : not_before.result && not_after.result ≡ false = ap (λ (b : Bool). b && not_after.result) w.if-not_before.false in let f = w.if-not_before.false in let u = w.unordered-is in cc
    ] in
    exclusion_told traces c.args.a c.args.b cmp not_before.result not_after.result c.if-not_before.unordered joined (not_before.ensures.told traces s) (not_after.ensures.told traces s) c.exclusive.result less
    (both.0 c.if-not-together.false) c.if-unordered.true (c.exclusive.ensures.told traces s)

pub returns-else-unordered-clause-before_told : goal.returns-else-unordered-clause-before_told
returns-else-unordered-clause-before_told c = λ traces s.
    let both = c.together.ensures.told traces s in
    order_told traces c.args.a c.args.b c.is_order_refuted-not_before.result c.requires.differ (both.0 c.if-not-together.false) (c.is_order_refuted-not_before.ensures.told traces s)

pub returns-else-unordered-clause-after_told : goal.returns-else-unordered-clause-after_told
returns-else-unordered-clause-after_told c = λ traces s.
    let both = c.together.ensures.told traces s in
    let turned = together_turned traces c.args.a c.args.b (c.relations_are_symmetric.ensures.apart by_number) in
    order_told traces c.args.b c.args.a c.is_order_refuted-not_after.result (λ e. c.requires.differ (sym e)) (turned.0 (both.0 c.if-not-together.false)) (c.is_order_refuted-not_after.ensures.told traces s)

pub returns-else-unordered-clause-exclusive_told : goal.returns-else-unordered-clause-exclusive_told
returns-else-unordered-clause-exclusive_told c = λ traces cmp s less.
    let not_before = c.is_order_refuted-not_before in
    let not_after = c.is_order_refuted-not_after in
    let joined : not_before.result && not_after.result ≡ c.if-not_before.unordered = elim c.if-not_before.branch [
      | then-not_before w ↦ let e = ap (λ (b : Bool). b && not_after.result) w.if-not_before.true in let u = w.unordered-is in cc
      | else-not_before w ↦ let e : not_before.result && not_after.result ≡ false = ap (λ (b : Bool). b && not_after.result) w.if-not_before.false in let f = w.if-not_before.false in let u = w.unordered-is in cc
    ] in
    ordered_told traces c.args.a c.args.b cmp not_before.result not_after.result c.if-not_before.unordered joined (not_before.ensures.told traces s) (not_after.ensures.told traces s) c.if-unordered.false
