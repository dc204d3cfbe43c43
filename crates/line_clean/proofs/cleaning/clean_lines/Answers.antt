use Rattle.std.proofs.Common.{◌≡◌, ◌++◌, List, ℕ, ap, arith, drop, length, subst}
use Rattle.std.proofs.lemmas.List.{length-drop, take_rest}
use Rattle.event_lines.specs.Cut.{input_lines}
use Rattle.line_clean.specs.Lines.{clean_text}
use Rattle.line_clean.proofs.CleaningLemmas.{told_all, told_on}
use Rattle.line_clean.proofs.cleaning.clean_lines.Goals as goal

pub bad-preserved : goal.bad-preserved
bad-preserved g c =
    let at = c.bad.invariant in
    let bytes = c.args.bytes.now in
    let i = c.bad.at in
    let next = c.in_ok-at.field-0 in
    let old = c.bad.text.items in
    let new = c.clean_first.new.text.items in
    let more = subst (λ (xs : List ℕ). old ++ clean_text (input_lines xs) ≡ new ++ clean_text (input_lines (drop next xs))) (take_rest bytes i) c.in_ok-at.ensures.text in
    record {
      within = omega (arith, c.in_ok-at.ensures.within, ap length (take_rest bytes i), length-drop i bytes, at.within);
      text = told_on c.args.text.now.items bytes old new i next at.text more;
    }

pub returns : goal.returns
returns g c = told_all c.args.text.now.items c.args.bytes.now c.bad.text.items c.bad.at c.bad-test.false c.bad.invariant.text
