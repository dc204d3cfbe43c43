use Rattle.std.proofs.Common.{◌∙◌, ap, None, get_or, [], List, ℕ}
use Rattle.std.proofs.lemmas.List.{get_or_default}
use Rattle.span_names.specs.Names.{numbered}
use Rattle.context_names.specs.Numbers.{base_at}
use Rattle.context_names.proofs.ValueLemmas.{table_next}
use Rattle.context_names.proofs.numbers.make_names.Goals as goal

pub loop-at-preserved : goal.loop-at-preserved
loop-at-preserved c =
    let bases = c.args.bases.now in
    let numbers = c.args.numbers.now in
    let at = c.loop-at.at in
    table_next (λ x. numbered (base_at bases x) (get_or numbers x 0) None) c.loop-at.names.items c.push.new.self.items c.in_ok-numbered_name.field-0 at c.loop-at.invariant
    (c.in_ok-numbered_name.ensures ∙ ap (λ (b : List ℕ). numbered b (get_or numbers at 0) None) (c.as_str.ensures ∙ c.index-bases-at.is ∙ get_or_default bases at c.index-bases-at.result [] c.loop-at-test.true))
    c.in_ok-push.ensures.items
