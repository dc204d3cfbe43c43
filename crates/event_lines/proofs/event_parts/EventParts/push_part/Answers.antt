use Rattle.std.proofs.Common.{◌≡◌, [], ◌++◌, arith, sym, ap, ◌∙◌, append-nil}
use Rattle.std.proofs.lemmas.List.{nil_from_length}
use Rattle.event_lines.proofs.event_parts.EventParts.push_part.Goals as goal

pub returns-then-is_empty-clause-ok : goal.returns-then-is_empty-clause-ok
returns-then-is_empty-clause-ok c =
    let none : c.args.events ≡ [] = nil_from_length c.args.events (c.is_empty.ensures.0 (grind arith)) in
    sym (append-nil c.args.self.now) ∙ ap (λ events. c.args.self.now ++ events) (sym none)
