use Rattle.std.proofs.Common.{◌+◌, ◌++◌, ◌∷◌, List, ℕ, [], drop, refl, subst, take}
use Rattle.std.proofs.lemmas.List.{take_rest}
use Rattle.std.proofs.lemmas.Result.{on_ok_weaker}
use Rattle.event_lines.proofs.TakingLemmas.{feed_between}
use Rattle.line_clean.specs.inner.Carrying.{Passes}
use Rattle.line_clean.proofs.CarryLemmas.{passes_kept, passes_on}
use Rattle.line_clean.proofs.pieces.take_piece.Goals as goal

pub returns-clause-passes : goal.returns-clause-passes
returns-clause-passes g c =
    let piece = c.args.piece.now in
    let first = c.in-Some.first in
    let head = take first piece in
    let tail = drop (first + 1) piece in
    let text = c.args.text.now.items in
    let carry = c.args.carry.now in
    let ended = passes_on text text c.end_line.new.text.items carry c.keep-2.new.self c.end_line.new.carry head (10 ∷ []) (head ++ 10 ∷ []) refl (passes_kept text carry c.keep-2.new.self head c.in_ok-keep.ensures.passes) c.in_ok-end_line.ensures.passes in
    on_ok_weaker c.take_lines.result (λ more. passes_on text c.end_line.new.text.items c.take_lines.new.text.items carry c.end_line.new.carry c.take_lines.new.carry (head ++ 10 ∷ []) tail piece (feed_between piece head tail c.in-Some.ensures.cut) ended
    (subst (λ (xs : List ℕ). Passes c.end_line.new.text.items c.end_line.new.carry xs c.take_lines.new.text.items c.take_lines.new.carry) (take_rest piece (first + 1)) more)) c.take_lines.ensures.passes
