use Rattle.std.proofs.Common.{◌≡◌, ◌+◌, ◌++◌, [], vec_len, ◌∙◌, ap, arith, sym}
use Rattle.event_lines.specs.LinesTaken.{LinesTaken}
use Rattle.event_lines.specs.inner.LinesSoFar.{said_so_far}
use Rattle.event_lines.proofs.TakingLemmas.{ends_lines, nothing_kept}
use Rattle.event_lines.proofs.line_reader.LineReader.take_lines.Goals as goal

pub returns-then-is_empty : goal.returns-then-is_empty
returns-then-is_empty g c =
    let none : c.self.inside.rest.items ≡ [] = nothing_kept c.self.inside.rest.items (vec_len c.self.inside.rest) (omega (arith, c.self.inside.rest.ok.0)) (sym c.is_empty.ensures ∙ c.if-is_empty.true) in
    let old : LinesTaken = record { ended = said_so_far c.self.inside.lines; number = c.self.inside.number; rest = c.self.inside.rest.items } in
    let new : LinesTaken = record { ended = said_so_far c.add.new.self; number = c.in_ok-last.last + 1; rest = c.self.inside.rest.items } in
    rw (← c.self.view_is) (ends_lines old new c.args.bytes.now c.args.bytes.now (ap (λ xs. xs ++ c.args.bytes.now) (sym none)) c.in_ok-last.ensures.said c.in_ok-last.ensures.last none)

pub returns : goal.returns
returns g c =
    let old : LinesTaken = record { ended = said_so_far c.self.inside.lines; number = c.self.inside.number; rest = c.self.inside.rest.items } in
    let new : LinesTaken = record { ended = said_so_far c.add-2.new.self; number = c.in_ok-last-2.last + 1; rest = c.clear.new.self.items } in
    rw (← c.self.view_is) (ends_lines old new c.args.bytes.now c.deref.result.now (c.deref.ensures.value ∙ c.in_ok-extend_from_slice.ensures.items) c.in_ok-last-2.ensures.said c.in_ok-last-2.ensures.last c.clear.ensures.items)
