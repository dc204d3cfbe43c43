use Rattle.std.proofs.Common.{List, ℕ, ◌≡◌, ◌+◌, ◌++◌, ◌∷◌, ◌∙◌, [], ap, arith, rules, subst, take}
use Rattle.line_quality.specs.BadLines.{Finds}
use Rattle.line_quality.specs.Members.{member_at_fault}
use Rattle.line_quality.specs.inner.FirstLines.{IsFirstLine}
use Rattle.line_quality.proofs.SortingLemmas.{line_within, sorts_to_bad}
use Rattle.line_quality.proofs.sorting.sort_to_bad.Goals as goal

pub overflow_sub-fault : goal.overflow_sub-fault
overflow_sub-fault c = omega (arith, (line_within c.args.bytes.now c.args.fault.line c.args.fault.why c.requires.bad).some)

pub line_start-start-requires : goal.line_start-start-requires
line_start-start-requires c = (line_within c.args.bytes.now c.args.fault.line c.args.fault.why c.requires.bad).within

pub returns : goal.returns
returns c =
    let first = c.in_ok-first.first in
    let found = c.in_ok-first.ensures in
    let rest = c.bytes_from-rest.ensures in
    let pushed : c.extend_from_slice.new.self.items ≡ c.args.text.now.items ++ c.bytes_before.result.now = search rules in
    sorts_to_bad c.args.file c.args.number c.args.bytes.now c.args.text.now.items c.extend_from_slice.new.self.items c.args.findings.now c.note_first.new.findings c.args.fault.line c.args.fault.why c.line_start-start.result first c.requires.closed c.requires.bad
    c.line_start-start.ensures (subst (λ (xs : List ℕ). IsFirstLine xs first) rest found.0) (pushed ∙ ap (λ xs. c.args.text.now.items ++ xs) c.bytes_before.ensures)
    (subst (λ (xs : List ℕ). Finds c.args.findings.now c.note_first.new.findings (record { file = c.args.file; line = c.args.number + c.args.fault.line; why = c.args.fault.why; member = member_at_fault c.args.fault.why (take first.end xs) } ∷ [])) rest found.1)
