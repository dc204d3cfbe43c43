use Rattle.std.proofs.Common.{◌≡◌, ◌++◌, refl, rules}
use Rattle.line_quality.proofs.SortingLemmas.{sorts_rest}
use Rattle.line_quality.proofs.sorting.sort_first.Goals as goal

pub returns-in_ok-extend_from_slice-in-Ok : goal.returns-in_ok-extend_from_slice-in-Ok
returns-in_ok-extend_from_slice-in-Ok g c =
    let pushed : c.extend_from_slice.new.self.items ≡ c.args.text.now.items ++ c.args.bytes.now = search rules in
    sorts_rest c.args.file c.args.number c.args.bytes.now c.args.text.now.items c.extend_from_slice.new.self.items c.args.findings.now c.in-Ok._lines _ refl c.requires.closed c.in-Ok.ensures.lines_read pushed
