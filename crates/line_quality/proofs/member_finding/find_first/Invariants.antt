use Rattle.std.proofs.Common.{◌≡◌, drop}
use Rattle.std.specs.Prelude.{find}
use Rattle.serde_json.specs.View.{view}
use Rattle.line_quality.specs.Members.{is_at_fault}
use Rattle.line_quality.proofs.member_finding.find_first.Given as goal

-- none of those so far is at fault
abbrev pub invariant-loop-member : goal.invariant-loop-member
invariant-loop-member l = find (is_at_fault l.why (view l.value)) l.members ≡ find (is_at_fault l.why (view l.value)) (drop l.member-index l.members)
