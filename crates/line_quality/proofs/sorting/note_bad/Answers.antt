use Rattle.std.proofs.Common.{◌≡◌, ◌++◌, ◌∷◌, ◌∙◌, [], ap, arith, rules, take}
use Rattle.line_quality.specs.Members.{member_at_fault}
use Rattle.line_quality.specs.declared.bad_line.BadLine.{BadLine}
use Rattle.line_quality.specs.declared.member.Member.{Member}
use Rattle.line_quality.proofs.FindingLemmas.{kept_full, kept_more}
use Rattle.line_quality.proofs.sorting.note_bad.Goals as goal

pub returns-then-len-ge-MOST_KEPT : goal.returns-then-len-ge-MOST_KEPT
returns-then-len-ge-MOST_KEPT c =
    let old = c.args.findings.now.first.items in
    let bad : BadLine = record { file = c.args.file; line = c.args.line; why = c.args.why; member = member_at_fault c.args.why c.args.bytes.now } in
    record {
      first = kept_full old bad c.args.findings.now.short (omega (arith, c.if-len-ge-MOST_KEPT.true, c.len.ensures, c.args.findings.now.first.ok.0));
      reasons = search rules;
    }

pub returns : goal.returns
returns c =
    let old = c.args.findings.now.first.items in
    let bad : Member → BadLine = λ m. record { file = c.args.file; line = c.args.line; why = c.args.why; member = m } in
    let pushed : c.push-2.new.self.items ≡ old ++ bad c.in_ok-member.member ∷ [] = search rules in
    record {
      first = pushed ∙ kept_more old (bad c.in_ok-member.member) (omega (arith, c.if-len-ge-MOST_KEPT.false, c.len.ensures, c.args.findings.now.first.ok.0)) ∙ ap (λ (m : Member). take 100 (old ++ bad m ∷ [])) c.in_ok-member.ensures;
      reasons = search rules;
    }
