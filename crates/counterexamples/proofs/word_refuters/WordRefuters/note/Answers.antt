use Rattle.std.proofs.Common.{List, arith, bit_and, subst}
use Rattle.counterexamples.proofs.TableLemmas.{word_noted, word_same}
use Rattle.counterexamples.specs.declared.finding.Finding.{Finding}
use Rattle.counterexamples.specs.inner.Tables.{AreChosen}
use Rattle.counterexamples.proofs.word_refuters.WordRefuters.note.Goals as goal

pub returns-then-fresh-ne0 : goal.returns-then-fresh-ne0
returns-then-fresh-ne0 c =
    word_noted c.args.self.now c.args.mask c.args.finding c.choose.new.findings (omega (arith, c.ranges.mask.fits))
    (subst (λ (l : List Finding). AreChosen l (bit_and c.args.self.now.left c.args.mask) c.args.finding c.choose.new.findings) c.as_mut_slice.ensures.value c.choose.ensures)

pub returns-else-fresh-ne0 : goal.returns-else-fresh-ne0
returns-else-fresh-ne0 c = word_same c.args.self.now c.args.mask c.args.finding (omega (arith, c.if-fresh-ne0.false))
