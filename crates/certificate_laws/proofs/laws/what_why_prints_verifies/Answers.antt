use Rattle.std.proofs.Common.{◌≤◌, length, refl, arith}
use Rattle.certificate_laws.specs.ReadingLaws.{IsCertificate}
use Rattle.certificate_laws.proofs.laws.what_why_prints_verifies.Goals as goal

pub returns : goal.returns
returns c = λ input lines last refuted text is are printed few.
    let no_more : length last.kept ≤ length lines = c.kept_traces_are_printable.ensures.few input lines last is in
    let certificate : IsCertificate last.kept refuted text = record {
      printable = c.kept_traces_are_printable.ensures.printable input lines last is;
      few_traces = omega arith;
      few_relations = c.few_relations_are_refuted.ensures input lines last refuted is are;
      printed = printed;
    } in
    let read = c.a_certificate_is_read.ensures last.kept refuted text certificate in
    (read.0, read.1, λ workers next parts does. c.a_printed_certificate_verifies.ensures last.kept refuted text read.0 workers last next parts certificate read.1 refl does)
