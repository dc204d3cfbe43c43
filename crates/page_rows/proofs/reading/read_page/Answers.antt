use Rattle.std.proofs.Common.{arith, ap, ◌∙◌}
use Rattle.page_rows.specs.Fields.{texts_of}
use Rattle.page_rows.proofs.ReadingLemmas.{lines_few}
use Rattle.page_rows.proofs.reading.read_page.Goals as goal

pub read_rows-requires : goal.read_rows-requires
read_rows-requires c =
    let few = lines_few c.args.text.now c.deref.result.now (ap texts_of c.deref.ensures.value ∙ c.in_ok-lines.ensures) in
    omega (arith, few, c.requires)
