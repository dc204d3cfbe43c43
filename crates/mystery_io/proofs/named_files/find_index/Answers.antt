use Rattle.std.proofs.Common.{◌∙◌, sym}
use Rattle.mystery_io.proofs.NamedLemmas.{got_here, named_here}
use Rattle.mystery_io.proofs.named_files.find_index.Goals as goal

pub returns-then-eq : goal.returns-then-eq
returns-then-eq c =
    let file = c.index-files-i.result in (
      file,
      got_here c.args.files.now c.loop-i.i file c.loop-i-test.true c.index-files-i.is,
      sym c.loop-i.invariant ∙ named_here c.args.files.now c.loop-i.i file c.args.name.now c.loop-i-test.true c.index-files-i.is (cc),
    )
