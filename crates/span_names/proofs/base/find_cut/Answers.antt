use Rattle.std.proofs.Common.{arith}
use Rattle.span_names.proofs.CutLemmas.{cut_is}
use Rattle.span_names.proofs.base.find_cut.Goals as goal

pub returns-clause-length : goal.returns-clause-length
returns-clause-length c =
    let cut = c.floor_char_boundary.ensures in
    cut_is c.args.text.now c.args.most c.floor_char_boundary.result (omega (arith, c.requires)) cut.bound cut.boundary cut.nearest
