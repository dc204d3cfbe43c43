use Rattle.std.proofs.Common.{◌∙◌, ap, arith, length, take}
use Rattle.whole_files.proofs.FileLemmas.{piece_read}
use Rattle.whole_files.proofs.file_reading.read_piece.Goals as goal

pub returns-clause-reads : goal.returns-clause-reads
returns-clause-reads g c =
    let n = c.len-filled.result in
    let ok = c.in-Ok.ensures in
    piece_read n c.in-Ok.count 65536 c.args.bytes.now.items _ c.resize.new.self.items c.fill.new.buffer c.truncate.new.self.items c.resize.new.self.len _ _
    (omega (arith, c.len-filled.ensures, c.args.bytes.now.ok.0)) c.in_ok-resize.ensures.items c.resize.new.self.ok.0 (ok.length ∙ ap length c.deref_mut.ensures.value) (ok.kept ∙ ap (take n) c.deref_mut.ensures.value)
    ok.within c.truncate.ensures.items ok.gives
