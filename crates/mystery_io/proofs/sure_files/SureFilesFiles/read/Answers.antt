use Rattle.std.proofs.Common.{length, take}
use Rattle.mystery_io.specs.Histories.{readings_of}
use Rattle.mystery_io.specs.NamedBytes.{bytes_named}
use Rattle.mystery_io.proofs.HonestLemmas.{gives_read, next_piece}
use Rattle.mystery_io.proofs.sure_files.SureFilesFiles.read.Goals as goal

pub invariant_of-self : goal.invariant_of-self
invariant_of-self c =
    let inside = c.self.inside in
    let read = c.read-count.ensures in
    let piece = take c.read-count.result c.read-count.new.into in
    let room = length c.args.into.now in
    let next = next_piece inside.files.left piece c.read-count.result room room c.requires c.requires read.count read.takes in
    rw read.left (gives_read (bytes_named inside.files.files) (readings_of inside.history) _ piece inside.files.left _ inside.is_open c.self.invariant c.if-self.true c.give.ensures next.0 next.1)
