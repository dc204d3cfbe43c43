use Rattle.std.proofs.Common.{◌≡◌, ◌∙◌, ap, length, sym, take, true}
use Rattle.mystery_io.specs.Histories.{readings_of}
use Rattle.mystery_io.specs.NamedBytes.{bytes_named}
use Rattle.mystery_io.specs.inner.OpenFiles.{OpenState}
use Rattle.mystery_io.proofs.HonestLemmas.{gives_read, next_piece}
use Rattle.mystery_io.proofs.mem_files.MemFilesFiles.read.Goals as goal

pub invariant_of-self-then-is_open : goal.invariant_of-self-then-is_open
invariant_of-self-then-is_open c =
    let inside = c.self.inside in
    let read = c.read-count.ensures in
    let piece = take c.read-count.result c.read-count.new.into in
    let is_open : inside.files.is_open ≡ true = ap (λ (s : OpenState). s.is_open) (sym read.left) ∙ sym c.is_open.ensures ∙ c.if-is_open.true in
    let next = next_piece inside.files.left piece c.read-count.result inside.most (length c.args.into.now) c.self.invariant.some c.requires read.count read.takes in
    rw read.left (record {
      some = c.self.invariant.some;
      honest = gives_read (bytes_named inside.files.files) (readings_of inside.history) _ piece inside.files.left _ inside.files.is_open c.self.invariant.honest is_open c.give.ensures next.0 next.1;
    })
