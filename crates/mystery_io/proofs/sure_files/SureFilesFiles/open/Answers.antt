use Rattle.std.proofs.Common.{◌≡◌, ◌∙◌, ap, refl}
use Rattle.mystery_io.specs.Histories.{readings_of}
use Rattle.mystery_io.specs.NamedBytes.{bytes_named}
use Rattle.mystery_io.specs.Readings.{after_open}
use Rattle.mystery_io.proofs.HonestLemmas.{gives_opened}
use Rattle.mystery_io.proofs.sure_files.SureFilesFiles.open.Goals as goal

pub invariant_of-self : goal.invariant_of-self
invariant_of-self c =
    let before = readings_of c.self.inside.history in
    let given : readings_of c.open.new.self ≡ after_open before c.args.name.now = c.open.ensures ∙ ap (λ name. after_open before name) c.as_bytes.ensures.value in
    rw c.open-2.ensures.opened (gives_opened (bytes_named c.self.inside.files.files) before _ c.args.name.now _ _ c.self.invariant.each given (λ _. refl))
