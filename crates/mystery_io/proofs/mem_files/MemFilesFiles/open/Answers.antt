use Rattle.std.proofs.Common.{◌≡◌, ◌∙◌, [], ap, false, refl, true}
use Rattle.mystery_io.specs.Histories.{readings_of}
use Rattle.mystery_io.specs.NamedBytes.{bytes_named}
use Rattle.mystery_io.specs.Readings.{after_open}
use Rattle.mystery_io.proofs.HonestLemmas.{gives_opened}
use Rattle.mystery_io.proofs.mem_files.MemFilesFiles.open.Goals.{then-is_planned-via-then-is_planned, then-is_planned-via-else-is_planned+then-not-open}
use Rattle.mystery_io.proofs.mem_files.MemFilesFiles.open.Goals as goal

pub invariant_of-self : goal.invariant_of-self
invariant_of-self c =
    let before = readings_of c.self.inside.history in
    let given : readings_of c.open.new.self ≡ after_open before c.args.name.now = c.open.ensures ∙ ap (λ name. after_open before name) c.as_bytes.ensures.value in
    rw c.open-else-is_planned.ensures.opened (record { some = c.self.invariant.some; honest = gives_opened (bytes_named c.self.inside.files.files) before _ c.args.name.now _ _ c.self.invariant.honest.each given (λ _. refl) })

pub invariant_of-self-then-is_planned : goal.invariant_of-self-then-is_planned
invariant_of-self-then-is_planned c =
    let before = readings_of c.self.inside.history in
    let given : readings_of c.open.new.self ≡ after_open before c.args.name.now = c.open.ensures ∙ ap (λ name. after_open before name) c.as_bytes.ensures.value in
    let held = gives_opened (bytes_named c.self.inside.files.files) before _ c.args.name.now [] false c.self.invariant.honest.each given (λ (e : false ≡ true). cc) in
    rw c.close.ensures (elim c.then-is_planned.branch [
      | then-is_planned-via-then-is_planned w ↦ rw w.self-inside-is (record { some = c.self.invariant.some; honest = held })
      | then-is_planned-via-else-is_planned+then-not-open w ↦ rw (w.self-inside-is, w.open-else-is_planned.ensures.opened) (record { some = c.self.invariant.some; honest = held })
    ])
