use Rattle.std.proofs.lemmas.List.{append_assoc}
use Rattle.pretty_cli.proofs.label.counted_text.Goals as goal

pub returns : goal.returns
returns c =
    let said = rw (c.field-task.ensures, c.field-start.ensures, c.field-end.ensures, c.field-paths.ensures, c.field-times.ensures) at c.format.ensures.ok in
    simp append_assoc said
