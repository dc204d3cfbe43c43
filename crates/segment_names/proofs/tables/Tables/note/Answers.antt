use Rattle.std.proofs.Common.{sym, ◌∙◌}
use Rattle.trace_types.specs.Segments.{name_of}
use Rattle.segment_names.specs.Known.{name_number}
use Rattle.segment_names.specs.inner.Filing.{known_in}
use Rattle.segment_names.proofs.NotingLemmas.{told, note_known}
use Rattle.segment_names.proofs.tables.Tables.note.Goals as goal

pub returns-then-is_some-clause-noted : goal.returns-then-is_some-clause-noted
returns-then-is_some-clause-noted c = note_known c.args.self.now c.look_up.ensures.filed c.args.segment.now
    (told c.look_up.result (name_number (known_in c.args.self.now) (name_of c.args.segment.now)) c.look_up.ensures.absent c.look_up.ensures.name ∙ sym c.is_some.ensures ∙ c.if-is_some.true)
