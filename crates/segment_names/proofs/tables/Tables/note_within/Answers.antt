use Rattle.std.proofs.Common.{ap, arith}
use Rattle.std.specs.Str.{bytes_eq}
use Rattle.trace_types.specs.Segments.{name_of, task_of}
use Rattle.segment_names.specs.Known.{Known, same_name}
use Rattle.segment_names.specs.inner.Filing.{known_in}
use Rattle.segment_names.proofs.NotingLemmas.{few_known}
use Rattle.segment_names.proofs.tables.Tables.note_within.Goals as goal

pub check_limits-requires-clause-names : goal.check_limits-requires-clause-names
check_limits-requires-clause-names c = let fits = c.requires.fits in let names = fits.0 in let few = c.requires.few in
    few_known same_name name_of (known_in c.args.self.now).names (known_in c.note_all.new.self).names c.args.segments.now 4294967296 (ap (λ (q : Known). q.names) c.in_ok-note_all.ensures.noted) (omega arith)

pub check_limits-requires-clause-tasks : goal.check_limits-requires-clause-tasks
check_limits-requires-clause-tasks c = let fits = c.requires.fits in let tasks = fits.1 in let few = c.requires.few in
    few_known bytes_eq task_of (known_in c.args.self.now).tasks (known_in c.note_all.new.self).tasks c.args.segments.now 4294967296 (ap (λ (q : Known). q.tasks) c.in_ok-note_all.ensures.noted) (omega arith)
