use Rattle.std.proofs.Common.{◌++◌, refl}
use Rattle.mystery_io.specs.ReadFaults.{files_seen}
use Rattle.mystery_run.specs.CommandLines.{Call, files_of_action, preface_of_call}
use Rattle.mystery_run.specs.Runs.{Seen, run_seen}
use Rattle.mystery_run.specs.inner.ParsedLines.{call_of_line}
use Rattle.mystery_run.proofs.EndingLemmas.{explains_memory}
use Rattle.mystery_run.proofs.ReadingLemmas.{new_none, opens_zero}
use Rattle.mystery_run.proofs.program.perform.Goals as goal

pub returns-in_default-copy_given-clause-explains : goal.returns-in_default-copy_given-clause-explains
returns-in_default-copy_given-clause-explains g c =
    let call : Call = call_of_line c.in-Some.line in
    let F = g.F.Files in
    let seen : Seen = run_seen c.args.words.now (files_seen F.given F.opens c.args.files.now c.args.files.now) g.S.Sink.written c.args.out.now c.args.out.now in
    explains_memory seen call c.in-Some.ensures.call (0, opens_zero seen.files (preface_of_call call ++ files_of_action call.action) refl (new_none (F.given c.args.files.now))) refl
