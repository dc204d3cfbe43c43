use Rattle.std.proofs.Common.{◌∙◌, drop, length, refl, sym, take}
use Rattle.mystery_io.specs.Input.{input_read}
use Rattle.mystery_io.specs.ReadFaults.{files_seen}
use Rattle.mystery_run.specs.CommandLines.{Call, preface_of_call}
use Rattle.mystery_run.specs.Runs.{Seen, run_seen}
use Rattle.mystery_run.specs.inner.ParsedLines.{call_of_line}
use Rattle.mystery_run.specs.inner.ReadingTwice.{said_by}
use Rattle.mystery_run.proofs.EndingLemmas.{explains_file, explains_memory, explains_read, explains_size, no_file_fails, reads_all}
use Rattle.mystery_run.proofs.program.perform_call.Goals as goal

pub returns-in-Err-Memory-clause-explains : goal.returns-in-Err-Memory-clause-explains
returns-in-Err-Memory-clause-explains g c =
    let call : Call = call_of_line c.args.line in
    let F = g.F.Files in
    let seen : Seen = run_seen c.args.words.now (files_seen F.given F.opens c.args.files.now c.read_both.new.files) g.S.Sink.written c.args.out.now c.args.out.now in
    explains_memory seen call c.requires.known (rw (c.in-Err-Memory.field-0-is, c.requires.given, c.certificate.ensures, c.files.ensures) at c.in-Err-Memory.ensures.cause) refl

pub returns-in-Err-File-clause-explains : goal.returns-in-Err-File-clause-explains
returns-in-Err-File-clause-explains g c =
    let call : Call = call_of_line c.args.line in
    let F = g.F.Files in
    let seen : Seen = run_seen c.args.words.now (files_seen F.given F.opens c.args.files.now c.read_both.new.files) g.S.Sink.written c.args.out.now c.args.out.now in
    rw c.in-Err-File.field-0-is (explains_file seen call c.requires.known c.in-Err-File.index (rw (c.in-Err-File.field-0-is, c.requires.given, c.certificate.ensures, c.files.ensures) at c.in-Err-File.ensures.cause) refl)

pub returns-in-Err-TooBig-clause-explains : goal.returns-in-Err-TooBig-clause-explains
returns-in-Err-TooBig-clause-explains g c =
    let call : Call = call_of_line c.args.line in
    let F = g.F.Files in
    let seen : Seen = run_seen c.args.words.now (files_seen F.given F.opens c.args.files.now c.read_both.new.files) g.S.Sink.written c.args.out.now c.args.out.now in
    explains_size seen call c.requires.known (rw (c.in-Err-TooBig.field-0-is, c.requires.given, c.certificate.ensures, c.files.ensures) at c.in-Err-TooBig.ensures.cause) refl

pub returns-in-Ok-clause-explains : goal.returns-in-Ok-clause-explains
returns-in-Ok-clause-explains g c =
    let call : Call = call_of_line c.args.line in
    let F = g.F.Files in
    let seen : Seen = run_seen c.args.words.now (files_seen F.given F.opens c.args.files.now c.read_both.new.files) g.S.Sink.written c.args.out.now c.perform_over.new.out in
    let known = c.requires.known in
    let read = c.in-Ok.ensures in
    let said = rw (c.requires.given, c.certificate.ensures) at read.said in
    let cert_fits = rw (c.requires.given, c.certificate.ensures) at read.preface_fits in
    let input = rw (c.form-form.ensures, c.requires.given, c.certificate.ensures) at read.input in
    let opened = rw (c.requires.given, c.certificate.ensures, c.files.ensures) at read.opened in
    let cert = input_read (take (length (preface_of_call call)) seen.files.readings) in
    let bytes = input_read (drop (length (preface_of_call call)) seen.files.readings) in
    explains_read seen call known (said_by c.in-Ok.readings.preface) cert bytes said (cert_fits, input.fits) c.perform_over.result refl refl (reads_all seen call known opened read.ended) (c.perform_over.ensures.ends bytes input.is)

pub returns-in-Ok-clause-tallied : goal.returns-in-Ok-clause-tallied
returns-in-Ok-clause-tallied g c =
    let call : Call = call_of_line c.args.line in
    let F = g.F.Files in
    let seen : Seen = run_seen c.args.words.now (files_seen F.given F.opens c.args.files.now c.read_both.new.files) g.S.Sink.written c.args.out.now c.perform_over.new.out in
    let input = rw (c.form-form.ensures, c.requires.given, c.certificate.ensures) at c.in-Ok.ensures.input in
    let bytes = input_read (drop (length (preface_of_call call)) seen.files.readings) in
    c.in-Ok.ensures.tallied
    ∙ sym (no_file_fails _ _ c.perform_over.result _ _ (F.faults c.args.files.now) (c.perform_over.ensures.ends bytes input.is))
