use Rattle.std.proofs.Common.{◌≡◌, ◌+◌, ◌++◌, length, refl}
use Rattle.mystery_io.specs.ReadFaults.{FilesSeen, files_seen}
use Rattle.mystery_run.specs.inner.ReadingTwice.{preface_files}
use Rattle.mystery_run.proofs.ReadingLemmas.{fails_later, new_twice, opens_all, opens_both, passes_later}
use Rattle.mystery_run.proofs.readings.read_both.Goals as goal

pub returns-in-Ok-clause-opened : goal.returns-in-Ok-clause-opened
returns-in-Ok-clause-opened g c =
    let F = g.F.Files in
    let first : FilesSeen = files_seen F.given F.opens c.args.files.now c.read_preface.new.files in
    let second : FilesSeen = files_seen F.given F.opens c.read_preface.new.files c.read_input.new.files in
    let seen : FilesSeen = files_seen F.given F.opens c.args.files.now c.read_input.new.files in
    let whole : seen.readings ≡ first.readings ++ second.readings = new_twice (F.given c.args.files.now) (F.given c.read_preface.new.files) (F.given c.read_input.new.files) c.read_preface.ensures.grows c.read_input.ensures.grows in
    opens_all seen first second (preface_files c.args.names) c.args.names.input.now whole refl refl refl c.in_ok-preface.ensures.opened c.in_ok-preface.ensures.ended c.in-Ok.ensures.opened

pub returns-in-Err-Memory-clause-cause : goal.returns-in-Err-Memory-clause-cause
returns-in-Err-Memory-clause-cause g c =
    let F = g.F.Files in
    let first : FilesSeen = files_seen F.given F.opens c.args.files.now c.read_preface.new.files in
    let second : FilesSeen = files_seen F.given F.opens c.read_preface.new.files c.read_input.new.files in
    let seen : FilesSeen = files_seen F.given F.opens c.args.files.now c.read_input.new.files in
    let whole : seen.readings ≡ first.readings ++ second.readings = new_twice (F.given c.args.files.now) (F.given c.read_preface.new.files) (F.given c.read_input.new.files) c.read_preface.ensures.grows c.read_input.ensures.grows in
    let memory = rw c.in-Err-Memory.field-0-is at c.in-Err-Memory.ensures.cause in
    (length (preface_files c.args.names) + memory.0, opens_both seen first second (preface_files c.args.names) c.args.names.input.now whole refl refl refl c.in_ok-preface.ensures.opened c.in_ok-preface.ensures.ended memory.0 memory.1)

pub returns-in-Err-File-clause-cause : goal.returns-in-Err-File-clause-cause
returns-in-Err-File-clause-cause g c =
    let F = g.F.Files in
    let first : FilesSeen = files_seen F.given F.opens c.args.files.now c.read_preface.new.files in
    let second : FilesSeen = files_seen F.given F.opens c.read_preface.new.files c.read_input.new.files in
    let seen : FilesSeen = files_seen F.given F.opens c.args.files.now c.read_input.new.files in
    let whole : seen.readings ≡ first.readings ++ second.readings = new_twice (F.given c.args.files.now) (F.given c.read_preface.new.files) (F.given c.read_input.new.files) c.read_preface.ensures.grows c.read_input.ensures.grows in
    let failed = rw c.in-Err-File.field-0-is at c.in-Err-File.ensures.cause in
    rw c.preface_count.ensures (fails_later seen first second (preface_files c.args.names) c.args.names.input.now whole refl refl refl c.in_ok-preface.ensures.opened c.in_ok-preface.ensures.ended c.in_ok-preface.ensures.fits c.in-Err-File.index _ refl failed)

pub returns-clause-cause : goal.returns-clause-cause
returns-clause-cause g c =
    let F = g.F.Files in
    let first : FilesSeen = files_seen F.given F.opens c.args.files.now c.read_preface.new.files in
    let second : FilesSeen = files_seen F.given F.opens c.read_preface.new.files c.read_input.new.files in
    let seen : FilesSeen = files_seen F.given F.opens c.args.files.now c.read_input.new.files in
    let whole : seen.readings ≡ first.readings ++ second.readings = new_twice (F.given c.args.files.now) (F.given c.read_preface.new.files) (F.given c.read_input.new.files) c.read_preface.ensures.grows c.read_input.ensures.grows in
    let passed = rw c.in-Err-TooBig.field-0-is at c.in-Err-TooBig.ensures.cause in
    passes_later seen first second (preface_files c.args.names) c.args.names.input.now whole refl refl refl c.in_ok-preface.ensures.opened c.in_ok-preface.ensures.ended c.in_ok-preface.ensures.fits passed.0 passed.1
