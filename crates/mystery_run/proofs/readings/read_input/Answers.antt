use Rattle.mystery_io.specs.Input.{input_read}
use Rattle.mystery_io.specs.Readings.{new_readings}
use Rattle.mystery_run.proofs.InputLemmas.{bytes_read}
use Rattle.mystery_run.proofs.readings.read_input.Goals as goal

pub returns-in_ok-bytes-in_default-clause-input : goal.returns-in_ok-bytes-in_default-clause-input
returns-in_ok-bytes-in_default-clause-input g c =
    let read = c.in_ok-bytes-in_default.ensures in
    bytes_read c.args.form c.in_ok-bytes-in_default.bytes (input_read (new_readings (g.F.Files.given c.args.files.now) (g.F.Files.given c.read_bytes.new.files))) read.fits read.input
