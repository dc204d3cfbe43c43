-- The call of arguments that were read.
use Rattle.std.specs.Prelude.{option_map}
use Rattle.import_run.specs.CommandLines.{Asked, Call, file_names}
use Rattle.import_run.specs.declared.asked.Asked as lent
use Rattle.import_run.specs.declared.command_line.CommandLine.{CommandLine}

-- what is asked, by what the references point to
abbrev pub asked_view : lent.Asked → Asked
asked_view a =
    record { grace = a.grace; entry = option_map (λ e. e.now) a.operation; fold = a.fold }

abbrev pub call_of_line : CommandLine → Call
call_of_line line =
    record { form = line.form; asked = asked_view line.asked; names = file_names line.files.now }
