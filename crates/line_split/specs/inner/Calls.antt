-- Parsed arguments, seen as what the grammar says of them.
use Rattle.line_split.specs.CommandLines.{Call}
use Rattle.line_split.specs.declared.command_line.CommandLine.{CommandLine}

-- parsed arguments, seen as the call that they are
abbrev pub call_of_line : CommandLine → Call
call_of_line line = record {
  grace = line.grace;
  parts = line.parts;
  seed = line.seed.now;
  prefix = line.prefix.now;
  files = line.files.now;
}
