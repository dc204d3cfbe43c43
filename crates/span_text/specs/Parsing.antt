-- Bytes as a JSON value: RFC 8259, with arrays and objects nested at most 128 deep.
use Rattle.std.specs.Prelude.{ℕ, List, Option, None, if◌then◌else◌}
use Rattle.std.specs.Str.{is_utf8}
use Rattle.json.specs.Json.{Json, document}

-- the JSON value that bytes are, where they are one in UTF-8
abbrev pub json_of : List ℕ → Option Json
json_of bytes = if is_utf8 bytes then document bytes else None
