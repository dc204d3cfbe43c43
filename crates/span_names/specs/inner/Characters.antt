-- What stands for characters.
use Rattle.std.specs.Prelude.{ℕ, ◌&&◌, List, nat_lt, encode_utf8, if◌then◌else◌}
use Rattle.span_names.specs.Names.{escaped_byte, is_escaped}

-- what stands for a character
abbrev pub escaped_char : ℕ → List ℕ
escaped_char c = if nat_lt c 128 && is_escaped c then escaped_byte c else encode_utf8 c
