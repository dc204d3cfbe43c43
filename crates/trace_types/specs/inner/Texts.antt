-- Texts, wherever their bytes lie.
use Rattle.std.specs.Prelude.{ℕ, List, string_bytes}
use Rattle.trace_types.specs.declared.text.Held.{Held}
use Rattle.trace_types.specs.declared.text.Held.TheVariants.{Short, Long}

-- the bytes of a text, short or long
abbrev pub held_bytes : Held → List ℕ
held_bytes (Short text) = text
held_bytes (Long text) = string_bytes text
