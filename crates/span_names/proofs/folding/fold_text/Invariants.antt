use Rattle.std.proofs.Common.{◌≡◌, ◌++◌, drop, length}
use Rattle.std.specs.Prelude.{string_bytes}
use Rattle.std.specs.Str.{chars}
use lib.Utf8.{encodes}
use Rattle.span_names.specs.Folding.{folded_from, folded_name}
use Rattle.span_names.proofs.folding.fold_text.Given as goal

-- what was made, and what the word and the rest of the name give
abbrev pub invariant-loop-character : goal.invariant-loop-character
invariant-loop-character l = string_bytes l.folded ++ folded_from (string_bytes l.word) (encodes (drop (length l.yielded) (chars l.fn.name))) ≡ folded_name l.fn.name
