-- The printed texts of the reasons.
use Rattle.std.specs.Prelude.{ℕ, List, codes}
use Rattle.event_lines.specs.declared.why.Why.{Why}
use Rattle.event_lines.specs.declared.why.Why.TheVariants.{NotJson, Missing, WrongKind, OutOfRange}
use Rattle.event_lines.specs.declared.why.Why.TheVariants.{BadText, UnknownCommand}

-- the text in which a reason is printed
abbrev pub why_text : Why → List ℕ
why_text NotJson = codes "not a JSON object"
why_text Missing = codes "missing member"
why_text WrongKind = codes "wrong kind"
why_text OutOfRange = codes "out of range"
why_text BadText = codes "bad text"
why_text UnknownCommand = codes "unknown command"
