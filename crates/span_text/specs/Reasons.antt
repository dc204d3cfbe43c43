-- The printed texts of the reasons.
use Rattle.std.specs.Prelude.{ℕ, List, codes, ◌++◌}
use Rattle.span_text.specs.declared.why.Why.{Why}
use Rattle.span_text.specs.declared.why.Why.TheVariants.{NotJson, NotArray, Missing, Bad}
use Rattle.span_text.specs.declared.why.Why.TheVariants.{EndBeforeStart, TimeOutOfRange}
use Rattle.span_text.specs.Members.{member_name}

-- the text in which a reason is printed
abbrev pub why_text : Why → List ℕ
why_text NotJson = codes "not JSON"
why_text NotArray = codes "not an array"
why_text (Missing m) = codes "missing " ++ member_name m
why_text (Bad m) = codes "bad " ++ member_name m
why_text EndBeforeStart = codes "end before start"
why_text TimeOutOfRange = codes "time out of range"
