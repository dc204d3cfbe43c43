-- Single lines, and what the definition says of them.
use Rattle.std.proofs.Common.{◌≡◌, ℕ, List, [], ◌∷◌, ◌++◌, map, replicate, Result, Ok, Err, codes, None, Some, refl}
use Rattle.std.specs.Str.{is_utf8, chars}
use Rattle.serde_json.proofs.OnLiterals.{serde_json_on_literals}
use Rattle.event_lines.specs.declared.why.Why.{Why}
use Rattle.event_lines.specs.declared.why.Why.TheVariants.{NotJson, Missing, WrongKind, OutOfRange, BadText, UnknownCommand}
use Rattle.event_lines.specs.declared.line.Line.{Line}
use Rattle.event_lines.specs.declared.line.Line.TheVariants.{Event, Control}
use Rattle.event_lines.specs.declared.command.Command.TheVariants.{Add, Drop, Keep, Watch, Grace, Model, Paths, Slack, Report, Graph, Summarize}
use Rattle.event_lines.specs.InputLines.{lines_said}
use Rattle.event_lines.specs.LineResults.{line_result}

-- an object with these members
abbrev object : List ℕ → List ℕ
object members = codes "{" ++ members ++ codes "}"

-- an event line with four texts and these members
abbrev line : List ℕ → List ℕ
line members = object (codes "\"request\":\"r\",\"machine\":\"m\",\"task\":\"t\",\"event\":\"e\"" ++ members)

-- an event line with this text as its task
abbrev task : List ℕ → List ℕ
task text = object (codes "\"request\":\"r\",\"machine\":\"m\",\"task\":\"" ++ text ++ codes "\",\"event\":\"e\",\"time\":0")

abbrev said : List ℕ → Result Line Why
said = line_result 1

no_objects : map said (codes "[]" ∷ codes "5" ∷ codes "{" ∷ codes "x" ∷ codes "{} {}" ∷ (codes "{\"a\":\"" ++ 255 ∷ codes "\"}") ∷ [])
    ≡ replicate 6 (Err NotJson)
unfolding serde_json_on_literals is_utf8 chars
no_objects = refl

missing : map said (
    codes "{}"
    ∷ object (codes "\"machine\":\"m\",\"task\":\"t\",\"event\":\"e\",\"time\":0")
    ∷ object (codes "\"request\":\"r\",\"task\":\"t\",\"event\":\"e\",\"time\":0")
    ∷ object (codes "\"request\":\"r\",\"machine\":\"m\",\"event\":\"e\",\"time\":0")
    ∷ object (codes "\"request\":\"r\",\"machine\":\"m\",\"task\":\"t\",\"time\":0")
    ∷ line []
    ∷ line (codes ",\"nanos\":null")
    ∷ object (codes "\"request\":5,\"machine\":\"\",\"task\":\"t\",\"time\":-1")
    ∷ []) ≡ replicate 8 (Err Missing)
unfolding serde_json_on_literals is_utf8 chars
missing = refl

wrong_kind : map said (
    line (codes ",\"time\":\"5\"")
    ∷ line (codes ",\"time\":true")
    ∷ line (codes ",\"time\":null")
    ∷ line (codes ",\"time\":18446744073709551616")
    ∷ line (codes ",\"time\":5,\"nanos\":\"5\"")
    ∷ line (codes ",\"time\":0,\"send\":5")
    ∷ line (codes ",\"time\":0,\"recv\":[]")
    ∷ object (codes "\"request\":null,\"machine\":\"m\",\"task\":\"t\",\"event\":\"e\",\"time\":0")
    ∷ object (codes "\"request\":\"r\",\"machine\":5,\"task\":\"\",\"event\":\"e\",\"time\":-1")
    ∷ []) ≡ replicate 9 (Err WrongKind)
unfolding serde_json_on_literals is_utf8 chars
wrong_kind = refl

out_of_range : map said (
    line (codes ",\"time\":-1")
    ∷ line (codes ",\"time\":4102444800000001")
    ∷ line (codes ",\"time\":18446744073709551615")
    ∷ line (codes ",\"nanos\":4102444800000000001")
    ∷ line (codes ",\"nanos\":-1,\"time\":0")
    ∷ line (codes ",\"time\":-1,\"send\":\"\"")
    ∷ []) ≡ replicate 6 (Err OutOfRange)
unfolding serde_json_on_literals is_utf8 chars
out_of_range = refl

bad_text : map said (
    task []
    ∷ task (replicate 65 120)
    ∷ task (replicate 63 120 ++ 195 ∷ 169 ∷ [])
    ∷ task (127 ∷ [])
    ∷ task (codes "\\u0000")
    ∷ task (codes "\\n")
    ∷ line (codes ",\"time\":0,\"send\":\"\"")
    ∷ line (codes ",\"time\":0,\"recv\":\"\\u001f\"")
    ∷ []) ≡ replicate 8 (Err BadText)
unfolding serde_json_on_literals is_utf8 chars
bad_text = refl

control_lines : map said (
    object (codes "\"do\":null")
    ∷ object (codes "\"do\":5,\"day\":-1")
    ∷ object (codes "\"do\":\"Add\"")
    ∷ object (codes "\"do\":\"drop\",\"days\":1")
    ∷ object (codes "\"do\":\"keep\",\"days\":null")
    ∷ object (codes "\"do\":\"watch\",\"every\":-1")
    ∷ object (codes "\"do\":\"grace\",\"micros\":1000001")
    ∷ []) ≡ Err WrongKind ∷ Err WrongKind ∷ Err UnknownCommand ∷ Err Missing ∷ Err WrongKind ∷ Err OutOfRange ∷ Err OutOfRange ∷ []
unfolding serde_json_on_literals is_utf8 chars
control_lines = refl

commands : map said (
    object (codes "\"do\":\"add\"")
    ∷ object (codes "\"do\":\"drop\",\"day\":7")
    ∷ object (codes "\"do\":\"keep\",\"days\":0")
    ∷ object (codes "\"do\":\"watch\",\"every\":1000000")
    ∷ object (codes "\"micros\":1000000,\"do\":\"grace\"")
    ∷ object (codes "\"do\":\"model\",\"request\":5")
    ∷ object (codes "\"do\":\"paths\"")
    ∷ object (codes "\"do\":\"slack\"")
    ∷ object (codes "\"do\":\"report\"")
    ∷ object (codes "\"do\":\"graph\"")
    ∷ object (codes "\"do\":\"summarize\"")
    ∷ []) ≡ Ok (Control 1 Add) ∷ Ok (Control 1 (Drop 7)) ∷ Ok (Control 1 (Keep 0)) ∷ Ok (Control 1 (Watch 1000000))
    ∷ Ok (Control 1 (Grace 1000000)) ∷ Ok (Control 1 Model) ∷ Ok (Control 1 Paths) ∷ Ok (Control 1 Slack) ∷ Ok (Control 1 Report) ∷ Ok (Control 1 Graph) ∷ Ok (Control 1 Summarize) ∷ []
unfolding serde_json_on_literals is_utf8 chars
commands = refl

-- an event may have an @ in its name
elements : line_result 3 (object (codes "\"request\":\"r\",\"machine\":\"m\",\"task\":\"t\",\"event\":\"e@x\",\"time\":0"))
    ≡ Ok (Event (record { line = 3; request = codes "r"; machine = codes "m"; task = codes "t"; event = codes "e@x"; time = 0; send = None; recv = None }))
unfolding serde_json_on_literals is_utf8 chars
elements = refl

-- the time of a good line
abbrev at_time : ℕ → Result Line Why
at_time t = Ok (Event (record { line = 1; request = codes "r"; machine = codes "m"; task = codes "t"; event = codes "e"; time = t; send = None; recv = None }))

good : map said (
    line (codes ",\"time\":0")
    ∷ line (codes ",\"time\":4102444800000000,\"nanos\":null")
    ∷ line (codes ",\"nanos\":4102444800000000000,\"time\":\"x\"")
    ∷ line (codes ",\"nanos\":1500")
    ∷ line (codes ",\"time\":5,\"send\":null,\"other\":[{}]")
    ∷ [])
    ≡ at_time 0 ∷ at_time 4102444800000000000 ∷ at_time 4102444800000000000 ∷ at_time 1500 ∷ at_time 5000 ∷ []
unfolding serde_json_on_literals is_utf8 chars
good = refl

messages : line_result 7 (line (codes ",\"time\":1,\"send\":\"x\",\"recv\":\"y\""))
    ≡ Ok (Event (record { line = 7; request = codes "r"; machine = codes "m"; task = codes "t"; event = codes "e"; time = 1000; send = Some (codes "x"); recv = Some (codes "y") }))
unfolding serde_json_on_literals is_utf8 chars
messages = refl

longest : said (task (replicate 62 120 ++ 195 ∷ 169 ∷ []))
    ≡ Ok (Event (record { line = 1; request = codes "r"; machine = codes "m"; task = replicate 62 120 ++ 195 ∷ 169 ∷ []; event = codes "e"; time = 0; send = None; recv = None }))
unfolding serde_json_on_literals is_utf8 chars
longest = refl

-- blank lines are counted, and the first bad line is told
first_bad_line : lines_said (10 ∷ 32 ∷ 13 ∷ 10 ∷ line (codes ",\"time\":0") ++ 10 ∷ codes "[]" ++ 10 ∷ codes "{}") ≡ Err (record { line = 4; why = NotJson })
unfolding serde_json_on_literals is_utf8 chars
first_bad_line = refl

no_line : lines_said (10 ∷ 10 ∷ []) ≡ Ok []
no_line = refl
