-- The text of a good line is read as that line.
use Rattle.std.proofs.Common.{◌≡◌, ℕ, ◌*◌, ◌≤◌, ◌<◌, ◌^◌, List, [], ◌∷◌, ◌++◌, Bool, true, false, Option, Some, None, Ok, Err, codes, decimal, refl, sym, ap, ◌∙◌, arith, append_assoc, append-nil, lit≤}
use Rattle.std.specs.Prelude.{cond, if◌then◌else◌, option_and_then}
use Rattle.std.specs.Option.{option_map_or}
use Rattle.std.proofs.lemmas.Bool.{le-ltb}
use Rattle.std.proofs.lemmas.Str.{is_utf8-from_IsUtf8}
use Rattle.json.specs.Token.{Token}
use Rattle.json.specs.Lex.{tokens}
use Rattle.json.specs.Print.{escape, escape_byte, print, print_from}
use Rattle.json.specs.Tree as tree
use Rattle.json.specs.Json as json
use Rattle.json.proofs.Printed.Decimals.{IsNumber-decimal}
use Rattle.json.proofs.Printed.Tokens.{tokens-print}
use Rattle.json.proofs.Printed.Trees.{ArePrintable-json_tokens, value-json_tokens}
use Rattle.json.proofs.Printed.Utf8.{IsUtf8-are_ascii}
use Rattle.serde_json.specs.Data.{Data}
use Rattle.serde_json.specs.Read.{of_json, read}
use Rattle.serde_json.proofs.Numbers.{number_of-decimal}
use Rattle.event_lines.specs.GoodLines.{number_of_command}
use Rattle.event_lines.specs.LineResults.{line_result, value_result}
use Rattle.event_lines.specs.declared.command.Command.{Command}
use Rattle.event_lines.specs.declared.command.Command.TheVariants.{Add, Drop, Keep, Watch, Grace, Model, Paths, Slack, Report, Graph, Summarize}
use Rattle.event_lines.specs.declared.line.Line.TheVariants.{Control, Event}
use Rattle.event_lines.specs.declared.why.Why.TheVariants.{NotJson}
use Rattle.event_text.specs.LineTexts.{command_text, event_text, message_member, name_text, place_text, quoted, rest_text}
use Rattle.trace_types.specs.declared.event.Event as events
use Rattle.reading_laws.specs.Readings.{IsGoodEvent, IsGoodMessage, IsGoodText}
use Rattle.reading_laws.proofs.TextLemmas.{IsPart, both_parts, clean_of, decimal_part, escape_same, message_part, quoted_part}

-- ---- a text that is printed JSON

-- what is read of a text whose first value this is
abbrev whole_read : Option (json.Json × List Token) → Option Data
whole_read o = option_and_then of_json (option_and_then (λ p. json.if_last p.0 p.1) o)

read_is : (j : json.Json) (text : List ℕ) → text ≡ print (tree.json_tokens j) → tree.HasNumbers j → tree.depth j ≤ 127 → read text ≡ of_json j
read_is j text is numbers shallow =
    let same : tokens text ≡ tree.json_tokens j ++ [] = ap tokens is ∙ tokens-print (tree.json_tokens j) (ArePrintable-json_tokens j numbers) ∙ sym (append-nil (tree.json_tokens j)) in
    ap whole_read (ap (json.value 127) same ∙ value-json_tokens j 127 [] shallow)

said_is : (n : ℕ) (j : json.Json) (text : List ℕ) → IsPart text → text ≡ print (tree.json_tokens j) → tree.HasNumbers j → tree.depth j ≤ 127 → line_result n text ≡ option_map_or (value_result n) (of_json j) (Err NotJson)
said_is n j text part is numbers shallow =
    ap (λ o. option_map_or (value_result n) o (Err NotJson))
    (ap (λ b. if b then read text else None) (is_utf8-from_IsUtf8 text part.utf8) ∙ read_is j text is numbers shallow)

-- ---- printed members

abbrev members_text : json.Members → List ℕ
members_text ms = print_from true (tree.members_tokens ms)

string_joined : (k s y : List ℕ) → ((k ++ 34 ∷ []) ++ 58 ∷ []) ++ 34 ∷ ((s ++ 34 ∷ []) ++ y) ≡ k ++ 34 ∷ 58 ∷ 34 ∷ (s ++ 34 ∷ y)
string_joined k s y = simp append_assoc

key_joined : (k y : List ℕ) → ((k ++ 34 ∷ []) ++ 58 ∷ []) ++ y ≡ k ++ 34 ∷ 58 ∷ y
key_joined k y = simp append_assoc

string_printed : (k s : List ℕ) (ms : json.Members) (b : Bool) → escape k ≡ k → print_from b (tree.members_tokens (json.member k (json.string s) ms)) ≡ cond b (44 ∷ []) [] ++ 34 ∷ (k ++ 34 ∷ 58 ∷ 34 ∷ (escape s ++ 34 ∷ members_text ms))
unfolding print_from
string_printed k s ms true p = rw p (ap (λ x. 44 ∷ 34 ∷ x) (string_joined k (escape s) (members_text ms)))
string_printed k s ms false p = rw p (ap (λ x. 34 ∷ x) (string_joined k (escape s) (members_text ms)))

number_printed : (k s : List ℕ) (ms : json.Members) → escape k ≡ k → members_text (json.member k (json.number s) ms) ≡ 44 ∷ 34 ∷ (k ++ 34 ∷ 58 ∷ (s ++ members_text ms))
unfolding print_from
number_printed k s ms p = rw p (ap (λ x. 44 ∷ 34 ∷ x) (key_joined k (s ++ members_text ms)))

-- a message's member before others, if there is a message
abbrev message_before : List ℕ → Option (List ℕ) → json.Members → json.Members
message_before name None ms = ms
message_before name (Some message) ms = json.member name (json.string message) ms

member_joined : (a b s z y : List ℕ) → ((a ++ b) ++ 34 ∷ (s ++ z)) ++ y ≡ a ++ (b ++ (34 ∷ (s ++ (z ++ y))))
member_joined a b s z y = simp append_assoc

message_printed : (name : List ℕ) (message : Option (List ℕ)) (ms : json.Members) → escape name ≡ name → IsGoodMessage message → members_text (message_before name message ms) ≡ message_member name message ++ members_text ms
unfolding quoted
message_printed name None ms p good = refl
message_printed name (Some message) ms p good =
    string_printed name message ms true p ∙ sym (member_joined (44 ∷ 34 ∷ name) (34 ∷ 58 ∷ []) (escape message) (34 ∷ []) (members_text ms))
    ∙ ap (λ t. (((44 ∷ 34 ∷ name) ++ 34 ∷ 58 ∷ []) ++ 34 ∷ (t ++ 34 ∷ [])) ++ members_text ms) (sym (escape_same message (clean_of message good)))

-- ---- an event

abbrev messages_of : events.Event → json.Members
messages_of e = message_before (codes "send") e.send (message_before (codes "recv") e.recv json.no_members)

abbrev json_of : events.Event → json.Json
json_of e =
    json.object (json.member (codes "request") (json.string e.request) (json.member (codes "machine") (json.string e.machine) (json.member (codes "task") (json.string e.task)
    (json.member (codes "event") (json.string e.event) (json.member (codes "nanos") (json.number (decimal e.time)) (messages_of e))))))

-- its bytes without the line feed
abbrev rest_body : ℕ → (send recv : Option (List ℕ)) → List ℕ
rest_body time send recv = codes ",\"nanos\":" ++ decimal time ++ message_member (codes "send") send ++ message_member (codes "recv") recv ++ codes "}"

abbrev pub event_body : events.Event → List ℕ
event_body e = place_text e.request e.machine ++ name_text e.task e.event ++ rest_body e.time e.send e.recv

feed_moved : (p q a z f : List ℕ) → (p ++ q) ++ (a ++ (z ++ f)) ≡ ((p ++ q) ++ (a ++ z)) ++ f
feed_moved p q a z f = simp append_assoc

pub event_is : (e : events.Event) → event_text e ≡ event_body e ++ 10 ∷ []
unfolding rest_text
event_is e = feed_moved (place_text e.request e.machine) (name_text e.task e.event) (codes ",\"nanos\":" ++ decimal e.time ++ message_member (codes "send") e.send ++ message_member (codes "recv") e.recv) (codes "}") (10 ∷ [])

shape : (a r b m c t d e n x s v z : List ℕ)
    → (a ++ 34 ∷ (r ++ 34 ∷ []) ++ b ++ 34 ∷ (m ++ 34 ∷ [])) ++ (c ++ 34 ∷ (t ++ 34 ∷ []) ++ d ++ 34 ∷ (e ++ 34 ∷ [])) ++ (n ++ x ++ s ++ v ++ z)
    ≡ a ++ (34 ∷ (r ++ (34 ∷ (b ++ (34 ∷ (m ++ (34 ∷ (c ++ (34 ∷ (t ++ (34 ∷ (d ++ (34 ∷ (e ++ (34 ∷ (n ++ (x ++ (s ++ (v ++ z)))))))))))))))))))
shape a r b m c t d e n x s v z = simp append_assoc

module _ (e : events.Event) (h : IsGoodEvent e) where
  messages_printed : members_text (messages_of e) ≡ message_member (codes "send") e.send ++ (message_member (codes "recv") e.recv ++ codes "}")
  unfolding print_from escape_byte
  messages_printed =
      message_printed (codes "send") e.send (message_before (codes "recv") e.recv json.no_members) refl h.send
      ∙ ap (λ t. message_member (codes "send") e.send ++ t) (message_printed (codes "recv") e.recv json.no_members refl h.recv)

  abbrev tail : List ℕ
  tail = message_member (codes "send") e.send ++ (message_member (codes "recv") e.recv ++ codes "}")

  printed : print (tree.json_tokens (json_of e))
      ≡ codes "{\"request\":" ++ (34 ∷ (escape e.request ++ (34 ∷ (codes ",\"machine\":" ++ (34 ∷ (escape e.machine ++ (34 ∷ (codes ",\"task\":" ++ (34 ∷ (escape e.task ++ (34 ∷ (codes ",\"event\":" ++ (34 ∷ (escape e.event ++ (34 ∷ (codes ",\"nanos\":" ++ (decimal e.time ++ tail)))))))))))))))))
  unfolding print_from escape_byte
  printed =
      let after_time : json.Members = messages_of e in
      let after_event : json.Members = json.member (codes "nanos") (json.number (decimal e.time)) after_time in
      let after_task : json.Members = json.member (codes "event") (json.string e.event) after_event in
      let after_machine : json.Members = json.member (codes "task") (json.string e.task) after_task in
      let after_request : json.Members = json.member (codes "machine") (json.string e.machine) after_machine in
      let at_time = number_printed (codes "nanos") (decimal e.time) after_time refl ∙ ap (λ x. codes ",\"nanos\":" ++ (decimal e.time ++ x)) messages_printed in
      let at_event = string_printed (codes "event") e.event after_event true refl ∙ ap (λ x. codes ",\"event\":\"" ++ (escape e.event ++ 34 ∷ x)) at_time in
      let at_task = string_printed (codes "task") e.task after_task true refl ∙ ap (λ x. codes ",\"task\":\"" ++ (escape e.task ++ 34 ∷ x)) at_event in
      let at_machine = string_printed (codes "machine") e.machine after_machine true refl ∙ ap (λ x. codes ",\"machine\":\"" ++ (escape e.machine ++ 34 ∷ x)) at_task in
      ap (λ x. 123 ∷ x) (string_printed (codes "request") e.request after_request false refl) ∙ ap (λ x. codes "{\"request\":\"" ++ (escape e.request ++ 34 ∷ x)) at_machine

  event_printed : event_body e ≡ print (tree.json_tokens (json_of e))
  unfolding quoted place_text name_text
  event_printed =
      let r = escape_same e.request (clean_of e.request h.request) in
      let m = escape_same e.machine (clean_of e.machine h.machine) in
      let t = escape_same e.task (clean_of e.task h.task) in
      let n = escape_same e.event (clean_of e.event h.event) in
      let send = message_member (codes "send") e.send in
      let recv = message_member (codes "recv") e.recv in
      (λ i. (codes "{\"request\":" ++ 34 ∷ (r i ++ 34 ∷ []) ++ codes ",\"machine\":" ++ 34 ∷ (m i ++ 34 ∷ [])) ++ (codes ",\"task\":" ++ 34 ∷ (t i ++ 34 ∷ []) ++ codes ",\"event\":" ++ 34 ∷ (n i ++ 34 ∷ []))
      ++ (codes ",\"nanos\":" ++ decimal e.time ++ send ++ recv ++ codes "}"))
      ∙ shape (codes "{\"request\":") (escape e.request) (codes ",\"machine\":") (escape e.machine) (codes ",\"task\":") (escape e.task) (codes ",\"event\":") (escape e.event) (codes ",\"nanos\":") (decimal e.time) send recv (codes "}")
      ∙ sym printed

  fits : e.time < 2 ^ 64
  fits = omega (arith, h.timely)

  message_numbers : (name : List ℕ) (message : Option (List ℕ)) (ms : json.Members) → tree.MembersHaveNumbers ms → tree.MembersHaveNumbers (message_before name message ms)
  message_numbers name None ms numbers = numbers
  message_numbers name (Some message) ms numbers = (tt, numbers)

  has_numbers : tree.HasNumbers (json_of e)
  has_numbers = (tt, (tt, (tt, (tt, (IsNumber-decimal e.time fits, message_numbers (codes "send") e.send (message_before (codes "recv") e.recv json.no_members) (message_numbers (codes "recv") e.recv json.no_members tt))))))

  literal : (text : List ℕ) → IsPart text → IsPart text
  literal text h = h

  pub event_part : IsPart (event_body e)
  unfolding place_text name_text
  event_part =
      both_parts (place_text e.request e.machine ++ name_text e.task e.event) (rest_body e.time e.send e.recv)
      (both_parts (place_text e.request e.machine) (name_text e.task e.event)
      (both_parts (codes "{\"request\":" ++ quoted e.request ++ codes ",\"machine\":") (quoted e.machine)
      (both_parts (codes "{\"request\":" ++ quoted e.request) (codes ",\"machine\":") (both_parts (codes "{\"request\":") (quoted e.request) (record { utf8 = IsUtf8-are_ascii (codes "{\"request\":") refl; one = refl }) (quoted_part e.request h.request))
      (record { utf8 = IsUtf8-are_ascii (codes ",\"machine\":") refl; one = refl })) (quoted_part e.machine h.machine))
      (both_parts (codes ",\"task\":" ++ quoted e.task ++ codes ",\"event\":") (quoted e.event)
      (both_parts (codes ",\"task\":" ++ quoted e.task) (codes ",\"event\":") (both_parts (codes ",\"task\":") (quoted e.task) (record { utf8 = IsUtf8-are_ascii (codes ",\"task\":") refl; one = refl }) (quoted_part e.task h.task))
      (record { utf8 = IsUtf8-are_ascii (codes ",\"event\":") refl; one = refl })) (quoted_part e.event h.event)))
      (both_parts (codes ",\"nanos\":" ++ decimal e.time ++ message_member (codes "send") e.send ++ message_member (codes "recv") e.recv) (codes "}")
      (both_parts (codes ",\"nanos\":" ++ decimal e.time ++ message_member (codes "send") e.send) (message_member (codes "recv") e.recv)
      (both_parts (codes ",\"nanos\":" ++ decimal e.time) (message_member (codes "send") e.send)
      (both_parts (codes ",\"nanos\":") (decimal e.time) (record { utf8 = IsUtf8-are_ascii (codes ",\"nanos\":") refl; one = refl }) (decimal_part e.time fits))
      (message_part (codes "send") e.send (record { utf8 = IsUtf8-are_ascii (codes ",\"send\":") refl; one = refl }) h.send))
      (message_part (codes "recv") e.recv (record { utf8 = IsUtf8-are_ascii (codes ",\"recv\":") refl; one = refl }) h.recv))
      (record { utf8 = IsUtf8-are_ascii (codes "}") refl; one = refl }))

once : (n : ℕ) → 1 * n ≡ n
once n = omega arith

-- what is read is the event
data_said : (n : ℕ) (r m t v : List ℕ) (time : ℕ) (send recv : Option (List ℕ)) → IsGoodText r → IsGoodText m → IsGoodText t → IsGoodText v → IsGoodMessage send → IsGoodMessage recv → time ≤ 4102444800000000000
    → option_map_or (value_result n) (of_json (json_of (record { line = n; request = r; machine = m; task = t; event = v; time = time; send = send; recv = recv }))) (Err NotJson)
    ≡ Ok (Event (record { line = n; request = r; machine = m; task = t; event = v; time = 1 * time; send = send; recv = recv }))
data_said n r m t v time None None hr hm ht hv hs hc early = rw (number_of-decimal time (omega (arith, early)), le-ltb 4102444800000000000 time early, hr.good, hm.good, ht.good, hv.good) refl
data_said n r m t v time (Some s) None hr hm ht hv hs hc early = rw (number_of-decimal time (omega (arith, early)), le-ltb 4102444800000000000 time early, hr.good, hm.good, ht.good, hv.good, hs.good) refl
data_said n r m t v time None (Some c) hr hm ht hv hs hc early = rw (number_of-decimal time (omega (arith, early)), le-ltb 4102444800000000000 time early, hr.good, hm.good, ht.good, hv.good, hc.good) refl
data_said n r m t v time (Some s) (Some c) hr hm ht hv hs hc early = rw (number_of-decimal time (omega (arith, early)), le-ltb 4102444800000000000 time early, hr.good, hm.good, ht.good, hv.good, hs.good, hc.good) refl

shallow : (n : ℕ) (r m t v : List ℕ) (time : ℕ) (send recv : Option (List ℕ)) → tree.depth (json_of (record { line = n; request = r; machine = m; task = t; event = v; time = time; send = send; recv = recv })) ≤ 127
shallow n r m t v time None None = lit≤ tt
shallow n r m t v time (Some s) None = lit≤ tt
shallow n r m t v time None (Some c) = lit≤ tt
shallow n r m t v time (Some s) (Some c) = lit≤ tt

pub event_said : (n : ℕ) (e : events.Event) → IsGoodEvent e → line_result n (event_body e) ≡ Ok (Event (record e { line = n }))
event_said n e h =
    said_is n (json_of e) (event_body e) (event_part e h) (event_printed e h) (has_numbers e h) (shallow n e.request e.machine e.task e.event e.time e.send e.recv)
    ∙ data_said n e.request e.machine e.task e.event e.time e.send e.recv h.request h.machine h.task h.event h.send h.recv h.timely
    ∙ ap (λ time. Ok (Event (record e { line = n; time = time }))) (once e.time)

-- ---- a command

abbrev json_of_command : Command → json.Json
json_of_command Add = json.object (json.member (codes "do") (json.string (codes "add")) json.no_members)
json_of_command (Drop day) = json.object (json.member (codes "do") (json.string (codes "drop")) (json.member (codes "day") (json.number (decimal day)) json.no_members))
json_of_command (Keep days) = json.object (json.member (codes "do") (json.string (codes "keep")) (json.member (codes "days") (json.number (decimal days)) json.no_members))
json_of_command (Watch every) = json.object (json.member (codes "do") (json.string (codes "watch")) (json.member (codes "every") (json.number (decimal every)) json.no_members))
json_of_command (Grace micros) = json.object (json.member (codes "do") (json.string (codes "grace")) (json.member (codes "micros") (json.number (decimal micros)) json.no_members))
json_of_command Model = json.object (json.member (codes "do") (json.string (codes "model")) json.no_members)
json_of_command Paths = json.object (json.member (codes "do") (json.string (codes "paths")) json.no_members)
json_of_command Slack = json.object (json.member (codes "do") (json.string (codes "slack")) json.no_members)
json_of_command Report = json.object (json.member (codes "do") (json.string (codes "report")) json.no_members)
json_of_command Graph = json.object (json.member (codes "do") (json.string (codes "graph")) json.no_members)
json_of_command Summarize = json.object (json.member (codes "do") (json.string (codes "summarize")) json.no_members)

-- its bytes without the line feed
abbrev pub command_body : Command → List ℕ
command_body Add = codes "{\"do\":\"add\"}"
command_body (Drop day) = codes "{\"do\":\"drop\",\"day\":" ++ (decimal day ++ codes "}")
command_body (Keep days) = codes "{\"do\":\"keep\",\"days\":" ++ (decimal days ++ codes "}")
command_body (Watch every) = codes "{\"do\":\"watch\",\"every\":" ++ (decimal every ++ codes "}")
command_body (Grace micros) = codes "{\"do\":\"grace\",\"micros\":" ++ (decimal micros ++ codes "}")
command_body Model = codes "{\"do\":\"model\"}"
command_body Paths = codes "{\"do\":\"paths\"}"
command_body Slack = codes "{\"do\":\"slack\"}"
command_body Report = codes "{\"do\":\"report\"}"
command_body Graph = codes "{\"do\":\"graph\"}"
command_body Summarize = codes "{\"do\":\"summarize\"}"

number_moved : (a n z f : List ℕ) → (a ++ n) ++ (z ++ f) ≡ (a ++ (n ++ z)) ++ f
number_moved a n z f = simp append_assoc

pub command_is : (command : Command) → command_text command ≡ command_body command ++ 10 ∷ []
command_is Add = refl
command_is (Drop day) = number_moved (codes "{\"do\":\"drop\",\"day\":") (decimal day) (codes "}") (10 ∷ [])
command_is (Keep days) = number_moved (codes "{\"do\":\"keep\",\"days\":") (decimal days) (codes "}") (10 ∷ [])
command_is (Watch every) = number_moved (codes "{\"do\":\"watch\",\"every\":") (decimal every) (codes "}") (10 ∷ [])
command_is (Grace micros) = number_moved (codes "{\"do\":\"grace\",\"micros\":") (decimal micros) (codes "}") (10 ∷ [])
command_is Model = refl
command_is Paths = refl
command_is Slack = refl
command_is Report = refl
command_is Graph = refl
command_is Summarize = refl

command_printed : (command : Command) → command_body command ≡ print (tree.json_tokens (json_of_command command))
unfolding print_from escape_byte
command_printed Add = refl
command_printed (Drop day) = ap (λ x. codes "{\"do\":\"drop\"" ++ x) (sym (number_printed (codes "day") (decimal day) json.no_members refl))
command_printed (Keep days) = ap (λ x. codes "{\"do\":\"keep\"" ++ x) (sym (number_printed (codes "days") (decimal days) json.no_members refl))
command_printed (Watch every) = ap (λ x. codes "{\"do\":\"watch\"" ++ x) (sym (number_printed (codes "every") (decimal every) json.no_members refl))
command_printed (Grace micros) = ap (λ x. codes "{\"do\":\"grace\"" ++ x) (sym (number_printed (codes "micros") (decimal micros) json.no_members refl))
command_printed Model = refl
command_printed Paths = refl
command_printed Slack = refl
command_printed Report = refl
command_printed Graph = refl
command_printed Summarize = refl

number_part : (a : List ℕ) (n : ℕ) → IsPart a → n < 2 ^ 64 → IsPart (a ++ (decimal n ++ codes "}"))
number_part a n h few = both_parts a (decimal n ++ codes "}") h (both_parts (decimal n) (codes "}") (decimal_part n few) (record { utf8 = IsUtf8-are_ascii (codes "}") refl; one = refl }))

pub command_part : (command : Command) → number_of_command command ≤ 1000000 → IsPart (command_body command)
command_part Add h = record { utf8 = IsUtf8-are_ascii _ refl; one = refl }
command_part (Drop day) h = number_part (codes "{\"do\":\"drop\",\"day\":") day (record { utf8 = IsUtf8-are_ascii _ refl; one = refl }) (omega (arith, h))
command_part (Keep days) h = number_part (codes "{\"do\":\"keep\",\"days\":") days (record { utf8 = IsUtf8-are_ascii _ refl; one = refl }) (omega (arith, h))
command_part (Watch every) h = number_part (codes "{\"do\":\"watch\",\"every\":") every (record { utf8 = IsUtf8-are_ascii _ refl; one = refl }) (omega (arith, h))
command_part (Grace micros) h = number_part (codes "{\"do\":\"grace\",\"micros\":") micros (record { utf8 = IsUtf8-are_ascii _ refl; one = refl }) (omega (arith, h))
command_part Model h = record { utf8 = IsUtf8-are_ascii _ refl; one = refl }
command_part Paths h = record { utf8 = IsUtf8-are_ascii _ refl; one = refl }
command_part Slack h = record { utf8 = IsUtf8-are_ascii _ refl; one = refl }
command_part Report h = record { utf8 = IsUtf8-are_ascii _ refl; one = refl }
command_part Graph h = record { utf8 = IsUtf8-are_ascii _ refl; one = refl }
command_part Summarize h = record { utf8 = IsUtf8-are_ascii _ refl; one = refl }

command_numbers : (command : Command) → number_of_command command ≤ 1000000 → tree.HasNumbers (json_of_command command)
command_numbers Add h = (tt, tt)
command_numbers (Drop day) h = (tt, (IsNumber-decimal day (omega (arith, h)), tt))
command_numbers (Keep days) h = (tt, (IsNumber-decimal days (omega (arith, h)), tt))
command_numbers (Watch every) h = (tt, (IsNumber-decimal every (omega (arith, h)), tt))
command_numbers (Grace micros) h = (tt, (IsNumber-decimal micros (omega (arith, h)), tt))
command_numbers Model h = (tt, tt)
command_numbers Paths h = (tt, tt)
command_numbers Slack h = (tt, tt)
command_numbers Report h = (tt, tt)
command_numbers Graph h = (tt, tt)
command_numbers Summarize h = (tt, tt)

command_shallow : (command : Command) → tree.depth (json_of_command command) ≤ 127
command_shallow Add = lit≤ tt
command_shallow (Drop day) = lit≤ tt
command_shallow (Keep days) = lit≤ tt
command_shallow (Watch every) = lit≤ tt
command_shallow (Grace micros) = lit≤ tt
command_shallow Model = lit≤ tt
command_shallow Paths = lit≤ tt
command_shallow Slack = lit≤ tt
command_shallow Report = lit≤ tt
command_shallow Graph = lit≤ tt
command_shallow Summarize = lit≤ tt

command_data : (n : ℕ) (command : Command) → number_of_command command ≤ 1000000 → option_map_or (value_result n) (of_json (json_of_command command)) (Err NotJson) ≡ Ok (Control n command)
command_data n Add h = refl
command_data n (Drop day) h = rw (number_of-decimal day (omega (arith, h)), le-ltb 1000000 day h) refl
command_data n (Keep days) h = rw (number_of-decimal days (omega (arith, h)), le-ltb 1000000 days h) refl
command_data n (Watch every) h = rw (number_of-decimal every (omega (arith, h)), le-ltb 1000000 every h) refl
command_data n (Grace micros) h = rw (number_of-decimal micros (omega (arith, h)), le-ltb 1000000 micros h) refl
command_data n Model h = refl
command_data n Paths h = refl
command_data n Slack h = refl
command_data n Report h = refl
command_data n Graph h = refl
command_data n Summarize h = refl

pub command_said : (n : ℕ) (command : Command) → number_of_command command ≤ 1000000 → line_result n (command_body command) ≡ Ok (Control n command)
command_said n command h =
    said_is n (json_of_command command) (command_body command) (command_part command h) (command_printed command) (command_numbers command h) (command_shallow command) ∙ command_data n command h
