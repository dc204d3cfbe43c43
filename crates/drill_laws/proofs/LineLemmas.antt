-- A line of a drill is read as its event.
use Rattle.std.proofs.Common.{◌≡◌, ℕ, ◌*◌, ◌≤◌, List, [], ◌∷◌, ◌++◌, Bool, true, false, Option, Some, None, Ok, Err, codes, decimal, refl, sym, ap, ◌∙◌, arith, append_assoc, append-nil, lit≤}
use Rattle.std.specs.Prelude.{cond, nat_lt, if◌then◌else◌, option_and_then}
use Rattle.std.specs.Option.{option_map_or}
use Rattle.std.specs.List.{list_all}
use Rattle.std.proofs.lemmas.Bool.{le-ltb}
use Rattle.json.specs.Token.{Token}
use Rattle.json.specs.Lex.{tokens}
use Rattle.json.specs.Print.{escape, print, print_from}
use Rattle.json.specs.Tree as tree
use Rattle.json.specs.Json as json
use Rattle.json.proofs.Printed.Decimals.{IsNumber-decimal}
use Rattle.json.proofs.Printed.Tokens.{tokens-print}
use Rattle.json.proofs.Printed.Trees.{ArePrintable-json_tokens, value-json_tokens}
use Rattle.serde_json.specs.Data.{Data}
use Rattle.serde_json.specs.Read.{of_json, read}
use Rattle.serde_json.proofs.Numbers.{number_of-decimal}
use Rattle.drill_input.specs.DrillInput.{line_of, text_member}
use Rattle.event_lines.specs.LineResults.{json_value, line_result, value_result}
use Rattle.event_lines.specs.declared.line.Line.TheVariants.{Event}
use Rattle.event_lines.specs.declared.why.Why.TheVariants.{NotJson}
use Rattle.trace_types.specs.declared.event.Event as events
use Rattle.drill_laws.proofs.TextLemmas.{IsPlain, all_both, decimal_printable, escape_plain, is_printable, printable_plain, printable_utf8}

-- what is read of a text whose first value this is
abbrev whole_read : Option (json.Json × List Token) → Option Data
whole_read o = option_and_then of_json (option_and_then (λ p. json.if_last p.0 p.1) o)

-- what an event does with a message
pub data Kind : Type 0 where
  none : Kind
  send : List ℕ → Kind
  recv : List ℕ → Kind

-- the member of a line
abbrev pub message_of : Kind → List (List ℕ)
message_of none = []
message_of (send x) = text_member (codes "send") x ∷ []
message_of (recv x) = text_member (codes "recv") x ∷ []

-- the bytes after the time
abbrev pub tail_of : Kind → List ℕ
tail_of none = []
tail_of (send x) = codes ",\"send\":\"" ++ (x ++ codes "\"")
tail_of (recv x) = codes ",\"recv\":\"" ++ (x ++ codes "\"")

-- the members after the time
abbrev members_of : Kind → json.Members
members_of none = json.no_members
members_of (send x) = json.member (codes "send") (json.string x) json.no_members
members_of (recv x) = json.member (codes "recv") (json.string x) json.no_members

abbrev sent_by : Kind → Option (List ℕ)
sent_by none = None
sent_by (send x) = Some x
sent_by (recv x) = None

abbrev received_by : Kind → Option (List ℕ)
received_by none = None
received_by (send x) = None
received_by (recv x) = Some x

-- a message's name is plain
abbrev pub IsPlainKind : Kind → Type 0
IsPlainKind none = Unit {0}
IsPlainKind (send x) = IsPlain x
IsPlainKind (recv x) = IsPlain x

-- the bytes of a line from the value of each of its members on, without its line feed
abbrev from_time : ℕ → Kind → List ℕ
from_time time kind = decimal time ++ (tail_of kind ++ codes "}")

abbrev from_event : List ℕ → ℕ → Kind → List ℕ
from_event e time kind = e ++ (codes "\",\"time\":" ++ from_time time kind)

abbrev from_task : (t e : List ℕ) → ℕ → Kind → List ℕ
from_task t e time kind = t ++ (codes "\",\"event\":\"" ++ from_event e time kind)

abbrev from_machine : (m t e : List ℕ) → ℕ → Kind → List ℕ
from_machine m t e time kind = m ++ (codes "\",\"task\":\"" ++ from_task t e time kind)

-- the bytes of a line without its line feed
abbrev pub body_of : (r m t e : List ℕ) → ℕ → Kind → List ℕ
body_of r m t e time kind = codes "{\"request\":\"" ++ (r ++ (codes "\",\"machine\":\"" ++ from_machine m t e time kind))

-- the same as JSON
abbrev json_of : (r m t e : List ℕ) → ℕ → Kind → json.Json
json_of r m t e time kind =
    json.object (json.member (codes "request") (json.string r) (json.member (codes "machine") (json.string m) (json.member (codes "task") (json.string t)
    (json.member (codes "event") (json.string e) (json.member (codes "time") (json.number (decimal time)) (members_of kind))))))

-- the event
abbrev pub event_at : ℕ → (r m t e : List ℕ) → ℕ → Kind → events.Event
event_at n r m t e time kind =
    record { line = n; request = r; machine = m; task = t; event = e; time = 1000 * time; send = sent_by kind; recv = received_by kind }

-- ---- the text of each member

abbrev members_text : json.Members → List ℕ
members_text ms = print_from true (tree.members_tokens ms)

key_joined : (k y : List ℕ) → ((k ++ 34 ∷ []) ++ 58 ∷ []) ++ y ≡ k ++ 34 ∷ 58 ∷ y
key_joined k y = simp append_assoc

string_joined : (k s y : List ℕ) → ((k ++ 34 ∷ []) ++ 58 ∷ []) ++ 34 ∷ ((s ++ 34 ∷ []) ++ y) ≡ k ++ 34 ∷ 58 ∷ 34 ∷ (s ++ 34 ∷ y)
string_joined k s y = simp append_assoc

string_printed : (k s : List ℕ) (ms : json.Members) (b : Bool) → escape k ≡ k → escape s ≡ s
    → print_from b (tree.members_tokens (json.member k (json.string s) ms)) ≡ cond b (44 ∷ []) [] ++ 34 ∷ (k ++ 34 ∷ 58 ∷ 34 ∷ (s ++ 34 ∷ members_text ms))
unfolding print_from
string_printed k s ms true p q = rw (p, q) (ap (λ x. 44 ∷ 34 ∷ x) (string_joined k s (members_text ms)))
string_printed k s ms false p q = rw (p, q) (ap (λ x. 34 ∷ x) (string_joined k s (members_text ms)))

number_printed : (k s : List ℕ) (ms : json.Members) → escape k ≡ k → members_text (json.member k (json.number s) ms) ≡ 44 ∷ 34 ∷ (k ++ 34 ∷ 58 ∷ (s ++ members_text ms))
unfolding print_from
number_printed k s ms p = rw p (ap (λ x. 44 ∷ 34 ∷ x) (key_joined k (s ++ members_text ms)))

tail_printed : (kind : Kind) → IsPlainKind kind → members_text (members_of kind) ≡ tail_of kind ++ codes "}"
unfolding print_from
tail_printed none w = refl
tail_printed (send x) w =
    string_printed (codes "send") x json.no_members true (escape_plain (codes "send") refl) (escape_plain x w.plain) ∙ ap (λ y. codes ",\"send\":\"" ++ y) (sym (append_assoc x (34 ∷ []) (125 ∷ [])))
tail_printed (recv x) w =
    string_printed (codes "recv") x json.no_members true (escape_plain (codes "recv") refl) (escape_plain x w.plain) ∙ ap (λ y. codes ",\"recv\":\"" ++ y) (sym (append_assoc x (34 ∷ []) (125 ∷ [])))

module _ (r m t e : List ℕ) (time : ℕ) (p : IsPlain r) (q : IsPlain m) (s : IsPlain t) (u : IsPlain e) (early : time ≤ 4102444800000000) where
  printed : (kind : Kind) → IsPlainKind kind → print (tree.json_tokens (json_of r m t e time kind)) ≡ body_of r m t e time kind
  unfolding print_from
  printed kind w =
      let after_time : json.Members = members_of kind in
      let after_event : json.Members = json.member (codes "time") (json.number (decimal time)) after_time in
      let after_task : json.Members = json.member (codes "event") (json.string e) after_event in
      let after_machine : json.Members = json.member (codes "task") (json.string t) after_task in
      let after_request : json.Members = json.member (codes "machine") (json.string m) after_machine in
      let at_time = number_printed (codes "time") (decimal time) after_time (escape_plain (codes "time") refl) ∙ ap (λ x. codes ",\"time\":" ++ (decimal time ++ x)) (tail_printed kind w) in
      let at_event = string_printed (codes "event") e after_event true (escape_plain (codes "event") refl) (escape_plain e u.plain) ∙ ap (λ x. codes ",\"event\":\"" ++ (e ++ 34 ∷ x)) at_time in
      let at_task = string_printed (codes "task") t after_task true (escape_plain (codes "task") refl) (escape_plain t s.plain) ∙ ap (λ x. codes ",\"task\":\"" ++ (t ++ 34 ∷ x)) at_event in
      let at_machine = string_printed (codes "machine") m after_machine true (escape_plain (codes "machine") refl) (escape_plain m q.plain) ∙ ap (λ x. codes ",\"machine\":\"" ++ (m ++ 34 ∷ x)) at_task in
      ap (λ x. 123 ∷ x) (string_printed (codes "request") r after_request false (escape_plain (codes "request") refl) (escape_plain r p.plain))
      ∙ ap (λ x. codes "{\"request\":\"" ++ (r ++ 34 ∷ x)) at_machine

  has_numbers : (kind : Kind) → tree.HasNumbers (json_of r m t e time kind)
  has_numbers none = (tt, (tt, (tt, (tt, (IsNumber-decimal time (omega arith), tt)))))
  has_numbers (send x) = (tt, (tt, (tt, (tt, (IsNumber-decimal time (omega arith), (tt, tt))))))
  has_numbers (recv x) = (tt, (tt, (tt, (tt, (IsNumber-decimal time (omega arith), (tt, tt))))))

  shallow : (kind : Kind) → tree.depth (json_of r m t e time kind) ≤ 127
  shallow none = lit≤ tt
  shallow (send x) = lit≤ tt
  shallow (recv x) = lit≤ tt

  read_is : (kind : Kind) → IsPlainKind kind → read (body_of r m t e time kind) ≡ of_json (json_of r m t e time kind)
  read_is kind w =
      let j : json.Json = json_of r m t e time kind in
      let same : tokens (body_of r m t e time kind) ≡ tree.json_tokens j ++ [] =
      ap tokens (sym (printed kind w)) ∙ tokens-print (tree.json_tokens j) (ArePrintable-json_tokens j (has_numbers kind)) ∙ sym (append-nil (tree.json_tokens j)) in
      ap whole_read (ap (json.value 127) same ∙ value-json_tokens j 127 [] (shallow kind))

  tail_printable : (kind : Kind) → IsPlainKind kind → list_all is_printable (tail_of kind ++ codes "}") ≡ true
  tail_printable none w = refl
  tail_printable (send x) w = all_both is_printable (tail_of (send x)) (codes "}") (all_both is_printable x (codes "\"") (printable_plain x w.plain) refl) refl
  tail_printable (recv x) w = all_both is_printable (tail_of (recv x)) (codes "}") (all_both is_printable x (codes "\"") (printable_plain x w.plain) refl) refl

  time_printable : (kind : Kind) → IsPlainKind kind → list_all is_printable (from_time time kind) ≡ true
  time_printable kind w = all_both is_printable (decimal time) (tail_of kind ++ codes "}") (decimal_printable time (omega arith)) (tail_printable kind w)

  event_printable : (kind : Kind) → IsPlainKind kind → list_all is_printable (from_event e time kind) ≡ true
  event_printable kind w =
      all_both is_printable e (codes "\",\"time\":" ++ from_time time kind) (printable_plain e u.plain) (all_both is_printable (codes "\",\"time\":") (from_time time kind) refl (time_printable kind w))

  task_printable : (kind : Kind) → IsPlainKind kind → list_all is_printable (from_task t e time kind) ≡ true
  task_printable kind w =
      all_both is_printable t (codes "\",\"event\":\"" ++ from_event e time kind) (printable_plain t s.plain)
      (all_both is_printable (codes "\",\"event\":\"") (from_event e time kind) refl (event_printable kind w))

  machine_printable : (kind : Kind) → IsPlainKind kind → list_all is_printable (from_machine m t e time kind) ≡ true
  machine_printable kind w =
      all_both is_printable m (codes "\",\"task\":\"" ++ from_task t e time kind) (printable_plain m q.plain)
      (all_both is_printable (codes "\",\"task\":\"") (from_task t e time kind) refl (task_printable kind w))

  pub body_printable : (kind : Kind) → IsPlainKind kind → list_all is_printable (body_of r m t e time kind) ≡ true
  body_printable kind w =
      all_both is_printable (codes "{\"request\":\"") (r ++ (codes "\",\"machine\":\"" ++ from_machine m t e time kind)) refl
      (all_both is_printable r (codes "\",\"machine\":\"" ++ from_machine m t e time kind) (printable_plain r p.plain)
      (all_both is_printable (codes "\",\"machine\":\"") (from_machine m t e time kind) refl (machine_printable kind w)))

  value_is : (kind : Kind) → IsPlainKind kind → json_value (body_of r m t e time kind) ≡ of_json (json_of r m t e time kind)
  value_is kind w =
      ap (λ b. if b then read (body_of r m t e time kind) else None) (printable_utf8 (body_of r m t e time kind) (body_printable kind w)) ∙ read_is kind w

  in_range : nat_lt 4102444800000000 time ≡ false
  in_range = le-ltb 4102444800000000 time early

  data_said : (n : ℕ) (kind : Kind) → IsPlainKind kind → option_map_or (value_result n) (of_json (json_of r m t e time kind)) (Err NotJson) ≡ Ok (Event (event_at n r m t e time kind))
  data_said n none w = rw (number_of-decimal time (omega arith), in_range, p.good, q.good, s.good, u.good) refl
  data_said n (send x) w = rw (number_of-decimal time (omega arith), in_range, p.good, q.good, s.good, u.good, w.good) refl
  data_said n (recv x) w = rw (number_of-decimal time (omega arith), in_range, p.good, q.good, s.good, u.good, w.good) refl

  -- a line says its event
  pub body_said : (n : ℕ) (kind : Kind) → IsPlainKind kind → line_result n (body_of r m t e time kind) ≡ Ok (Event (event_at n r m t e time kind))
  body_said n kind w = ap (λ o. option_map_or (value_result n) o (Err NotJson)) (value_is kind w) ∙ data_said n kind w

-- ---- the line feed

-- the same bytes from the time on, without the brace at the end
abbrev time_text : ℕ → Kind → List ℕ
time_text time none = decimal time
time_text time (send x) = decimal time ++ tail_of (send x)
time_text time (recv x) = decimal time ++ tail_of (recv x)

moved : (v w : List ℕ) → (v ++ w) ++ codes "}\n" ≡ (v ++ (w ++ codes "}")) ++ 10 ∷ []
moved v w = append_assoc v w (codes "}\n") ∙ ap (λ x. v ++ x) (sym (append_assoc w (codes "}") (10 ∷ []))) ∙ sym (append_assoc v (w ++ codes "}") (10 ∷ []))

time_is : (time : ℕ) (kind : Kind) → time_text time kind ++ codes "}\n" ≡ from_time time kind ++ 10 ∷ []
time_is time none = sym (append_assoc (decimal time) (codes "}") (10 ∷ []))
time_is time (send x) = moved (decimal time) (tail_of (send x))
time_is time (recv x) = moved (decimal time) (tail_of (recv x))

quote_moved : (v w x y z : List ℕ) → w ++ y ≡ x ++ z → ((v ++ 34 ∷ []) ++ w) ++ y ≡ (v ++ 34 ∷ x) ++ z
quote_moved v w x y z h = append_assoc (v ++ 34 ∷ []) w y ∙ append_assoc v (34 ∷ []) (w ++ y) ∙ ap (λ a. v ++ 34 ∷ a) h ∙ sym (append_assoc v (34 ∷ x) z)

event_is : (e : List ℕ) (time : ℕ) (kind : Kind) → ((e ++ 34 ∷ []) ++ (codes ",\"time\":" ++ time_text time kind)) ++ codes "}\n" ≡ from_event e time kind ++ 10 ∷ []
event_is e time kind =
    quote_moved e (codes ",\"time\":" ++ time_text time kind) (codes ",\"time\":" ++ from_time time kind) (codes "}\n") (10 ∷ []) (ap (λ x. codes ",\"time\":" ++ x) (time_is time kind))

-- the bytes from the value of a member on, which quotes end, from those of the next
value_is_moved : (v name w x : List ℕ) → name ++ (w ++ codes "}\n") ≡ name ++ (x ++ 10 ∷ []) → ((v ++ 34 ∷ []) ++ (name ++ w)) ++ codes "}\n" ≡ (v ++ 34 ∷ (name ++ x)) ++ 10 ∷ []
value_is_moved v name w x h = quote_moved v (name ++ w) (name ++ x) (codes "}\n") (10 ∷ []) (append_assoc name w (codes "}\n") ∙ h ∙ sym (append_assoc name x (10 ∷ [])))

abbrev event_text : List ℕ → ℕ → Kind → List ℕ
event_text e time kind = (e ++ 34 ∷ []) ++ (codes ",\"time\":" ++ time_text time kind)

abbrev task_text : (t e : List ℕ) → ℕ → Kind → List ℕ
task_text t e time kind = (t ++ 34 ∷ []) ++ (codes ",\"event\":\"" ++ event_text e time kind)

abbrev machine_text : (m t e : List ℕ) → ℕ → Kind → List ℕ
machine_text m t e time kind = (m ++ 34 ∷ []) ++ (codes ",\"task\":\"" ++ task_text t e time kind)

task_is : (t e : List ℕ) (time : ℕ) (kind : Kind) → task_text t e time kind ++ codes "}\n" ≡ from_task t e time kind ++ 10 ∷ []
task_is t e time kind = value_is_moved t (codes ",\"event\":\"") (event_text e time kind) (from_event e time kind) (ap (λ x. codes ",\"event\":\"" ++ x) (event_is e time kind))

machine_is : (m t e : List ℕ) (time : ℕ) (kind : Kind) → machine_text m t e time kind ++ codes "}\n" ≡ from_machine m t e time kind ++ 10 ∷ []
machine_is m t e time kind = value_is_moved m (codes ",\"task\":\"") (task_text t e time kind) (from_task t e time kind) (ap (λ x. codes ",\"task\":\"" ++ x) (task_is t e time kind))

whole_is : (r m t e : List ℕ) (time : ℕ) (kind : Kind)
    → codes "{\"request\":\"" ++ (((r ++ 34 ∷ []) ++ (codes ",\"machine\":\"" ++ machine_text m t e time kind)) ++ codes "}\n") ≡ body_of r m t e time kind ++ 10 ∷ []
whole_is r m t e time kind =
    ap (λ x. codes "{\"request\":\"" ++ x) (value_is_moved r (codes ",\"machine\":\"") (machine_text m t e time kind) (from_machine m t e time kind) (ap (λ x. codes ",\"machine\":\"" ++ x) (machine_is m t e time kind)))

-- the line is this body and a line feed
pub line_is : (k : ℕ) (m t e : List ℕ) (time : ℕ) (kind : Kind)
    → line_of k (record { machine = m; task = t; event = e; time = time; message = message_of kind }) ≡ body_of (114 ∷ decimal k) m t e time kind ++ 10 ∷ []
line_is k m t e time none = whole_is (114 ∷ decimal k) m t e time none
line_is k m t e time (send x) = whole_is (114 ∷ decimal k) m t e time (send x)
line_is k m t e time (recv x) = whole_is (114 ∷ decimal k) m t e time (recv x)
