-- The member of a bad line that is at fault.
use Rattle.std.specs.Prelude.{ℕ, List, [], ◌∷◌, ◌&&◌, Bool, true, false, not, codes, find}
use Rattle.std.specs.Prelude.{if◌then◌else◌, unwrap_or}
use Rattle.std.specs.Option.{option_map_or}
use Rattle.std.specs.Str.{bytes_eq}
use Rattle.serde_json.specs.Data.{Data}
use Rattle.event_lines.specs.Members.{has_member, is_given, is_text_at, is_whole_at, text_at}
use Rattle.event_lines.specs.EventFaults.{is_bad_text}
use Rattle.event_lines.specs.LineResults.{json_value}
use Rattle.event_lines.specs.declared.why.Why.{Why}
use Rattle.event_lines.specs.declared.why.Why.TheVariants.{NotJson, Missing, WrongKind, OutOfRange}
use Rattle.event_lines.specs.declared.why.Why.TheVariants.{BadText, UnknownCommand}
use Rattle.line_quality.specs.declared.member.Member.{Member}
use Rattle.line_quality.specs.declared.member.Member.TheVariants.{Whole, Request, Machine, Task}
use Rattle.line_quality.specs.declared.member.Member.TheVariants.{Event, Time, Nanos, Send, Recv}
use Rattle.line_quality.specs.declared.member.Member.TheVariants.{Do, Day, Days, Every, Micros}

-- the member's name, by which it stands in a line and is printed; `-` for the line as a whole
abbrev pub member_name : Member → List ℕ
member_name Whole = codes "-"
member_name Request = codes "request"
member_name Machine = codes "machine"
member_name Task = codes "task"
member_name Event = codes "event"
member_name Time = codes "time"
member_name Nanos = codes "nanos"
member_name Send = codes "send"
member_name Recv = codes "recv"
member_name Do = codes "do"
member_name Day = codes "day"
member_name Days = codes "days"
member_name Every = codes "every"
member_name Micros = codes "micros"

-- the member that has the time
abbrev pub time_in : Data → Member
time_in d = if is_given (codes "nanos") d then Nanos else Time

-- the members of an event line, in the order in which they are judged
abbrev pub event_members : Data → List Member
event_members d =
    Request ∷ Machine ∷ Task ∷ Event ∷ time_in d ∷ Send ∷ Recv ∷ []

-- the member that has the number of the command with this name; `do` again where it takes none
abbrev pub number_member : List ℕ → Member
number_member name =
    if bytes_eq name (codes "drop") then Day else (
    if bytes_eq name (codes "keep") then Days else (
    if bytes_eq name (codes "watch") then Every else (
    if bytes_eq name (codes "grace") then Micros else Do)))

-- the members of a control line
abbrev pub control_members : Data → List Member
control_members d = Do ∷ option_map_or number_member (text_at (codes "do") d) Do ∷ []

-- the members of a line
abbrev pub members_of : Data → List Member
members_of d = if has_member (codes "do") d then control_members d else event_members d

-- the member is no text, or no whole number, where it must be one
abbrev pub has_wrong_kind : Data → Member → Bool
has_wrong_kind d Whole = false
has_wrong_kind d Request = not (is_text_at (codes "request") d)
has_wrong_kind d Machine = not (is_text_at (codes "machine") d)
has_wrong_kind d Task = not (is_text_at (codes "task") d)
has_wrong_kind d Event = not (is_text_at (codes "event") d)
has_wrong_kind d Time = not (is_whole_at (codes "time") d)
has_wrong_kind d Nanos = not (is_whole_at (codes "nanos") d)
has_wrong_kind d Send = is_given (codes "send") d && not (is_text_at (codes "send") d)
has_wrong_kind d Recv = is_given (codes "recv") d && not (is_text_at (codes "recv") d)
has_wrong_kind d Do = not (is_text_at (codes "do") d)
has_wrong_kind d Day = not (is_whole_at (codes "day") d)
has_wrong_kind d Days = not (is_whole_at (codes "days") d)
has_wrong_kind d Every = not (is_whole_at (codes "every") d)
has_wrong_kind d Micros = not (is_whole_at (codes "micros") d)

-- the member is a number
abbrev pub is_number : Member → Bool
is_number Whole = false
is_number Request = false
is_number Machine = false
is_number Task = false
is_number Event = false
is_number Time = true
is_number Nanos = true
is_number Send = false
is_number Recv = false
is_number Do = false
is_number Day = true
is_number Days = true
is_number Every = true
is_number Micros = true

-- the reason is due to the member
abbrev pub is_at_fault : Why → Data → Member → Bool
is_at_fault NotJson d m = false
is_at_fault Missing d m = not (has_member (member_name m) d)
is_at_fault WrongKind d m = has_wrong_kind d m
is_at_fault OutOfRange d m = is_number m
is_at_fault BadText d m = option_map_or is_bad_text (text_at (member_name m) d) false
is_at_fault UnknownCommand d m = true

-- the first member that the reason is due to, or the line as a whole
abbrev pub member_in : Why → Data → Member
member_in why d = unwrap_or (find (is_at_fault why d) (members_of d)) Whole

-- the same of a line
abbrev pub member_at_fault : Why → List ℕ → Member
member_at_fault why line = option_map_or (member_in why) (json_value line) Whole
