-- A flat object that is read member by member, beside what is kept of it.
use Rattle.std.specs.Prelude.{ℕ, ◌≡◌, List, [], ◌∷◌, codes, false}
use Rattle.std.specs.Prelude.{Option, Some, None, option_map}
use Rattle.std.specs.List.{AllByRecursion}
use Rattle.json.specs.Token.{Token}
use Rattle.json.specs.Json as json
use Rattle.serde_json.specs.Data.{Data, Members, object, number, string, unsigned}
use Rattle.serde_json.specs.Read.{of_members, converted}
use Rattle.serde_json.specs.Find.{get_member}
use Rattle.event_lines.specs.declared.flat_lines.FlatMembers.{FlatMembers}
use Rattle.event_table.specs.declared.event_fields.EventFields.{EventFields}
use Rattle.event_lines.specs.LineResults.{json_value}
use Rattle.event_lines.specs.Members.{has_member}
use Rattle.event_lines.specs.inner.Fields.{AreEventFields}

-- a name, and the value of the last member that has it
abbrev pub Slot : Type 0
Slot = List ℕ × Option Data

-- what is kept, by name; a control line is not kept
abbrev pub slots : FlatMembers → List Slot
slots f =
    (codes "request", option_map (λ s. string s.now) f.request)
    ∷ (codes "machine", option_map (λ s. string s.now) f.machine)
    ∷ (codes "task", option_map (λ s. string s.now) f.task)
    ∷ (codes "event", option_map (λ s. string s.now) f.event)
    ∷ (codes "send", option_map (λ s. string s.now) f.send)
    ∷ (codes "recv", option_map (λ s. string s.now) f.recv)
    ∷ (codes "time", option_map (λ n. number (unsigned n)) f.time)
    ∷ (codes "nanos", option_map (λ n. number (unsigned n)) f.nanos)
    ∷ (codes "do", None)
    ∷ []

-- the slots are those of these members
abbrev pub Hold : List Slot → Members → Type 0
Hold slots ms = AllByRecursion (λ slot. get_member slot.0 ms ≡ slot.1) slots

-- what is kept are these members, and none of them is `do`
abbrev pub AreMembers : FlatMembers → Members → Type 0
AreMembers f ms = Hold (slots f) ms

-- what the tokens after an opening brace say: the members up to the closing one, after the old
-- ones, and the tokens that follow
abbrev pub members_ahead : ℕ → Members → List Token → Option (Members × List Token)
members_ahead n old tokens = converted (λ ms. of_members ms old) (json.members (json.value 126) n tokens)

-- the line is an object with these fields, and no control line
pub record IsEventLine (line : List ℕ) (f : EventFields) : Type 0 where
  pub members : Members
  pub reading : json_value line ≡ Some (object members)
  pub control : has_member (codes "do") (object members) ≡ false
  pub fields : AreEventFields f (object members)
