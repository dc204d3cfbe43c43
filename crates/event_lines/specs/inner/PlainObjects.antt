-- Flat objects that are read byte by byte: their texts are good and have no escapes.
use Rattle.std.specs.Prelude.{ℕ, ◌≡◌, ◌<◌, ◌≤◌, ◌==◌, ◌||◌, ◌⊎◌, List, [], ◌∷◌, ◌++◌, Bool, true}
use Rattle.std.specs.Prelude.{false, not, length, drop, Some}
use Rattle.std.specs.Option.{option_map_or}
use Rattle.std.specs.List.{list_all}
use Rattle.json.specs.Token.{Token}
use Rattle.json.specs.Print.{IsNumber}
use Rattle.json.specs.Lex.{Place, may_begin, fresh, after_value, punctuate, lex, between}
use Rattle.serde_json.specs.Data.{Data, Members, no_members, put, unsigned}
use Rattle.serde_json.specs.Read.{converted, number_of, of_json}
use Rattle.json.specs.Json as json
use Rattle.event_table.specs.declared.event_fields.EventFields.{EventFields}
use Rattle.event_lines.specs.declared.flat_lines.FlatMembers.{FlatMembers}
use Rattle.event_lines.specs.EventFaults.{is_bad_text, is_control_character}
use Rattle.event_lines.specs.inner.FlatObjects.{AreMembers, members_ahead}

-- a byte at which a text may end or have an escape, or that no good text has
abbrev pub is_stop : ℕ → Bool
is_stop byte = byte == 34 || byte == 92 || is_control_character byte

-- a byte that stands for itself in a good text
abbrev pub is_clear : ℕ → Bool
is_clear byte = not (is_stop byte)

-- a byte that ends a member of an object: a comma or a closing brace
abbrev pub EndsMember : ℕ → Type 0
EndsMember byte = (byte ≡ 44) ⊎ (byte ≡ 125)

-- at one index of a text stands another in quotes, without escapes, and ends before a next one
pub record IsQuoted (d : List ℕ) (at : ℕ) (text : List ℕ) (next : ℕ) : Type 0 where
  pub cut : drop at d ≡ 34 ∷ (text ++ 34 ∷ drop next d)
  pub clear : list_all is_clear text ≡ true
  pub rising : at < next
  pub within : next ≤ length d

-- at one index of a text stands a whole number, and ends before a next one
pub record IsWhole (d : List ℕ) (at : ℕ) (number : ℕ) (next : ℕ) : Type 0 where
  pub digits : List ℕ
  pub cut : drop at d ≡ digits ++ drop next d
  pub grammar : IsNumber digits
  pub value : number_of digits ≡ Some (unsigned number)
  pub rising : at < next
  pub within : next ≤ length d

-- at one index of a text stands a key with its colon, and ends before a next one
pub record IsKey (d : List ℕ) (at : ℕ) (key : List ℕ) (next : ℕ) : Type 0 where
  pub tokens : (p : Place) → may_begin p ≡ true
      → punctuate p (lex between (drop at d))
      ≡ Token.key key ∷ punctuate fresh (lex between (drop next d))
  pub rising : at < next
  pub within : next ≤ length d

-- at one index of a text stands a value, and ends before a next one
pub record IsValue (d : List ℕ) (at : ℕ) (value : Token) (next : ℕ) : Type 0 where
  pub tokens : (byte : ℕ) (rest : List ℕ) → EndsMember byte → drop next d ≡ byte ∷ rest
      → punctuate fresh (lex between (drop at d))
      ≡ value ∷ punctuate after_value (lex between (drop next d))
  pub rising : at < next
  pub within : next ≤ length d

-- the texts that are kept are good
pub record AreGood (f : FlatMembers) : Type 0 where
  pub request : option_map_or (λ s. is_bad_text s.now) f.request false ≡ false
  pub machine : option_map_or (λ s. is_bad_text s.now) f.machine false ≡ false
  pub task : option_map_or (λ s. is_bad_text s.now) f.task false ≡ false
  pub event : option_map_or (λ s. is_bad_text s.now) f.event false ≡ false
  pub send : option_map_or (λ s. is_bad_text s.now) f.send false ≡ false
  pub recv : option_map_or (λ s. is_bad_text s.now) f.recv false ≡ false

-- all texts of an event line are good
pub record HasGoodTexts (f : EventFields) : Type 0 where
  pub request : is_bad_text f.request.now ≡ false
  pub machine : is_bad_text f.machine.now ≡ false
  pub task : is_bad_text f.task.now ≡ false
  pub event : is_bad_text f.event.now ≡ false
  pub send : option_map_or (λ s. is_bad_text s.now) f.send false ≡ false
  pub recv : option_map_or (λ s. is_bad_text s.now) f.recv false ≡ false

-- the tokens from one index of a text on, after an opening brace
abbrev pub tokens_from : List ℕ → ℕ → List Token
tokens_from d at = punctuate fresh (lex between (drop at d))

-- from one index to its end a text has these members and a closing brace; the texts are good
pub record IsObject (d : List ℕ) (start : ℕ) (f : FlatMembers) : Type 0 where
  pub members : Members
  pub are : AreMembers f members
  pub reading : members_ahead (length (tokens_from d start)) no_members (tokens_from d start)
      ≡ Some (members, [])
  pub good : AreGood f

-- one member more was kept: it stands at one index of a text and ends before a next one
pub record AddsMember (d : List ℕ) (at : ℕ) (old new : FlatMembers) (next : ℕ) : Type 0 where
  pub key : List ℕ
  pub token : Token
  pub value : Data
  pub tokens : (p : Place) (byte : ℕ) (rest : List ℕ) → may_begin p ≡ true → EndsMember byte
      → drop next d ≡ byte ∷ rest
      → punctuate p (lex between (drop at d))
      ≡ Token.key key ∷ (token ∷ punctuate after_value (lex between (drop next d)))
  pub read : (later : List Token)
      → converted of_json (json.value 126 (token ∷ later)) ≡ Some (value, later)
  pub kept : (ms : Members) → AreMembers old ms → AreMembers new (put key value ms)
  pub good : AreGood old → AreGood new
  pub rising : at < next
  pub within : next ≤ length d
