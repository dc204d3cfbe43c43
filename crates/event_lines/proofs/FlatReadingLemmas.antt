-- A flat object, member by member.
use Rattle.std.proofs.Common.{◌≡◌, ℕ, ◌-◌, ◌<◌, ◌≤◌, List, [], ◌∷◌, length, Bool, true, false, bytes_eq, cond, true≢false, Option, Some, None, refl, sym, ap, ◌∙◌, arith}
use Rattle.std.proofs.lemmas.Slice.Eq.{bytes_eq-Decides}
use Rattle.json.specs.Token.{Token}
use Rattle.json.specs.Lex.{tokens}
use Rattle.json.specs.Json.{read_key, members, value, parse_map}
use Rattle.json.proofs.Grammar.{value_is, value-begin_object, read_key-shorter}
use Rattle.serde_json.specs.Data.{Data, object, number, string, unsigned, Members, no_members, put}
use Rattle.serde_json.specs.Find.{get_member}
use Rattle.serde_json.specs.Read.{of_json, converted, number_of, read}
use Rattle.serde_json.proofs.Views.{get_member-put, get_member-put_other}
use Rattle.event_lines.proofs.ConvertingLemmas.{converted-object, member_read, members_over, whole_read}
use Rattle.event_lines.specs.declared.flat_lines.FlatMembers.{FlatMembers}
use Rattle.event_lines.specs.inner.FlatObjects.{Slot, slots, Hold, AreMembers, members_ahead}
use Rattle.std.specs.List.{AllByRecursion}

-- ---- a member more

abbrev set : List ℕ → Data → List Slot → List Slot
set k d [] = []
set k d (s ∷ ss) = (s.0, cond (bytes_eq s.0 k) (Some d) s.1) ∷ set k d ss

one : (q k : List ℕ) (d : Data) (ms : Members) (r : Option Data) (b : Bool) → bytes_eq q k ≡ b → get_member q ms ≡ r → get_member q (put k d ms) ≡ cond b (Some d) r
one q k d ms r true e h = rw ((bytes_eq-Decides q k).0 e) (get_member-put k d ms)
one q k d ms r false e h = get_member-put_other q k d ms (λ same. true≢false (sym ((bytes_eq-Decides q k).1 same) ∙ e)) ∙ h

put_slot : (k : List ℕ) (d : Data) (ms : Members) (ss : List Slot) → Hold ss ms → Hold (set k d ss) (put k d ms)
put_slot k d ms [] h = tt
put_slot k d ms (s ∷ ss) h = (one s.0 k d ms s.1 _ refl h.0, put_slot k d ms ss h.1)

-- a member that is kept
pub put_known : (f : FlatMembers) (k : List ℕ) (d : Data) (ms : Members) → AreMembers f ms → Hold (set k d (slots f)) (put k d ms)
put_known f k d ms h = put_slot k d ms (slots f) h

-- a member with none of the names
pub put_other : (k : List ℕ) (d : Data) (ms : Members) (ss : List Slot) → AllByRecursion (λ s. k ≡ s.0 → ⊥) ss → Hold ss ms → Hold ss (put k d ms)
put_other k d ms [] o h = tt
put_other k d ms (s ∷ ss) o h = (get_member-put_other s.0 k d ms (λ same. o.0 (sym same)) ∙ h.0, put_other k d ms ss o.1 h.1)

-- ---- the members so far

-- from the tokens `start` the reader has come to `ts`, and f is what is kept
abbrev pub Reaches : List Token → FlatMembers → List Token → Type 0
Reaches start f ts =
    (ms : Members) × (n : ℕ) × (length ts ≤ n) × AreMembers f ms × (members_ahead (length start) no_members start ≡ members_ahead n ms ts)

pub begins : (start : List Token) (f : FlatMembers) → AreMembers f no_members → Reaches start f start
begins start f h = (no_members, length start, omega arith, h, refl)

pub text_read : (s r : List Token) (t : List ℕ) → s ≡ Token.string t ∷ r → converted of_json (value 126 s) ≡ Some (string t, r)
text_read s r t e = ap (converted of_json) (ap (value 126) e ∙ value_is 126 _)

pub number_read : (s r : List Token) (t : List ℕ) (n : ℕ) → s ≡ Token.number t ∷ r → number_of t ≡ Some (unsigned n) → converted of_json (value 126 s) ≡ Some (number (unsigned n), r)
number_read s r t n e f = ap (converted of_json) (ap (value 126) e ∙ value_is 126 _) ∙ rw f

pub shorter_by_member : (ts s r : List Token) (k : List ℕ) (t : Token) → read_key ts ≡ Some (Some k, s) → s ≡ t ∷ r → length r < length ts
shorter_by_member ts s r k t named is = omega (arith, read_key-shorter ts (Some k) s named, ap length is)

pub steps : (start ts s r : List Token) (f g : FlatMembers) (k : List ℕ) (d : Data) → Reaches start f ts → read_key ts ≡ Some (Some k, s) → converted of_json (value 126 s) ≡ Some (d, r)
    → length r < length ts → ((ms : Members) → AreMembers f ms → AreMembers g (put k d ms)) → Reaches start g r
steps start ts s r f g k d i named e shorter kept =
    let enough = i.2 in (
      put k d i.0,
      i.1 - 1,
      omega arith,
      kept i.0 i.3,
      i.4 ∙ member_read (value 126) i.0 i.1 k ts s r d (omega arith) named e,
    )

pub ends : (start ts r : List Token) (f : FlatMembers) → Reaches start f ts → read_key ts ≡ Some (None, r) → (ms : Members) × AreMembers f ms × (members_ahead (length start) no_members start ≡ Some (ms, r))
ends start ts r f i closed = (i.0, i.3, i.4 ∙ members_over (value 126) i.0 i.1 ts r i.2 closed)

-- ---- the whole line

pub flat_read : (text : List ℕ) (r : List Token) (ms : Members) → tokens text ≡ Token.begin_object ∷ r → members_ahead (length r) no_members r ≡ Some (ms, []) → read text ≡ Some (object ms)
flat_read text r ms e f =
    whole_read (value 127 (tokens text)) (object ms)
    (ap (converted of_json) (ap (value 127) e ∙ value-begin_object 127 r (omega arith)) ∙ converted-object (members (value 126) (length r) r) ∙ ap (parse_map object) f)
