-- The texts of a JSON object in UTF-8 are UTF-8.
use Rattle.std.proofs.Common.{◌≡◌, ℕ, zero, suc, List, [], ◌∷◌, Bool, true, false, Option, Some, None, length, refl, subst, Ordering}
use Rattle.std.specs.declared.cmp.Ordering.TheVariants.{Less, Equal, Greater}
use Rattle.std.specs.Prelude.{option_and_then, option_map, if◌then◌else◌}
use Rattle.std.specs.Cmp.Lexicographic.{slice_cmp}
use Rattle.std.specs.Ordering.{match_ordering, nat_cmp}
use Rattle.std.specs.Str.{IsUtf8, is_utf8}
use Rattle.std.proofs.lemmas.Str.{IsUtf8-from_is_utf8}
use Rattle.json.specs.Json as json
use Rattle.json.specs.Token.{Token}
use Rattle.json.specs.Lex.{tokens}
use Rattle.serde_json.specs.Data.{Data, Members, array, boolean, member, no_members, null, number, object, put, string}
use Rattle.serde_json.specs.Find.{as_str, get_member}
use Rattle.serde_json.specs.Read.{max_depth, number_of, of_items, of_json, of_members, read}
use Rattle.event_lines.specs.LineResults.{json_value}
use Rattle.event_lines.specs.Members.{text_at}
use Rattle.certificate_laws.proofs.TokenLemmas.{AreGoodTokens, tokens_good}

-- what is there has P
abbrev pub IfThere : {X : Type 0} → (X → Type 0) → Option X → Type 0
IfThere P None = Unit {0}
IfThere P (Some x) = P x

-- ---- what is read of tokens

-- a string is UTF-8
abbrev IsTextual : json.Json → Type 0
IsTextual json.null = Unit {0}
IsTextual (json.boolean b) = Unit {0}
IsTextual (json.number s) = Unit {0}
IsTextual (json.string s) = IsUtf8 s
IsTextual (json.array js) = Unit {0}
IsTextual (json.object ms) = Unit {0}

-- so is each of the members that is one
abbrev AreTextual : json.Members → Type 0
AreTextual json.no_members = Unit {0}
AreTextual (json.member k j ms) = IsTextual j × AreTextual ms

-- a string, and each member of an object that is one, is UTF-8
abbrev IsGoodJson : json.Json → Type 0
IsGoodJson json.null = Unit {0}
IsGoodJson (json.boolean b) = Unit {0}
IsGoodJson (json.number s) = Unit {0}
IsGoodJson (json.string s) = IsUtf8 s
IsGoodJson (json.array js) = Unit {0}
IsGoodJson (json.object ms) = AreTextual ms

textual : (j : json.Json) → IsGoodJson j → IsTextual j
textual json.null h = tt
textual (json.boolean b) h = tt
textual (json.number s) h = tt
textual (json.string s) h = h
textual (json.array js) h = tt
textual (json.object ms) h = tt

abbrev Anything : {X : Type 0} → X → Type 0
Anything x = Unit {0}

-- what is read has P, and the tokens that are left are good
abbrev IsRead : {A : Type 0} → (A → Type 0) → A × List Token → Type 0
IsRead P p = P p.0 × AreGoodTokens p.1

then_there : {A B : Type 0} (P : A → Type 0) (Q : B → Type 0) (f : A → Option B) (o : Option A) → IfThere P o → ((x : A) → P x → IfThere Q (f x)) → IfThere Q (option_and_then f o)
then_there P Q f None h more = tt
then_there P Q f (Some x) h more = more x h

map_there : {A B : Type 0} (P : A → Type 0) (Q : B → Type 0) (f : A → B) (o : Option A) → IfThere P o → ((x : A) → P x → Q (f x)) → IfThere Q (option_map f o)
map_there P Q f None h more = tt
map_there P Q f (Some x) h more = more x h

closed_good : (ts : List Token) → AreGoodTokens ts → IfThere AreGoodTokens (json.after_end_array ts)
closed_good [] h = tt
closed_good (Token.begin_object ∷ ts) h = tt
closed_good (Token.end_object ∷ ts) h = tt
closed_good (Token.begin_array ∷ ts) h = tt
closed_good (Token.end_array ∷ ts) h = h.1
closed_good (Token.key s ∷ ts) h = tt
closed_good (Token.string s ∷ ts) h = tt
closed_good (Token.number s ∷ ts) h = tt
closed_good (Token.boolean b ∷ ts) h = tt
closed_good (Token.null ∷ ts) h = tt
closed_good (Token.bad ∷ ts) h = tt

key_good : (ts : List Token) → AreGoodTokens ts → IfThere (IsRead Anything) (json.read_key ts)
key_good [] h = tt
key_good (Token.begin_object ∷ ts) h = tt
key_good (Token.end_object ∷ ts) h = (tt, h.1)
key_good (Token.begin_array ∷ ts) h = tt
key_good (Token.end_array ∷ ts) h = tt
key_good (Token.key s ∷ ts) h = (tt, h.1)
key_good (Token.string s ∷ ts) h = tt
key_good (Token.number s ∷ ts) h = tt
key_good (Token.boolean b ∷ ts) h = tt
key_good (Token.null ∷ ts) h = tt
key_good (Token.bad ∷ ts) h = tt

-- a reader of values keeps what it leaves good
abbrev Reads : {A : Type 0} → (A → Type 0) → json.Parse A → Type 0
Reads P parse = (ts : List Token) → AreGoodTokens ts → IfThere (IsRead P) (parse ts)

module _ (value : json.Parse json.Json) (reads : Reads IsGoodJson value) where
  items_by : (more : json.Parse json.Items) → Reads Anything more → (ts : List Token) (rest : Option (List Token)) → AreGoodTokens ts → IfThere AreGoodTokens rest → IfThere (IsRead Anything) (json.items_step value more ts rest)
  items_by more h ts (Some rest) good left = (tt, left)
  items_by more h ts None good left =
      then_there (IsRead IsGoodJson) (IsRead Anything) (λ p. json.parse_map (json.item p.0) (more p.1)) (value ts) (reads ts good)
      (λ p q. map_there (IsRead Anything) (IsRead Anything) (λ (r : json.Items × List Token). (json.item p.0 r.0, r.1)) (more p.1) (h p.1 q.1) (λ r s. (tt, s.1)))

  items_good : (n : ℕ) → Reads Anything (json.items value n)
  unfolding json.items
  items_good zero ts good = tt
  items_good (suc n) ts good = items_by (json.items value n) (items_good n) ts (json.after_end_array ts) good (closed_good ts good)

  members_by : (more : json.Parse json.Members) → Reads AreTextual more → (k : Option (List ℕ)) (ts : List Token) → AreGoodTokens ts → IfThere (IsRead AreTextual) (json.members_step value more k ts)
  members_by more h None ts good = (tt, good)
  members_by more h (Some k) ts good =
      then_there (IsRead IsGoodJson) (IsRead AreTextual) (λ p. json.parse_map (json.member k p.0) (more p.1)) (value ts) (reads ts good)
      (λ p q. map_there (IsRead AreTextual) (IsRead AreTextual) (λ (r : json.Members × List Token). (json.member k p.0 r.0, r.1)) (more p.1) (h p.1 q.1) (λ r s. ((textual p.0 q.0, s.0), s.1)))

  members_good : (n : ℕ) → Reads AreTextual (json.members value n)
  unfolding json.members
  members_good zero ts good = tt
  members_good (suc n) ts good =
      then_there (IsRead Anything) (IsRead AreTextual) (λ (p : Option (List ℕ) × List Token). json.members_step value (json.members value n) p.0 p.1) (json.read_key ts) (key_good ts good)
      (λ p q. members_by (json.members value n) (members_good n) p.0 p.1 q.1)

with_good : (a : json.Parse json.Items) (o : json.Parse json.Members) → Reads Anything a → Reads AreTextual o → Reads IsGoodJson (json.value_with a o)
with_good a o ha ho [] good = tt
with_good a o ha ho (Token.begin_object ∷ ts) good = map_there (IsRead AreTextual) (IsRead IsGoodJson) (λ (r : json.Members × List Token). (json.object r.0, r.1)) (o ts) (ho ts good.1) (λ r s. s)
with_good a o ha ho (Token.end_object ∷ ts) good = tt
with_good a o ha ho (Token.begin_array ∷ ts) good = map_there (IsRead Anything) (IsRead IsGoodJson) (λ (r : json.Items × List Token). (json.array r.0, r.1)) (a ts) (ha ts good.1) (λ r s. s)
with_good a o ha ho (Token.end_array ∷ ts) good = tt
with_good a o ha ho (Token.key s ∷ ts) good = tt
with_good a o ha ho (Token.string s ∷ ts) good = good
with_good a o ha ho (Token.number s ∷ ts) good = (tt, good.1)
with_good a o ha ho (Token.boolean b ∷ ts) good = (tt, good.1)
with_good a o ha ho (Token.null ∷ ts) good = (tt, good.1)
with_good a o ha ho (Token.bad ∷ ts) good = tt

value_good : (depth : ℕ) → Reads IsGoodJson (json.value depth)
unfolding json.value
value_good zero = with_good (λ ts. None) (λ ts. None) (λ ts good. tt) (λ ts good. tt)
value_good (suc depth) =
    with_good (λ ts. json.items (json.value depth) (length ts) ts) (λ ts. json.members (json.value depth) (length ts) ts)
    (λ ts good. items_good (json.value depth) (value_good depth) (length ts) ts good) (λ ts good. members_good (json.value depth) (value_good depth) (length ts) ts good)

-- ---- values

abbrev IsTextualData : Data → Type 0
IsTextualData null = Unit {0}
IsTextualData (boolean b) = Unit {0}
IsTextualData (number n) = Unit {0}
IsTextualData (string s) = IsUtf8 s
IsTextualData (array ds) = Unit {0}
IsTextualData (object ms) = Unit {0}

abbrev AreTextualData : Members → Type 0
AreTextualData no_members = Unit {0}
AreTextualData (member k d ms) = IsTextualData d × AreTextualData ms

-- each member of an object that is a string is UTF-8
abbrev HasGoodTexts : Data → Type 0
HasGoodTexts null = Unit {0}
HasGoodTexts (boolean b) = Unit {0}
HasGoodTexts (number n) = Unit {0}
HasGoodTexts (string s) = Unit {0}
HasGoodTexts (array ds) = Unit {0}
HasGoodTexts (object ms) = AreTextualData ms

always : {A B : Type 0} (Q : B → Type 0) (f : A → B) (o : Option A) → ((x : A) → Q (f x)) → IfThere Q (option_map f o)
always Q f None h = tt
always Q f (Some x) h = h x

textual_data : (j : json.Json) → IsTextual j → IfThere IsTextualData (of_json j)
textual_data json.null h = tt
textual_data (json.boolean b) h = tt
textual_data (json.number s) h = always IsTextualData number (number_of s) (λ n. tt)
textual_data (json.string s) h = h
textual_data (json.array js) h = always IsTextualData array (of_items js) (λ ds. tt)
textual_data (json.object ms) h = always IsTextualData object (of_members ms no_members) (λ ds. tt)

by_order : (o : Ordering) (a b c : Members) → AreTextualData a → AreTextualData b → AreTextualData c → AreTextualData (match_ordering o a b c)
by_order Less a b c ha hb hc = ha
by_order Equal a b c ha hb hc = hb
by_order Greater a b c ha hb hc = hc

put_good : (k : List ℕ) (d : Data) (ms : Members) → IsTextualData d → AreTextualData ms → AreTextualData (put k d ms)
put_good k d no_members h more = (h, tt)
put_good k d (member l e ms) h more = by_order (slice_cmp nat_cmp k l) (member k d (member l e ms)) (member l d ms) (member l e (put k d ms)) (h, more) (h, more.1) (more.0, put_good k d ms h more.1)

members_data : (ms : json.Members) (found : Members) → AreTextual ms → AreTextualData found → IfThere AreTextualData (of_members ms found)
members_data json.no_members found h good = good
members_data (json.member k j ms) found h good =
    then_there IsTextualData AreTextualData (λ d. of_members ms (put k d found)) (of_json j) (textual_data j h.0) (λ d t. members_data ms (put k d found) h.1 (put_good k d found t good))

data_good : (j : json.Json) → IsGoodJson j → IfThere HasGoodTexts (of_json j)
data_good json.null h = tt
data_good (json.boolean b) h = tt
data_good (json.number s) h = always HasGoodTexts number (number_of s) (λ n. tt)
data_good (json.string s) h = tt
data_good (json.array js) h = always HasGoodTexts array (of_items js) (λ ds. tt)
data_good (json.object ms) h = map_there AreTextualData HasGoodTexts object (of_members ms no_members) (members_data ms no_members h tt) (λ x t. t)

by_key : (o : Ordering) (a b c : Option Data) → IfThere IsTextualData a → IfThere IsTextualData b → IfThere IsTextualData c → IfThere IsTextualData (match_ordering o a b c)
by_key Less a b c ha hb hc = ha
by_key Equal a b c ha hb hc = hb
by_key Greater a b c ha hb hc = hc

member_good : (k : List ℕ) (ms : Members) → AreTextualData ms → IfThere IsTextualData (get_member k ms)
member_good k no_members h = tt
member_good k (member l e ms) h = by_key (slice_cmp nat_cmp k l) (get_member k ms) (Some e) (get_member k ms) (member_good k ms h.1) h.0 (member_good k ms h.1)

str_good : (d : Data) → IsTextualData d → IfThere IsUtf8 (as_str d)
str_good null h = tt
str_good (boolean b) h = tt
str_good (number n) h = tt
str_good (string s) h = h
str_good (array ds) h = tt
str_good (object ms) h = tt

text_good : (name : List ℕ) (d : Data) → HasGoodTexts d → IfThere IsUtf8 (text_at name d)
text_good name null h = tt
text_good name (boolean b) h = tt
text_good name (number n) h = tt
text_good name (string s) h = tt
text_good name (array ds) h = tt
text_good name (object ms) h = then_there IsTextualData IsUtf8 as_str (get_member name ms) (member_good name ms h) str_good

-- ---- a line

last_good : (j : json.Json) (ts : List Token) → IsGoodJson j → IfThere IsGoodJson (json.if_last j ts)
last_good j [] h = h
last_good j (t ∷ ts) h = tt

read_good : (text : List ℕ) → IsUtf8 text → IfThere HasGoodTexts (read text)
read_good text utf8 =
    then_there IsGoodJson HasGoodTexts of_json (option_and_then (λ (p : json.Json × List Token). json.if_last p.0 p.1) (json.value max_depth (tokens text)))
    (then_there (IsRead IsGoodJson) IsGoodJson (λ (p : json.Json × List Token). json.if_last p.0 p.1) (json.value max_depth (tokens text)) (value_good max_depth (tokens text) (tokens_good text utf8)) (λ p q. last_good p.0 p.1 q.0))
    data_good

value_by : (b : Bool) (line : List ℕ) → is_utf8 line ≡ b → IfThere HasGoodTexts (if b then read line else None)
value_by true line e = read_good line (IsUtf8-from_is_utf8 line e)
value_by false line e = tt

-- the texts of a line's JSON value are UTF-8
pub texts_utf8 : (line : List ℕ) (d : Data) → json_value line ≡ Some d → (name : List ℕ) → IfThere IsUtf8 (text_at name d)
texts_utf8 line d e name = text_good name d (subst (IfThere HasGoodTexts) e (value_by (is_utf8 line) line refl))
