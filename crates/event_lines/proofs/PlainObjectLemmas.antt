-- A flat object, read byte by byte.
use Rattle.std.proofs.Common.{◌≡◌, ℕ, suc, ◌+◌, ◌-◌, ◌<◌, ◌≤◌, List, [], ◌∷◌, ◌++◌, length, take, drop, get_or, true, false, ◌==◌, nat_lt, Option, Some, None, refl, sym, ap, subst, ◌∙◌, arith, inl, inr, lt_of_not-le}
use Rattle.std.proofs.lemmas.Bool.{ne_eqb}
use Rattle.std.proofs.lemmas.List.{drop_more, drop-drop, drop_all, take-append-drop}
use Rattle.std.specs.Char.{is_ascii_digit}
use Rattle.json.specs.Print.{IsNumber}
use Rattle.std.specs.Prelude.{IfSome}
use Rattle.std.specs.List.{list_all, prefix_len}
use Rattle.json.specs.Token.{Token}
use Rattle.json.specs.Json.{read_key, value}
use Rattle.json.specs.Lex.{Place, fresh, after_value, after_comma, may_begin, lex, between, punctuate, tokens}
use Rattle.serde_json.specs.Data.{Data, Members, no_members, object, put, string, number, unsigned}
use Rattle.serde_json.specs.Read.{converted, of_json, number_of, read}
use Rattle.event_lines.specs.declared.flat_lines.FlatMembers.{FlatMembers}
use Rattle.event_lines.specs.EventFaults.{is_bad_text}
use Rattle.event_lines.specs.inner.FlatObjects.{AreMembers}
use Rattle.event_lines.specs.inner.PlainObjects.{is_clear, EndsMember, IsQuoted, IsWhole, IsKey, IsValue, IsObject, AreGood, AddsMember, tokens_from}
use Rattle.event_lines.proofs.FlatReadingLemmas.{Reaches, begins, steps, ends, text_read, number_read, flat_read}
use Rattle.event_lines.proofs.PlainTextLemmas.{at_byte, prefix_passes, key_tokens, text_tokens, number_tokens, comma_tokens, closing_tokens, opening_tokens, good_text, digits_number}

-- ---- the parts of a member

-- a text between two quotes
pub quoted : (d : List ℕ) (at stop : ℕ) (text : List ℕ) → get_or d at 32 ≡ 34 → stop ≡ at + 1 + prefix_len is_clear (drop (at + 1) d) → get_or d stop 32 ≡ 34
    → text ≡ take (stop - (at + 1)) (drop (at + 1) d) → IsQuoted d at text (stop + 1)
quoted d at stop text e is f same =
    let first = at_byte d at 34 e (λ z. omega (arith, z)) in
    let last = at_byte d stop 34 f (λ z. omega (arith, z)) in
    let n : stop - (at + 1) ≡ prefix_len is_clear (drop (at + 1) d) = omega arith in
    let back : drop (stop - (at + 1)) (drop (at + 1) d) ≡ drop stop d = let k : at + 1 + (stop - (at + 1)) ≡ stop = omega arith in drop-drop (stop - (at + 1)) (at + 1) d ∙ ap (λ i. drop i d) k in
    let middle : drop (at + 1) d ≡ text ++ drop stop d = sym (take-append-drop (stop - (at + 1)) (drop (at + 1) d)) ∙ ap (λ xs. xs ++ drop (stop - (at + 1)) (drop (at + 1) d)) (sym same) ∙ ap (λ xs. text ++ xs) back in record {
      cut = first.1 ∙ ap (λ xs. 34 ∷ xs) (middle ∙ ap (λ xs. text ++ xs) last.1);
      clear = subst (λ xs. list_all is_clear xs ≡ true) (sym (same ∙ ap (λ k. take k (drop (at + 1) d)) n)) (prefix_passes is_clear (drop (at + 1) d));
      rising = omega arith;
      within = let w = last.0 in omega arith;
    }

-- digits that do not begin with 0
pub whole : (d : List ℕ) (at stop n : ℕ) → stop ≡ at + prefix_len is_ascii_digit (drop at d) → stop ≤ length d → (at ≡ stop → ⊥) → (get_or d at 0 ≡ 48 → ⊥)
    → number_of (take (stop - at) (drop at d)) ≡ Some (unsigned n) → IsWhole d at n stop
whole d at stop n is within some first value =
    let x = get_or d at 0 in
    let m = stop - at - 1 in
    let lt : at < length d = below in
    let k : stop - at ≡ suc m = let z = above in omega arith in
    let run : stop - at ≡ prefix_len is_ascii_digit (drop at d) = omega arith in
    let digits : take (stop - at) (drop at d) ≡ x ∷ take m (drop (at + 1) d) = ap (λ j. take j (drop at d)) k ∙ ap (take (suc m)) (drop_more d at 0 lt) in
    let all : list_all is_ascii_digit (take (stop - at) (drop at d)) ≡ true = ap (λ j. list_all is_ascii_digit (take j (drop at d))) run ∙ prefix_passes is_ascii_digit (drop at d) in
    let back : drop (stop - at) (drop at d) ≡ drop stop d = let j : at + (stop - at) ≡ stop = omega arith in drop-drop (stop - at) at d ∙ ap (λ i. drop i d) j in record {
      digits = take (stop - at) (drop at d);
      cut = sym (take-append-drop (stop - at) (drop at d)) ∙ ap (λ xs. take (stop - at) (drop at d) ++ xs) back;
      grammar = subst IsNumber (sym digits) (digits_number x (take m (drop (at + 1) d)) (ap (list_all is_ascii_digit) (sym digits) ∙ all) (ne_eqb x 48 first));
      value = value;
      rising = above;
      within = within;
    }
  where
    above : at < stop
    above = lt_of_not-le (λ h. some (omega arith))

    below : at < length d
    below = let z = above in omega arith

pub key : (d : List ℕ) (at stop start : ℕ) (k : List ℕ) → IsQuoted d at k stop → get_or d stop 32 ≡ 58 → lex between (drop start d) ≡ lex between (drop (stop + 1) d) → stop + 1 ≤ start → start ≤ length d → IsKey d at k start
key d at stop start k q e same later within =
    let colon = at_byte d stop 58 e (λ z. omega (arith, z)) in
    let r = q.rising in record {
      tokens = λ p m. ap (λ xs. punctuate p (lex between xs)) (q.cut ∙ ap (λ xs. 34 ∷ (k ++ 34 ∷ xs)) colon.1) ∙ key_tokens p k (drop (stop + 1) d) m q.clear
          ∙ ap (λ ls. Token.key k ∷ punctuate fresh ls) (sym same);
      rising = omega arith;
      within = within;
    }

text_value : (d : List ℕ) (at next : ℕ) (t : List ℕ) → IsQuoted d at t next → IsValue d at (Token.string t) next
text_value d at next t q = record {
  tokens = λ b rest ends cut. ap (λ xs. punctuate fresh (lex between xs)) (q.cut ∙ ap (λ xs. 34 ∷ (t ++ 34 ∷ xs)) cut) ∙ text_tokens t b rest q.clear ends
      ∙ ap (λ xs. Token.string t ∷ punctuate after_value (lex between xs)) (sym cut);
  rising = q.rising;
  within = q.within;
}

number_value : (d : List ℕ) (at next n : ℕ) (w : IsWhole d at n next) → IsValue d at (Token.number w.digits) next
number_value d at next n w = record {
  tokens = λ b rest ends cut. ap (λ xs. punctuate fresh (lex between xs)) (w.cut ∙ ap (λ xs. w.digits ++ xs) cut) ∙ number_tokens w.digits b rest w.grammar ends
      ∙ ap (λ xs. Token.number w.digits ∷ punctuate after_value (lex between xs)) (sym cut);
  rising = w.rising;
  within = w.within;
}

module _ (d : List ℕ) (at start next : ℕ) (k : List ℕ) (named : IsKey d at k start) (old new : FlatMembers) where
  added : (t : Token) (v : Data) → IsValue d start t next → ((later : List Token) → converted of_json (value 126 (t ∷ later)) ≡ Some (v, later))
      → ((ms : Members) → AreMembers old ms → AreMembers new (put k v ms)) → (AreGood old → AreGood new) → AddsMember d at old new next
  added t v is read kept good =
      let a = named.rising in
      let b = is.rising in record {
        key = k;
        token = t;
        value = v;
        tokens = λ p byte rest m ends cut. named.tokens p m ∙ ap (λ ts. Token.key k ∷ ts) (is.tokens byte rest ends cut);
        read = read;
        kept = kept;
        good = good;
        rising = omega arith;
        within = is.within;
      }

  -- a member that is a good text
  pub adds_text : (t : List ℕ) → IsQuoted d start t next → (length t == 0) ≡ false → nat_lt 64 (length t) ≡ false → ((ms : Members) → AreMembers old ms → AreMembers new (put k (string t) ms))
      → (is_bad_text t ≡ false → AreGood old → AreGood new) → AddsMember d at old new next
  adds_text t q some short kept good =
      added (Token.string t) (string t) (text_value d start next t q) (λ later. text_read (Token.string t ∷ later) later t refl) kept (good (good_text t q.clear some short))

  -- a member that is a whole number
  pub adds_number : (n : ℕ) → IsWhole d start n next → ((ms : Members) → AreMembers old ms → AreMembers new (put k (number (unsigned n)) ms)) → (AreGood old → AreGood new)
      → AddsMember d at old new next
  adds_number n w kept good =
      added (Token.number w.digits) (number (unsigned n)) (number_value d start next n w) (λ later. number_read (Token.number w.digits ∷ later) later w.digits n refl w.value) kept good

-- ---- member after member

-- f is what is kept where the reading has come from start to at
pub record ReachesAt (d : List ℕ) (start : ℕ) (f : FlatMembers) (at : ℕ) : Type 0 where
  pub place : Place
  pub begins : may_begin place ≡ true
  pub reached : Reaches (tokens_from d start) f (punctuate place (lex between (drop at d)))
  pub good : AreGood f

pub reaches_start : (d : List ℕ) (start : ℕ) (f : FlatMembers) → AreMembers f no_members → AreGood f → ReachesAt d start f start
reaches_start d start f h g = record { place = fresh; begins = refl; reached = begins (tokens_from d start) f h; good = g }

module _ (d : List ℕ) (start at next : ℕ) (old new : FlatMembers) (reach : ReachesAt d start old at) (member : AddsMember d at old new next) where
  abbrev ts : List Token
  ts = punctuate reach.place (lex between (drop at d))

  abbrev rest : List Token
  rest = punctuate after_value (lex between (drop next d))

  reaches_rest : (byte : ℕ) (r : List ℕ) → EndsMember byte → drop next d ≡ byte ∷ r → Reaches (tokens_from d start) new rest
  reaches_rest byte r e cut =
      let is : ts ≡ Token.key member.key ∷ (member.token ∷ rest) = member.tokens reach.place byte r reach.begins e cut in
      let shorter : length rest < length ts = let long = ap length is in omega arith in
      steps (tokens_from d start) ts (member.token ∷ rest) rest old new member.key member.value reach.reached (ap read_key is) (member.read rest) shorter member.kept

  -- a comma, and the next member
  pub reaches_next : (after : ℕ) → get_or d next 32 ≡ 44 → lex between (drop after d) ≡ lex between (drop (next + 1) d) → ReachesAt d start new after
  reaches_next after e same =
      let byte = at_byte d next 44 e (λ z. omega (arith, z)) in
      let is : rest ≡ punctuate after_comma (lex between (drop after d)) = ap (λ xs. punctuate after_value (lex between xs)) byte.1 ∙ comma_tokens (drop (next + 1) d) ∙ ap (punctuate after_comma) (sym same) in record {
        place = after_comma;
        begins = refl;
        reached = subst (Reaches (tokens_from d start) new) is (reaches_rest 44 (drop (next + 1) d) (inl refl) byte.1);
        good = member.good reach.good;
      }

  -- a closing brace, and blanks up to the end
  pub reaches_end : (after : ℕ) → get_or d next 32 ≡ 125 → lex between (drop after d) ≡ lex between (drop (next + 1) d) → length d ≤ after → IsObject d start new
  reaches_end after e same over =
      let byte = at_byte d next 125 e (λ z. omega (arith, z)) in
      let is : rest ≡ Token.end_object ∷ [] = ap (λ xs. punctuate after_value (lex between xs)) byte.1 ∙ closing_tokens (drop (next + 1) d) (sym same ∙ ap (lex between) (drop_all after d over)) in
      let found = ends (tokens_from d start) rest [] new (reaches_rest 125 (drop (next + 1) d) (inr refl) byte.1) (ap read_key is) in record {
        members = found.0;
        are = found.1;
        reading = found.2;
        good = member.good reach.good;
      }

-- the whole text
pub whole_object : (d : List ℕ) (start : ℕ) (f : FlatMembers) → get_or d 0 32 ≡ 123 → lex between (drop start d) ≡ lex between (drop 1 d) → IsObject d start f → (ms : Members) × AreMembers f ms × (read d ≡ Some (object ms))
whole_object d start f e same o =
    let byte = at_byte d 0 123 e (λ z. omega (arith, z)) in
    let is : tokens d ≡ Token.begin_object ∷ tokens_from d start = ap (λ xs. punctuate fresh (lex between xs)) byte.1 ∙ opening_tokens (drop 1 d) ∙ ap (λ ls. Token.begin_object ∷ punctuate fresh ls) (sym same) in
    (o.members, o.are, flat_read d (tokens_from d start) o.members is o.reading)

pub some_object : (d : List ℕ) (start : ℕ) → get_or d 0 32 ≡ 123 → lex between (drop start d) ≡ lex between (drop 1 d) → (r : Option FlatMembers) → IfSome r (IsObject d start)
    → IfSome r (λ f. (ms : Members) × AreMembers f ms × (read d ≡ Some (object ms)))
some_object d start e same None o = tt
some_object d start e same (Some f) o = whole_object d start f e same o
