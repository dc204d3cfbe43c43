-- What is printed of a digest has fields without tabs and line feeds.
use Rattle.std.proofs.Common.{◌≡◌, ℕ, suc, ◌^◌, ◌<◌, ◌≤◌, ◌==◌, Bool, true, false, List, [], ◌∷◌, ◌++◌, length, map, refl, sym, ap, subst, arith, rules, codes, decimal}
use Rattle.std.specs.Prelude.{All, nat_le}
use Rattle.std.specs.Char.{is_ascii_digit}
use Rattle.std.specs.Cmp.Lexicographic.{slice_cmp}
use Rattle.std.specs.List.{list_all, list_any}
use Rattle.std.specs.Ordering.{nat_cmp}
use Rattle.std.specs.Str.Parse.{digits_value}
use Rattle.std.proofs.lemmas.Bool.{and_parts, leb-true, ne_eqb, or_parts}
use Rattle.std.proofs.lemmas.Fmt.{digits_decimal}
use Rattle.std.proofs.lemmas.List.Elements.{All-append, All-cons, All-head, All-nil, All-tail}
use Rattle.std.proofs.lemmas.Str.Parse.{IsNumeralModel, numerals_by_value}
use Rattle.trace_types.specs.NameOrder.{name_cmp, pair_cmp}
use Rattle.trace_types.specs.Segments.{SegmentName}
use Rattle.digest_facts.specs.Digests.{Digest}
use Rattle.digest_facts.specs.Tables.{has, name_byte, pair_byte, rows_from, table_of, task_byte}
use Rattle.text_rows.specs.Rows.{figure}
use Rattle.digest_facts.specs.Texts.{HasFields, IsPrintable, IsUnbroken, IsUnbrokenName, DigestTextsTellApart, day_fields, header_fields, name_fields, rows_below, task_fields}
use Rattle.digest_facts.proofs.MergeLemmas.{name_apart, text_apart}
use Rattle.digest_facts.proofs.TableLemmas.{tables_tell_apart}
use Rattle.digest_facts.proofs.TextLemmas.{texts_tell_apart}

-- ---- bytes that a list lacks
none_any : (c : ℕ) (bytes : List ℕ) → list_any (λ b. b == c) bytes ≡ false → All (λ b. (b == c) ≡ false) bytes
none_any c [] h = All-nil (λ b. (b == c) ≡ false)
none_any c (b ∷ bytes) h =
    let p = or_parts (b == c) (list_any (λ x. x == c) bytes) h in
    All-cons (λ x. (x == c) ≡ false) b bytes p.0 (none_any c bytes p.1)

word_whole : (bytes : List ℕ) → list_any (λ b. b == 9) bytes ≡ false → list_any (λ b. b == 10) bytes ≡ false → IsUnbroken bytes
word_whole bytes h k = (none_any 9 bytes h, none_any 10 bytes k)

both_whole : (xs ys : List ℕ) → IsUnbroken xs → IsUnbroken ys → IsUnbroken (xs ++ ys)
both_whole xs ys h k = (All-append (λ b. (b == 9) ≡ false) xs ys h.0 k.0, All-append (λ b. (b == 10) ≡ false) xs ys h.1 k.1)

own : IsNumeralModel (λ ds. list_all is_ascii_digit ds ≡ true) (digits_value 10)
own = numerals_by_value (λ ds. list_all is_ascii_digit ds ≡ true) (search rules)

digit_other : (b c : ℕ) → c < 48 → is_ascii_digit b ≡ true → (b == c) ≡ false
digit_other b c l h =
    let p = and_parts (nat_le 48 b) (nat_le b 57) h in
    let low : 48 ≤ b = leb-true 48 b p.0 in
    ne_eqb b c (λ e. omega arith)

digits_other : (c : ℕ) → c < 48 → (ds : List ℕ) → list_all is_ascii_digit ds ≡ true → All (λ b. (b == c) ≡ false) ds
digits_other c l [] h = All-nil (λ b. (b == c) ≡ false)
digits_other c l (b ∷ ds) h =
    let p = and_parts (is_ascii_digit b) (list_all is_ascii_digit ds) h in
    All-cons (λ b. (b == c) ≡ false) b ds (digit_other b c l p.0) (digits_other c l ds p.1)

number_whole : (n : ℕ) → n < 2 ^ 64 → IsUnbroken (decimal n)
number_whole n h = (digits_other 9 (omega arith) (decimal n) (digits_decimal own n h), digits_other 10 (omega arith) (decimal n) (digits_decimal own n h))

-- ---- bytes of pairs
pair_other : (t b a e : Bool) → ((pair_byte t b a e == 9) ≡ false) × ((pair_byte t b a e == 10) ≡ false)
pair_other false b a e = (refl, refl)
pair_other true false false false = (refl, refl)
pair_other true false false true = (refl, refl)
pair_other true false true false = (refl, refl)
pair_other true false true true = (refl, refl)
pair_other true true false false = (refl, refl)
pair_other true true false true = (refl, refl)
pair_other true true true false = (refl, refl)
pair_other true true true true = (refl, refl)

mapped_whole : {X : Type 0} (f : X → ℕ) → ((x : X) → ((f x == 9) ≡ false) × ((f x == 10) ≡ false)) → (xs : List X) → IsUnbroken (map f xs)
mapped_whole f h [] = (All-nil (λ b. (b == 9) ≡ false), All-nil (λ b. (b == 10) ≡ false))
mapped_whole f h (x ∷ xs) =
    let more = mapped_whole f h xs in
    (All-cons (λ b. (b == 9) ≡ false) (f x) (map f xs) (h x).0 more.0, All-cons (λ b. (b == 10) ≡ false) (f x) (map f xs) (h x).1 more.1)

rows_whole : {X : Type 0} (P : X → Type 0) (byte : X → X → ℕ) → ((a b : X) → ((byte a b == 9) ≡ false) × ((byte a b == 10) ≡ false)) → (earlier xs : List X) → All P xs → All (λ (r : X × List ℕ). P r.0 × IsUnbroken r.1) (rows_from byte earlier xs)
rows_whole {X} P byte h earlier [] p = All-nil (λ (r : X × List ℕ). P r.0 × IsUnbroken r.1)
rows_whole {X} P byte h earlier (x ∷ xs) p =
    All-cons (λ (r : X × List ℕ). P r.0 × IsUnbroken r.1) (x, map (λ a. byte a x) earlier) (rows_from byte (earlier ++ x ∷ []) xs)
    (All-head P x xs p, mapped_whole (λ a. byte a x) (λ a. h a x) earlier) (rows_whole P byte h (earlier ++ x ∷ []) xs (All-tail P x xs p))

-- ---- fields of rows
all_mapped : {X Y : Type 0} (P : X → Type 0) (Q : Y → Type 0) (f : X → Y) → ((x : X) → P x → Q (f x)) → (xs : List X) → All P xs → All Q (map f xs)
all_mapped P Q f h [] p = All-nil Q
all_mapped P Q f h (x ∷ xs) p = All-cons Q (f x) (map f xs) (h x (All-head P x xs p)) (all_mapped P Q f h xs (All-tail P x xs p))

two : (a b : List ℕ) → IsUnbroken a → IsUnbroken b → All IsUnbroken (a ∷ b ∷ [])
two a b p q = All-cons IsUnbroken a (b ∷ []) p (All-cons IsUnbroken b [] q (All-nil IsUnbroken))

three : (a b c : List ℕ) → IsUnbroken a → IsUnbroken b → IsUnbroken c → All IsUnbroken (a ∷ b ∷ c ∷ [])
three a b c p q r = All-cons IsUnbroken a (b ∷ c ∷ []) p (two b c q r)

five : (a b c d e : List ℕ) → IsUnbroken a → IsUnbroken b → IsUnbroken c → IsUnbroken d → IsUnbroken e → All IsUnbroken (a ∷ b ∷ c ∷ d ∷ e ∷ [])
five a b c d e p q r s t = All-cons IsUnbroken a (b ∷ c ∷ d ∷ e ∷ []) p (All-cons IsUnbroken b (c ∷ d ∷ e ∷ []) q (three c d e r s t))

figure_whole : (name : List ℕ) (n : ℕ) → IsUnbroken name → n < 2 ^ 64 → IsUnbroken (figure name n)
figure_whole name n h l = both_whole (name ++ codes "=") (decimal n) (both_whole name (codes "=") h (word_whole (codes "=") refl refl)) (number_whole n l)

rows_count : {X : Type 0} (byte : X → X → ℕ) (earlier xs : List X) → length (rows_from byte earlier xs) ≡ length xs
rows_count byte earlier [] = refl
rows_count byte earlier (x ∷ xs) = ap suc (rows_count byte (earlier ++ x ∷ []) xs)

module _ (s : Digest SegmentName (List ℕ)) where
  name_other : (a b : SegmentName) → ((name_byte name_cmp (slice_cmp nat_cmp) s a b == 9) ≡ false) × ((name_byte name_cmp (slice_cmp nat_cmp) s a b == 10) ≡ false)
  name_other a b = pair_other (has (pair_cmp name_cmp) s.together (a, b)) (has (pair_cmp name_cmp) s.before (a, b)) (has (pair_cmp name_cmp) s.before (b, a)) (has (pair_cmp name_cmp) s.exclusive (a, b))

  task_other : (a b : List ℕ) → ((task_byte name_cmp (slice_cmp nat_cmp) s a b == 9) ≡ false) × ((task_byte name_cmp (slice_cmp nat_cmp) s a b == 10) ≡ false)
  task_other a b = pair_other (has (pair_cmp (slice_cmp nat_cmp)) s.shared (a, b)) (has (pair_cmp (slice_cmp nat_cmp)) s.pipe (a, b)) (has (pair_cmp (slice_cmp nat_cmp)) s.pipe (b, a)) false

  pub printable : HasFields s → IsPrintable (table_of name_cmp (slice_cmp nat_cmp) s)
  printable h =
      let u = table_of name_cmp (slice_cmp nat_cmp) s in
      let tasks = rows_whole IsUnbroken (task_byte name_cmp (slice_cmp nat_cmp) s) task_other [] s.tasks h.tasks in
      let names = rows_whole IsUnbrokenName (name_byte name_cmp (slice_cmp nat_cmp) s) name_other [] s.names h.names in
      let few_tasks : length u.tasks < 2 ^ 64 = subst (λ (n : ℕ). n < 2 ^ 64) (sym (rows_count (task_byte name_cmp (slice_cmp nat_cmp) s) [] s.tasks)) h.few_tasks in
      let few_names : length u.names < 2 ^ 64 = subst (λ (n : ℕ). n < 2 ^ 64) (sym (rows_count (name_byte name_cmp (slice_cmp nat_cmp) s) [] s.names)) h.few_names in
      record {
        fields = All-cons (All IsUnbroken) (header_fields u) (rows_below u)
            (five (codes "summary") (figure (codes "traces") u.traces) (figure (codes "days") (length u.days)) (figure (codes "tasks") (length u.tasks)) (figure (codes "names") (length u.names))
            (word_whole (codes "summary") refl refl)
            (figure_whole (codes "traces") u.traces (word_whole (codes "traces") refl refl) h.traces)
            (figure_whole (codes "days") (length u.days) (word_whole (codes "days") refl refl) h.few_days)
            (figure_whole (codes "tasks") (length u.tasks) (word_whole (codes "tasks") refl refl) few_tasks)
            (figure_whole (codes "names") (length u.names) (word_whole (codes "names") refl refl) few_names))
            (All-append (All IsUnbroken) (map day_fields u.days) (map task_fields u.tasks ++ map name_fields u.names)
            (all_mapped (λ d. d < 2 ^ 64) (All IsUnbroken) day_fields (λ d l. two (codes "day") (decimal d) (word_whole (codes "day") refl refl) (number_whole d l)) u.days h.days)
            (All-append (All IsUnbroken) (map task_fields u.tasks) (map name_fields u.names)
            (all_mapped (λ (r : List ℕ × List ℕ). IsUnbroken r.0 × IsUnbroken r.1) (All IsUnbroken) task_fields (λ r k. three (codes "task") r.0 r.1 (word_whole (codes "task") refl refl) k.0 k.1) u.tasks tasks)
            (all_mapped (λ (r : SegmentName × List ℕ). IsUnbrokenName r.0 × IsUnbroken r.1) (All IsUnbroken) name_fields
            (λ r k. five (codes "name") r.0.0 r.0.1 r.0.2 r.1 (word_whole (codes "name") refl refl) k.0.0 k.0.1 k.0.2 k.1) u.names names)));
        traces = h.traces;
        days = h.days;
      }

pub digest_texts_tell_apart : DigestTextsTellApart
digest_texts_tell_apart s t hs ht fs ft e =
    tables_tell_apart name_cmp (slice_cmp nat_cmp) name_apart text_apart s t hs ht
    (texts_tell_apart (table_of name_cmp (slice_cmp nat_cmp) s) (table_of name_cmp (slice_cmp nat_cmp) t) (printable s fs) (printable t ft) e)
