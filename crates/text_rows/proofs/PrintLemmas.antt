-- Printing one text after another.
use Rattle.std.proofs.Common.{◌≡◌, ℕ, ◌+◌, ◌-◌, ◌≤◌, ◌<◌, min, List, [], ◌∷◌, ◌++◌, length, take, drop, get_or, map, Option, arith, sym, ◌∙◌, ap, append_assoc}
use Rattle.std.proofs.Math.Seq.{take-add}
use Rattle.std.proofs.lemmas.List.{append-nil, length-append, take_all, take-append-le, drop-append-le, drop-drop, length-drop, take_min, drop_all}
use Rattle.std.specs.Prelude.{Result, Ok, Err}
use Rattle.std.specs.List.{flat_map, join_with_byte}
use Rattle.std.specs.Io.KnownBytes.{append_known}
use Rattle.mystery_io.specs.Prefixes.{AppendsPrefix}
use Rattle.std.proofs.lemmas.List.{flat_map_more, take_more, drop_more, take-append-drop}
use Rattle.std.proofs.lemmas.Grind.{flat_map-append}
use Rattle.mystery_io.proofs.KnownLemmas.{known_append_twice, append_nothing}
use Rattle.text_rows.specs.Fields.{field_text}
use Rattle.text_rows.specs.Printing.{Prints, PrintsText, print_faults}
use Rattle.text_rows.specs.declared.print_fault.PrintFault.{PrintFault}
use Rattle.text_rows.specs.declared.field.Field.{Field}

-- the first c bytes of xs, and then the first d of what is left and of t
taken : (c d : ℕ) (xs t : List ℕ) → c ≤ length xs → take c xs ++ take d (drop c xs ++ t) ≡ take (c + d) (xs ++ t)
taken c d xs t le = sym (take-add c d (xs ++ t) ∙ ap (λ a. a ++ take d (drop c (xs ++ t))) (take-append-le c xs t le) ∙ ap (λ a. take c xs ++ take d a) (drop-append-le c xs t le))

left : (c d : ℕ) (xs t : List ℕ) → c ≤ length xs → drop d (drop c xs ++ t) ≡ drop (c + d) (xs ++ t)
left c d xs t le = ap (drop d) (sym (drop-append-le c xs t le)) ∙ drop-drop d c (xs ++ t)

-- what was written of the one text and of the other is a prefix of both
written_more : (before mid now : Option (List ℕ)) (waited between a b : List ℕ) (c d : ℕ) → c ≤ length (waited ++ a) → between ≡ drop c (waited ++ a) → mid ≡ append_known before (take c (waited ++ a)) → now ≡ append_known mid (take d (between ++ b))
    → now ≡ append_known before (take (c + d) ((waited ++ a) ++ b))
written_more before mid now waited between a b c d le e m n =
    n ∙ ap (λ t. append_known mid (take d (t ++ b))) e ∙ ap (λ w. append_known w (take d (drop c (waited ++ a) ++ b))) m
    ∙ known_append_twice before (take c (waited ++ a)) (take d (drop c (waited ++ a) ++ b)) ∙ ap (append_known before) (taken c d (waited ++ a) b le)

-- a text and then another are printed as both
pub prints_more : (before mid now : Option (List ℕ)) (waited between waits a b : List ℕ) → Prints before mid waited between a → Prints mid now between waits b → Prints before now waited waits (a ++ b)
prints_more before mid now waited between waits a b p q =
    let both : (waited ++ a) ++ b ≡ waited ++ (a ++ b) = append_assoc waited a b in
    record {
      count = p.count + q.count;
      within = omega (arith, p.within, q.within, ap length p.rest, ap length both, length-append between b, length-append (waited ++ a) b, length-drop p.count (waited ++ a));
      written = written_more before mid now waited between a b p.count q.count p.within p.rest p.written q.written ∙ ap (λ t. append_known before (take (p.count + q.count) t)) both;
      rest = q.rest ∙ ap (λ t. drop q.count (t ++ b)) p.rest ∙ left p.count q.count (waited ++ a) b p.within ∙ ap (drop (p.count + q.count)) both;
    }

-- what was written of a text and of a part of the next is a prefix of any text that goes on so
pub prefix_more : (before mid now : Option (List ℕ)) (waited between a b c : List ℕ) → Prints before mid waited between a → AppendsPrefix mid now (between ++ b) → AppendsPrefix before now (waited ++ (a ++ (b ++ c)))
prefix_more before mid now waited between a b c p f =
    let n : ℕ = min f.count (length (between ++ b)) in
    let short : take f.count (between ++ b) ≡ take n (between ++ b) = sym (take_min f.count (between ++ b)) in
    let few : p.count + n ≤ length ((waited ++ a) ++ b) = omega (arith, p.within, ap length p.rest, length-append between b, length-append (waited ++ a) b, length-drop p.count (waited ++ a)) in
    let all : ((waited ++ a) ++ b) ++ c ≡ waited ++ (a ++ (b ++ c)) = append_assoc (waited ++ a) b c ∙ append_assoc waited a (b ++ c) in
    record {
      count = p.count + n;
      appended = written_more before mid now waited between a b p.count n p.within p.rest p.written (f.appended ∙ ap (append_known mid) short)
          ∙ ap (append_known before) (sym (take-append-le (p.count + n) ((waited ++ a) ++ b) c few)) ∙ ap (λ t. append_known before (take (p.count + n) t)) all;
    }

-- nothing is printed as no text
pub prints_nothing : (before : Option (List ℕ)) (waits : List ℕ) → Prints before before waits waits []
prints_nothing before waits = record {
  count = 0;
  within = omega arith;
  written = sym (append_nothing before);
  rest = sym (append-nil waits);
}

-- the fields of a row, each but the first behind a tab
joined : (first : Field) (fields : List Field) → join_with_byte 9 (map field_text (first ∷ fields)) ≡ field_text first ++ flat_map (λ f. 9 ∷ field_text f) fields
joined first [] = sym (append-nil (field_text first))
joined first (next ∷ fields) = ap (λ t. field_text first ++ (9 ∷ t)) (joined next fields)

-- the first field, and then the others
pub joined_from : (fields : List Field) (d : Field) (old mid new : List ℕ) → 1 ≤ length fields → mid ≡ old ++ field_text (get_or fields 0 d) → new ≡ mid ++ flat_map (λ f. 9 ∷ field_text f) (take (length fields - 1) (drop 1 fields))
    → new ≡ old ++ join_with_byte 9 (map field_text fields)
joined_from [] d old mid new le e f = absurd (omega (arith, le))
joined_from (first ∷ fields) d old mid new le e f =
    let all : take (length (first ∷ fields) - 1) fields ≡ fields = take_all (length (first ∷ fields) - 1) fields (omega arith) in
    f ∙ ap (λ fs. mid ++ flat_map (λ g. 9 ∷ field_text g) fs) all ∙ ap (λ t. t ++ flat_map (λ g. 9 ∷ field_text g) fields) e
    ∙ append_assoc old (field_text first) (flat_map (λ g. 9 ∷ field_text g) fields) ∙ ap (λ t. old ++ t) (sym (joined first fields))

-- one row more of a list of rows
pub prints_next : {X : Type 0} (row : X → List ℕ) (xs : List X) (i : ℕ) (x : X) (before mid now : Option (List ℕ)) (waited between waits : List ℕ) → i < length xs → x ≡ get_or xs i x → Prints before mid waited between (flat_map row (take i xs))
    → Prints mid now between waits (row x) → Prints before now waited waits (flat_map row (take (i + 1) xs))
prints_next row xs i x before mid now waited between waits lt is p q =
    let more : flat_map row (take i xs) ++ row x ≡ flat_map row (take (i + 1) xs) =
    flat_map_more row [] (take i xs) x ∙ ap (flat_map row) (sym (take_more xs i x lt ∙ ap (λ y. take i xs ++ y ∷ []) (sym is))) in
    rw (← more) (prints_more before mid now waited between waits (flat_map row (take i xs)) (row x) p q)

pub prints_all : {X : Type 0} (row : X → List ℕ) (xs : List X) (i : ℕ) (before now : Option (List ℕ)) (waited waits : List ℕ) → length xs ≤ i → Prints before now waited waits (flat_map row (take i xs)) → Prints before now waited waits (flat_map row xs)
prints_all row xs i before now waited waits le p = rw (← take_all i xs le) p

-- a row that was not printed to its end leaves a prefix of all rows
pub prefix_next : {X : Type 0} (row : X → List ℕ) (xs : List X) (i : ℕ) (x : X) (before mid now : Option (List ℕ)) (waited between : List ℕ) → i < length xs → x ≡ get_or xs i x → Prints before mid waited between (flat_map row (take i xs))
    → AppendsPrefix mid now (between ++ row x) → AppendsPrefix before now (waited ++ flat_map row xs)
prefix_next {X} row xs i x before mid now waited between lt is p f =
    let rest : flat_map row (drop i xs) ≡ row x ++ flat_map row (drop (i + 1) xs) = ap (flat_map row) (drop_more xs i x lt) ∙ ap (λ (y : X). row y ++ flat_map row (drop (i + 1) xs)) (sym is) in
    let all : flat_map row (take i xs) ++ (row x ++ flat_map row (drop (i + 1) xs)) ≡ flat_map row xs =
    ap (λ t. flat_map row (take i xs) ++ t) (sym rest) ∙ sym (flat_map-append row (take i xs) (drop i xs)) ∙ ap (flat_map row) (take-append-drop i xs) in
    rw (← all) (prefix_more before mid now waited between (flat_map row (take i xs)) (row x) (flat_map row (drop (i + 1) xs)) p f)

-- a prefix of a text is one of a longer text
pub prefix_longer : (before now : Option (List ℕ)) (waited a b : List ℕ) → AppendsPrefix before now (waited ++ a) → AppendsPrefix before now (waited ++ (a ++ b))
prefix_longer before now waited a b f = prefix_more before before now waited waited [] a b (prints_nothing before waited) f

-- a text that was printed, and then a prefix of another
pub prefix_after : (before mid now : Option (List ℕ)) (waited between a b : List ℕ) → Prints before mid waited between a → AppendsPrefix mid now (between ++ b) → AppendsPrefix before now (waited ++ (a ++ b))
prefix_after before mid now waited between a b p f = rw (← append-nil b) (prefix_more before mid now waited between a b [] p f)

-- a flushed buffer was printed, and no text after it
pub prints_flushed : (before mid : Option (List ℕ)) (held : List ℕ) → mid ≡ append_known before held → Prints before mid held [] []
prints_flushed before mid held flushed = record {
  count = length held;
  within = omega (arith, length-append held []);
  written = flushed ∙ ap (append_known before) (sym (take_all (length held) (held ++ []) (omega (arith, length-append held [])) ∙ append-nil held));
  rest = sym (drop_all (length held) (held ++ []) (omega (arith, length-append held [])));
}

-- a prefix of what the buffer held is one of that and a text
pub prefix_held : (before now : Option (List ℕ)) (held text : List ℕ) → AppendsPrefix before now held → AppendsPrefix before now (held ++ text)
prefix_held before now held text f = prefix_longer before now held [] text (rw (append-nil held) f)

-- a text of which a prefix was written as it was flushed
pub prefix_flushed : (before mid now : Option (List ℕ)) (between a : List ℕ) → Prints before mid [] between a → AppendsPrefix mid now between → AppendsPrefix before now a
prefix_flushed before mid now between a p f = rw (← append-nil a) (prefix_after before mid now [] between a [] p (rw (append-nil between) f))

-- what the buffer holds after a text was printed, and what was written, are the whole text
whole : (c : ℕ) (before : Option (List ℕ)) (a : List ℕ) → append_known (append_known before (take c a)) (drop c a) ≡ append_known before a
whole c before a = known_append_twice before (take c a) (drop c a) ∙ ap (append_known before) (take-append-drop c a)

-- a text that was printed and flushed was written
pub flushed_all : (before mid now : Option (List ℕ)) (between a : List ℕ) → Prints before mid [] between a → now ≡ append_known mid between → now ≡ append_known before a
flushed_all before mid now between a p e =
    e ∙ ap (λ w. append_known w between) p.written ∙ ap (append_known (append_known before (take p.count a))) p.rest ∙ whole p.count before a

-- a call that a fault stopped after others had met none
pub prints_part : {S T : Type 0} (written : S → Option (List ℕ)) (faults : S → ℕ) (e : PrintFault) (old mid new : S) (held holds text : List ℕ) → faults mid ≡ faults old → faults new ≡ print_faults {T = T} (Err e) (faults mid)
    → AppendsPrefix (written old) (written new) (held ++ text) → PrintsText {T = T} written faults (Err e) old new held holds text
prints_part {T = T} written faults e old mid new held holds text same counted prefix = record { all = tt; prefix = prefix; counted = counted ∙ ap (print_faults {T = T} (Err e)) same }

-- two calls, the second with any result
pub text_after : {S T : Type 0} (written : S → Option (List ℕ)) (faults : S → ℕ) (done : T) (result : Result T PrintFault) (old mid new : S) (held between holds a b : List ℕ) → PrintsText written faults (Ok done) old mid held between a → PrintsText written faults result mid new between holds b
    → PrintsText written faults result old new held holds (a ++ b)
text_after written faults done (Ok x) old mid new held between holds a b p q = record {
  all = prints_more (written old) (written mid) (written new) held between holds a b p.all q.all;
  prefix = tt;
  counted = q.counted ∙ p.counted;
}
text_after {S} {T} written faults done (Err e) old mid new held between holds a b p q = record {
  all = tt;
  prefix = prefix_after (written old) (written mid) (written new) held between a b p.all q.prefix;
  counted = q.counted ∙ ap (print_faults {T = T} (Err e)) p.counted;
}

-- a call that was stopped in a text
pub text_longer : {S T : Type 0} (written : S → Option (List ℕ)) (faults : S → ℕ) (e : PrintFault) (old new : S) (held between holds a b : List ℕ) → PrintsText {T = T} written faults (Err e) old new held between a → PrintsText {T = T} written faults (Err e) old new held holds (a ++ b)
text_longer written faults e old new held between holds a b p = record {
  all = tt;
  prefix = prefix_longer (written old) (written new) held a b p.prefix;
  counted = p.counted;
}
