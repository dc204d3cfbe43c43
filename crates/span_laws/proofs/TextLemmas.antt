-- Texts that a line may have.
use Rattle.std.proofs.Common.{◌≡◌, ℕ, zero, suc, ◌<◌, ◌≤◌, ◌==◌, List, [], ◌∷◌, ◌++◌, Bool, true, false, cond, ◌||◌, codes, length, get_or, nat_lt, refl, sym, subst, arith, le-ltb, ne_eqb}
use Rattle.std.specs.List.{All, list_any}
use Rattle.std.proofs.lemmas.Bool.{or_from}
use Rattle.std.proofs.lemmas.List.{length-append}
use Rattle.std.proofs.lemmas.Str.{IsUtf8-from_ascii}
use Rattle.event_lines.specs.EventFaults.{is_control_character}
use Rattle.name_laws.proofs.BaseLemmas.{not_control}
use Rattle.name_laws.specs.GoodNames.{IsLineText}
use Rattle.span_types.specs.declared.span.Span.{Span}
use Rattle.span_lines.specs.Requests.{is_first_entry, name_of_request}
use Rattle.span_laws.specs.GoodLines.{IsGiven}
use Rattle.span_laws.proofs.ApartLemmas.{Every}
use Rattle.span_laws.proofs.OrderLemmas.{dotted}

-- characters of ASCII that are printed
abbrev pub ArePrinted : List ℕ → Type 0
ArePrinted text = Every (λ c. (33 ≤ c) × (c ≤ 126)) text

ascii : (text : List ℕ) → ArePrinted text → (i : ℕ) → get_or text i 0 < 128
ascii [] h i = omega arith
ascii (c ∷ text) h zero = let l = h.0.1 in omega (arith, l)
ascii (c ∷ text) h (suc i) = ascii text h.1 i

clean : (text : List ℕ) → ArePrinted text → list_any is_control_character text ≡ false
clean [] h = refl
clean (c ∷ text) h = or_from (is_control_character c) (list_any is_control_character text) (not_control c (let l = h.0.0 in omega (arith, l)) h.0.1) (clean text h.1)

pub printed_good : (text : List ℕ) → 0 < length text → length text ≤ 64 → ArePrinted text → IsLineText text
printed_good text some few h = record {
  utf8 = IsUtf8-from_ascii text (ascii text h);
  good = or_from (length text == 0 || nat_lt 64 (length text)) (list_any is_control_character text)
      (or_from (length text == 0) (nat_lt 64 (length text)) (ne_eqb (length text) 0 (λ e. omega (arith, e, some))) (le-ltb 64 (length text) few)) (clean text h);
}

printed_append : (xs ys : List ℕ) → ArePrinted xs → ArePrinted ys → ArePrinted (xs ++ ys)
printed_append [] ys s t = t
printed_append (x ∷ xs) ys s t = (s.0, printed_append xs ys s.1 t)

id_printed : (text : List ℕ) → All (λ c. (48 ≤ c) × (c ≤ 122)) text → ArePrinted text
id_printed [] h = tt
id_printed (c ∷ text) h = let b = h 0 0 (omega arith) in let x = b.0 in let y = b.1 in ((omega (arith, x), omega (arith, y)), id_printed text (λ k d l. h (suc k) d (omega (arith, l))))

-- the message of a call
pub message_good : (s : Span) → IsGiven s → (sign : ℕ) → 33 ≤ sign → sign ≤ 126 → IsLineText (s.id ++ sign ∷ [])
message_good s g sign low high =
    let n = length-append s.id (sign ∷ []) in
    let a = g.id.some in
    let b = g.id.few in
    printed_good (s.id ++ sign ∷ []) (omega (arith, n)) (omega (arith, n, b)) (printed_append s.id (sign ∷ []) (id_printed s.id g.id.bytes) ((low, high), tt))

-- the name of a request
pub request_good : (entries : List Span) (s : Span) → IsGiven s → IsLineText (name_of_request entries s)
request_good entries s g = by (is_first_entry entries s)
  where
    by : (b : Bool) → IsLineText (cond b s.trace (s.trace ++ codes "." ++ s.id))
    by true = let a = g.trace.some in let b = g.trace.few in printed_good s.trace a (omega (arith, b)) (id_printed s.trace g.trace.bytes)
    by false =
        let n = length-append s.trace (46 ∷ s.id) in
        let a = g.trace.some in
        let b = g.trace.few in
        let c = g.id.few in
        subst IsLineText (sym (dotted s.trace s.id)) (printed_good (s.trace ++ 46 ∷ s.id) (omega (arith, n, a)) (omega (arith, n, b, c))
        (printed_append s.trace (46 ∷ s.id) (id_printed s.trace g.trace.bytes) ((omega arith, omega arith), id_printed s.id g.id.bytes)))
