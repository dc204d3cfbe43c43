-- What tables that were read give together, and texts that are cut short.
use Rattle.std.proofs.Common.{◌≡◌, ℕ, ◌+◌, ◌<◌, ◌≤◌, List, [], ◌∷◌, ◌++◌, length, map, take, drop, Result, Ok, Err, Some, None, refl, sym, ap, ◌∙◌, subst, arith}
use Rattle.std.specs.Prelude.{All, Contains}
use Rattle.std.specs.List.{AllZip, flat_map}
use Rattle.std.proofs.lemmas.List.{append-nil, append_assoc, length-append, length-drop, take-append-drop}
use Rattle.std.proofs.lemmas.List.Elements.{All-head, All-nil, All-tail, All-cons}
use Rattle.trace_types.specs.Segments.{SegmentName}
use Rattle.certificates.specs.Claims.{name_of_texts, text_of}
use Rattle.digest_facts.specs.Digests.{Digest, empty_digest}
use Rattle.digest_facts.specs.Tables.{Table}
use Rattle.digest_facts.specs.Texts.{digest_text}
use Rattle.digest_facts.proofs.UnionLemmas.{nil_has}
use Rattle.digest_merging.specs.Limits.{limit_passed}
use Rattle.digest_merging.specs.Merges.{IsGivenBy, IsTableOf, merged_of}
use Rattle.digest_merging.proofs.AllLemmas.{IsSound, all_sound, empty_sound, one_given, small_right}
use Rattle.digest_reading.specs.DigestRows.{latest_day}
use Rattle.digest_reading.specs.Readings.{Read, digest_said, digests_said}
use Rattle.digest_laws.specs.ReadableDigests.{IsReadable}
use Rattle.digest_laws.specs.ReadingLaws.{AreTextsOfDigests, CutTextsAreRefused, MergeOfAllIsReadable, PrintedDigestIsRead, WhatIsReadGivesADigest, table_by_text}
use Rattle.digest_laws.proofs.AcceptedLemmas.{table_accepted}
use Rattle.digest_laws.proofs.LawLemmas.{digests_read, read_digests}
use Rattle.digest_laws.proofs.MergedLemmas.{merged_readable}
use Rattle.digest_laws.proofs.WholeLemmas.{table_read}

abbrev D : Type 0
D = Digest SegmentName (List ℕ)

abbrev U : Type 0
U = Table SegmentName (List ℕ)

-- the table of a digest that can be read
pub is_table : (s : D) → IsReadable s → IsTableOf s (table_by_text s)
is_table s h = record {
  coherent = h.coherent;
  tasks = λ task. ((λ c. h.named task c), (λ n. subst (λ (t : List ℕ). Contains s.tasks t) n.2 (h.listed n.0 n.1)));
  table = refl;
}

are_tables : (ss : List D) → All IsReadable ss → AllZip IsTableOf ss (map table_by_text ss)
are_tables [] h = tt
are_tables (s ∷ ss) h = (is_table s (All-head IsReadable s ss h), are_tables ss (All-tail IsReadable s ss h))

gives : (bytes : List ℕ) (us : List U) (told : digests_said bytes ≡ Ok us) → IsGivenBy us (merged_of (read_digests bytes us told).digests)
gives bytes us told =
    let back = read_digests bytes us told in
    record {
      digests = back.digests;
      tables = subst (λ (l : List U). AllZip IsTableOf back.digests l) (sym back.tables) (are_tables back.digests back.readable);
      merge = refl;
    }

pub gives_one : WhatIsReadGivesADigest
gives_one bytes us told = (merged_of (read_digests bytes us told).digests, gives bytes us told)

-- ---- the merge of all can be read
empty_readable : IsReadable empty_digest
empty_readable = record {
  coherent = empty_sound.coherent;
  task_texts = All-nil (λ t. text_of t ≡ Some t);
  name_texts = All-nil (λ n. name_of_texts n.0 n.1 n.2 ≡ Some n);
  listed = λ name c. absurd (nil_has name c);
  named = λ task c. absurd (nil_has task c);
  possible = refl;
  traces = omega arith;
  days = All-nil (λ d. d ≤ latest_day);
}

all_readable : (ss : List D) → All IsReadable ss → limit_passed (merged_of ss) ≡ None → IsReadable (merged_of ss)
all_readable [] h few = empty_readable
all_readable (s ∷ ss) h few =
    let first : IsReadable s = All-head IsReadable s ss h in
    let rest : All IsReadable ss = All-tail IsReadable s ss h in
    let sound : IsSound (merged_of ss) = all_sound ss (map table_by_text ss) (are_tables ss rest) in
    let t = is_table s first in
    let more : limit_passed (merged_of ss) ≡ None = small_right s (merged_of ss) (record { coherent = t.coherent; tasks = t.tasks }) sound few in
    merged_readable s (merged_of ss) first (all_readable ss rest more) few

pub merge_of_all : MergeOfAllIsReadable
merge_of_all bytes us given told g few =
    let back = read_digests bytes us told in
    let same : given ≡ merged_of back.digests = one_given us given (merged_of back.digests) g (gives bytes us told) in
    subst IsReadable (sym same) (all_readable back.digests back.readable (ap limit_passed (sym same) ∙ few))

-- ---- one text
pub printed_read : PrintedDigestIsRead
printed_read s h = ap digests_said (sym (append-nil (digest_text s))) ∙ digests_read (s ∷ []) (omega arith) (All-cons IsReadable s [] h (All-nil IsReadable))

left_in : Result (Read U) ℕ → List ℕ
left_in (Ok r) = r.left
left_in (Err n) = []

-- a text of a digest that begins with that of another is it
pub no_rest : (s t : D) (rest : List ℕ) → IsReadable s → IsReadable t → digest_text s ≡ digest_text t ++ rest → rest ≡ []
unfolding left_in
no_rest s t rest h k e =
    let a = table_read (table_by_text s) 1 [] (table_accepted s h) in
    let b = table_read (table_by_text t) 1 rest (table_accepted t k) in
    let same = sym b.said ∙ ap (digest_said 1) (sym e ∙ sym (append-nil (digest_text s))) ∙ a.said in
    ap left_in same

pub cut_refused : CutTextsAreRefused
cut_refused s count h lt us told = by back.digests back.some back.readable back.text
  where
    back : AreTextsOfDigests (take count (digest_text s)) us
    back = read_digests (take count (digest_text s)) us told

    by : (ds : List D) → 0 < length ds → All IsReadable ds → take count (digest_text s) ≡ flat_map digest_text ds → ⊥
    by [] some readable text = absurd (omega (arith, some))
    by (t ∷ ts) some readable text =
        let rest : List ℕ = flat_map digest_text ts ++ drop count (digest_text s) in
        let whole : digest_text s ≡ digest_text t ++ rest = sym (take-append-drop count (digest_text s)) ∙ ap (λ (l : List ℕ). l ++ drop count (digest_text s)) text ∙ append_assoc (digest_text t) (flat_map digest_text ts) (drop count (digest_text s)) in
        let none : rest ≡ [] = no_rest s t rest h (All-head IsReadable t ts readable) whole in
        let long : length rest ≡ length (flat_map digest_text ts) + length (drop count (digest_text s)) = length-append (flat_map digest_text ts) (drop count (digest_text s)) in
        absurd (omega (arith, lt, long, ap (λ (l : List ℕ). length l) none, length-drop count (digest_text s)))
