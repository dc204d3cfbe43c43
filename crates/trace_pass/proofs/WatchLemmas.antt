-- One more watch line, and the lines of several workers.
use Rattle.std.proofs.Common.{◌≡◌, ℕ, zero, suc, ◌+◌, ◌<◌, ◌≤◌, Bool, true, false, cond, List, [], ◌∷◌, ◌++◌, length, get_or, take, map, refl, sym, ap, ap₂, ◌∙◌, subst, append_assoc, length-append, arith}
use Rattle.std.proofs.lemmas.Bool.{and_from, eq-eqb, lt-ltb, or_left, or_right}
use Rattle.std.proofs.lemmas.List.{append-nil, flat_map_more, get_or-append-add, get_or-map, length-map, map-append}
use Rattle.std.proofs.Math.Seq.{take-append_seam}
use Rattle.std.proofs.lemmas.List.Elements.{All-push, filter-append}
use Rattle.std.proofs.lemmas.List.Quantifiers.{all_pairs_push}
use Rattle.std.specs.List.{All, filter, flat_map, range_with_len}
use Rattle.trace_types.specs.declared.named_trace.NamedTrace.{NamedTrace}
use Rattle.word_rows.specs.declared.views.Reading.{Reading}
use Rattle.word_rows.specs.Accounts.{AreZero, lacks}
use Rattle.word_rows.specs.Changes.{readings_from}
use Rattle.word_rows.specs.Meeting.{BlockLacks, LacksAppend}
use Rattle.word_rows.specs.Words.{AreWords, bit_of}
use Rattle.trace_rules.specs.Hypotheses.{IsAtLeastRefuted}
use Rattle.trace_types.specs.Parts.{by_number}
use Rattle.trace_pass.specs.Counts.{zeros}
use Rattle.trace_rules.specs.WatchMarks.{is_multiple, watch_counts}
use Rattle.trace_rules.specs.declared.watch_line.WatchLine.{WatchLine}
use Rattle.trace_pass.specs.inner.Working.{AreLines, AreLinesAfter, IsWatching}
use Rattle.trace_pass.proofs.CountLemmas.{zeros_le}

abbrev number : WatchLine → ℕ
number l = l.refuted

abbrev done_of : WatchLine → ℕ
done_of l = l.done

abbrev block : List ℕ → List Reading
block b = readings_from 0 b

-- ---- after how many traces

range_snoc : (a n : ℕ) → range_with_len a (suc n) ≡ range_with_len a n ++ (a + n) ∷ []
range_snoc a zero = let e : a ≡ a + 0 = omega arith in ap (λ (x : ℕ). x ∷ []) e
range_snoc a (suc n) = let e : (a + 1) + n ≡ a + suc n = omega arith in
    ap (λ (l : List ℕ). a ∷ l) (range_snoc (a + 1) n ∙ ap (λ (x : ℕ). range_with_len (a + 1) n ++ x ∷ []) e)

counts_more : (every n : ℕ) → watch_counts every (n + 1) ≡ watch_counts every n ++ cond (is_multiple every (n + 1)) ((n + 1) ∷ []) []
counts_more every n = let e : n + 1 ≡ suc n = omega arith in let f : 1 + n ≡ n + 1 = omega arith in
    ap (watch_counts every) e ∙ ap (filter (is_multiple every)) (range_snoc 1 n) ∙ filter-append (is_multiple every) (range_with_len 1 n) ((1 + n) ∷ [])
    ∙ ap (λ (m : ℕ). watch_counts every n ++ filter (is_multiple every) (m ∷ [])) f

counts_yes : (every n : ℕ) → is_multiple every (n + 1) ≡ true → watch_counts every (n + 1) ≡ watch_counts every n ++ (n + 1) ∷ []
counts_yes every n h = counts_more every n ∙ ap (λ (b : Bool). watch_counts every n ++ cond b ((n + 1) ∷ []) []) h

counts_no : (every n : ℕ) → is_multiple every (n + 1) ≡ false → watch_counts every (n + 1) ≡ watch_counts every n
counts_no every n h = counts_more every n ∙ ap (λ (b : Bool). watch_counts every n ++ cond b ((n + 1) ∷ []) []) h ∙ append-nil (watch_counts every n)

-- ---- what later readings show

pub lacks_flat : LacksAppend → (blocks : List (List ℕ)) (k i b : ℕ) → k < length blocks → lacks (block (get_or blocks k [])) i b ≡ true → lacks (flat_map (readings_from 0) blocks) i b ≡ true
lacks_flat law [] k i b l h = absurd (omega arith)
lacks_flat law (x ∷ xs) zero i b l h = law (block x) (flat_map (readings_from 0) xs) i b ∙ or_left _ _ h
lacks_flat law (x ∷ xs) (suc k) i b l h = law (block x) (flat_map (readings_from 0) xs) i b ∙ or_right _ _ (lacks_flat law xs k i b (omega arith) h)

blocks_le : LacksAppend → BlockLacks → (base : List Reading) (blocks : List (List ℕ)) (into : List ℕ) (width : ℕ) → All (λ (b : List ℕ). (length b ≡ width) × AreWords b) blocks → length into ≡ width → AreWords into
    → AreZero into (lacks (base ++ flat_map (readings_from 0) blocks)) → (k : ℕ) → k < length blocks → zeros (get_or blocks k []) ≤ zeros into
blocks_le join one base blocks into width wide long bound clear k l =
    let x = get_or blocks k [] in let w = wide k [] l in
    zeros_le x into w.1 bound (long ∙ sym w.0)
    (λ i b li lb e. clear i b (subst (λ (n : ℕ). i < n) (w.0 ∙ sym long) li) lb
    (join base (flat_map (readings_from 0) blocks) i b ∙ or_right _ _ (lacks_flat join blocks k i b l (one x i b ∙ and_from _ _ (lt-ltb i (length x) li) (eq-eqb (bit_of x i b) 0 e)))))

-- ---- lines of one worker

pub no_lines : (every width worker : ℕ) (share : List NamedTrace) → AreLinesAfter every width worker 0 share [] []
no_lines every width worker share = record {
  of_worker = λ k d l. absurd (omega arith);
  counts = refl;
  wide = λ k d l. absurd (omega arith);
  numbers = refl;
  least = λ k d l. absurd (omega arith);
  rising = λ i j d l h. absurd (omega arith);
}

lines_same : (every width worker offered : ℕ) (share : List NamedTrace) (lines : List WatchLine) (blocks : List (List ℕ)) → is_multiple every (offered + 1) ≡ false → AreLinesAfter every width worker offered share lines blocks → AreLinesAfter every width worker (offered + 1) share lines blocks
lines_same every width worker offered share lines blocks off w = record {
  of_worker = w.of_worker;
  counts = w.counts ∙ sym (counts_no every offered off);
  wide = w.wide;
  numbers = w.numbers;
  least = w.least;
  rising = w.rising;
}

lines_more : (every width worker offered : ℕ) (share : List NamedTrace) (lines : List WatchLine) (blocks : List (List ℕ)) (into : List ℕ) (l : WatchLine) → is_multiple every (offered + 1) ≡ true
    → l.worker ≡ worker → l.done ≡ offered + 1 → l.refuted ≡ zeros into → length into ≡ width → AreWords into → IsAtLeastRefuted by_number (take (offered + 1) share) l.refuted
    → ((k : ℕ) → k < length blocks → zeros (get_or blocks k []) ≤ zeros into)
    → AreLinesAfter every width worker offered share lines blocks → AreLinesAfter every width worker (offered + 1) share (lines ++ l ∷ []) (blocks ++ into ∷ [])
lines_more every width worker offered share lines blocks into l due mine at counted long bound least le w = record {
  of_worker = All-push (λ (l : WatchLine). l.worker ≡ worker) lines l w.of_worker mine;
  counts = map-append done_of lines (l ∷ []) ∙ ap₂ (λ (a b : List ℕ). a ++ b) w.counts (ap (λ (n : ℕ). n ∷ []) at) ∙ sym (counts_yes every offered due);
  wide = All-push (λ (b : List ℕ). (length b ≡ width) × AreWords b) blocks into w.wide (long, bound);
  numbers = map-append number lines (l ∷ []) ∙ ap₂ (λ (a b : List ℕ). a ++ b) w.numbers (ap (λ (n : ℕ). n ∷ []) counted) ∙ sym (map-append zeros blocks (into ∷ []));
  least = All-push (λ (l : WatchLine). IsAtLeastRefuted by_number (take l.done share) l.refuted) lines l w.least (subst (λ (n : ℕ). IsAtLeastRefuted by_number (take n share) l.refuted) (sym at) least);
  rising = all_pairs_push (λ (k : WatchLine) (l : WatchLine). k.refuted ≤ l.refuted) lines l w.rising (λ k d h. up k d h);
}
  where
    up : (k : ℕ) (d : WatchLine) → k < length lines → number (get_or lines k d) ≤ l.refuted
    up k d h =
        let same : length (map number lines) ≡ length lines = length-map lines number in
        let other : length (map zeros blocks) ≡ length blocks = length-map blocks zeros in
        let both : length (map number lines) ≡ length (map zeros blocks) = ap length w.numbers in
        let inside : k < length blocks = omega arith in
        let e : number (get_or lines k d) ≡ zeros (get_or blocks k []) = sym (get_or-map number lines k d (number d) h) ∙ ap (λ (ns : List ℕ). get_or ns k (number d)) w.numbers ∙ get_or-map zeros blocks k [] (number d) inside in
        let m : zeros (get_or blocks k []) ≤ zeros into = le k inside in omega arith

-- ---- the recording of one worker

least_part : (xs ys : List NamedTrace) (n : ℕ) → IsAtLeastRefuted by_number (xs ++ ys) n → IsAtLeastRefuted by_number ys n
least_part xs ys n h rs are = h rs (record {
  differ = are.differ;
  refuted = λ k d l. let f = are.refuted k d l in let i : f.0 < length ys = f.2 in let long = length-append xs ys in
      (length xs + f.0, f.1, omega arith, get_or-append-add xs ys f.0 f.1 ∙ f.3, f.4);
})

pub watching_none : (every width worker : ℕ) (share : List NamedTrace) (base : List Reading) → IsWatching every width worker 0 share base base []
watching_none every width worker share base = record { blocks = []; added = sym (append-nil base); so_far = no_lines every width worker share }

pub watching_same : (every width worker offered : ℕ) (share : List NamedTrace) (base readings : List Reading) (lines : List WatchLine) → is_multiple every (offered + 1) ≡ false → IsWatching every width worker offered share base readings lines → IsWatching every width worker (offered + 1) share base readings lines
watching_same every width worker offered share base readings lines off w = record { blocks = w.blocks; added = w.added; so_far = lines_same every width worker offered share lines w.blocks off w.so_far }

pub watching_more : LacksAppend → BlockLacks → (every width worker offered : ℕ) (firsts share traces : List NamedTrace) (base readings : List Reading) (lines : List WatchLine) (into : List ℕ) (l : WatchLine)
    → is_multiple every (offered + 1) ≡ true → traces ≡ firsts ++ take (offered + 1) share
    → l.worker ≡ worker → l.done ≡ offered + 1 → l.refuted ≡ zeros into → length into ≡ width → AreWords into → IsAtLeastRefuted by_number traces l.refuted → AreZero into (lacks readings)
    → IsWatching every width worker offered share base readings lines → IsWatching every width worker (offered + 1) share base (readings ++ readings_from 0 into) (lines ++ l ∷ [])
watching_more join one every width worker offered firsts share traces base readings lines into l due parts mine at counted long bound least clear w = record {
  blocks = w.blocks ++ into ∷ [];
  added = ap (λ (r : List Reading). r ++ block into) w.added ∙ flat_map_more (readings_from 0) base w.blocks into;
  so_far = lines_more every width worker offered share lines w.blocks into l due mine at counted long bound
      (least_part firsts (take (offered + 1) share) l.refuted (subst (λ (ts : List NamedTrace). IsAtLeastRefuted by_number ts l.refuted) parts least))
      (blocks_le join one base w.blocks into width w.so_far.wide long bound (subst (λ (r : List Reading). AreZero into (lacks r)) w.added clear))
      w.so_far;
}

-- ---- lines of several workers

pub lines_both : (every width worker : ℕ) (shares others : List (List NamedTrace)) (next : ℕ) (lines more : List WatchLine) (blocks later : List (List ℕ)) → next ≡ worker + length shares
    → AreLines every width worker shares lines blocks → AreLines every width next others more later → AreLines every width worker (shares ++ others) (lines ++ more) (blocks ++ later)
lines_both every width worker [] others next lines more blocks later e a b =
    subst (λ (ls : List WatchLine). AreLines every width worker others (ls ++ more) (blocks ++ later)) (sym a.0)
    (subst (λ (bs : List (List ℕ)). AreLines every width worker others more (bs ++ later)) (sym a.1)
    (subst (λ (n : ℕ). AreLines every width n others more later) (let f : next ≡ worker = omega arith in f) b))
lines_both every width worker (share ∷ shares) others next lines more blocks later e a b = (
  a.0,
  a.1 ++ more,
  a.2,
  a.3 ++ later,
  ap (λ (ls : List WatchLine). ls ++ more) a.4 ∙ append_assoc a.0 a.1 more,
  ap (λ (bs : List (List ℕ)). bs ++ later) a.5 ∙ append_assoc a.2 a.3 later,
  a.6,
  lines_both every width (worker + 1) shares others next a.1 more a.3 later (omega arith) a.7 b,
)

-- the lines of the one worker of a block
pub lines_one : (every width worker : ℕ) (share : List NamedTrace) (lines : List WatchLine) (blocks : List (List ℕ)) → AreLinesAfter every width worker (length share) share lines blocks → AreLines every width worker (share ∷ []) lines blocks
lines_one every width worker share lines blocks w = (lines, [], blocks, [], sym (append-nil lines), sym (append-nil blocks), w, (refl, refl))

-- the recorded traces after one more of the share
pub parts_more : (old traces now yielded rest share : List NamedTrace) (x : NamedTrace) (offered : ℕ) → yielded ++ x ∷ rest ≡ share → offered ≡ length yielded → traces ≡ old ++ yielded → now ≡ traces ++ x ∷ [] → now ≡ old ++ take (offered + 1) share
parts_more old traces now yielded rest share x offered whole count was more =
    let long : length (yielded ++ x ∷ []) ≡ offered + 1 = let s = length-append yielded (x ∷ []) in omega arith in
    let split : (yielded ++ x ∷ []) ++ rest ≡ share = append_assoc yielded (x ∷ []) rest ∙ whole in
    let firsts : take (offered + 1) share ≡ yielded ++ x ∷ [] = ap (λ (n : ℕ). take n share) (sym long) ∙ ap (take (length (yielded ++ x ∷ []))) (sym split) ∙ take-append_seam (yielded ++ x ∷ []) rest in
    more ∙ ap (λ (ts : List NamedTrace). ts ++ x ∷ []) was ∙ append_assoc old yielded (x ∷ []) ∙ ap (λ (ts : List NamedTrace). old ++ ts) (sym firsts)
