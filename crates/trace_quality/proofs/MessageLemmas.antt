-- Messages in sets, and the counts of those with one end.
use Rattle.std.proofs.Common.{◌≡◌, ℕ, ◌+◌, ◌<◌, ◌≤◌, ◌||◌, List, Bool, true, false, cond, not, length, get_or, take, ap, refl, sym, subst, ◌∙◌, arith, Some, None, Bor}
use Rattle.std.specs.Prelude.{is_some, Option}
use Rattle.std.specs.HashSet.{HashSet, contains}
use Rattle.std.specs.Str.{bytes_eq}
use Rattle.std.proofs.lemmas.List.{take_all}
use Rattle.std.proofs.lemmas.List.Folds.{list_any_more}
use Rattle.std.proofs.lemmas.Slice.Eq.{bytes_eq-Decides}
use Rattle.trace_quality.specs.Measures.{one_if}
use Rattle.trace_quality.specs.Messages.{count_alone, count_messages, is_alone, is_among, is_message}
use Rattle.trace_quality.specs.inner.MessageSets.{AreAmong, has_message, is_missing}
use Rattle.trace_quality.proofs.CountLemmas.{count_more}

-- two tests that pass alike
pub same_bool : (a b : Bool) → (a ≡ true → b ≡ true) → (b ≡ true → a ≡ true) → a ≡ b
same_bool true b f g = sym (f refl)
same_bool false true f g = g refl
same_bool false false f g = refl

pub bytes_turn : (a b : List ℕ) → bytes_eq a b ≡ bytes_eq b a
bytes_turn a b = same_bool (bytes_eq a b) (bytes_eq b a) (λ e. (bytes_eq-Decides b a).1 (sym ((bytes_eq-Decides a b).0 e))) (λ e. (bytes_eq-Decides a b).1 (sym ((bytes_eq-Decides b a).0 e)))

pub or_last : (a b : Bool) → cond a true b ≡ (b || a)
or_last true true = refl
or_last true false = refl
or_last false true = refl
or_last false false = refl

-- a set with one message more
pub message_put : {S : Type 0} (old new : HashSet (Bor (List ℕ)) S) (key : Bor (List ℕ)) → ((q : Bor (List ℕ)) → contains (λ a b. bytes_eq a.now b.now) new q ≡ cond (bytes_eq key.now q.now) true (contains (λ a b. bytes_eq a.now b.now) old q)) → (text : List ℕ) → has_message new text ≡ (has_message old text || bytes_eq text key.now)
message_put old new key h text =
    h (record key { now = text }) ∙ or_last (bytes_eq key.now text) (has_message old text) ∙ ap (λ b. has_message old text || b) (bytes_turn key.now text)

-- a set that has the messages of one event more
pub among_more : {S : Type 0} (old new : HashSet (Bor (List ℕ)) S) (all : List (Option (List ℕ))) (i : ℕ) (m : Option (List ℕ)) → i < length all → AreAmong old (take i all) → m ≡ get_or all i None → ((text : List ℕ) → has_message new text ≡ (has_message old text || is_message text m)) → AreAmong new (take (i + 1) all)
among_more old new all i m lt h is put text =
    put text ∙ ap (λ b. b || is_message text m) (h text) ∙ ap (λ n. is_among (take i all) text || is_message text n) is ∙ sym (list_any_more (is_message text) all i None lt)

pub among_all : {S : Type 0} (set : HashSet (Bor (List ℕ)) S) (all : List (Option (List ℕ))) (i : ℕ) → length all ≤ i → AreAmong set (take i all) → AreAmong set all
among_all set all i ge h = subst (λ xs. AreAmong set xs) (take_all i all ge) h

-- a message that the set does not have is alone
missing_alone : {S : Type 0} (set : HashSet (Bor (List ℕ)) S) (others : List (Option (List ℕ))) (m : Option (List ℕ)) → AreAmong set others → is_missing set m ≡ is_alone others m
missing_alone set others None h = refl
missing_alone set others (Some text) h = ap not (h text)

-- how many of the first so many have a message, and how many of these are alone
pub record AreCounted (others ends : List (Option (List ℕ))) (i all alone : ℕ) : Type 0 where
  pub all_is : all ≡ count_messages (take i ends)
  pub alone_is : alone ≡ count_alone others (take i ends)
  pub few : all ≤ i
  pub alone_few : alone ≤ i

at_most : (b : Bool) → one_if b ≤ 1
at_most true = omega arith
at_most false = omega arith

pub counted_more : {S : Type 0} (set : HashSet (Bor (List ℕ)) S) (others ends : List (Option (List ℕ))) (i all alone all_after alone_after : ℕ) (m : Option (List ℕ)) → i < length ends → AreAmong set others → AreCounted others ends i all alone → m ≡ get_or ends i None → all_after ≡ all + one_if (is_some m) → alone_after ≡ alone + one_if (is_missing set m) → AreCounted others ends (i + 1) all_after alone_after
counted_more set others ends i all alone all_after alone_after m lt among h is e f =
    record {
      all_is = count_more is_some ends i None m all all_after lt h.all_is is e;
      alone_is = count_more (is_alone others) ends i None m alone alone_after lt h.alone_is is (f ∙ ap (λ b. alone + one_if b) (missing_alone set others m among));
      few = omega (arith, h.few, e, at_most (is_some m));
      alone_few = omega (arith, h.alone_few, f, at_most (is_missing set m));
    }

pub counted_all : (others ends : List (Option (List ℕ))) (i all alone : ℕ) → length ends ≤ i → AreCounted others ends i all alone → (all ≡ count_messages ends) × (alone ≡ count_alone others ends)
counted_all others ends i all alone ge h =
    let whole = take_all i ends ge in
    (h.all_is ∙ ap count_messages whole, h.alone_is ∙ ap (count_alone others) whole)
