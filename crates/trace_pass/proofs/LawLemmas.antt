-- What the definitions of counts and watch numbers mean.
use Rattle.std.proofs.Common.{◌≡◌, ℕ, ◌<◌, ◌≤◌, List, [], length, get_or, refl, sym, ap, ◌∙◌, subst, arith}
use Rattle.std.proofs.lemmas.Bool.{and_from, eq-eqb, lt-ltb, or_right}
use Rattle.std.proofs.lemmas.List.{get_or-map, length-map}
use Rattle.std.specs.List.{Contains, flat_map}
use Rattle.hypothesis_index.specs.Places.{IsRelation, NamesBelow, place_of}
use Rattle.hypothesis_index.specs.Refuting.{Refutes}
use Rattle.hypothesis_index.specs.declared.relation.Relation.{Relation}
use Rattle.hypothesis_index.specs.declared.relation.Relation.TheVariants.{Before, Exclusive, Apart, Pipe, Unshared}
use Rattle.refute_tests.specs.Survivors.{IsRefutedPlace}
use Rattle.refute_tests.specs.Clearing.{HaveNamesBelow}
use Rattle.trace_types.specs.Surviving.{IsRefuted}
use Rattle.trace_types.specs.declared.named_segment.NamedSegment.{NamedSegment}
use Rattle.trace_types.specs.declared.named_trace.NamedTrace.{NamedTrace}
use Rattle.word_rows.specs.declared.views.Reading.{Reading}
use Rattle.word_rows.specs.Accounts.{lacks}
use Rattle.word_rows.specs.Changes.{readings_from}
use Rattle.word_rows.specs.Meeting.{BlockLacks, LacksAppend}
use Rattle.word_rows.specs.Words.{AreWords, bit_of}
use Rattle.trace_rules.specs.Hypotheses.{IsAtMostRefuted}
use Rattle.trace_types.specs.Parts.{by_number}
use Rattle.trace_pass.specs.Counts.{zeros}
use Rattle.trace_pass.specs.Meaning.{CountIsOne, NumbersAreAtMost, NumbersAreWithin, SharesAreWhole, ZerosAreCount}
use Rattle.trace_rules.specs.Halving.{shares_of}
use Rattle.trace_rules.specs.declared.watch_line.WatchLine.{WatchLine}
use Rattle.trace_pass.proofs.HalvingLemmas.{length_shares, whole_shares}
use Rattle.trace_pass.proofs.PlaceLemmas.{PlacesDiffer, PlacesFit, least_from, most_refuted}
use Rattle.trace_pass.proofs.WatchLemmas.{lacks_flat}

pub shares_are_whole : SharesAreWhole
shares_are_whole traces workers some = (length_shares traces workers some, whole_shares traces workers)

pub count_is_one : CountIsOne
count_is_one traces m n a b =
    let le : m ≤ n = let p = a.most in let q = b.least p.0 p.1 in let r = p.2 in omega arith in
    let ge : n ≤ m = let p = b.most in let q = a.least p.0 p.1 in let r = p.2 in omega arith in omega arith

name_below : (n : ℕ) (t : NamedTrace) (s : NamedSegment) (a : ℕ) → HaveNamesBelow n t → Contains t.segments s → s.name ≡ a → a < n
name_below n t s a h c e = subst (λ (m : ℕ). m < n) e (subst (λ (u : NamedSegment). u.name < n) c.2 (h c.0 s c.1))

names_below : (n : ℕ) (t : NamedTrace) (r : Relation) → HaveNamesBelow n t → Refutes r t → NamesBelow n r
names_below n t (Before a b) h f = (name_below n t f.0 a h f.2 f.4, name_below n t f.1 b h f.3 f.5)
names_below n t (Exclusive a b) h f = name_below n t f.1 b h f.3 f.5
names_below n t (Apart a b) h f = name_below n t f.1 b h f.3 f.5
names_below n t (Pipe a b) h f = tt
names_below n t (Unshared a b) h f = tt

pub zeros_are_count : PlacesDiffer → PlacesFit → ZerosAreCount
zeros_are_count differ fit names ts words few below wide are = record {
  least = least_from differ fit ts words are.bound cleared;
  most = most_refuted ts words are.bound (λ i b l h z. (are.bits i b l h).0 z);
}
  where
    cleared : (r : Relation) → IsRelation r → IsRefuted (Refutes r) ts → ((place_of r).word < length words) × (bit_of words (place_of r).word (place_of r).bit ≡ 0)
    cleared r h f =
        let named : HaveNamesBelow names f.1 = subst (HaveNamesBelow names) f.3 (below f.0 f.1 f.2) in
        let place = fit names r few h (names_below names f.1 r named f.4) in
        let within : (place_of r).word < length words = subst (λ (n : ℕ). (place_of r).word < n) (sym wide) place.0 in
        (within, (are.bits (place_of r).word (place_of r).bit within place.1).1 (r, h, refl, f))

pub numbers_are_at_most : LacksAppend → BlockLacks → NumbersAreAtMost
numbers_are_at_most join one every width shares ts old new lines w lack k d l = subst (IsAtMostRefuted by_number ts) (sym counted) (most_refuted ts block bound only)
  where
    block : List ℕ
    block = get_or w.blocks k []

    inside : k < length w.blocks
    inside = let a = length-map lines (λ (l : WatchLine). l.refuted) in let b = length-map w.blocks zeros in let c = ap length w.numbers in omega arith

    bound : AreWords block
    bound = (w.wide k [] inside).1

    counted : (get_or lines k d).refuted ≡ zeros block
    counted = sym (get_or-map (λ (l : WatchLine). l.refuted) lines k d d.refuted l) ∙ ap (λ (ns : List ℕ). get_or ns k d.refuted) w.numbers ∙ get_or-map zeros w.blocks k [] d.refuted inside

    only : (i b : ℕ) → i < length block → b < 64 → bit_of block i b ≡ 0 → IsRefutedPlace ts i b
    only i b li lb z = lack i b lb
        (ap (λ (rs : List Reading). lacks rs i b) w.readings ∙ join old.pass.view.readings (flat_map (readings_from 0) w.blocks) i b
        ∙ or_right _ _ (lacks_flat join w.blocks k i b inside (one block i b ∙ and_from _ _ (lt-ltb i (length block) li) (eq-eqb (bit_of block i b) 0 z))))

pub numbers_are_within : LacksAppend → BlockLacks → NumbersAreWithin
numbers_are_within join one every width workers ts old new lines w lack = record {
  marks = w.marks;
  within = λ k d l. record { least = w.least k d l; most = numbers_are_at_most join one every width (shares_of ts workers) ts old new lines w lack k d l };
  rising = w.rising;
}
