-- The segments of adjacent keys of one task, made key by key.
use Rattle.std.proofs.Common.{◌≡◌, ℕ, suc, ◌<◌, ◌≤◌, ℤ, ◌≤ℤ◌, List, [], ◌∷◌, ◌++◌, length, drop, All, arith, refl, sym, subst, inl, inr}
use Rattle.std.specs.List.{AllZip}
use Rattle.std.proofs.lemmas.Int.{ints}
use Rattle.std.proofs.lemmas.List.{map_push}
use Rattle.std.proofs.lemmas.List.Elements.{All-push}
use Rattle.event_table.specs.Texts.{TextLists}
use Rattle.trace_types.specs.declared.event.Event.{Event}
use Rattle.trace_types.specs.declared.segment.Segment.{Segment}
use Rattle.trace_types.proofs.ZipLemmas.{zip_push}
use Rattle.segment_cut.specs.declared.cut_segment.CutSegment.{CutSegment}
use Rattle.segment_cut.specs.AdjustedTimes.{adjusted_at}
use Rattle.segment_cut.specs.Cutting.{IsSegment}
use Rattle.segment_cut.specs.NumberedCuts.{HasTexts, segment_under, segments_under}
use Rattle.segment_cut.specs.inner.Keys.{Key, key_at, IsKeyBefore, HaveTimes, adjacent_pairs}
use Rattle.segment_cut.proofs.PairLemmas.{pairs_same, pairs_other, pairs_end}

-- the segments of the pairs before the key at n, and the pairs from it on
pub record AreSegmentsTo (texts : TextLists) (events : List Event) (keys : List Key) (n : ℕ) (segments : List CutSegment) : Type 0 where
  pub pairs : List (ℕ × ℕ)
  pub rest : pairs ++ adjacent_pairs (drop n keys) ≡ adjacent_pairs keys
  pub each : (times : List ℤ) → HaveTimes keys times → AllZip (IsSegment events times) pairs (segments_under texts segments)
  pub numbered : All (HasTexts texts) segments

pub segments_none : (texts : TextLists) (events : List Event) (keys : List Key) → AreSegmentsTo texts events keys 0 []
segments_none texts events keys = record { pairs = []; rest = refl; each = λ times h. tt; numbered = λ k d lt. absurd (omega arith) }

-- a segment more, of the keys at n and m, the next
pub segments_same : (texts : TextLists) (events : List Event) (keys : List Key) (n m k : ℕ) (segments : List CutSegment) (s : CutSegment) → suc n ≡ m → m ≡ k → m < length keys → (key_at keys n).0 ≡ (key_at keys m).0 → AreSegmentsTo texts events keys n segments
    → ((times : List ℤ) → adjusted_at times (key_at keys n).2 ≡ (key_at keys n).1 → adjusted_at times (key_at keys m).2 ≡ (key_at keys m).1 → IsSegment events times ((key_at keys n).2, (key_at keys m).2) (segment_under texts s)) → HasTexts texts s
    → AreSegmentsTo texts events keys k (segments ++ s ∷ [])
segments_same texts events keys n m k segments s e f lt same a made within = record {
  pairs = a.pairs ++ ((key_at keys n).2, (key_at keys m).2) ∷ [];
  rest = pairs_same keys n m k a.pairs e f lt same a.rest;
  each = λ times h. subst (λ (ss : List Segment). AllZip (IsSegment events times) (a.pairs ++ ((key_at keys n).2, (key_at keys m).2) ∷ []) ss) (sym (map_push (segment_under texts) segments s))
      (zip_push (IsSegment events times) a.pairs (segments_under texts segments) ((key_at keys n).2, (key_at keys m).2) (segment_under texts s) (a.each times h) (made times (h n (omega arith)) (h m lt)));
  numbered = All-push (HasTexts texts) segments s a.numbered within;
}

-- none, where the two keys are of two tasks
pub segments_other : (texts : TextLists) (events : List Event) (keys : List Key) (n m k : ℕ) (segments : List CutSegment) → suc n ≡ m → m ≡ k → m < length keys → ((key_at keys n).0 ≡ (key_at keys m).0 → ⊥) → AreSegmentsTo texts events keys n segments
    → AreSegmentsTo texts events keys k segments
segments_other texts events keys n m k segments e f lt differ a = record { pairs = a.pairs; rest = pairs_other keys n m k a.pairs e f lt differ a.rest; each = a.each; numbered = a.numbered }

-- at the last key they are all
pub segments_all : (texts : TextLists) (events : List Event) (keys : List Key) (n : ℕ) (segments : List CutSegment) → length keys ≤ suc n → AreSegmentsTo texts events keys n segments → (times : List ℤ) → HaveTimes keys times → AllZip (IsSegment events times) (adjacent_pairs keys) (segments_under texts segments)
segments_all texts events keys n segments le a times h = subst (λ (ps : List (ℕ × ℕ)). AllZip (IsSegment events times) ps (segments_under texts segments)) (pairs_end keys n a.pairs le a.rest) (a.each times h)

-- the later of two keys of one task has no smaller time
pub key_le : (a b : Key) → IsKeyBefore a b → a.0 ≡ b.0 → a.1 ≤ℤ b.1
key_le a b (inl low) same = absurd (omega arith)
key_le a b (inr (e, inl low)) same = omega (arith, ints)
key_le a b (inr (e, inr both)) same = let f : a.1 ≡ b.1 = both.0 in omega (arith, ints)
