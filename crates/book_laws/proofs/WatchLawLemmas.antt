-- Numbers within their bounds by number are within their bounds by text.
use Rattle.std.proofs.Common.{ℕ, ◌≤◌, List, [], ◌∷◌, length, take, ◌∙◌, arith}
use Rattle.std.proofs.lemmas.List.Elements.{All-cons, All-head, All-nil, All-tail, All-weaker}
use Rattle.std.specs.List.{All, AllZip}
use Rattle.trace_types.specs.declared.named_trace.NamedTrace.{NamedTrace}
use Rattle.trace_rules.specs.Hypotheses.{Hypothesis, IsAtLeastRefuted, IsAtMostRefuted, IsSame, IsWithinRefuted, RefutesHypothesis}
use Rattle.trace_types.specs.Parts.{by_number}
use Rattle.trace_types.specs.Segments.{SegmentName}
use Rattle.trace_types.specs.Surviving.{IsRefuted}
use Rattle.trace_rules.specs.Halving.{share_of, shares_of}
use Rattle.trace_rules.specs.WatchLines.{AreWatchLines}
use Rattle.trace_rules.specs.declared.watch_line.WatchLine.{WatchLine}
use Rattle.segment_names.specs.Known.{Known}
use Rattle.segment_names.specs.Limits.{IsKept}
use Rattle.session_rules.specs.KeptTraces.{Kept, by_kept}
use Rattle.trace_types.proofs.MatchLemmas.{partner_at}
use Rattle.trace_types.proofs.ZipLemmas.{zip_length}
use Rattle.book_laws.specs.Shown.{AreShown, IsShown}
use Rattle.book_laws.proofs.HypothesisLemmas.{Stands, hypotheses_differ, numbers_differ}
use Rattle.book_laws.proofs.ListLemmas.{any_at, at_any, zip_flip, zip_pairs}
use Rattle.book_laws.proofs.RefutedLemmas.{HasLaws, to_number, to_text}
use Rattle.book_laws.proofs.ShareLemmas.{same_marks, zip_firsts, zip_shares}

-- a hypothesis on texts, and one on numbers
abbrev OfTexts : Type 0
OfTexts = Hypothesis SegmentName (List ℕ)

abbrev OfNumbers : Type 0
OfNumbers = Hypothesis ℕ ℕ

-- some trace refutes it
abbrev IsRefutedText : List Kept → OfTexts → Type 0
IsRefutedText ks h = IsRefuted (RefutesHypothesis by_kept h) ks

abbrev IsRefutedNumber : List NamedTrace → OfNumbers → Type 0
IsRefutedNumber ts r = IsRefuted (RefutesHypothesis by_number r) ts

-- the numbers stand for the texts
abbrev IsTold : Known → OfTexts → OfNumbers → Type 0
IsTold known h r = Stands known.names known.tasks h r

module _ (known : Known) (kept : IsKept known) (laws : HasLaws known) (ts : List NamedTrace) (ks : List Kept) (shown : AreShown known ts ks) where
  number_of : (h : OfTexts) → IsRefutedText ks h → (r : OfNumbers) × IsTold known h r × IsRefutedNumber ts r
  number_of h some =
      let k = at_any (RefutesHypothesis by_kept h) ks some in
      let t = partner_at (λ (v : Kept) (w : NamedTrace). IsShown known w v) ks ts (zip_flip (IsShown known) ts ks shown) k.0 k.1 k.2 in
      let r = to_number known kept laws t.0 k.1 t.2 h k.3 in
      (r.0, r.1, any_at (RefutesHypothesis by_number r.0) ts k.0 t.0 t.1 r.2)

  text_of : (r : OfNumbers) → IsRefutedNumber ts r → (h : OfTexts) × IsTold known h r × IsRefutedText ks h
  text_of r some =
      let t = at_any (RefutesHypothesis by_number r) ts some in
      let k = partner_at (IsShown known) ts ks shown t.0 t.1 t.2 in
      let h = to_text known kept laws t.1 k.0 k.2 r t.3 in
      (h.0, h.1, any_at (RefutesHypothesis by_kept h.0) ks t.0 k.0 k.1 h.2)

  numbers_of : (hs : List OfTexts) → All (IsRefutedText ks) hs → (rs : List OfNumbers) × AllZip (IsTold known) hs rs × All (IsRefutedNumber ts) rs
  numbers_of [] each = ([], tt, All-nil (IsRefutedNumber ts))
  numbers_of (h ∷ hs) each =
      let r = number_of h (All-head (IsRefutedText ks) h hs each) in
      let rest = numbers_of hs (All-tail (IsRefutedText ks) h hs each) in
      (r.0 ∷ rest.0, (r.1, rest.1), All-cons (IsRefutedNumber ts) r.0 rest.0 r.2 rest.2)

  texts_of : (rs : List OfNumbers) → All (IsRefutedNumber ts) rs → (hs : List OfTexts) × AllZip (IsTold known) hs rs × All (IsRefutedText ks) hs
  texts_of [] each = ([], tt, All-nil (IsRefutedText ks))
  texts_of (r ∷ rs) each =
      let h = text_of r (All-head (IsRefutedNumber ts) r rs each) in
      let rest = texts_of rs (All-tail (IsRefutedNumber ts) r rs each) in
      (h.0 ∷ rest.0, (h.1, rest.1), All-cons (IsRefutedText ks) h.0 rest.0 h.2 rest.2)

  -- at least as many by number are at least as many by text
  pub least_by_text : (n : ℕ) → IsAtLeastRefuted by_number ts n → IsAtLeastRefuted by_kept ks n
  least_by_text n least hs refuted =
      let r = numbers_of hs refuted.refuted in
      let long = zip_length (IsTold known) hs r.0 r.1 in
      let differ = zip_pairs (IsTold known) (λ (h i : OfTexts). IsSame h i → ⊥) (λ (q s : OfNumbers). IsSame q s → ⊥)
      (λ h i q s p o. numbers_differ known.names known.tasks h i q s p o) hs r.0 r.1 refuted.differ in
      let bound : length r.0 ≤ n = least r.0 (record { differ = differ; refuted = r.2 }) in
      omega (arith, long, bound)

  -- and at most as many at most as many
  pub most_by_text : (n : ℕ) → IsAtMostRefuted by_number ts n → IsAtMostRefuted by_kept ks n
  most_by_text n most =
      let h = texts_of most.0 most.1.refuted in
      let long = zip_length (IsTold known) h.0 most.0 h.1 in
      let differ = zip_pairs (λ (r : OfNumbers) (i : OfTexts). IsTold known i r) (λ (q s : OfNumbers). IsSame q s → ⊥) (λ (i j : OfTexts). IsSame i j → ⊥)
      (λ q s i j p o. hypotheses_differ known.names known.tasks kept.names_differ kept.tasks_differ i j q s p o) most.0 h.0 (zip_flip (IsTold known) h.0 most.0 h.1) most.1.differ in
      let bound = most.2 in
      (h.0, record { differ = differ; refuted = h.2 }, omega (arith, long, bound))

pub told_by_text : (known : Known) → IsKept known → HasLaws known → (every workers : ℕ) (named : List NamedTrace) (kept : List Kept) (lines : List WatchLine) → AreShown known named kept
    → AreWatchLines by_number every workers named lines → AreWatchLines by_kept every workers kept lines
told_by_text known is laws every workers named kept lines shown h = record {
  marks = h.marks ∙ same_marks (IsShown known) every 0 (shares_of named workers) (shares_of kept workers) (zip_shares (IsShown known) workers named kept shown);
  within = All-weaker (λ (l : WatchLine). IsWithinRefuted by_number (take l.done (share_of named workers l.worker)) named l.refuted)
      (λ (l : WatchLine). IsWithinRefuted by_kept (take l.done (share_of kept workers l.worker)) kept l.refuted)
      (λ l w. record {
        least = least_by_text known is laws (take l.done (share_of named workers l.worker)) (take l.done (share_of kept workers l.worker))
            (zip_firsts (IsShown known) workers l.worker l.done named kept shown) l.refuted w.least;
        most = most_by_text known is laws named kept shown l.refuted w.most;
      }) lines h.within;
  rising = h.rising;
}
