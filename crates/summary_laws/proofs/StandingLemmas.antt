-- A digest stands for the traces that it is of.
use Rattle.std.proofs.Common.{◌≡◌, ◌↔◌, ℕ, ◌+◌, List, ◌++◌, length, map, refl, sym, ap, ◌∙◌, subst, arith, length-append}
use Rattle.std.specs.List.{Contains}
use Rattle.std.specs.Cmp.Lexicographic.{slice_cmp}
use Rattle.std.specs.Ordering.{nat_cmp}
use Rattle.digest_facts.specs.Digests.{Digest, IsInForm, empty_digest, merged}
use Rattle.digest_facts.specs.Texts.{digest_text}
use Rattle.digest_facts.proofs.FactLemmas.{listed_to}
use Rattle.digest_facts.proofs.ListLemmas.{any_in, flat_in, map_in}
use Rattle.digest_facts.proofs.MergeLemmas.{has_one, is_formed, merged_is, merges_freely, name_apart, text_apart}
use Rattle.digest_facts.specs.DigestsOfTraces.{IsPairIn}
use Rattle.digest_facts.specs.Facts.{facts_of}
use Rattle.session_rules.specs.DigestTexts.{IsDigestText}
use Rattle.session_rules.specs.GivenDigests.{IsKeptDigest, SurvivesUnder}
use Rattle.session_rules.specs.KeptTraces.{Kept, SurvivesIn, by_kept, day_of}
use Rattle.session_rules.specs.ModelTexts.{IsModelHead, IsModelText, header_row, model_text, traces_under}
use Rattle.trace_types.specs.NameOrder.{name_cmp, pair_cmp}
use Rattle.trace_types.specs.Parts.{segments_of}
use Rattle.trace_types.specs.Pipelines.{RefutesPipe, RefutesUnshared}
use Rattle.trace_types.specs.Refuting.{RefutesApart, RefutesBefore, RefutesExclusive}
use Rattle.trace_types.specs.Segments.{SegmentName, name_of, task_of}
use Rattle.trace_types.specs.Surviving.{IsRefuted}
use Rattle.summary_laws.specs.AlikeTexts.{PrintAlike}
use Rattle.summary_laws.specs.OrderLaws.{TracesStandInAnyOrder}
use Rattle.summary_laws.specs.PlainModels.{NothingGivenChangesNothing}
use Rattle.summary_laws.specs.StandingLaws.{DigestStandsForTraces, MergedDigestStandsForTraces, OwnTracesChangeNothing}
use Rattle.summary_laws.proofs.DigestLemmas.{has_digest}
use Rattle.summary_laws.proofs.FigureLemmas.{alone_excludes, alone_figures, excludes_alike, figures_alike, figures_to, stands_excludes, stands_figures}
use Rattle.summary_laws.proofs.JudgeLemmas.{AgreeApart, judge_alike}
use Rattle.summary_laws.proofs.ToldLemmas.{AreToldAlike, merged_told, ordered_told, own_told, turned_told}

abbrev TheDigest : Type 0
TheDigest = Digest SegmentName (List ℕ)

-- ---- texts of models
head_to : (given : TheDigest) (kept : List Kept) (other : TheDigest) (others : List Kept) → AreToldAlike given kept other others → traces_under given kept ≡ traces_under other others → (bytes : List ℕ) → IsModelHead given kept bytes → IsModelHead other others bytes
head_to given kept other others told count bytes h = record { figures = h.figures; told = figures_to given kept other others told h.figures h.told; text = h.text ∙ ap (λ (n : ℕ). header_row n h.figures) count }

model_to : (given : TheDigest) (kept : List Kept) (other : TheDigest) (others : List Kept) → AreToldAlike given kept other others → traces_under given kept ≡ traces_under other others → (bytes : List ℕ) → IsModelText given kept bytes → IsModelText other others bytes
model_to given kept other others told count bytes h = record { figures = h.figures; told = figures_to given kept other others told h.figures h.told; text = h.text ∙ ap (λ (n : ℕ). model_text n h.figures) count }

print_alike : (given : TheDigest) (kept : List Kept) (other : TheDigest) (others : List Kept) → AreToldAlike given kept other others → traces_under given kept ≡ traces_under other others
    → ((bytes : List ℕ) → IsDigestText given kept bytes ↔ IsDigestText other others bytes) → PrintAlike given kept other others
print_alike given kept other others told count digests =
    let back : AreToldAlike other others given kept = turned_told given kept other others told in
    record {
      heads = λ bytes. (head_to given kept other others told count bytes, head_to other others given kept back (sym count) bytes);
      models = λ bytes. (model_to given kept other others told count bytes, model_to other others given kept back (sym count) bytes);
      digests = digests;
    }

-- ---- merged digests
merged_count : (given digest : TheDigest) (past kept : List Kept) → IsKeptDigest past digest → traces_under (merged name_cmp (slice_cmp nat_cmp) given digest) kept ≡ traces_under given (past ++ kept)
merged_count given digest past kept is = let l = length-append past kept in let c : digest.traces ≡ length past = is.count in omega arith

merged_digests : (given digest : TheDigest) (past kept : List Kept) → IsInForm name_cmp (slice_cmp nat_cmp) given → IsKeptDigest past digest → (bytes : List ℕ) → IsDigestText (merged name_cmp (slice_cmp nat_cmp) given digest) kept bytes → IsDigestText given (past ++ kept) bytes
merged_digests given digest past kept form is bytes h = record {
  digest = merged name_cmp (slice_cmp nat_cmp) digest h.digest;
  of_kept = merged_is by_kept day_of name_cmp (slice_cmp nat_cmp) name_apart text_apart past kept digest h.digest is h.of_kept;
  text = h.text ∙ ap digest_text ((merges_freely name_cmp (slice_cmp nat_cmp) name_apart text_apart).associates given digest h.digest form
      (is_formed by_kept day_of name_cmp (slice_cmp nat_cmp) past digest is) (is_formed by_kept day_of name_cmp (slice_cmp nat_cmp) kept h.digest h.of_kept));
}

-- traces have one digest, so the text of the digest of all is the text of the merge
digests_merged : (given digest : TheDigest) (past kept : List Kept) → IsInForm name_cmp (slice_cmp nat_cmp) given → IsKeptDigest past digest → (bytes : List ℕ) → IsDigestText given (past ++ kept) bytes → IsDigestText (merged name_cmp (slice_cmp nat_cmp) given digest) kept bytes
digests_merged given digest past kept form is bytes h =
    let own = has_digest kept in
    let all : IsKeptDigest (past ++ kept) (merged name_cmp (slice_cmp nat_cmp) digest own.0) = merged_is by_kept day_of name_cmp (slice_cmp nat_cmp) name_apart text_apart past kept digest own.0 is own.1 in
    let same : h.digest ≡ merged name_cmp (slice_cmp nat_cmp) digest own.0 =
    has_one by_kept day_of name_cmp (slice_cmp nat_cmp) name_apart text_apart (past ++ kept) (past ++ kept) h.digest (merged name_cmp (slice_cmp nat_cmp) digest own.0) refl (λ x. ((λ c. c), (λ c. c))) h.of_kept all in
    record {
      digest = own.0;
      of_kept = own.1;
      text = h.text ∙ ap (λ (d : TheDigest). digest_text (merged name_cmp (slice_cmp nat_cmp) given d)) same
          ∙ ap digest_text (sym ((merges_freely name_cmp (slice_cmp nat_cmp) name_apart text_apart).associates given digest own.0 form
          (is_formed by_kept day_of name_cmp (slice_cmp nat_cmp) past digest is) (is_formed by_kept day_of name_cmp (slice_cmp nat_cmp) kept own.0 own.1)));
    }

pub merged_stands : MergedDigestStandsForTraces
merged_stands given digest past kept form is =
    let told : AreToldAlike (merged name_cmp (slice_cmp nat_cmp) given digest) kept given (past ++ kept) = merged_told given digest past kept is in (
      print_alike (merged name_cmp (slice_cmp nat_cmp) given digest) kept given (past ++ kept) told (merged_count given digest past kept is)
          (λ bytes. (merged_digests given digest past kept form is bytes, digests_merged given digest past kept form is bytes)),
      judge_alike (SurvivesUnder (merged name_cmp (slice_cmp nat_cmp) given digest) kept) (SurvivesUnder given (past ++ kept)) (excludes_alike (merged name_cmp (slice_cmp nat_cmp) given digest) kept given (past ++ kept) told),
    )

-- ---- one digest
pub stands : DigestStandsForTraces
stands past kept digest is =
    let free = merges_freely name_cmp (slice_cmp nat_cmp) name_apart text_apart in
    record {
      count = let l = length-append past kept in let c : digest.traces ≡ length past = is.count in omega arith;
      figures = stands_figures digest past kept is;
      judged = judge_alike (SurvivesUnder digest kept) (SurvivesIn (past ++ kept)) (stands_excludes digest past kept is);
      printed = subst (λ (d : TheDigest). PrintAlike d kept empty_digest (past ++ kept)) (free.begins digest) (merged_stands empty_digest digest past kept free.starts is).0;
    }

-- ---- nothing is given
pub nothing_given : NothingGivenChangesNothing
nothing_given kept =
    let free = merges_freely name_cmp (slice_cmp nat_cmp) name_apart text_apart in
    record {
      count = omega arith;
      figures = alone_figures kept;
      judged = judge_alike (SurvivesUnder empty_digest kept) (SurvivesIn kept) (alone_excludes kept);
      digests = λ digest is. record { digest = digest; of_kept = is; text = ap digest_text (sym (free.begins digest)) };
    }

-- ---- the given digest has the kept traces
pub own_traces : OwnTracesChangeNothing
own_traces whole kept digest is in_whole =
    let told : AreToldAlike digest kept empty_digest whole = own_told digest whole kept is in_whole in
    let excludes : AgreeApart (SurvivesUnder digest kept) (SurvivesIn whole) = λ a b d.
    (let first = excludes_alike digest kept empty_digest whole told a b d in
    let second = alone_excludes whole a b d in
    ((λ s. second.0 (first.0 s)), (λ s. first.1 (second.1 s)))) in (
      (λ f.
          let first = figures_alike digest kept empty_digest whole told f in
          let second = alone_figures whole f in
          ((λ h. second.0 (first.0 h)), (λ h. first.1 (second.1 h)))),
      judge_alike (SurvivesUnder digest kept) (SurvivesIn whole) excludes,
    )

-- ---- another order
module _ (kept others : List Kept) (same : (k : Kept) → Contains kept k ↔ Contains others k) where
  to : (k : Kept) → Contains kept k → Contains others k
  to k = (same k).0

  back : (k : Kept) → Contains others k → Contains kept k
  back k = (same k).1

  pair_both : {X : Type 0} (R : X → X → Kept → Type 0) (pair : X × X) → IsPairIn (λ a b. IsRefuted (R a b) kept) pair ↔ IsPairIn (λ a b. IsRefuted (R a b) others) pair
  pair_both R pair = ((λ h. (h.0, any_in (R pair.0 pair.1) kept others to h.1)), (λ h. (h.0, any_in (R pair.0 pair.1) others kept back h.1)))

  ordered_digest : length kept ≡ length others → (digest : TheDigest) → IsKeptDigest kept digest → IsKeptDigest others digest
  ordered_digest count digest is = record {
    count = is.count ∙ count;
    days = listed_to nat_cmp (Contains (map day_of kept)) (Contains (map day_of others)) digest.days (λ x. (map_in day_of kept others to x, map_in day_of others kept back x)) is.days;
    names = listed_to name_cmp (Contains (map name_of (segments_of by_kept kept))) (Contains (map name_of (segments_of by_kept others))) digest.names (λ x. (
      map_in name_of (segments_of by_kept kept) (segments_of by_kept others) (flat_in by_kept.segments kept others to) x,
      map_in name_of (segments_of by_kept others) (segments_of by_kept kept) (flat_in by_kept.segments others kept back) x,
    )) is.names;
    tasks = listed_to (slice_cmp nat_cmp) (Contains (map task_of (segments_of by_kept kept))) (Contains (map task_of (segments_of by_kept others))) digest.tasks (λ x. (
      map_in task_of (segments_of by_kept kept) (segments_of by_kept others) (flat_in by_kept.segments kept others to) x,
      map_in task_of (segments_of by_kept others) (segments_of by_kept kept) (flat_in by_kept.segments others kept back) x,
    )) is.tasks;
    together = listed_to (pair_cmp name_cmp) (IsPairIn (facts_of by_kept kept).apart) (IsPairIn (facts_of by_kept others).apart) digest.together (pair_both (RefutesApart by_kept)) is.together;
    before = listed_to (pair_cmp name_cmp) (IsPairIn (facts_of by_kept kept).before) (IsPairIn (facts_of by_kept others).before) digest.before (pair_both (RefutesBefore by_kept)) is.before;
    exclusive = listed_to (pair_cmp name_cmp) (IsPairIn (facts_of by_kept kept).exclusive) (IsPairIn (facts_of by_kept others).exclusive) digest.exclusive (pair_both (RefutesExclusive by_kept)) is.exclusive;
    shared = listed_to (pair_cmp (slice_cmp nat_cmp)) (IsPairIn (facts_of by_kept kept).unshared) (IsPairIn (facts_of by_kept others).unshared) digest.shared (pair_both (RefutesUnshared by_kept)) is.shared;
    pipe = listed_to (pair_cmp (slice_cmp nat_cmp)) (IsPairIn (facts_of by_kept kept).pipe) (IsPairIn (facts_of by_kept others).pipe) digest.pipe (pair_both (RefutesPipe by_kept)) is.pipe;
  }

pub any_order : TracesStandInAnyOrder
any_order given kept others count same =
    let told : AreToldAlike given kept given others = ordered_told given kept others same in (
      print_alike given kept given others told (ap (λ (n : ℕ). given.traces + n) count) (λ bytes. (
        (λ h. record { digest = h.digest; of_kept = ordered_digest kept others same count h.digest h.of_kept; text = h.text }),
        (λ h. record { digest = h.digest; of_kept = ordered_digest others kept (λ k. ((same k).1, (same k).0)) (sym count) h.digest h.of_kept; text = h.text }),
      )),
      judge_alike (SurvivesUnder given kept) (SurvivesUnder given others) (excludes_alike given kept given others told),
    )
