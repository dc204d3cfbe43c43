-- Arguments, a preface and an input decide how a run ends that meets no fault and finds memory.
use Rattle.std.proofs.Common.{◌≡◌, ◌⊎◌, ℕ, List, Option, Some, None, refl, sym, ◌∙◌, ap, subst, inl, inr}
use Rattle.std.specs.Prelude.{Result, Ok, Err}
use Rattle.digest_facts.specs.Digests.{Digest}
use Rattle.digest_merging.specs.Limits.{limit_passed}
use Rattle.digest_merging.specs.Merges.{AGivenDigestIsOne}
use Rattle.digest_merging.specs.declared.digest_limit.DigestLimit.{DigestLimit}
use Rattle.mystery_io.specs.ReadFaults.{FilesSeen}
use Rattle.session_rules.specs.JobTexts.{IsText, IsTextToLimit}
use Rattle.session_rules.specs.Sessions.{State}
use Rattle.session_rules.specs.declared.limit.Limit.{Limit}
use Rattle.trace_types.specs.Segments.{SegmentName}
use Rattle.mystery_run.specs.declared.outcome.Outcome.{Outcome}
use Rattle.mystery_run.specs.declared.outcome.Outcome.TheVariants.{Done, Memory, Arguments, BadLine, File, Write, Size, Over, OverGiven}
use Rattle.mystery_run.specs.CommandLines.{Call, call_of}
use Rattle.mystery_run.specs.Endings.{CallEnds, Ends, CallEndsAt, IsDecided, Writes}
use Rattle.mystery_run.specs.Messages.{status_of}
use Rattle.mystery_run.specs.Runs.{OfInputs}
use Rattle.mystery_run.specs.Texts.{IsGivenOver, IsTextOf, IsTextUpTo}
use Rattle.mystery_run.specs.Works.{BadInput, Work, Jobs, Steps, work_said}
use Rattle.mystery_run.proofs.ReadingLemmas.{size_apart}
use Rattle.mystery_run.proofs.StatusLemmas.{HaveOneEnding}
use Rattle.session_laws.specs.EndingLaws.{AreAlike, JobsStopAtOneLimit, TextsToLimitAreAlike, WholeStopsAtNoLimit, WholeTextsAreAlike}
use Rattle.session_laws.specs.WatchLaws.{AlikeTextsDifferInNumbers, DifferInWatchNumbers}

-- what a preface and an input said is one thing
one_work : (said : Result Work BadInput) (a b : Work) → said ≡ Ok a → said ≡ Ok b → b ≡ a
one_work said a b e f = cc

not_both : (said : Result Work BadInput) (bad : BadInput) (a : Work) → said ≡ Err bad → said ≡ Ok a → ⊥
not_both said bad a e f =
    let both : Err bad ≡ Ok a = sym e ∙ f in
    cc

one_bad : (said : Result Work BadInput) (a b : BadInput) → said ≡ Err a → said ≡ Err b → BadLine a.line a.why ≡ BadLine b.line b.why
one_bad said a b e f =
    let same : a ≡ b = cc in
    ap (λ (x : BadInput). BadLine x.line x.why) same

-- a digest passes one limit, or none
none_passed : (d e : Digest SegmentName (List ℕ)) (limit : DigestLimit) → e ≡ d → limit_passed d ≡ None → limit_passed e ≡ Some limit → ⊥
none_passed d e limit same f g =
    let both : Some limit ≡ None = sym g ∙ ap limit_passed same ∙ f in
    cc

one_passed : (d e : Digest SegmentName (List ℕ)) (limit other : DigestLimit) → e ≡ d → limit_passed d ≡ Some limit → limit_passed e ≡ Some other → limit ≡ other
one_passed d e limit other same f g =
    let both : Some limit ≡ Some other = sym f ∙ ap limit_passed (sym same) ∙ g in
    cc

module _ (whole : WholeStopsAtNoLimit) (one : JobsStopAtOneLimit) (one_given : AGivenDigestIsOne) where
  done_not_over : (workers : ℕ) (work : Work) (limit : Limit) (t u : List ℕ) → IsTextOf workers work t → IsTextUpTo workers work limit u → ⊥
  done_not_over workers (Jobs tables jobs) limit t u h k =
      let same : k.given ≡ h.given = one_given tables k.given h.given k.is h.is in
      whole workers h.given jobs h.holds.0 limit t u h.holds.1 (subst (λ d. IsTextToLimit workers d jobs limit u) same k.holds)
  done_not_over workers (Steps file) limit t u h k = k

  done_not_given : (workers : ℕ) (work : Work) (limit : DigestLimit) (t : List ℕ) → IsTextOf workers work t → IsGivenOver work limit → ⊥
  done_not_given workers (Jobs tables jobs) limit t h k = none_passed h.given k.0 limit (one_given tables k.0 h.given k.1 h.is) h.fits k.2
  done_not_given workers (Steps file) limit t h k = k

  over_not_given : (workers : ℕ) (work : Work) (limit : Limit) (other : DigestLimit) (t : List ℕ) → IsTextUpTo workers work limit t → IsGivenOver work other → ⊥
  over_not_given workers (Jobs tables jobs) limit other t h k = none_passed h.given k.0 other (one_given tables k.0 h.given k.1 h.is) h.fits k.2
  over_not_given workers (Steps file) limit other t h k = k

  one_limit : (workers : ℕ) (work : Work) (limit other : Limit) (t u : List ℕ) → IsTextUpTo workers work limit t → IsTextUpTo workers work other u → limit ≡ other
  one_limit workers (Jobs tables jobs) limit other t u h k =
      let same : k.given ≡ h.given = one_given tables k.given h.given k.is h.is in
      one workers h.given jobs limit other t u h.holds (subst (λ d. IsTextToLimit workers d jobs other u) same k.holds)
  one_limit workers (Steps file) limit other t u h k = absurd h

  one_given_limit : (work : Work) (limit other : DigestLimit) → IsGivenOver work limit → IsGivenOver work other → limit ≡ other
  one_given_limit (Jobs tables jobs) limit other h k = one_passed h.0 k.0 limit other (one_given tables k.0 h.0 k.1 h.1) h.2 k.2
  one_given_limit (Steps file) limit other h k = absurd h

  done_over : (call : Call) (cert input : List ℕ) (limit : Limit) (t u : List ℕ) → CallEnds call cert input Done t → CallEnds call cert input (Over limit) u → ⊥
  done_over call cert input limit t u h k =
      let same : k.1.0 ≡ h.1.0 = one_work (work_said call cert input) h.1.0 k.1.0 h.1.1 k.1.1 in
      done_not_over call.workers h.1.0 limit t u h.1.2 (subst (λ w. IsTextUpTo call.workers w limit u) same k.1.2)

  over_over : (call : Call) (cert input : List ℕ) (limit other : Limit) (t u : List ℕ) → CallEnds call cert input (Over limit) t → CallEnds call cert input (Over other) u → limit ≡ other
  over_over call cert input limit other t u h k =
      let same : k.1.0 ≡ h.1.0 = one_work (work_said call cert input) h.1.0 k.1.0 h.1.1 k.1.1 in
      one_limit call.workers h.1.0 limit other t u h.1.2 (subst (λ w. IsTextUpTo call.workers w other u) same k.1.2)

  done_given : (call : Call) (cert input : List ℕ) (limit : DigestLimit) (t u : List ℕ) → CallEnds call cert input Done t → CallEnds call cert input (OverGiven limit) u → ⊥
  done_given call cert input limit t u h k =
      let same : k.0.1.0 ≡ h.1.0 = one_work (work_said call cert input) h.1.0 k.0.1.0 h.1.1 k.0.1.1 in
      done_not_given call.workers h.1.0 limit t h.1.2 (subst (λ w. IsGivenOver w limit) same k.0.1.2)

  over_given : (call : Call) (cert input : List ℕ) (limit : Limit) (other : DigestLimit) (t u : List ℕ) → CallEnds call cert input (Over limit) t → CallEnds call cert input (OverGiven other) u → ⊥
  over_given call cert input limit other t u h k =
      let same : k.0.1.0 ≡ h.1.0 = one_work (work_said call cert input) h.1.0 k.0.1.0 h.1.1 k.0.1.1 in
      over_not_given call.workers h.1.0 limit other t h.1.2 (subst (λ w. IsGivenOver w other) same k.0.1.2)

  given_given : (call : Call) (cert input : List ℕ) (limit other : DigestLimit) (t u : List ℕ) → CallEnds call cert input (OverGiven limit) t → CallEnds call cert input (OverGiven other) u → limit ≡ other
  given_given call cert input limit other t u h k =
      let same : k.0.1.0 ≡ h.0.1.0 = one_work (work_said call cert input) h.0.1.0 k.0.1.0 h.0.1.1 k.0.1.1 in
      one_given_limit h.0.1.0 limit other h.0.1.2 (subst (λ w. IsGivenOver w other) same k.0.1.2)

  -- two endings of a call over a preface and an input that no fault decides are one
  one_call_ending : (call : Call) (cert input : List ℕ) (o p : Outcome) (t u : List ℕ) → IsDecided o → IsDecided p → CallEnds call cert input o t → CallEnds call cert input p u → o ≡ p
  one_call_ending call cert input Done Done t u d e h k = refl
  one_call_ending call cert input Done (Over m) t u d e h k = absurd (done_over call cert input m t u h k)
  one_call_ending call cert input Done Arguments t u d e h k = absurd k
  one_call_ending call cert input Done (BadLine m v) t u d e h k = absurd (not_both (work_said call cert input) _ h.1.0 k.1 h.1.1)
  one_call_ending call cert input Done Size t u d e h k = absurd (size_apart cert input h.0 k.0)
  one_call_ending call cert input Done Memory t u d e h k = absurd e
  one_call_ending call cert input Done (File j) t u d e h k = absurd e
  one_call_ending call cert input Done Write t u d e h k = absurd e
  one_call_ending call cert input Done (OverGiven g) t u d e h k = absurd (done_given call cert input g t u h k)
  one_call_ending call cert input (Over l) Done t u d e h k = absurd (done_over call cert input l u t k h)
  one_call_ending call cert input (Over l) (Over m) t u d e h k = ap Over (over_over call cert input l m t u h k)
  one_call_ending call cert input (Over l) Arguments t u d e h k = absurd k
  one_call_ending call cert input (Over l) (BadLine m v) t u d e h k = absurd (not_both (work_said call cert input) _ h.1.0 k.1 h.1.1)
  one_call_ending call cert input (Over l) Size t u d e h k = absurd (size_apart cert input h.0 k.0)
  one_call_ending call cert input (Over l) Memory t u d e h k = absurd e
  one_call_ending call cert input (Over l) (File j) t u d e h k = absurd e
  one_call_ending call cert input (Over l) Write t u d e h k = absurd e
  one_call_ending call cert input (Over l) (OverGiven g) t u d e h k = absurd (over_given call cert input l g t u h k)
  one_call_ending call cert input Arguments Done t u d e h k = absurd h
  one_call_ending call cert input Arguments (Over m) t u d e h k = absurd h
  one_call_ending call cert input Arguments Arguments t u d e h k = absurd h
  one_call_ending call cert input Arguments (BadLine m v) t u d e h k = absurd h
  one_call_ending call cert input Arguments Size t u d e h k = absurd h
  one_call_ending call cert input Arguments Memory t u d e h k = absurd e
  one_call_ending call cert input Arguments (File j) t u d e h k = absurd e
  one_call_ending call cert input Arguments Write t u d e h k = absurd e
  one_call_ending call cert input Arguments (OverGiven g) t u d e h k = absurd h
  one_call_ending call cert input (BadLine l w) Done t u d e h k = absurd (not_both (work_said call cert input) _ k.1.0 h.1 k.1.1)
  one_call_ending call cert input (BadLine l w) (Over m) t u d e h k = absurd (not_both (work_said call cert input) _ k.1.0 h.1 k.1.1)
  one_call_ending call cert input (BadLine l w) Arguments t u d e h k = absurd k
  one_call_ending call cert input (BadLine l w) (BadLine m v) t u d e h k = one_bad (work_said call cert input) (record { line = l; why = w }) (record { line = m; why = v }) h.1 k.1
  one_call_ending call cert input (BadLine l w) Size t u d e h k = absurd (size_apart cert input h.0 k.0)
  one_call_ending call cert input (BadLine l w) Memory t u d e h k = absurd e
  one_call_ending call cert input (BadLine l w) (File j) t u d e h k = absurd e
  one_call_ending call cert input (BadLine l w) Write t u d e h k = absurd e
  one_call_ending call cert input (BadLine l w) (OverGiven g) t u d e h k = absurd (not_both (work_said call cert input) _ k.0.1.0 h.1 k.0.1.1)
  one_call_ending call cert input Size Done t u d e h k = absurd (size_apart cert input k.0 h.0)
  one_call_ending call cert input Size (Over m) t u d e h k = absurd (size_apart cert input k.0 h.0)
  one_call_ending call cert input Size Arguments t u d e h k = absurd k
  one_call_ending call cert input Size (BadLine m v) t u d e h k = absurd (size_apart cert input k.0 h.0)
  one_call_ending call cert input Size Size t u d e h k = refl
  one_call_ending call cert input Size Memory t u d e h k = absurd e
  one_call_ending call cert input Size (File j) t u d e h k = absurd e
  one_call_ending call cert input Size Write t u d e h k = absurd e
  one_call_ending call cert input Size (OverGiven g) t u d e h k = absurd (size_apart cert input k.0.0 h.0)
  one_call_ending call cert input Memory Done t u d e h k = absurd d
  one_call_ending call cert input Memory (Over m) t u d e h k = absurd d
  one_call_ending call cert input Memory Arguments t u d e h k = absurd d
  one_call_ending call cert input Memory (BadLine m v) t u d e h k = absurd d
  one_call_ending call cert input Memory Size t u d e h k = absurd d
  one_call_ending call cert input Memory Memory t u d e h k = absurd d
  one_call_ending call cert input Memory (File j) t u d e h k = absurd d
  one_call_ending call cert input Memory Write t u d e h k = absurd d
  one_call_ending call cert input Memory (OverGiven g) t u d e h k = absurd d
  one_call_ending call cert input (File i) Done t u d e h k = absurd d
  one_call_ending call cert input (File i) (Over m) t u d e h k = absurd d
  one_call_ending call cert input (File i) Arguments t u d e h k = absurd d
  one_call_ending call cert input (File i) (BadLine m v) t u d e h k = absurd d
  one_call_ending call cert input (File i) Size t u d e h k = absurd d
  one_call_ending call cert input (File i) Memory t u d e h k = absurd d
  one_call_ending call cert input (File i) (File j) t u d e h k = absurd d
  one_call_ending call cert input (File i) Write t u d e h k = absurd d
  one_call_ending call cert input (File i) (OverGiven g) t u d e h k = absurd d
  one_call_ending call cert input Write Done t u d e h k = absurd d
  one_call_ending call cert input Write (Over m) t u d e h k = absurd d
  one_call_ending call cert input Write Arguments t u d e h k = absurd d
  one_call_ending call cert input Write (BadLine m v) t u d e h k = absurd d
  one_call_ending call cert input Write Size t u d e h k = absurd d
  one_call_ending call cert input Write Memory t u d e h k = absurd d
  one_call_ending call cert input Write (File j) t u d e h k = absurd d
  one_call_ending call cert input Write Write t u d e h k = absurd d
  one_call_ending call cert input Write (OverGiven g) t u d e h k = absurd d
  one_call_ending call cert input (OverGiven l) Done t u d e h k = absurd (done_given call cert input l u t k h)
  one_call_ending call cert input (OverGiven l) (Over m) t u d e h k = absurd (over_given call cert input m l u t k h)
  one_call_ending call cert input (OverGiven l) Arguments t u d e h k = absurd k
  one_call_ending call cert input (OverGiven l) (BadLine m v) t u d e h k = absurd (not_both (work_said call cert input) _ h.0.1.0 k.1 h.0.1.1)
  one_call_ending call cert input (OverGiven l) Size t u d e h k = absurd (size_apart cert input h.0.0 k.0)
  one_call_ending call cert input (OverGiven l) Memory t u d e h k = absurd e
  one_call_ending call cert input (OverGiven l) (File j) t u d e h k = absurd e
  one_call_ending call cert input (OverGiven l) Write t u d e h k = absurd e
  one_call_ending call cert input (OverGiven l) (OverGiven g) t u d e h k = ap OverGiven (given_given call cert input l g t u h k)

  one_ending_at : (c : Option Call) (cert input : List ℕ) (o p : Outcome) (t u : List ℕ) → IsDecided o → IsDecided p → CallEndsAt c cert input o t → CallEndsAt c cert input p u → o ≡ p
  one_ending_at None cert input o p t u d e h k = h.0 ∙ sym k.0
  one_ending_at (Some call) cert input o p t u d e h k = one_call_ending call cert input o p t u d e h k

  pub one_ending : (words : List (List ℕ)) (cert input : List ℕ) (o p : Outcome) (t u : List ℕ) → IsDecided o → IsDecided p → Ends words cert input o t → Ends words cert input p u → o ≡ p
  one_ending words cert input o p t u d e h k = one_ending_at (call_of words) cert input o p t u d e h k

-- a run ends as its arguments, its preface and its input decide, or memory, a file or the sink failed
module _ (one : HaveOneEnding) where
  decided_as : (words : List (List ℕ)) (cert input : List ℕ) (o p : Outcome) (t u : List ℕ) → IsDecided p → Ends words cert input o t → Ends words cert input p u → (o ≡ p) ⊎ (status_of o ≡ 1) ⊎ (status_of o ≡ 4) ⊎ (status_of o ≡ 5)
  decided_as words cert input Done p t u d h k = inl (one words cert input Done p t u tt d h k)
  decided_as words cert input (Over l) p t u d h k = inl (one words cert input (Over l) p t u tt d h k)
  decided_as words cert input Arguments p t u d h k = inl (one words cert input Arguments p t u tt d h k)
  decided_as words cert input (BadLine l w) p t u d h k = inl (one words cert input (BadLine l w) p t u tt d h k)
  decided_as words cert input Size p t u d h k = inl (one words cert input Size p t u tt d h k)
  decided_as words cert input (OverGiven l) p t u d h k = inl (one words cert input (OverGiven l) p t u tt d h k)
  decided_as words cert input Memory p t u d h k = inr (inl refl)
  decided_as words cert input (File i) p t u d h k = inr (inr (inl refl))
  decided_as words cert input Write p t u d h k = inr (inr (inr refl))

  pub decided_by : (seen : FilesSeen) (words : List (List ℕ)) (old new : Option (List ℕ)) (o : Outcome) → OfInputs seen words (λ cert input. (text : List ℕ) × Ends words cert input o text × Writes o old new text)
      → OfInputs seen words (λ cert input. (p : Outcome) (u : List ℕ) → IsDecided p → Ends words cert input p u → (o ≡ p) ⊎ (status_of o ≡ 1) ⊎ (status_of o ≡ 4) ⊎ (status_of o ≡ 5))
  decided_by seen words old new o h = λ p u d k. decided_as words _ _ o p h.0 u d h.1 k

-- two texts of one ending are one, or alike
module _ (whole : WholeTextsAreAlike) (limited : TextsToLimitAreAlike) (one_given : AGivenDigestIsOne) where
  done_alike : (workers : ℕ) (work : Work) (t u : List ℕ) → IsTextOf workers work t → IsTextOf workers work u → (t ≡ u) ⊎ AreAlike t u
  done_alike workers (Jobs tables jobs) t u h k =
      let same : k.given ≡ h.given = one_given tables k.given h.given k.is h.is in
      let other : (last : State) × IsText workers h.given jobs last u = subst (λ d. (last : State) × IsText workers d jobs last u) same k.holds in
      inr ((whole workers h.given jobs h.holds.0 other.0 t u h.holds.1 other.1).1)
  done_alike workers (Steps file) t u h k = inl (h ∙ sym k)

  over_alike : (workers : ℕ) (work : Work) (limit : Limit) (t u : List ℕ) → IsTextUpTo workers work limit t → IsTextUpTo workers work limit u → (t ≡ u) ⊎ AreAlike t u
  over_alike workers (Jobs tables jobs) limit t u h k =
      let same : k.given ≡ h.given = one_given tables k.given h.given k.is h.is in
      inr (limited workers h.given jobs limit t u h.holds (subst (λ d. IsTextToLimit workers d jobs limit u) same k.holds))
  over_alike workers (Steps file) limit t u h k = absurd h

  call_alike : (call : Call) (cert input : List ℕ) (o : Outcome) (t u : List ℕ) → IsDecided o → CallEnds call cert input o t → CallEnds call cert input o u → (t ≡ u) ⊎ AreAlike t u
  call_alike call cert input Done t u d h k = done_alike call.workers h.1.0 t u h.1.2 (subst (λ w. IsTextOf call.workers w u) (one_work (work_said call cert input) h.1.0 k.1.0 h.1.1 k.1.1) k.1.2)
  call_alike call cert input (Over l) t u d h k = over_alike call.workers h.1.0 l t u h.1.2 (subst (λ w. IsTextUpTo call.workers w l u) (one_work (work_said call cert input) h.1.0 k.1.0 h.1.1 k.1.1) k.1.2)
  call_alike call cert input Arguments t u d h k = absurd h
  call_alike call cert input (BadLine l w) t u d h k = inl (h.2 ∙ sym k.2)
  call_alike call cert input Size t u d h k = inl (h.1 ∙ sym k.1)
  call_alike call cert input (OverGiven l) t u d h k = inl (h.1 ∙ sym k.1)
  call_alike call cert input Memory t u d h k = absurd d
  call_alike call cert input (File i) t u d h k = absurd d
  call_alike call cert input Write t u d h k = absurd d

  alike_at : (c : Option Call) (cert input : List ℕ) (o : Outcome) (t u : List ℕ) → IsDecided o → CallEndsAt c cert input o t → CallEndsAt c cert input o u → (t ≡ u) ⊎ AreAlike t u
  alike_at None cert input o t u d h k = inl (h.1 ∙ sym k.1)
  alike_at (Some call) cert input o t u d h k = call_alike call cert input o t u d h k

  alike : (words : List (List ℕ)) (cert input : List ℕ) (o : Outcome) (t u : List ℕ) → IsDecided o → Ends words cert input o t → Ends words cert input o u → (t ≡ u) ⊎ AreAlike t u
  alike words cert input o t u d h k = alike_at (call_of words) cert input o t u d h k

  pub differ_alone : AlikeTextsDifferInNumbers → (words : List (List ℕ)) (cert input : List ℕ) (o : Outcome) (t u : List ℕ) → IsDecided o → Ends words cert input o t → Ends words cert input o u → (t ≡ u) ⊎ DifferInWatchNumbers t u
  differ_alone numbers words cert input o t u d h k = elim (alike words cert input o t u d h k) [
    | inl same ↦ inl same
    | inr h ↦ inr (numbers t u h)
  ]
