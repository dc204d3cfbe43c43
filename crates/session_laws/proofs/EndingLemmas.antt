-- Jobs end in one way.
use Rattle.std.proofs.Common.{◌≡◌, ℕ, List, [], ◌∷◌, ◌++◌, sym, ◌∙◌, ap, subst}
use Rattle.digest_facts.specs.Digests.{Digest}
use Rattle.session_rules.specs.Parts.{Part, IsPart}
use Rattle.session_rules.specs.Sessions.{Does, Leads, Passes, State, first_state}
use Rattle.session_rules.specs.declared.job.Job.{Job}
use Rattle.session_rules.specs.declared.limit.Limit.{Limit}
use Rattle.text_rows.specs.TextsOfParts.{AreTexts}
use Rattle.trace_types.specs.Segments.{SegmentName}
use Rattle.session_laws.specs.EndingLaws.{AreAlike, JobDoesOneThing, JobPassesNoLimit, JobPassesOneLimit}
use Rattle.session_rules.specs.JobTexts.{IsText, IsTextToLimit}

module _ (one : JobDoesOneThing) (none : JobPassesNoLimit) (limit : JobPassesOneLimit) where
  leads_one : (w : ℕ) (jobs : List Job) (s last end : State) (ps qs : List Part) → Leads w jobs s ps last → Leads w jobs s qs end → (ps ≡ qs) × (last ≡ end)
  leads_one w [] s last end ps qs h k = (h.0 ∙ sym k.0, h.1 ∙ sym k.1)
  leads_one w (j ∷ js) s last end ps qs h k =
      let same = one w j s h.1 k.1 h.0 k.0 h.3 k.3 in
      let rest = leads_one w js h.1 last end h.2 k.2 h.4 (subst (λ (e : State). Leads w js e k.2 end) (sym same.1) k.4) in
      (h.5 ∙ ap (λ (t : List Part). t ++ h.2) same.0 ∙ ap (λ (t : List Part). k.0 ++ t) rest.0 ∙ sym k.5, rest.1)

  no_pass : (w : ℕ) (l : Limit) (done rest : List Job) (j : Job) (a b d : State) (ps qs : List Part) → Leads w (done ++ (j ∷ rest)) a ps b → Leads w done a qs d → Passes j d l → ⊥
  no_pass w l [] rest j a b d ps qs h k p = none w j a h.1 h.0 l h.3 (subst (λ (e : State). Passes j e l) k.1 p)
  no_pass w l (x ∷ done) rest j a b d ps qs h k p =
      let same = one w x a h.1 k.1 h.0 k.0 h.3 k.3 in
      no_pass w l done rest j h.1 b d h.2 k.2 h.4 (subst (λ (e : State). Leads w done e k.2 d) (sym same.1) k.4) p

  pub whole_no_limit : (w : ℕ) (given : Digest SegmentName (List ℕ)) (jobs : List Job) (last : State) (l : Limit) (t u : List ℕ) → IsText w given jobs last t → IsTextToLimit w given jobs l u → ⊥
  whole_no_limit w given jobs last l t u h k = no_pass w l k.done k.rest k.job (first_state given) last k.last h.parts k.told.parts (subst (λ (js : List Job). Leads w js (first_state given) h.parts last) k.split h.led) k.told.led k.passes

  -- jobs stop at a limit in one place
  stops_one : (w : ℕ) (l m : Limit) (done also rest more : List Job) (i j : Job) (a b d : State) (ps qs : List Part) → done ++ (i ∷ rest) ≡ also ++ (j ∷ more)
      → Leads w done a ps b → Passes i b l → Leads w also a qs d → Passes j d m → (ps ≡ qs) × (l ≡ m)
  stops_one w l m [] [] rest more i j a b d ps qs s h p k q =
      let same : j ≡ i = cc in
      (h.0 ∙ sym k.0, limit i a l m (subst (λ (y : State). Passes i y l) h.1 p) (subst (λ (y : Job). Passes y a m) same (subst (λ (y : State). Passes j y m) k.1 q)))
  stops_one w l m [] (x ∷ also) rest more i j a b d ps qs s h p k q =
      let same : i ≡ x = cc in
      absurd (none w x a k.1 k.0 l k.3 (subst (λ (y : Job). Passes y a l) same (subst (λ (y : State). Passes i y l) h.1 p)))
  stops_one w l m (x ∷ done) [] rest more i j a b d ps qs s h p k q =
      let same : j ≡ x = cc in
      absurd (none w x a h.1 h.0 m h.3 (subst (λ (y : Job). Passes y a m) same (subst (λ (y : State). Passes j y m) k.1 q)))
  stops_one w l m (x ∷ done) (y ∷ also) rest more i j a b d ps qs s h p k q =
      let head : y ≡ x = cc in
      let tail : done ++ (i ∷ rest) ≡ also ++ (j ∷ more) = cc in
      let does : Does w x a k.0 k.1 = subst (λ (z : Job). Does w z a k.0 k.1) head k.3 in
      let same = one w x a h.1 k.1 h.0 k.0 h.3 does in
      let others = stops_one w l m done also rest more i j h.1 b d h.2 k.2 tail h.4 p (subst (λ (z : State). Leads w also z k.2 d) (sym same.1) k.4) q in
      (h.5 ∙ ap (λ (t : List Part). t ++ h.2) same.0 ∙ ap (λ (t : List Part). k.0 ++ t) others.0 ∙ sym k.5, others.1)

  limit_stops : (w : ℕ) (given : Digest SegmentName (List ℕ)) (jobs : List Job) (l m : Limit) (t u : List ℕ) → (h : IsTextToLimit w given jobs l t) → (k : IsTextToLimit w given jobs m u) → (h.told.parts ≡ k.told.parts) × (l ≡ m)
  limit_stops w given jobs l m t u h k = stops_one w l m h.done k.done h.rest k.rest h.job k.job (first_state given) h.last k.last h.told.parts k.told.parts (sym h.split ∙ k.split) h.told.led h.passes k.told.led k.passes

  pub limits_one : (w : ℕ) (given : Digest SegmentName (List ℕ)) (jobs : List Job) (l m : Limit) (t u : List ℕ) → IsTextToLimit w given jobs l t → IsTextToLimit w given jobs m u → l ≡ m
  limits_one w given jobs l m t u h k = (limit_stops w given jobs l m t u h k).1

  pub texts_alike : (w : ℕ) (given : Digest SegmentName (List ℕ)) (jobs : List Job) (last end : State) (t u : List ℕ) → IsText w given jobs last t → IsText w given jobs end u → (last ≡ end) × AreAlike t u
  texts_alike w given jobs last end t u h k =
      let same = leads_one w jobs (first_state given) last end h.parts k.parts h.led k.led in
      (same.1, (h.parts, h.told, subst (λ (ps : List Part). AreTexts IsPart ps u) (sym same.0) k.told))

  pub limits_alike : (w : ℕ) (given : Digest SegmentName (List ℕ)) (jobs : List Job) (l : Limit) (t u : List ℕ) → IsTextToLimit w given jobs l t → IsTextToLimit w given jobs l u → AreAlike t u
  limits_alike w given jobs l t u h k = (h.told.parts, h.told.told, subst (λ (ps : List Part). AreTexts IsPart ps u) (sym ((limit_stops w given jobs l l t u h k).0)) k.told.told)
