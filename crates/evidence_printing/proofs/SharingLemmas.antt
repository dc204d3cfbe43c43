-- Two tasks share as many elements under two readings of the traces.
use Rattle.std.proofs.Common.{◌≡◌, ◌≢◌, ◌↔◌, ℕ, Bool, true, Option, Some, List, [], ◌∷◌, length, get_or, Contains, AllPairs, refl, sym, ap, ◌∙◌, subst}
use Rattle.std.specs.List.{AllZip}
use Rattle.std.proofs.lemmas.List.Elements.{Contains-get_or}
use Rattle.evidence_rules.specs.Sharings.{AreSharings, AreVerdicts, Share}
use Rattle.evidence_rules.specs.declared.sharing.Sharing.{Sharing}
use Rattle.trace_types.specs.Listing.{AreExactly}
use Rattle.trace_types.specs.Parts.{Parts}
use Rattle.trace_types.specs.Pipelines.{HandlesAt, RefutesPipe, RefutesUnshared}
use Rattle.trace_types.specs.Renaming.{IsOneToOne, IsTraceRenamed}
use Rattle.trace_types.proofs.ListingLemmas.{Contains-cons, cons_here, head_before, pairs_tail}
use Rattle.trace_types.proofs.MatchLemmas.{Are, Flip, OneToOne, OptionsMatch, flip_zip, partner_at, partner_in, some_matched}
use Rattle.trace_types.proofs.PairLemmas.{AllPairs-nil, pairs_cons}
use Rattle.trace_types.proofs.RenamingLemmas.{SegmentsMatch, TracesMatch, flip_traces, renamed_match, trace_alike}
use Rattle.trace_types.proofs.ZipLemmas.{zip_length}

zip_through : {A B C : Type 0} (R : A → B → Type 0) (P : A → C → Type 0) (Q : B → C → Type 0) → ((a : A) (b : B) (c : C) → R a b → P a c → Q b c) → (xs : List A) (ys : List B) (zs : List C) → AllZip R xs ys → AllZip P xs zs → AllZip Q ys zs
zip_through R P Q go [] [] [] r p = tt
zip_through R P Q go [] [] (z ∷ zs) r p = absurd p
zip_through R P Q go [] (y ∷ ys) zs r p = absurd r
zip_through R P Q go (x ∷ xs) [] zs r p = absurd r
zip_through R P Q go (x ∷ xs) (y ∷ ys) [] r p = absurd p
zip_through R P Q go (x ∷ xs) (y ∷ ys) (z ∷ zs) r p = (go x y z r.0 p.0, zip_through R P Q go xs ys zs r.1 p.1)

-- ---- lists that are matched one to one
module _ {E F : Type 0} (R : E → F → Type 0) (one : OneToOne R) where
  differ_to : (es : List E) (fs : List F) → AllZip R es fs → AllPairs (λ (x y : E). x ≢ y) es → AllPairs (λ (x y : F). x ≢ y) fs
  differ_to [] [] z d = AllPairs-nil (λ (x y : F). x ≢ y)
  differ_to [] (f ∷ fs) z d = absurd z
  differ_to (e ∷ es) [] z d = absurd z
  differ_to (e ∷ es) (f ∷ fs) z d = pairs_cons (λ (x y : F). x ≢ y) f fs
      (λ k dflt lt same.
      let r = partner_in (Flip R) fs es (flip_zip R es fs z.1) (get_or fs k dflt) (Contains-get_or fs k dflt lt) in
      head_before (λ (x y : E). x ≢ y) e es r.0 d r.1 (one.back e r.0 f z.0 (subst (λ (v : F). R r.0 v) (sym same) r.2)))
      (differ_to es fs z.1 (pairs_tail (λ (x y : E). x ≢ y) e es d))

  images : (P : E → Type 0) → ((e : E) → P e → (f : F) × R e f) → (es : List E) → ((e : E) → Contains es e → P e) → (fs : List F) × AllZip R es fs
  images P image [] each = ([], tt)
  images P image (e ∷ es) each =
      let f = image e (each e (cons_here e es)) in
      let rest = images P image es (λ x c. each x (Contains-cons e es x c)) in
      (f.0 ∷ rest.0, (f.1, rest.1))

  -- so many have P, and as many have Q, where the two go with R
  exactly_to : (P : E → Type 0) (Q : F → Type 0) → ((e : E) → P e → (f : F) × R e f) → ((f : F) → Q f → (e : E) × R e f) → ((e : E) (f : F) → R e f → P e ↔ Q f) → (n : ℕ) → AreExactly P n → AreExactly Q n
  exactly_to P Q image origin alike n are =
      let made = images P image are.all (λ e c. (are.exactly e).0 c) in
      record {
        all = made.0;
        differ = differ_to are.all made.0 made.1 are.differ;
        exactly = λ f. (
          (λ c. let r = partner_in (Flip R) made.0 are.all (flip_zip R are.all made.0 made.1) f c in (alike r.0 f r.2).0 ((are.exactly r.0).0 r.1)),
          (λ h.
              let e = origin f h in
              let r = partner_in R are.all made.0 made.1 e.0 ((are.exactly e.0).1 ((alike e.0 f e.1).1 h)) in
              subst (Contains made.0) (one.to e.0 r.0 f r.2 e.1) r.1),
        );
        count = sym (zip_length R are.all made.0 made.1) ∙ are.count;
      }

-- ---- from the one reading to the other
module _ {A S N T E B X M U F : Type 0} (p : Parts A S N T E) (q : Parts B X M U F) (NR : N → M → Type 0) (TR : T → U → Type 0) (ER : E → F → Type 0) (trace : A) (other : B) (m : TracesMatch p q NR TR ER trace other) where
  element_to : (t : T) (e : E) (k : ℕ) (s : S) → HandlesAt p trace t e k s → (f : F) × ER e f
  element_to t e k s h =
      let r = partner_at (SegmentsMatch p q NR TR ER) (p.segments trace) (q.segments other) m.segments k s h.segment in
      let o = some_matched ER e (q.element r.0) (subst (λ (v : Option E). OptionsMatch ER v (q.element r.0)) h.element r.2.element) in
      (o.0, o.2)

  handles_to : (t : T) (e : E) (u : U) (f : F) → TR t u → ER e f → (k : ℕ) (s : S) → HandlesAt p trace t e k s → (x : X) × HandlesAt q other u f k x
  handles_to t e u f tu ef k s h =
      let r = partner_at (SegmentsMatch p q NR TR ER) (p.segments trace) (q.segments other) m.segments k s h.segment in
      let o = some_matched ER e (q.element r.0) (subst (λ (v : Option E). OptionsMatch ER v (q.element r.0)) h.element r.2.element) in (
        r.0,
        record {
          segment = r.1;
          task = m.one_task.to t (q.task r.0) u (subst (λ (v : T). TR v (q.task r.0)) h.task r.2.task) tu;
          element = o.1 ∙ ap (λ (v : F). Some v) (m.one_element.to e o.0 f o.2 ef);
        },
      )

  share_image : (t u : T) (e : E) → Share p trace t u e → (f : F) × ER e f
  share_image t u e h = element_to t e h.k h.s h.one

  share_to : (t u : T) (v w : U) → TR t v → TR u w → (e : E) (f : F) → ER e f → Share p trace t u e → Share q other v w f
  share_to t u v w tv uw e f ef h =
      let a = handles_to t e v f tv ef h.k h.s h.one in
      let b = handles_to u e w f uw ef h.l h.r h.other in
      record { k = h.k; l = h.l; s = a.0; r = b.0; one = a.1; other = b.1 }

-- ---- figures
module _ {A S N T E B X M U F : Type 0} (p : Parts A S N T E) (q : Parts B X M U F) (names : List (N × M)) (tasks : List (T × U)) (one_n : IsOneToOne names) (one_t : IsOneToOne tasks) (t u : T) (v w : U) (tv : Contains tasks (t, v)) (uw : Contains tasks (u, w)) where
  counted_alike : (trace : A) (other : B) (n : ℕ) → IsTraceRenamed p q names tasks trace other → AreExactly (Share p trace t u) n → AreExactly (Share q other v w) n
  counted_alike trace other n renamed are =
      let NR : N → M → Type 0 = Are names in
      let TR : T → U → Type 0 = Are tasks in
      let ER : E → F → Type 0 = Are renamed.elements in
      let m = renamed_match p q names tasks trace other one_n one_t renamed in
      let back = flip_traces p q NR TR ER trace other m in
      exactly_to ER m.one_element (Share p trace t u) (Share q other v w)
      (share_image p q NR TR ER trace other m t u)
      (share_image q p (Flip NR) (Flip TR) (Flip ER) other trace back v w)
      (λ e f ef. (share_to p q NR TR ER trace other m t u v w tv uw e f ef, share_to q p (Flip NR) (Flip TR) (Flip ER) other trace back v w t u tv uw f e ef))
      n are

  pub sharings_alike : (traces : List A) (others : List B) → AllZip (IsTraceRenamed p q names tasks) traces others → (f : Sharing) → AreSharings p traces t u f → AreSharings q others v w f
  sharings_alike traces others renamed f are =
      let R = IsTraceRenamed p q names tasks in
      record {
        shared = are.shared;
        share = zip_through R (λ a (c : Bool). (c ≡ true) ↔ RefutesUnshared p t u a) (λ b (c : Bool). (c ≡ true) ↔ RefutesUnshared q v w b)
            (λ a b c r h. let alike = (trace_alike p q names tasks one_n one_t a b r).unshared t u v w tv uw in ((λ e. alike.0 (h.0 e)), (λ x. h.1 (alike.1 x))))
            traces others are.shared renamed are.share;
        traces_are = are.traces_are;
        elements = are.elements;
        are = zip_through R (λ a n. AreExactly (Share p a t u) n) (λ b n. AreExactly (Share q b v w) n) (λ a b n r h. counted_alike a b n r h) traces others are.elements renamed are.are;
        elements_are = are.elements_are;
        refuted = are.refuted;
        refute = zip_through R (λ a (c : Bool). (c ≡ true) ↔ RefutesPipe p t u a) (λ b (c : Bool). (c ≡ true) ↔ RefutesPipe q v w b)
            (λ a b c r h. let alike = (trace_alike p q names tasks one_n one_t a b r).pipe t u v w tv uw in ((λ e. alike.0 (h.0 e)), (λ x. h.1 (alike.1 x))))
            traces others are.refuted renamed are.refute;
        refuted_are = are.refuted_are;
        first = are.first;
      }
