-- What a trace refutes, it refutes under other names.
use Rattle.std.proofs.Common.{◌≡◌, ◌≢◌, ℕ, pos, ◌+ℤ◌, ◌<ℤ◌, Option, Some, List, arith, sym, ap, ◌∙◌, subst, ⊎_elim, inl, inr}
use Rattle.std.proofs.lemmas.Int.{ints}
use Rattle.std.specs.List.{AllZip}
use Rattle.std.specs.declared.cmp.Ordering.{Ordering}
use Rattle.std.specs.declared.cmp.Ordering.TheVariants.{Less}
use Rattle.trace_types.specs.Parts.{Parts}
use Rattle.trace_types.specs.Pipelines.{HandlesAt, StartsAt, EndsAt, StartsInOrder, TakesUnfinished, TakesOutOfOrder, RefutesPipe, RefutesUnshared}
use Rattle.trace_types.specs.Refuting.{HasBoth, StartsEarly, RefutesBefore, RefutesExclusive, RefutesApart}
use Rattle.trace_types.specs.Relations.{ExcludesUnordered}
use Rattle.trace_types.specs.Renaming.{IsOneToOne, Agree, IsSegmentRenamed, IsTraceRenamed, AreRenamed, RefuteAlike, SurviveAlike, LeaveAlike}
use Rattle.trace_types.proofs.MatchLemmas.{Flip, OneToOne, flip_one, Are, are_one, OptionsMatch, flip_options, options_are, some_matched, zip_map, flip_zip, partner_at, partner_in, survive_alike, refuted_alike}

-- ---- the two readings, matched by relations
pub record SegmentsMatch {A S N T E B X M U F : Type 0} (p : Parts A S N T E) (q : Parts B X M U F) (NR : N → M → Type 0) (TR : T → U → Type 0) (ER : E → F → Type 0) (s : S) (x : X) : Type 0 where
  pub name : NR (p.name s) (q.name x)
  pub task : TR (p.task s) (q.task x)
  pub element : OptionsMatch ER (p.element s) (q.element x)
  pub start : q.start x ≡ p.start s
  pub end : q.end x ≡ p.end s

pub record TracesMatch {A S N T E B X M U F : Type 0} (p : Parts A S N T E) (q : Parts B X M U F) (NR : N → M → Type 0) (TR : T → U → Type 0) (ER : E → F → Type 0) (trace : A) (other : B) : Type 0 where
  pub grace : q.grace other ≡ p.grace trace
  pub segments : AllZip (SegmentsMatch p q NR TR ER) (p.segments trace) (q.segments other)
  pub one_name : OneToOne NR
  pub one_task : OneToOne TR
  pub one_element : OneToOne ER

pub flip_traces : {A S N T E B X M U F : Type 0} (p : Parts A S N T E) (q : Parts B X M U F) (NR : N → M → Type 0) (TR : T → U → Type 0) (ER : E → F → Type 0) (trace : A) (other : B)
    → TracesMatch p q NR TR ER trace other → TracesMatch q p (Flip NR) (Flip TR) (Flip ER) other trace
flip_traces {A} {S} {N} {T} {E} {B} {X} p q NR TR ER trace other m = record {
  grace = sym m.grace;
  segments = zip_map (λ (x : X) (s : S). SegmentsMatch p q NR TR ER s x) (SegmentsMatch q p (Flip NR) (Flip TR) (Flip ER))
      (λ x s h. record { name = h.name; task = h.task; element = flip_options ER (p.element s) (q.element x) h.element; start = sym h.start; end = sym h.end })
      (q.segments other) (p.segments trace) (flip_zip (SegmentsMatch p q NR TR ER) (p.segments trace) (q.segments other) m.segments);
  one_name = flip_one NR m.one_name;
  one_task = flip_one TR m.one_task;
  one_element = flip_one ER m.one_element;
}

pub renamed_match : {A S N T E B X M U F : Type 0} (p : Parts A S N T E) (q : Parts B X M U F) (names : List (N × M)) (tasks : List (T × U)) (trace : A) (other : B)
    → IsOneToOne names → IsOneToOne tasks → (m : IsTraceRenamed p q names tasks trace other) → TracesMatch p q (Are names) (Are tasks) (Are m.elements) trace other
renamed_match {A} {S} {N} {T} {E} {B} {X} p q names tasks trace other one_n one_t m = record {
  grace = m.grace;
  segments = zip_map (IsSegmentRenamed p q names tasks m.elements) (SegmentsMatch p q (Are names) (Are tasks) (Are m.elements))
      (λ s x h. record { name = h.name; task = h.task; element = options_are m.elements (p.element s) (q.element x) h.element; start = h.start; end = h.end })
      (p.segments trace) (q.segments other) m.segments;
  one_name = are_one names one_n;
  one_task = are_one tasks one_t;
  one_element = are_one m.elements m.one_to_one;
}

-- ---- from the one reading to the other
module _ {A S N T E B X M U F : Type 0} (p : Parts A S N T E) (q : Parts B X M U F) (NR : N → M → Type 0) (TR : T → U → Type 0) (ER : E → F → Type 0) (trace : A) (other : B) (m : TracesMatch p q NR TR ER trace other) where
  early_to : (r s : S) (y x : X) → SegmentsMatch p q NR TR ER r y → SegmentsMatch p q NR TR ER s x → StartsEarly p trace r s → StartsEarly q other y x
  early_to r s y x h i early =
      let e : q.start y ≡ p.start r = h.start in
      let f : q.end x ≡ p.end s = i.end in
      let g : (p.start r +ℤ pos (q.grace other)) <ℤ p.end s = subst (λ (n : ℕ). (p.start r +ℤ pos n) <ℤ p.end s) (sym m.grace) early in
      omega (arith, ints)

  name_to : (a : N) (c : M) → NR a c → (s : S) (x : X) → SegmentsMatch p q NR TR ER s x → p.name s ≡ a → q.name x ≡ c
  name_to a c r s x h e = m.one_name.to a (q.name x) c (subst (λ (n : N). NR n (q.name x)) e h.name) r

  both_to : (a b : N) (c d : M) → NR a c → NR b d → (R : S → S → Type 0) (Q : X → X → Type 0)
      → ((s r : S) (x y : X) → SegmentsMatch p q NR TR ER s x → SegmentsMatch p q NR TR ER r y → R s r → Q x y)
      → HasBoth p a b R trace → HasBoth q c d Q other
  both_to a b c d ac bd R Q turn h =
      let u = partner_in (SegmentsMatch p q NR TR ER) (p.segments trace) (q.segments other) m.segments h.0 h.2 in
      let v = partner_in (SegmentsMatch p q NR TR ER) (p.segments trace) (q.segments other) m.segments h.1 h.3 in
      (u.0, v.0, u.1, v.1, name_to a c ac h.0 u.0 u.2 h.4, name_to b d bd h.1 v.0 v.2 h.5, turn h.0 h.1 u.0 v.0 u.2 v.2 h.6)

  before_to : (a b : N) (c d : M) → NR a c → NR b d → RefutesBefore p a b trace → RefutesBefore q c d other
  before_to a b c d ac bd = both_to a b c d ac bd (λ (s r : S). StartsEarly p trace r s) (λ (x y : X). StartsEarly q other y x) (λ s r x y h i. early_to r s y x i h)

  exclusive_to : (a b : N) (c d : M) → NR a c → NR b d → RefutesExclusive p a b trace → RefutesExclusive q c d other
  exclusive_to a b c d ac bd =
      both_to a b c d ac bd (λ (s r : S). StartsEarly p trace s r × StartsEarly p trace r s) (λ (x y : X). StartsEarly q other x y × StartsEarly q other y x)
      (λ s r x y h i both. (early_to s r x y h i both.0, early_to r s y x i h both.1))

  apart_to : (a b : N) (c d : M) → NR a c → NR b d → RefutesApart p a b trace → RefutesApart q c d other
  apart_to a b c d ac bd = both_to a b c d ac bd (λ (s r : S). Unit {0}) (λ (x y : X). Unit {0}) (λ s r x y h i u. u)

  -- the element that the other trace has for one that a task handles
  element_to : (t : T) (e : E) (k : ℕ) (s : S) → HandlesAt p trace t e k s → (f : F) × ER e f
  element_to t e k s h =
      let r = partner_at (SegmentsMatch p q NR TR ER) (p.segments trace) (q.segments other) m.segments k s h.segment in
      let o = some_matched ER e (q.element r.0) (subst (λ (v : Option E). OptionsMatch ER v (q.element r.0)) h.element r.2.element) in
      (o.0, o.2)

  handles_to : (t : T) (e : E) (u : U) (f : F) → TR t u → ER e f → (k : ℕ) (s : S) → HandlesAt p trace t e k s → (x : X) × HandlesAt q other u f k x × SegmentsMatch p q NR TR ER s x
  handles_to t e u f tu ef k s h =
      let r = partner_at (SegmentsMatch p q NR TR ER) (p.segments trace) (q.segments other) m.segments k s h.segment in
      let o = some_matched ER e (q.element r.0) (subst (λ (v : Option E). OptionsMatch ER v (q.element r.0)) h.element r.2.element) in (
        r.0,
        record {
          segment = r.1;
          task = m.one_task.to t (q.task r.0) u (subst (λ (v : T). TR v (q.task r.0)) h.task r.2.task) tu;
          element = o.1 ∙ ap (λ (v : F). Some v) (m.one_element.to e o.0 f o.2 ef);
        },
        r.2,
      )

-- ---- and back, for what is said of all segments
module _ {A S N T E B X M U F : Type 0} (p : Parts A S N T E) (q : Parts B X M U F) (NR : N → M → Type 0) (TR : T → U → Type 0) (ER : E → F → Type 0) (trace : A) (other : B) (m : TracesMatch p q NR TR ER trace other) where
  handles_back : (t : T) (e : E) (u : U) (f : F) → TR t u → ER e f → (k : ℕ) (x : X) → HandlesAt q other u f k x → (s : S) × HandlesAt p trace t e k s
  handles_back t e u f tu ef k x h =
      let r = handles_to q p (Flip NR) (Flip TR) (Flip ER) other trace (flip_traces p q NR TR ER trace other m) u f t e tu ef k x h in
      (r.0, r.1)

  starts_to : (t : T) (e : E) (u : U) (f : F) → TR t u → ER e f → (k : ℕ) (s : S) → StartsAt p trace t e k s → (x : X) × StartsAt q other u f k x × SegmentsMatch p q NR TR ER s x
  starts_to t e u f tu ef k s h =
      let r = handles_to p q NR TR ER trace other m t e u f tu ef k s h.handles in
      (r.0, record { handles = r.1; first = λ j y i. let b = handles_back t e u f tu ef j y i in h.first j b.0 b.1 }, r.2)

  ends_to : (t : T) (e : E) (u : U) (f : F) → TR t u → ER e f → (k : ℕ) (s : S) → EndsAt p trace t e k s → (x : X) × EndsAt q other u f k x × SegmentsMatch p q NR TR ER s x
  ends_to t e u f tu ef k s h =
      let r = handles_to p q NR TR ER trace other m t e u f tu ef k s h.handles in
      (r.0, record { handles = r.1; last = λ j y i. let b = handles_back t e u f tu ef j y i in h.last j b.0 b.1 }, r.2)

  order_to : (t : T) (e f : E) (u : U) (g h : F) → TR t u → ER e g → ER f h → StartsInOrder p trace t e f → StartsInOrder q other u g h
  order_to t e f u g h tu eg fh o =
      let a = starts_to t e u g tu eg o.earlier o.s o.first in
      let b = starts_to t f u h tu fh o.later o.r o.second in
      record { earlier = o.earlier; later = o.later; s = a.0; r = b.0; first = a.1; second = b.1; order = o.order }

  unfinished_to : (t u : T) (v w : U) → TR t v → TR u w → TakesUnfinished p t u trace → TakesUnfinished q v w other
  unfinished_to t u v w tv uw h =
      let f = element_to p q NR TR ER trace other m t h.element h.giver h.given h.ends.handles in
      let a = ends_to t h.element v f.0 tv f.1 h.giver h.given h.ends in
      let b = starts_to u h.element w f.0 uw f.1 h.taker h.taken h.starts in
      record {
        element = f.0;
        giver = h.giver;
        taker = h.taker;
        given = a.0;
        taken = b.0;
        ends = a.1;
        starts = b.1;
        early = early_to p q NR TR ER trace other m h.taken h.given b.0 a.0 b.2 a.2 h.early;
      }

  out_of_order_to : (t u : T) (v w : U) → TR t v → TR u w → TakesOutOfOrder p t u trace → TakesOutOfOrder q v w other
  out_of_order_to t u v w tv uw h =
      let f = element_to p q NR TR ER trace other m t h.one h.in_order.earlier h.in_order.s h.in_order.first.handles in
      let g = element_to p q NR TR ER trace other m t h.other h.in_order.later h.in_order.r h.in_order.second.handles in
      record {
        one = f.0;
        other = g.0;
        in_order = order_to t h.one h.other v f.0 g.0 tv f.1 g.1 h.in_order;
        turned = order_to u h.other h.one w g.0 f.0 uw g.1 f.1 h.turned;
      }

  pipe_to : (t u : T) (v w : U) → TR t v → TR u w → RefutesPipe p t u trace → RefutesPipe q v w other
  pipe_to t u v w tv uw h = ⊎_elim (λ (a : TakesUnfinished p t u trace). inl (unfinished_to t u v w tv uw a)) (λ (b : TakesOutOfOrder p t u trace). inr (out_of_order_to t u v w tv uw b)) h

  unshared_to : (t u : T) (v w : U) → TR t v → TR u w → RefutesUnshared p t u trace → RefutesUnshared q v w other
  unshared_to t u v w tv uw h =
      let f = element_to p q NR TR ER trace other m t h.element h.k h.s h.one in
      let a = handles_to p q NR TR ER trace other m t h.element v f.0 tv f.1 h.k h.s h.one in
      let b = handles_to p q NR TR ER trace other m u h.element w f.0 uw f.1 h.l h.r h.other in
      record { element = f.0; k = h.k; l = h.l; s = a.0; r = b.0; one = a.1; other = b.1 }

-- ---- both ways
module _ {A S N T E B X M U F : Type 0} (p : Parts A S N T E) (q : Parts B X M U F) (names : List (N × M)) (tasks : List (T × U)) (one_n : IsOneToOne names) (one_t : IsOneToOne tasks) where
  pub trace_alike : (trace : A) (other : B) → IsTraceRenamed p q names tasks trace other → RefuteAlike p q names tasks trace other
  trace_alike trace other renamed =
      let NR : N → M → Type 0 = Are names in
      let TR : T → U → Type 0 = Are tasks in
      let ER : E → F → Type 0 = Are renamed.elements in
      let m = renamed_match p q names tasks trace other one_n one_t renamed in
      let w = flip_traces p q NR TR ER trace other m in
      record {
        before = λ a b c d ac bd. (before_to p q NR TR ER trace other m a b c d ac bd, before_to q p (Flip NR) (Flip TR) (Flip ER) other trace w c d a b ac bd);
        exclusive = λ a b c d ac bd. (exclusive_to p q NR TR ER trace other m a b c d ac bd, exclusive_to q p (Flip NR) (Flip TR) (Flip ER) other trace w c d a b ac bd);
        apart = λ a b c d ac bd. (apart_to p q NR TR ER trace other m a b c d ac bd, apart_to q p (Flip NR) (Flip TR) (Flip ER) other trace w c d a b ac bd);
        pipe = λ a b c d ac bd. (pipe_to p q NR TR ER trace other m a b c d ac bd, pipe_to q p (Flip NR) (Flip TR) (Flip ER) other trace w c d a b ac bd);
        unshared = λ a b c d ac bd. (unshared_to p q NR TR ER trace other m a b c d ac bd, unshared_to q p (Flip NR) (Flip TR) (Flip ER) other trace w c d a b ac bd);
      }

  lists_alike : {X' Y' : Type 0} (matches : List (X' × Y')) (R : X' → X' → A → Type 0) (Q : Y' → Y' → B → Type 0) (traces : List A) (others : List B) → AreRenamed p q names tasks traces others
      → ((trace : A) (other : B) → RefuteAlike p q names tasks trace other → Agree matches (λ a b. R a b trace) (λ c d. Q c d other)) → SurviveAlike matches R Q traces others
  lists_alike matches R Q traces others each alike = record {
    survives = λ a b c d ac bd. survive_alike (R a b) (Q c d) (IsTraceRenamed p q names tasks) traces others each (λ t u r. alike t u (trace_alike t u r) a b c d ac bd);
    refuted = λ a b c d ac bd. refuted_alike (R a b) (Q c d) (IsTraceRenamed p q names tasks) traces others each (λ t u r. alike t u (trace_alike t u r) a b c d ac bd);
  }

  differ_alike : Agree names (λ a b. a ≢ b) (λ c d. c ≢ d)
  differ_alike a b c d ac bd =
      let one = are_one names one_n in (
        (λ h e. h (one.back a b c ac (subst (λ (v : M). Are names b v) (sym e) bd))),
        (λ h e. h (one.to a c d ac (subst (λ (v : N). Are names v d) (sym e) bd))),
      )

  pub leave_alike : (traces : List A) (others : List B) → AreRenamed p q names tasks traces others → LeaveAlike p q names tasks traces others
  leave_alike traces others each =
      let before : SurviveAlike names (RefutesBefore p) (RefutesBefore q) traces others = lists_alike names (RefutesBefore p) (RefutesBefore q) traces others each (λ t u r. r.before) in
      let apart : SurviveAlike names (RefutesApart p) (RefutesApart q) traces others = lists_alike names (RefutesApart p) (RefutesApart q) traces others each (λ t u r. r.apart) in
      record {
        before = before;
        exclusive = lists_alike names (RefutesExclusive p) (RefutesExclusive q) traces others each (λ t u r. r.exclusive);
        apart = apart;
        pipe = lists_alike tasks (RefutesPipe p) (RefutesPipe q) traces others each (λ t u r. r.pipe);
        unshared = lists_alike tasks (RefutesUnshared p) (RefutesUnshared q) traces others each (λ t u r. r.unshared);
        happens_before = λ a b c d ac bd. (
          (λ h. record { differ = (differ_alike a b c d ac bd).0 h.differ; together = (apart.refuted a b c d ac bd).0 h.together; survives = (before.survives a b c d ac bd).0 h.survives }),
          (λ h. record { differ = (differ_alike a b c d ac bd).1 h.differ; together = (apart.refuted a b c d ac bd).1 h.together; survives = (before.survives a b c d ac bd).1 h.survives }),
        );
      }

  pub unordered_alike : (traces : List A) (others : List B) → AreRenamed p q names tasks traces others → (cmp : N → N → Ordering) (other_cmp : M → M → Ordering) → Agree names (λ a b. cmp a b ≡ Less) (λ c d. other_cmp c d ≡ Less)
      → Agree names (ExcludesUnordered p cmp traces) (ExcludesUnordered q other_cmp others)
  unordered_alike traces others each cmp other_cmp order a b c d ac bd =
      let left = leave_alike traces others each in (
        (λ h. record {
          rises = (order a b c d ac bd).0 h.rises;
          together = (left.apart.refuted a b c d ac bd).0 h.together;
          survives = (left.exclusive.survives a b c d ac bd).0 h.survives;
          not_before = (left.before.refuted a b c d ac bd).0 h.not_before;
          not_after = (left.before.refuted b a d c bd ac).0 h.not_after;
        }),
        (λ h. record {
          rises = (order a b c d ac bd).1 h.rises;
          together = (left.apart.refuted a b c d ac bd).1 h.together;
          survives = (left.exclusive.survives a b c d ac bd).1 h.survives;
          not_before = (left.before.refuted a b c d ac bd).1 h.not_before;
          not_after = (left.before.refuted b a d c bd ac).1 h.not_after;
        }),
      )
