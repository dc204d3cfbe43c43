-- A trace that is named and given its grace, and one whose names are all known.
use Rattle.std.proofs.Common.{◌≡◌, ℕ, zero, suc, ◌≤◌, inl, inr, Bool, true, false, not, ◌+◌, Option, Some, None, List, [], ◌∷◌, ◌++◌, length, map, filter, Contains, sym, ap, ◌∙◌, arith}
use Rattle.std.proofs.lemmas.Bool.{cases_Bool, cases_lt, cond-true, cond-false, lt-ltb, false≢true, not_from_true, not_from_false}
use Rattle.std.proofs.lemmas.List.Elements.{Contains-append_right}
use Rattle.std.specs.Prelude.{position, slice_get, nat_lt}
use Rattle.std.specs.List.{enumerate_from, position_or_len}
use Rattle.std.specs.Option.{option_map_or}
use Rattle.trace_types.specs.declared.named_trace.NamedTrace.{NamedTrace}
use Rattle.trace_types.specs.declared.segment.Segment.{Segment}
use Rattle.trace_types.specs.declared.trace.Trace.{Trace}
use Rattle.trace_types.specs.Firsts.{firsts_of}
use Rattle.trace_types.specs.Parts.{by_number, by_text}
use Rattle.trace_types.specs.Renaming.{IsSegmentRenamed}
use Rattle.trace_types.specs.Segments.{SegmentName, name_of}
use Rattle.segment_names.specs.Known.{Known, same_name, with_segments}
use Rattle.segment_names.specs.Naming.{HasUnknown, IsNamed}
use Rattle.session_rules.specs.KeptTraces.{by_kept, kept_with}
use Rattle.book_laws.specs.Shown.{IsShown}
use Rattle.segment_names.proofs.TextLemmas.{name_means, name_own}
use Rattle.trace_types.proofs.MatchLemmas.{zip_map}

-- a named trace with a grace is the trace that is kept with it
pub graced : (known : Known) (named new : NamedTrace) (trace : Trace) (grace : ℕ) → IsNamed known named trace → named.request ≡ trace.request → named.day ≡ trace.day → named.latency ≡ trace.latency
    → new.grace ≡ grace → new.request ≡ named.request → new.day ≡ named.day → new.latency ≡ named.latency → new.segments ≡ named.segments → IsShown known new (kept_with grace trace)
graced known named new trace grace h request day latency own new_request new_day new_latency same = record {
  renamed = record {
    grace = sym own;
    elements = h.elements;
    one_to_one = h.one_to_one;
    segments = rw same (zip_map (IsSegmentRenamed by_number by_text (enumerate_from 0 known.names) (enumerate_from 0 known.tasks) h.elements) (IsSegmentRenamed by_number by_kept (enumerate_from 0 known.names) (enumerate_from 0 known.tasks) h.elements)
        (λ s x r. record { name = r.name; task = r.task; element = r.element; start = r.start; end = r.end }) named.segments trace.segments h.segments);
  };
  request = new_request ∙ request;
  day = new_day ∙ day;
  latency = new_latency ∙ latency;
}

-- ---- names that are known

-- a test that has no position in a list fails at all its items
all_fail : {X : Type 0} (p : X → Bool) (xs : List X) → length xs ≤ position_or_len p xs → (x : X) → Contains xs x → p x ≡ false
all_fail p [] m x (k, l, e) = absurd (omega (arith, l))
all_fail p (y ∷ ys) m x (zero, l, e) = elim (cases_Bool (p y)) [
  | inl good ↦ absurd (let n : position_or_len p (y ∷ ys) ≡ 0 = cond-false (not (p y)) _ _ (not_from_true (p y) good) in omega (arith, m, n))
  | inr bad ↦ ap p (sym e) ∙ bad
]
all_fail p (y ∷ ys) m x (suc k, l, e) = elim (cases_Bool (p y)) [
  | inl good ↦ absurd (let n : position_or_len p (y ∷ ys) ≡ 0 = cond-false (not (p y)) _ _ (not_from_true (p y) good) in omega (arith, m, n))
  | inr bad ↦
      let n : position_or_len p (y ∷ ys) ≡ 1 + position_or_len p ys = cond-true (not (p y)) _ _ (not_from_false (p y) bad) in
      all_fail p ys (omega (arith, m, n)) x (k, omega (arith, l), e)
]

no_position : {X : Type 0} (p : X → Bool) (xs : List X) → position p xs ≡ None → length xs ≤ position_or_len p xs
no_position p xs none = elim (cases_lt (position_or_len p xs) (length xs)) [
  | inl low ↦ absurd (let found : position p xs ≡ Some (position_or_len p xs) = cond-true (nat_lt (position_or_len p xs) (length xs)) _ _ (lt-ltb _ _ low) in let s : None ≡ Some (position_or_len p xs) = sym none ∙ found in cc)
  | inr past ↦ past
]

none_found : {X : Type 0} (p : X → Bool) (xs : List X) → position p xs ≡ None → (x : X) → Contains xs x → p x ≡ true → ⊥
none_found p xs none x c t = false≢true (sym (all_fail p xs (no_position p xs none) x c) ∙ t)

-- what is noted is there
module _ {X : Type 0} (same : X → X → Bool) (means : (x y : X) → same x y ≡ true → x ≡ y) where
  in_firsts : (xs : List X) (x : X) → Contains xs x → Contains (firsts_of same xs) x
  in_firsts [] x (k, l, e) = absurd (omega (arith, l))
  in_firsts (y ∷ ys) x (zero, l, e) = (0, omega arith, e)
  in_firsts (y ∷ ys) x (suc k, l, e) =
      let rest = in_firsts ys x (k, omega (arith, l), e) in
      elim (cases_Bool (same y x)) [
        | inl good ↦ (0, omega arith, means y x good)
        | inr bad ↦ let c = kept_there (λ z. not (same y z)) (firsts_of same ys) x rest (not_from_false (same y x) bad) in (suc c.0, omega (arith, c.1), c.2)
      ]
    where
      kept_there : (p : X → Bool) (zs : List X) (z : X) → Contains zs z → p z ≡ true → Contains (filter p zs) z
      kept_there p [] z (j, m, f) t = absurd (omega (arith, m))
      kept_there p (w ∷ ws) z (zero, m, f) t = rw (cond-true (p w) (w ∷ filter p ws) (filter p ws) (ap p f ∙ t)) (0, omega arith, f)
      kept_there p (w ∷ ws) z (suc j, m, f) t =
          let rest = kept_there p ws z (j, omega (arith, m), f) t in
          elim (cases_Bool (p w)) [
            | inl good ↦ rw (cond-true (p w) (w ∷ filter p ws) (filter p ws) good) (suc rest.0, omega (arith, rest.1), rest.2)
            | inr bad ↦ rw (cond-false (p w) (w ∷ filter p ws) (filter p ws) bad) rest
          ]

some_same : (t s : Segment) → Some t ≡ Some s → t ≡ s
some_same t s e = ap (λ (o : Option Segment). option_map_or (λ (x : Segment). x) o t) e

name_there : (ss : List Segment) (k : ℕ) (s : Segment) → slice_get ss k ≡ Some s → Contains (map name_of ss) (name_of s)
name_there [] k s e = absurd (let n : None ≡ Some s = e in cc)
name_there (t ∷ ts) zero s e = (0, omega arith, ap name_of (some_same t s e))
name_there (t ∷ ts) (suc k) s e = let c = name_there ts k s e in (suc c.0, omega (arith, c.1), c.2)

-- each name of a trace is known once the trace is added
pub known_after : (old : Known) (trace : Trace) → HasUnknown (with_segments old trace.segments) trace.segments → ⊥
known_after old trace (k, (s, at, none)) =
    let names : List SegmentName = map name_of trace.segments in
    let there = in_firsts same_name name_means (old.names ++ names) (name_of s) (Contains-append_right old.names names (name_of s) (name_there trace.segments k s at)) in
    none_found (same_name (name_of s)) (with_segments old trace.segments).names none (name_of s) there (name_own (name_of s))
