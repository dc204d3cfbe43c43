-- Contexts, numbered one after another.
use Rattle.std.proofs.Common.{◌≡◌, ◌⊎◌, inl, inr, ℕ, zero, suc, ◌+◌, ◌<◌, ◌≤◌, List, [], ◌∷◌, ◌++◌, Bool, true, false, eqb, eq-eqb, Option, Some, None, length, get_or, slice_get, refl, sym, ap, ◌∙◌, subst, true≢false, arith}
use Rattle.std.specs.Prelude.{◌||◌, if◌then◌else◌, nat_eq, IfSome}
use Rattle.std.specs.List.{Contains, list_any, position_or_len}
use Rattle.std.specs.Option.{option_eq}
use Rattle.std.specs.Str.{bytes_eq}
use Rattle.std.proofs.lemmas.Bool.{and_parts, cases_order, eqb-true}
use Rattle.std.proofs.lemmas.List.{get_or_append_left, get_or_push, length-append}
use Rattle.std.proofs.lemmas.List.Elements.{All-get_or, All-nil, All-push, All-weaker}
use Rattle.std.proofs.lemmas.List.Elements.{Contains-append_left, Contains-push}
use Rattle.std.proofs.lemmas.List.Sums.{passes_at_first}
use Rattle.std.proofs.lemmas.Option.{slice_get-get_or, slice_get_within}
use Rattle.std.proofs.lemmas.Slice.Eq.{bytes_eq-Decides}
use Rattle.span_calls.specs.Calls.{AreBefore}
use Rattle.span_calls.specs.declared.call.Call.{Call}
use Rattle.call_contexts.specs.Contexts.{AreContexts, Frame, above_by, frame_at, frame_eq, ordinals_among}
use Rattle.call_contexts.specs.inner.Numbering.{AreSoFar, with_frame}
use Rattle.call_contexts.proofs.ListLemmas.{place_full, place_short, slice_get_left, slice_get_push, some_inj}

-- ---- contexts that are one

option_means : (a b : Option ℕ) → option_eq nat_eq a b ≡ true → a ≡ b
option_means None None h = refl
option_means None (Some b) h = absurd (true≢false (sym h))
option_means (Some a) None h = absurd (true≢false (sym h))
option_means (Some a) (Some b) h = ap (λ n. Some n) (eqb-true a b h)

option_own : (a : Option ℕ) → option_eq nat_eq a a ≡ true
option_own None = refl
option_own (Some a) = eq-eqb a a refl

pub frame_means : (f g : Frame) → frame_eq f g ≡ true → f ≡ g
frame_means f g h =
    let p1 = and_parts (option_eq nat_eq f.above g.above) _ h in
    let p2 = and_parts (bytes_eq f.service g.service) _ p1.1 in
    let p3 = and_parts (bytes_eq f.name g.name) _ p2.1 in
    let a : f.above ≡ g.above = option_means f.above g.above p1.0 in
    let b : f.service ≡ g.service = (bytes_eq-Decides f.service g.service).0 p2.0 in
    let c : f.name ≡ g.name = (bytes_eq-Decides f.name g.name).0 p3.0 in
    let d : f.ordinal ≡ g.ordinal = eqb-true f.ordinal g.ordinal p3.1 in
    λ i. record { above = a i; service = b i; name = c i; ordinal = d i }

pub frame_own : (f : Frame) → frame_eq f f ≡ true
frame_own f = rw (option_own f.above, (bytes_eq-Decides f.service f.service).1 refl, (bytes_eq-Decides f.name f.name).1 refl, eq-eqb f.ordinal f.ordinal refl) refl

-- ---- one more context

there : (frames : List Frame) (f : Frame) → list_any (frame_eq f) frames ≡ true → with_frame frames f ≡ frames
there frames f h = rw h refl

fresh : (frames : List Frame) (f : Frame) → list_any (frame_eq f) frames ≡ false → with_frame frames f ≡ frames ++ f ∷ []
fresh frames f h = rw h refl

-- the context stands at its number
pub number_there : (frames : List Frame) (f : Frame) → slice_get (with_frame frames f) (position_or_len (frame_eq f) frames) ≡ Some f
number_there frames f = by (list_any (frame_eq f) frames) refl
  where
    n : ℕ
    n = position_or_len (frame_eq f) frames

    by : (b : Bool) → list_any (frame_eq f) frames ≡ b → slice_get (with_frame frames f) (position_or_len (frame_eq f) frames) ≡ Some f
    by true e =
        let lt = place_short (frame_eq f) frames e in
        ap (λ (xs : List Frame). slice_get xs (position_or_len (frame_eq f) frames)) (there frames f e) ∙ slice_get-get_or frames (position_or_len (frame_eq f) frames) f lt
        ∙ ap (λ (g : Frame). Some g) (sym (frame_means f (get_or frames (position_or_len (frame_eq f) frames) f) (passes_at_first (frame_eq f) frames f lt)))
    by false e =
        ap (λ (xs : List Frame). slice_get xs (position_or_len (frame_eq f) frames)) (fresh frames f e) ∙ ap (slice_get (frames ++ f ∷ [])) (place_full (frame_eq f) frames e) ∙ slice_get_push frames f

-- the others stay at theirs
pub frame_kept : (frames : List Frame) (f g : Frame) (k : ℕ) → slice_get frames k ≡ Some g → slice_get (with_frame frames f) k ≡ Some g
frame_kept frames f g k h = by (list_any (frame_eq f) frames) refl
  where
    by : (b : Bool) → list_any (frame_eq f) frames ≡ b → slice_get (with_frame frames f) k ≡ Some g
    by true e = ap (λ (xs : List Frame). slice_get xs k) (there frames f e) ∙ h
    by false e = ap (λ (xs : List Frame). slice_get xs k) (fresh frames f e) ∙ slice_get_left frames f k (slice_get_within frames k g h) ∙ h

-- what stands at a number stood there before, or is the new one, at the end
pub frame_before : (frames : List Frame) (f g : Frame) (k : ℕ) → slice_get (with_frame frames f) k ≡ Some g → (slice_get frames k ≡ Some g) ⊎ ((k ≡ length frames) × (g ≡ f) × (list_any (frame_eq f) frames ≡ false))
frame_before frames f g k h = by (list_any (frame_eq f) frames) refl
  where
    by : (b : Bool) → list_any (frame_eq f) frames ≡ b → (slice_get frames k ≡ Some g) ⊎ ((k ≡ length frames) × (g ≡ f) × (list_any (frame_eq f) frames ≡ false))
    by true e = inl (sym (ap (λ (xs : List Frame). slice_get xs k) (there frames f e)) ∙ h)
    by false e = at (cases_order k (length frames))
      where
        pushed : slice_get (frames ++ f ∷ []) k ≡ Some g
        pushed = sym (ap (λ (xs : List Frame). slice_get xs k) (fresh frames f e)) ∙ h

        at : (k ≡ length frames) ⊎ ((k < length frames) ⊎ (length frames < k)) → (slice_get frames k ≡ Some g) ⊎ ((k ≡ length frames) × (g ≡ f) × (list_any (frame_eq f) frames ≡ false))
        at (inl same) = inr (same, some_inj (sym pushed ∙ ap (slice_get (frames ++ f ∷ [])) same ∙ slice_get_push frames f), e)
        at (inr (inl less)) = inl (sym (slice_get_left frames f k less) ∙ pushed)
        at (inr (inr more)) = absurd (omega (arith, more, slice_get_within (frames ++ f ∷ []) k g pushed, length-append frames (f ∷ [])))

pub frames_longer : (frames : List Frame) (f : Frame) → length frames ≤ length (with_frame frames f)
frames_longer frames f = by (list_any (frame_eq f) frames)
  where
    by : (b : Bool) → length frames ≤ length (if b then frames else frames ++ f ∷ [])
    by true = omega arith
    by false = omega (arith, length-append frames (f ∷ []))

none_there : (frames : List Frame) (f : Frame) (k : ℕ) → list_any (frame_eq f) frames ≡ false → slice_get frames k ≡ Some f → ⊥
none_there [] f k e h = cc
none_there (g ∷ frames) f zero e h = by (frame_eq f g) refl e
  where
    is : g ≡ f
    is = some_inj h

    by : (b : Bool) → frame_eq f g ≡ b → (b || list_any (frame_eq f) frames) ≡ false → ⊥
    by true q r = true≢false r
    by false q r = true≢false (sym (frame_own f) ∙ ap (frame_eq f) (sym is) ∙ q)
none_there (g ∷ frames) f (suc k) e h = by (frame_eq f g) e (λ r. none_there frames f k r h)
  where
    by : (b : Bool) → (b || list_any (frame_eq f) frames) ≡ false → (list_any (frame_eq f) frames ≡ false → ⊥) → ⊥
    by true r rest = true≢false r
    by false r rest = rest r

-- ---- one more call

module _ (calls : List Call) (ordinals : List ℕ) (at : ℕ) (numbers : List ℕ) (frames : List Frame) (h : AreSoFar calls ordinals at numbers frames) (befores : AreBefore calls) (c : Call) (here : slice_get calls at ≡ Some c) where
  pub caller_within : IfSome c.caller (λ a. a < length numbers)
  caller_within = by c.caller refl
    where
      by : (o : Option ℕ) → c.caller ≡ o → IfSome o (λ a. a < length numbers)
      by None e = tt
      by (Some a) e = omega (arith, befores at c a here e, h.size)

  -- the context above a call stays the same with one more number
  above_same : (d : Call) (i n : ℕ) → i ≤ at → slice_get calls i ≡ Some d → above_by (numbers ++ n ∷ []) d.caller ≡ above_by numbers d.caller
  above_same d i n le is = by d.caller refl
    where
      by : (o : Option ℕ) → d.caller ≡ o → above_by (numbers ++ n ∷ []) o ≡ above_by numbers o
      by None e = refl
      by (Some a) e = ap (λ m. Some m) (get_or_append_left numbers (n ∷ []) 0 a (omega (arith, befores i d a is e, le, h.size)))

  module _ (f : Frame) (n : ℕ) (own : f ≡ frame_at numbers (get_or ordinals at 0) c) (number : n ≡ position_or_len (frame_eq f) frames) where
    new : List ℕ
    new = numbers ++ n ∷ []

    same_frame : (d : Call) (i k : ℕ) → i ≤ at → slice_get calls i ≡ Some d → frame_at numbers k d ≡ frame_at (numbers ++ n ∷ []) k d
    same_frame d i k le is = ap (λ (o : Option ℕ). record (frame_at numbers k d) { above = o }) (sym (above_same d i n le is))

    at_last : get_or (numbers ++ n ∷ []) at 0 ≡ n
    at_last = get_or_push numbers n 0 at h.size

    last : slice_get (with_frame frames f) n ≡ Some f
    last = ap (slice_get (with_frame frames f)) number ∙ number_there frames f

    owns : (i : ℕ) (d : Call) → i < at + 1 → slice_get calls i ≡ Some d → slice_get (with_frame frames f) (get_or (numbers ++ n ∷ []) i 0) ≡ Some (frame_at (numbers ++ n ∷ []) (get_or ordinals i 0) d)
    owns i d low is = by (cases_order i at)
      where
        by : (i ≡ at) ⊎ ((i < at) ⊎ (at < i)) → slice_get (with_frame frames f) (get_or (numbers ++ n ∷ []) i 0) ≡ Some (frame_at (numbers ++ n ∷ []) (get_or ordinals i 0) d)
        by (inl e) =
            let d_is : c ≡ d = some_inj (sym here ∙ ap (slice_get calls) (sym e) ∙ is) in
            ap (λ j. slice_get (with_frame frames f) (get_or (numbers ++ n ∷ []) j 0)) e ∙ ap (slice_get (with_frame frames f)) at_last ∙ last
            ∙ ap (λ (g : Frame). Some g) (own ∙ same_frame c at (get_or ordinals at 0) (omega arith) here ∙ ap (λ j. frame_at (numbers ++ n ∷ []) (get_or ordinals j 0) c) (sym e) ∙ ap (frame_at (numbers ++ n ∷ []) (get_or ordinals i 0)) d_is)
        by (inr (inl less)) =
            ap (slice_get (with_frame frames f)) (get_or_append_left numbers (n ∷ []) 0 i (omega (arith, less, h.size)))
            ∙ frame_kept frames f (frame_at numbers (get_or ordinals i 0) d) (get_or numbers i 0) (h.own i d less is)
            ∙ ap (λ (g : Frame). Some g) (same_frame d i (get_or ordinals i 0) (omega (arith, less)) is)
        by (inr (inr more)) = absurd (omega (arith, more, low))

    aparts : (i j : ℕ) (g : Frame) → slice_get (with_frame frames f) i ≡ Some g → slice_get (with_frame frames f) j ≡ Some g → i ≡ j
    aparts i j g one two = by (frame_before frames f g i one) (frame_before frames f g j two)
      where
        by : (slice_get frames i ≡ Some g) ⊎ ((i ≡ length frames) × (g ≡ f) × (list_any (frame_eq f) frames ≡ false)) → (slice_get frames j ≡ Some g) ⊎ ((j ≡ length frames) × (g ≡ f) × (list_any (frame_eq f) frames ≡ false)) → i ≡ j
        by (inl a) (inl b) = h.apart i j g a b
        by (inl a) (inr b) = absurd (none_there frames f i b.2 (a ∙ ap (λ (x : Frame). Some x) b.1))
        by (inr a) (inl b) = absurd (none_there frames f j a.2 (b ∙ ap (λ (x : Frame). Some x) a.1))
        by (inr a) (inr b) = a.0 ∙ sym b.0

    useds : (x : ℕ) → x < length (with_frame frames f) → Contains (numbers ++ n ∷ []) x
    useds x low = by (list_any (frame_eq f) frames) refl
      where
        old : x < length frames → Contains (numbers ++ n ∷ []) x
        old lt = Contains-append_left numbers (n ∷ []) x (h.used x lt)

        by : (b : Bool) → list_any (frame_eq f) frames ≡ b → Contains (numbers ++ n ∷ []) x
        by true e = old (omega (arith, low, ap (λ (xs : List Frame). length xs) (there frames f e)))
        by false e = placed (cases_order x (length frames))
          where
            placed : (x ≡ length frames) ⊎ ((x < length frames) ⊎ (length frames < x)) → Contains (numbers ++ n ∷ []) x
            placed (inl same) = subst (Contains (numbers ++ n ∷ [])) (number ∙ place_full (frame_eq f) frames e ∙ sym same) (Contains-push numbers n)
            placed (inr (inl less)) = old less
            placed (inr (inr more)) = absurd (omega (arith, more, low, ap (λ (xs : List Frame). length xs) (fresh frames f e), length-append frames (f ∷ [])))

    above_low : (a : ℕ) → above_by numbers c.caller ≡ Some a → a < length frames
    above_low a e = by c.caller refl e
      where
        by : (o : Option ℕ) → c.caller ≡ o → above_by numbers o ≡ Some a → a < length frames
        by None q r = cc
        by (Some p) q r =
            let is : get_or numbers p 0 ≡ a = some_inj r in
            subst (λ m. m < length frames) is (All-get_or (λ m. m < length frames) numbers p 0 (omega (arith, befores at c p here q, h.size)) h.within)

    befores_more : (i a : ℕ) (g : Frame) → slice_get (with_frame frames f) i ≡ Some g → g.above ≡ Some a → a < i
    befores_more i a g is up = by (frame_before frames f g i is)
      where
        by : (slice_get frames i ≡ Some g) ⊎ ((i ≡ length frames) × (g ≡ f) × (list_any (frame_eq f) frames ≡ false)) → a < i
        by (inl old) = h.before i a g old up
        by (inr fresh) = omega (arith, above_low a (sym (ap (λ (x : Frame). x.above) (fresh.1 ∙ own)) ∙ up), fresh.0)

    pub so_far_more : AreSoFar calls ordinals (at + 1) (numbers ++ n ∷ []) (with_frame frames f)
    so_far_more = record {
      size = omega (arith, length-append numbers (n ∷ []), h.size);
      within = All-push (λ m. m < length (with_frame frames f)) numbers n
          (All-weaker (λ m. m < length frames) (λ m. m < length (with_frame frames f)) (λ m lt. omega (arith, lt, frames_longer frames f)) numbers h.within)
          (slice_get_within (with_frame frames f) n f last);
      own = owns;
      apart = aparts;
      used = useds;
      before = befores_more;
    }

pub so_far_none : (calls : List Call) (ordinals numbers : List ℕ) (frames : List Frame) → numbers ≡ [] → frames ≡ [] → AreSoFar calls ordinals 0 numbers frames
so_far_none calls ordinals numbers frames e g = subst (λ (ns : List ℕ). AreSoFar calls ordinals 0 ns frames) (sym e) (subst (AreSoFar calls ordinals 0 []) (sym g) record {
  size = refl;
  within = All-nil (λ n. n < 0);
  own = λ i c lt is. absurd (omega (arith, lt));
  apart = λ i j f a b. absurd (empty i f a);
  used = λ x lt. absurd (omega (arith, lt));
  before = λ i a f is up. absurd (empty i f is);
})
  where
    empty : (i : ℕ) (f : Frame) → slice_get {X = Frame} [] i ≡ Some f → ⊥
    empty i f h = cc

pub so_far_all : (calls : List Call) (numbers : List ℕ) (frames : List Frame) → AreSoFar calls (ordinals_among calls) (length calls) numbers frames → AreContexts calls numbers frames
so_far_all calls numbers frames h = record {
  size = h.size;
  within = h.within;
  own = λ i c there. h.own i c (slice_get_within calls i c there) there;
  apart = h.apart;
  used = h.used;
  before = h.before;
}

-- the contexts that are listed, after one more
pub listed_more : (listed frames new : List Frame) (f : Frame) (n size : ℕ) → listed ≡ frames → size ≡ length listed → n ≡ position_or_len (frame_eq f) frames → new ≡ (if eqb n size then listed ++ f ∷ [] else listed) → new ≡ with_frame frames f
listed_more listed frames new f n size same long number h =
    h ∙ ap (λ k. if eqb k size then listed ++ f ∷ [] else listed) number ∙ ap (λ k. if eqb (position_or_len (frame_eq f) frames) k then listed ++ f ∷ [] else listed) long
    ∙ ap (λ (xs : List Frame). if eqb (position_or_len (frame_eq f) frames) (length xs) then xs ++ f ∷ [] else xs) same ∙ by (list_any (frame_eq f) frames) refl
  where
    by : (b : Bool) → list_any (frame_eq f) frames ≡ b → (if eqb (position_or_len (frame_eq f) frames) (length frames) then frames ++ f ∷ [] else frames) ≡ with_frame frames f
    by true e =
        let ne : eqb (position_or_len (frame_eq f) frames) (length frames) ≡ false = not_same (eqb (position_or_len (frame_eq f) frames) (length frames)) refl in
        ap (λ b. if b then frames ++ f ∷ [] else frames) ne ∙ sym (there frames f e)
      where
        not_same : (b : Bool) → eqb (position_or_len (frame_eq f) frames) (length frames) ≡ b → b ≡ false
        not_same true q = absurd (omega (arith, eqb-true (position_or_len (frame_eq f) frames) (length frames) q, place_short (frame_eq f) frames e))
        not_same false q = refl
    by false e =
        ap (λ b. if b then frames ++ f ∷ [] else frames) (eq-eqb (position_or_len (frame_eq f) frames) (length frames) (place_full (frame_eq f) frames e)) ∙ sym (fresh frames f e)
