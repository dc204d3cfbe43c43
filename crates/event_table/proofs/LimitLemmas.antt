-- What all traces of a batch keep, where each up to a place does.
use Rattle.std.proofs.Common.{ℕ, ◌≡◌, ◌+◌, ◌<◌, inl, inr, List, [], ◌∷◌, length, get_or, sym, subst, arith}
use Rattle.std.specs.Prelude.{Some, slice_get}
use Rattle.std.proofs.lemmas.Bool.{cases_eq}
use Rattle.std.proofs.lemmas.List.{get_or-map}
use Rattle.std.proofs.lemmas.Option.{get_or_from_slice_get}
use Rattle.trace_types.specs.declared.event.Event.{Event}
use Rattle.trace_types.specs.Events.{time_at}
use Rattle.trace_types.specs.Times.{AreTimely, latest_time}

pub time_there : (events : List Event) (k : ℕ) (d : Event) → k < length events → time_at events k ≡ (get_or events k d).time
time_there events k d l = get_or-map (λ (e : Event). e.time) events k d 0 l

pub late_one : (events : List Event) (k : ℕ) → k < length events → latest_time < time_at events k → AreTimely events → ⊥
late_one [] k l late timely = absurd (omega (arith, l))
late_one (e ∷ es) k l late timely = let own = timely k e l in let same = time_there (e ∷ es) k e l in absurd (omega (arith, late, own, same))

-- each element before this place has P
abbrev pub HaveUpTo : {X : Type 0} → (X → Type 0) → List X → ℕ → Type 0
HaveUpTo {X} P xs i = (k : ℕ) (d : X) → k < i → k < length xs → P (get_or xs k d)

pub have_one_more : {X : Type 0} (P : X → Type 0) (xs : List X) (i : ℕ) (x : X) → HaveUpTo P xs i → slice_get xs i ≡ Some x → P x → HaveUpTo P xs (i + 1)
have_one_more P xs i x have there own k d before within =
    elim (cases_eq k i) [
      | inl same ↦ subst P (sym (get_or_from_slice_get xs k x d (subst (λ j. slice_get xs j ≡ Some x) (sym same) there))) own
      | inr other ↦ have k d (omega (arith, before, other)) within
    ]
