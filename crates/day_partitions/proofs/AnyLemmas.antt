-- Some element of lists that follow one another.
use Rattle.std.proofs.Common.{zero, suc, ◌+◌, ◌-◌, ◌⊎◌, inl, inr, List, [], ◌∷◌, ◌++◌, length, Any, refl, sym, ◌∙◌, arith, subst, length-append}
use Rattle.std.proofs.lemmas.Bool.{cases_lt}
use Rattle.std.proofs.lemmas.List.{get_or_append_left, get_or-append-add, get_or-append_right}
use Rattle.day_partitions.specs.Books.{all_traces}
use Rattle.day_partitions.specs.inner.Slots.{shown_days}
use Rattle.day_partitions.specs.declared.day.Day.{Day}
use Rattle.trace_types.specs.declared.named_trace.NamedTrace.{NamedTrace}

module _ {X : Type 0} (P : X → Type 0) where
  pub any_none : Any P [] → ⊥
  any_none (k, x, l, e, h) = omega arith

  pub any_head : (x : X) (xs : List X) → P x → Any P (x ∷ xs)
  any_head x xs h = (0, x, omega arith, refl, h)

  pub any_tail : (x : X) (xs : List X) → Any P xs → Any P (x ∷ xs)
  any_tail x xs (k, y, l, e, h) = (suc k, y, omega arith, e, h)

  pub any_cases : (x : X) (xs : List X) → Any P (x ∷ xs) → P x ⊎ Any P xs
  any_cases x xs (zero, y, l, e, h) = inl (subst P (sym e) h)
  any_cases x xs (suc k, y, l, e, h) = inr (k, y, omega arith, e, h)

  pub any_left : (xs ys : List X) → Any P xs → Any P (xs ++ ys)
  any_left xs ys (k, x, l, e, h) = (k, x, omega (arith, length-append xs ys), get_or_append_left xs ys x k l ∙ e, h)

  pub any_right : (xs ys : List X) → Any P ys → Any P (xs ++ ys)
  any_right xs ys (k, y, l, e, h) = (length xs + k, y, omega (arith, length-append xs ys), get_or-append-add xs ys k y ∙ e, h)

  pub any_either : (xs ys : List X) → Any P (xs ++ ys) → Any P xs ⊎ Any P ys
  any_either xs ys (k, x, l, e, h) = elim (cases_lt k (length xs)) [
    | inl low ↦ inl (k, x, low, sym (get_or_append_left xs ys x k low) ∙ e, h)
    | inr high ↦ inr (k - length xs, x, omega (arith, length-append xs ys), sym (get_or-append_right xs ys (length xs) k x refl high) ∙ e, h)
  ]

  pub any_more : (Q : X → Type 0) → ((x : X) → P x → Q x) → (xs : List X) → Any P xs → Any Q xs
  any_more Q f xs (k, x, l, e, h) = (k, x, l, e, f x h)

module _ (P : NamedTrace → Type 0) where
  -- a trace of some day
  abbrev pub OfDay : Day → Type 0
  OfDay d = Any P d.traces.items

  pub any_of_days : (ds : List Day) → Any P (all_traces (shown_days ds)) → Any OfDay ds
  any_of_days [] h = absurd (any_none P h)
  any_of_days (d ∷ ds) h = elim (any_either P d.traces.items (all_traces (shown_days ds)) h) [
    | inl a ↦ any_head OfDay d ds a
    | inr b ↦ any_tail OfDay d ds (any_of_days ds b)
  ]

  pub days_of_any : (ds : List Day) → Any OfDay ds → Any P (all_traces (shown_days ds))
  days_of_any [] h = absurd (any_none OfDay h)
  days_of_any (d ∷ ds) h = elim (any_cases OfDay d ds h) [
    | inl a ↦ any_left P d.traces.items (all_traces (shown_days ds)) a
    | inr b ↦ any_right P d.traces.items (all_traces (shown_days ds)) (days_of_any ds b)
  ]
