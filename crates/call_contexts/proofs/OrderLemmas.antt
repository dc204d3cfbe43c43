-- Contexts above stand before those below them, so that these are finitely deep.
use Rattle.std.proofs.Common.{◌≡◌, ℕ, zero, suc, ◌+◌, ◌<◌, ◌≤◌, List, [], ◌∷◌, Option, Some, None, length, get_or, map, slice_get, take, refl, sym, ap, ◌∙◌, arith}
use Rattle.std.specs.Option.{option_and_then}
use Rattle.std.specs.declared.cmp.Ordering.{Ordering}
use Rattle.std.proofs.lemmas.List.{length-map, take_all}
use Rattle.std.proofs.lemmas.Simd.{map-map}
use Rattle.span_requests.specs.CallerNumbers.{AreCallers, HaveLastCallers, number_above}
use Rattle.call_contexts.specs.ContextOrder.{all_above, title_cmp, title_of}
use Rattle.call_contexts.specs.inner.TitleKeys.{title_of_key, titles_of_keys}
use Rattle.call_contexts.specs.declared.context.Context.{Context}
use Rattle.call_contexts.specs.declared.title_key.TitleKey.{TitleKey}
use Rattle.call_contexts.specs.Contexts.{Frame, HaveAbove, frame_of, frames_of}
use Rattle.call_contexts.proofs.ListLemmas.{some_inj}

module _ (contexts : List Frame) (h : HaveAbove contexts) where
  -- the context above one stands before it
  above_less : (i a : ℕ) → get_or (all_above contexts) i None ≡ Some a → a < i
  above_less i a e = by (slice_get contexts i) refl
    where
      none_some : None ≡ Some a → ⊥
      none_some q = cc

      by : (o : Option Frame) → slice_get contexts i ≡ o → a < i
      by (Some f) q = h i a f q (sym (at contexts i q) ∙ e)
        where
          at : (xs : List Frame) (k : ℕ) → slice_get xs k ≡ Some f → get_or (all_above xs) k None ≡ f.above
          at [] k r = cc
          at (x ∷ xs) zero r = ap (λ (g : Frame). g.above) (some_inj r)
          at (x ∷ xs) (suc k) r = at xs k r
      by None q = absurd (none_some (sym (past contexts i q) ∙ e))
        where
          past : (xs : List Frame) (k : ℕ) → slice_get xs k ≡ None → get_or (all_above xs) k None ≡ None
          past [] k r = refl
          past (x ∷ xs) zero r = cc
          past (x ∷ xs) (suc k) r = past xs k r

  within_length : (i a : ℕ) → get_or (all_above contexts) i None ≡ Some a → i < length (all_above contexts)
  within_length i a e = by (all_above contexts) i e
    where
      by : (xs : List (Option ℕ)) (k : ℕ) → get_or xs k None ≡ Some a → k < length xs
      by [] k r = cc
      by (x ∷ xs) zero r = omega arith
      by (x ∷ xs) (suc k) r = omega (arith, by xs k r)

  pub are_callers : AreCallers (all_above contexts)
  are_callers i a e = omega (arith, above_less i a e, within_length i a e)

  climbs : (k x y : ℕ) → number_above (all_above contexts) k x ≡ Some y → y + k ≤ x
  climbs zero x y e = omega (arith, some_inj e)
  climbs (suc k) x y e = by (get_or (all_above contexts) x None) refl e (λ a r. climbs k a y r)
    where
      by : (o : Option ℕ) → get_or (all_above contexts) x None ≡ o → option_and_then (number_above (all_above contexts) k) o ≡ Some y → ((a : ℕ) → number_above (all_above contexts) k a ≡ Some y → y + k ≤ a) → y + suc k ≤ x
      by None q r rest = cc
      by (Some a) q r rest = omega (arith, rest a r, above_less x a q)

  pub last_callers : HaveLastCallers (all_above contexts)
  last_callers x lt = by (number_above (all_above contexts) (length (all_above contexts)) x) refl
    where
      by : (o : Option ℕ) → number_above (all_above contexts) (length (all_above contexts)) x ≡ o → o ≡ None
      by None e = refl
      by (Some y) e = absurd (omega (arith, climbs (length (all_above contexts)) x y e, lt))

-- the order of keys
abbrev pub key_cmp : TitleKey → TitleKey → Ordering
key_cmp k l = title_cmp (title_of_key k) (title_of_key l)

pub titled_size : (frames : List Frame) (above : List (Option ℕ)) (keys lent : List TitleKey) → above ≡ all_above frames → lent ≡ keys → titles_of_keys keys ≡ map title_of frames → length above ≡ length lent
titled_size frames above keys lent a k t =
    ap length a ∙ length-map frames (λ (f : Frame). f.above) ∙ sym (length-map frames title_of) ∙ sym (ap length t) ∙ length-map keys title_of_key ∙ sym (ap length k)

-- what is listed of all contexts
pub above_listed : (contexts : List Context) (i : ℕ) (above : List (Option ℕ)) → length contexts ≤ i → above ≡ map (λ (x : Context). x.above) (take i contexts) → above ≡ all_above (frames_of contexts)
above_listed contexts i above le h = h ∙ ap (map (λ (x : Context). x.above)) (take_all i contexts le) ∙ sym (map-map (λ (f : Frame). f.above) frame_of contexts)

pub titles_listed : (contexts : List Context) (i : ℕ) (keys : List TitleKey) → length contexts ≤ i → titles_of_keys keys ≡ map (λ (x : Context). title_of (frame_of x)) (take i contexts) → titles_of_keys keys ≡ map title_of (frames_of contexts)
titles_listed contexts i keys le h = h ∙ ap (map (λ (x : Context). title_of (frame_of x))) (take_all i contexts le) ∙ sym (map-map title_of frame_of contexts)
