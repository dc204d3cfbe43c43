-- Pasts, and the steps that stand after them.
use Rattle.std.proofs.Common.{◌≡◌, ℕ, ◌<◌, List, [], ◌∷◌, ◌++◌, sym, refl, ap, ◌∙◌, append_assoc}
use Rattle.std.proofs.lemmas.List.{append-nil}
use Rattle.std.specs.Int.{bit_at}
use mathlib.Core.List.{IsPrefix}
use Rattle.word_rows.specs.declared.views.View.{View}
use Rattle.word_rows.specs.declared.events.StepEvent.{StepEvent}
use Rattle.word_rows.specs.declared.events.StepEvent.TheVariants.{Load as load}
use Rattle.word_rows.specs.declared.replies.Reply.{Reply}
use Rattle.word_rows.specs.declared.replies.Reply.TheVariants.{Loaded}
use Rattle.word_rows.specs.Machine.{after}
use Rattle.word_rows.specs.Keeping.{EventsKeepSound}
use Rattle.word_rule.specs.Histories.{ArePrefixes, HasStep, IsStepBetween, KnowsMore, WasCleared}
use Rattle.word_rule.proofs.StepLemmas.{loaded_by}

-- ---- prefixes
prefix_more : (p es : List StepEvent) (e : StepEvent) → IsPrefix p es → IsPrefix p (es ++ e ∷ [])
prefix_more p es e h = (h.0 ++ e ∷ [], sym (append_assoc p h.0 (e ∷ [])) ∙ ap (λ (l : List StepEvent). l ++ e ∷ []) h.1)

pub all_more : (ps : List (List StepEvent)) (es : List StepEvent) (e : StepEvent) → ArePrefixes ps es → ArePrefixes ps (es ++ e ∷ [])
all_more [] es e h = tt
all_more (p ∷ ps) es e h = (prefix_more p es e h.0, all_more ps es e h.1)

pub all_both : (ps qs : List (List StepEvent)) (es : List StepEvent) → ArePrefixes ps es → ArePrefixes qs es → ArePrefixes (ps ++ qs) es
all_both [] qs es h k = k
all_both (p ∷ ps) qs es h k = (h.0, all_both ps qs es h.1 k)

pub prefix_longer : (p q r : List StepEvent) → IsPrefix p q → IsPrefix q r → IsPrefix p r
prefix_longer p q r f g = (f.0 ++ g.0, sym (append_assoc p f.0 g.0) ∙ ap (λ (l : List StepEvent). l ++ g.0) f.1 ∙ g.1)

pub prefix_through : (p : List StepEvent) (e : StepEvent) (r : List StepEvent) → IsPrefix (p ++ e ∷ []) r → IsPrefix p r
prefix_through p e r f = (e ∷ f.0, sym (append_assoc p (e ∷ []) f.0) ∙ f.1)

pub all_longer : (ps : List (List StepEvent)) (es fs : List StepEvent) → IsPrefix es fs → ArePrefixes ps es → ArePrefixes ps fs
all_longer [] es fs f h = tt
all_longer (p ∷ ps) es fs f h = (prefix_longer p es fs h.0 f, all_longer ps es fs f h.1)

pub prefix_itself : (es : List StepEvent) → IsPrefix es es
prefix_itself es = ([], append-nil es)

pub of_left : (ps qs : List (List StepEvent)) (es : List StepEvent) → ArePrefixes (ps ++ qs) es → ArePrefixes ps es
of_left [] qs es h = tt
of_left (p ∷ ps) qs es h = (h.0, of_left ps qs es h.1)

pub of_right : (ps qs : List (List StepEvent)) (es : List StepEvent) → ArePrefixes (ps ++ qs) es → ArePrefixes qs es
of_right [] qs es h = h
of_right (p ∷ ps) qs es h = of_right ps qs es h.1

-- ---- steps
-- a step that stands after more stands after less
pub between_before : (width all : ℕ) (less more then : List (List StepEvent)) (v : View) (ask : ℕ → StepEvent) (reply : Reply) → KnowsMore less more → IsStepBetween width all more v ask reply then → IsStepBetween width all less v ask reply then
between_before width all less more then v ask reply grows h history begins = let r = h history begins in record {
  events = r.events;
  rows = r.rows;
  seat = r.seat;
  goes_on = grows r.events r.goes_on;
  has = r.has;
  replied = r.replied;
  stands = r.stands;
}

-- and it stays
pub between_after : (width all : ℕ) (before then later : List (List StepEvent)) (v : View) (ask : ℕ → StepEvent) (reply : Reply) → KnowsMore then later → IsStepBetween width all before v ask reply then → IsStepBetween width all before v ask reply later
between_after width all before then later v ask reply grows h history begins = h history (grows history begins)

-- a bit that is 0 in a word that was loaded some view had cleared before
pub loaded_cleared : EventsKeepSound → (width all word value b : ℕ) (pasts : List (List StepEvent)) (v : View) (history : List StepEvent) → HasStep width all pasts v (λ seat. load seat word) (Loaded value) history → b < 64 → bit_at value b ≡ 0 → WasCleared width all history word value b
loaded_cleared sound width all word value b pasts v history r l z =
    let is = loaded_by (after width all r.events).0 r.seat word value _ refl r.replied in record {
      events = r.events;
      seat = r.seat;
      stands = r.stands;
      replied = r.replied;
      clears = (sound width all r.events r.rows).sound.accounted word b is.0 l (ap (λ (n : ℕ). bit_at n b) is.1 ∙ z);
    }
