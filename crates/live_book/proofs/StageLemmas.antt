-- Stages of a turn.
use Rattle.std.proofs.Common.{◌≡◌, ◌≢◌, ℕ, ◌+◌, ◌≤◌, true, false, List, refl, arith}
use Rattle.std.proofs.lemmas.Bool.{eq-eqb, ne_eqb}
use Rattle.live_journal.specs.declared.entry.Entry.{Entry}
use Rattle.live_book.specs.declared.rule.Stage.{Stage}
use Rattle.live_book.specs.declared.rule.Stage.TheVariants.{Resting, Waiting, InTurn, Seeing}
use Rattle.live_book.specs.Rule.{IsStage}
use Rattle.live_book.specs.Views.{holds, is_in_turn}

-- a ticket more is drawn
pub stage_drawn : (d s : ℕ) (b r front : List Entry) (st : Stage) → IsStage d s b r front st → IsStage (d + 1) s b r front st
stage_drawn d s b r front Resting h = tt
stage_drawn d s b r front (Waiting n) h = (h.0, omega arith)
stage_drawn d s b r front (InTurn n found) h = (h.0, omega arith, h.2, h.3)
stage_drawn d s b r front (Seeing n found) h = (h.0, omega arith, h.2, h.3, h.4)

-- nobody holds a ticket that was not drawn
pub stage_below : (d s : ℕ) (b r front : List Entry) (st : Stage) (m : ℕ) → IsStage d s b r front st → d ≤ m → holds m st ≡ false
stage_below d s b r front Resting m h l = refl
stage_below d s b r front (Waiting n) m h l = ne_eqb n m (λ e. omega arith)
stage_below d s b r front (InTurn n found) m h l = ne_eqb n m (λ e. omega arith)
stage_below d s b r front (Seeing n found) m h l = ne_eqb n m (λ e. omega arith)

-- in turn it holds the ticket served
pub stage_served : (d s : ℕ) (b r front : List Entry) (st : Stage) → IsStage d s b r front st → is_in_turn st ≡ true → holds s st ≡ true
stage_served d s b r front Resting h t = absurd (let e : false ≡ true = t in cc)
stage_served d s b r front (Waiting n) h t = absurd (let e : false ≡ true = t in cc)
stage_served d s b r front (InTurn n found) h t = eq-eqb n s h.0
stage_served d s b r front (Seeing n found) h t = eq-eqb n s h.0

-- a stage that does not hold the ticket served is not concerned by what the turn changes
pub stage_else : (d s : ℕ) (b r t front : List Entry) (st : Stage) → IsStage d s b r front st → (holds s st ≡ true → ⊥) → IsStage d s b t front st
stage_else d s b r t front Resting h never = tt
stage_else d s b r t front (Waiting n) h never = h
stage_else d s b r t front (InTurn n found) h never = absurd (never (eq-eqb n s h.0))
stage_else d s b r t front (Seeing n found) h never = absurd (never (eq-eqb n s h.0))

pub stage_next : (d s : ℕ) (b c r front : List Entry) (st : Stage) → IsStage d s b r front st → (holds s st ≡ true → ⊥) → IsStage d (s + 1) c r front st
stage_next d s b c r front Resting h never = tt
stage_next d s b c r front (Waiting n) h never = let apart : n ≢ s = λ e. never (eq-eqb n s e) in (omega arith, h.1)
stage_next d s b c r front (InTurn n found) h never = absurd (never (eq-eqb n s h.0))
stage_next d s b c r front (Seeing n found) h never = absurd (never (eq-eqb n s h.0))

pub rests_if : (d s : ℕ) (b r front : List Entry) (st : Stage) → IsStage d s b r front st → (holds s st ≡ true → ⊥) → is_in_turn st ≡ false
rests_if d s b r front Resting h never = refl
rests_if d s b r front (Waiting n) h never = refl
rests_if d s b r front (InTurn n found) h never = absurd (never (eq-eqb n s h.0))
rests_if d s b r front (Seeing n found) h never = absurd (never (eq-eqb n s h.0))
