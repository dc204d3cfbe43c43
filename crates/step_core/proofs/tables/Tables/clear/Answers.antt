use Rattle.std.proofs.Common.{◌≡◌, ◌<◌, ℕ, None, length, get_or, set, List, ap, sym, ◌∙◌, subst, arith}
use Rattle.word_rows.specs.declared.replies.Reply.TheVariants.{Cleared}
use Rattle.word_rows.specs.declared.entries.Entry.{Entry}
use Rattle.word_rows.specs.declared.events.StepEvent.TheVariants.{Clear as clear}
use Rattle.word_rows.specs.declared.views.View.{View}
use Rattle.word_rows.specs.Words.{without}
use Rattle.word_rows.specs.Machine.{StepState, fault_of, entry_at, view_at}
use Rattle.step_core.specs.inner.Briefs.{IsSteady}
use Rattle.step_core.proofs.MadeLemmas.{blank, clear_left, clear_word, clear_reads, clear_made}
use Rattle.step_core.proofs.tables.Tables.clear.Goals as goal

pub with_cleared-requires : goal.with_cleared-requires
with_cleared-requires c =
    let i = c.self.inside in let row = c.args.row.now in
    let t : StepState = record { words = i.words.items; all = i.all; views = i.seats.items; live = i.live.items } in
    let none : fault_of t (clear c.args.seat row) ≡ None = ap (λ (u : StepState). fault_of u (clear c.args.seat row)) c.self.view_is ∙ c.requires.allowed in
    clear_left t c.args.seat c.self.invariant.1 row none c.index-view.result.now c.index-view.ensures c.same_row_is_one.ensures (subst IsSteady (sym c.self.view_is) c.requires.steady) c.entries-entries.ensures.form

pub index-old-requires : goal.index-old-requires
index-old-requires c =
    let i = c.self.inside in let row = c.args.row.now in let v : View = c.index-view.result.now in let k : ℕ = c.cleared-cleared.result in
    let t : StepState = record { words = i.words.items; all = i.all; views = i.seats.items; live = i.live.items } in
    let none : fault_of t (clear c.args.seat row) ≡ None = ap (λ (u : StepState). fault_of u (clear c.args.seat row)) c.self.view_is ∙ c.requires.allowed in
    let left = clear_left t c.args.seat c.self.invariant.1 row none v c.index-view.ensures c.same_row_is_one.ensures (subst IsSteady (sym c.self.view_is) c.requires.steady) c.entries-entries.ensures.form in
    let under : k < length row = omega (arith, c.cleared-cleared.ensures) in
    let word = subst (λ (l : List Entry). (get_or l k blank).word < length t.words) (sym c.entries-entries.ensures.same) (clear_word t c.args.seat c.self.invariant.1 row none v c.index-view.ensures k under) in
    omega (arith, word, i.words.ok.0)

pub index_mut-requires : goal.index_mut-requires
index_mut-requires c =
    let i = c.self.inside in let row = c.args.row.now in let v : View = c.index-view.result.now in let k : ℕ = c.cleared-cleared.result in
    let t : StepState = record { words = i.words.items; all = i.all; views = i.seats.items; live = i.live.items } in
    let none : fault_of t (clear c.args.seat row) ≡ None = ap (λ (u : StepState). fault_of u (clear c.args.seat row)) c.self.view_is ∙ c.requires.allowed in
    let left = clear_left t c.args.seat c.self.invariant.1 row none v c.index-view.ensures c.same_row_is_one.ensures (subst IsSteady (sym c.self.view_is) c.requires.steady) c.entries-entries.ensures.form in
    let under : k < length row = omega (arith, c.cleared-cleared.ensures) in
    let word = subst (λ (l : List Entry). (get_or l k blank).word < length t.words) (sym c.entries-entries.ensures.same) (clear_word t c.args.seat c.self.invariant.1 row none v c.index-view.ensures k under) in
    omega (arith, word, i.words.ok.0)

pub returns-clause-reply : goal.returns-clause-reply
returns-clause-reply c =
    let i = c.self.inside in let row = c.args.row.now in let v : View = c.index-view.result.now in let k : ℕ = c.cleared-cleared.result in
    let t : StepState = record { words = i.words.items; all = i.all; views = i.seats.items; live = i.live.items } in
    let none : fault_of t (clear c.args.seat row) ≡ None = ap (λ (u : StepState). fault_of u (clear c.args.seat row)) c.self.view_is ∙ c.requires.allowed in
    let left = clear_left t c.args.seat c.self.invariant.1 row none v c.index-view.ensures c.same_row_is_one.ensures (subst IsSteady (sym c.self.view_is) c.requires.steady) c.entries-entries.ensures.form in
    let under : k < length row = omega (arith, c.cleared-cleared.ensures) in
    let same = c.entries-entries.ensures.same in
    let read : c.index-old.result.now ≡ get_or t.words (get_or row k blank).word c.index-old.result.now = c.index-old.ensures ∙ ap (λ (l : List Entry). get_or t.words (get_or l k blank).word c.index-old.result.now) same in
    let old = clear_reads t c.args.seat c.self.invariant.1 row none v c.index-view.ensures k c.index-old.result.now c.cleared-cleared.ensures under read in
    ap Cleared (old ∙ ap (λ (u : StepState). get_or u.words (entry_at row (view_at u c.args.seat).cleared).word 0) c.self.view_is)

pub returns-clause-follows : goal.returns-clause-follows
returns-clause-follows c = λ s is.
    let i = c.self.inside in let row = c.args.row.now in let v : View = c.index-view.result.now in let k : ℕ = c.cleared-cleared.result in
    let t : StepState = record { words = i.words.items; all = i.all; views = i.seats.items; live = i.live.items } in
    let none : fault_of t (clear c.args.seat row) ≡ None = ap (λ (u : StepState). fault_of u (clear c.args.seat row)) c.self.view_is ∙ c.requires.allowed in
    let left = clear_left t c.args.seat c.self.invariant.1 row none v c.index-view.ensures c.same_row_is_one.ensures (subst IsSteady (sym c.self.view_is) c.requires.steady) c.entries-entries.ensures.form in
    let under : k < length row = omega (arith, c.cleared-cleared.ensures) in
    let same = c.entries-entries.ensures.same in let old = c.index-old.result.now in let next = c.in_ok-next.next in
    let read : old ≡ get_or t.words (get_or row k blank).word old = c.index-old.ensures ∙ ap (λ (l : List Entry). get_or t.words (get_or l k blank).word old) same in
    let value = c.cleared_word.ensures ∙ ap (λ (l : List Entry). without old (get_or l k blank).mask) same in
    let made = clear_made t c.args.seat c.self.invariant.1 row none v c.index-view.ensures k old c.cleared_word.result c.cleared-cleared.ensures under read value next c.in_ok-next.ensures s (c.self.view_is ∙ is) in
    (λ j. record { words = set t.words (get_or (same j) k blank).word c.cleared_word.result; all = t.all; views = set t.views c.args.seat next; live = t.live }) ∙ made
