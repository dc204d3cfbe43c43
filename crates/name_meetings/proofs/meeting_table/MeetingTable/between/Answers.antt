use Rattle.std.proofs.Common.{◌≡◌, ℕ, ◌<◌, sym, ap, ◌∙◌, subst}
use Rattle.name_meetings.specs.Tables.{figures_of}
use Rattle.name_meetings.specs.declared.meeting_table.StripTables.TheVariants.{Narrow, Wide}
use Rattle.name_meetings.specs.inner.States.{state_of}
use Rattle.name_meetings.specs.inner.Strips.{figures_in}
use Rattle.name_meetings.proofs.StripLemmas.{square_at}
use Rattle.name_meetings.proofs.meeting_table.MeetingTable.between.Goals as goal

pub returns-in-Narrow : goal.returns-in-Narrow
returns-in-Narrow c =
    let t = c.in-Narrow.table in
    let a = c.args.first in
    let b = c.args.second in
    let view : c.args.self.now ≡ state_of (Narrow t) = sym c.self.view_is ∙ ap state_of c.in-Narrow.is in
    let ha : a < t.names = subst (λ (n : ℕ). a < n) (ap (λ s. s.names) view) c.requires.first in
    let hb : b < t.names = subst (λ (n : ℕ). b < n) (ap (λ s. s.names) view) c.requires.second in
    c.between.ensures ∙ sym (square_at t.names (figures_in (λ gap. gap) t.names t.strips.items) a b ha hb) ∙ sym (ap (λ s. figures_of s a b) view)

pub returns-in-Wide : goal.returns-in-Wide
returns-in-Wide c =
    let t = c.in-Wide.table in
    let a = c.args.first in
    let b = c.args.second in
    let view : c.args.self.now ≡ state_of (Wide t) = sym c.self.view_is ∙ ap state_of c.in-Wide.is in
    let ha : a < t.names = subst (λ (n : ℕ). a < n) (ap (λ s. s.names) view) c.requires.first in
    let hb : b < t.names = subst (λ (n : ℕ). b < n) (ap (λ s. s.names) view) c.requires.second in
    c.between-in-Wide.ensures ∙ sym (square_at t.names (figures_in (λ gap. gap) t.names t.strips.items) a b ha hb) ∙ sym (ap (λ s. figures_of s a b) view)
