use Rattle.std.proofs.Common.{◌≡◌, ℕ, ◌<◌, List, get_or, sym, ap, subst}
use mathlib.Core.Option.{none}
use Rattle.atomic_table.specs.Table.{Allows, step}
use Rattle.word_rows.specs.declared.entries.Entry.{Entry}
use Rattle.word_rows.proofs.RowLemmas.{entry_below}
use Rattle.word_rule.specs.declared.rule.Plan.{Plan}
use Rattle.word_rule.specs.Rule.{HasHistory}
use Rattle.word_rule.specs.Plays.{SkipPlay}
use Rattle.word_rule.proofs.RuleLemmas.{skip_allowed}
use Rattle.word_rule.proofs.single_steps.skip_entry.Goals as goal

pub load-requires : goal.load-requires
load-requires g c =
    let row : List Entry = c.args.row.now in let zero_entry : Entry = record { word = 0; mask = 0 } in let e : Entry = get_or row c.args.at zero_entry in
    let seat = c.args.seat.now in let me = seat.me in let plan = c.args.shared.now.key in let id = c.args.shared.now.table_id in
    let is : get_or row me.0.view.cleared zero_entry ≡ e = ap (λ (n : ℕ). get_or row n zero_entry) (sym c.requires.at) in
    let low : e.word < plan.width = entry_below plan.width row c.args.at zero_entry c.requires.width c.requires.inside in (
      c.requires.table.here,
      subst (λ (n : ℕ). e.word < n) (sym c.requires.table.shared.words) low,
      subst (λ (p : Plan). Allows (HasHistory plan) id.slots seat.id me e.word (λ n. n) (SkipPlay p g.L.Offered.entries (step id.slots e.word 0 0 none) me)) (sym c.requires.plan)
          (subst (λ (r : List Entry). Allows (HasHistory plan) id.slots seat.id me e.word (λ n. n) (SkipPlay plan r (step id.slots e.word 0 0 none) me)) (sym c.requires.row)
          (skip_allowed c.events_keep_sound.ensures plan id.slots seat.id me row e is c.requires.form c.requires.next c.requires.share c.requires.width)),
    )
