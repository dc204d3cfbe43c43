use Rattle.std.proofs.Common.{◌≡◌, ℕ, ◌<◌, List, get_or, bit_and, sym, ap, subst}
use Rattle.std.specs.Int.{bit_not, w64}
use mathlib.Core.Option.{none}
use Rattle.atomic_table.specs.Table.{Allows, step}
use Rattle.word_rows.specs.declared.entries.Entry.{Entry}
use Rattle.word_rows.proofs.RowLemmas.{entry_below}
use Rattle.word_rule.specs.declared.rule.Plan.{Plan}
use Rattle.word_rule.specs.Rule.{HasHistory}
use Rattle.word_rule.specs.Plays.{ClearPlay}
use Rattle.word_rule.proofs.RuleLemmas.{clear_allowed}
use Rattle.word_rule.proofs.single_steps.clear_entry.Goals as goal

pub fetch_and-requires : goal.fetch_and-requires
fetch_and-requires g c =
    let row : List Entry = c.args.row.now in let zero_entry : Entry = record { word = 0; mask = 0 } in let e : Entry = get_or row c.args.at zero_entry in
    let seat = c.args.seat.now in let me = seat.me in let plan = c.args.shared.now.key in let id = c.args.shared.now.table_id in
    let is : get_or row me.0.view.cleared zero_entry ≡ e = ap (λ (n : ℕ). get_or row n zero_entry) (sym c.requires.at) in
    let low : e.word < plan.width = entry_below plan.width row c.args.at zero_entry c.requires.width c.requires.inside in (
      c.requires.table.here,
      subst (λ (n : ℕ). e.word < n) (sym c.requires.table.shared.words) low,
      subst (λ (k : ℕ). Allows (HasHistory plan) id.slots seat.id me e.word (λ n. bit_and n k) (ClearPlay g.L.Offered.plan g.L.Offered.entries (step id.slots e.word k 0 none) me)) (sym c.complement.ensures.bits)
          (subst (λ (p : Plan). Allows (HasHistory plan) id.slots seat.id me e.word (λ n. bit_and n (bit_not w64 e.mask)) (ClearPlay p g.L.Offered.entries (step id.slots e.word (bit_not w64 e.mask) 0 none) me)) (sym c.requires.plan)
          (subst (λ (r : List Entry). Allows (HasHistory plan) id.slots seat.id me e.word (λ n. bit_and n (bit_not w64 e.mask)) (ClearPlay plan r (step id.slots e.word (bit_not w64 e.mask) 0 none) me)) (sym c.requires.row)
          (clear_allowed c.events_keep_sound.ensures plan c.complement_clears.ensures id.slots seat.id me row e is c.complement.ensures.fits c.requires.form c.requires.next c.requires.share c.requires.width))),
    )
