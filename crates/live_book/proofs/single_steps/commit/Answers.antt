use Rattle.std.proofs.Common.{◌+◌, ◌%◌, ◌^◌, List, sym, subst, arith}
use mathlib.Core.Option.{none}
use Rattle.atomic_table.specs.Table.{Allows, step}
use Rattle.live_journal.specs.declared.entry.Entry.{Entry}
use Rattle.live_book.specs.Plays.{CommitPlay}
use Rattle.live_book.specs.Rule.{IsLiveBook}
use Rattle.live_book.proofs.AllowLemmas.{commit_allowed}
use Rattle.live_book.proofs.single_steps.commit.Goals as goal

pub fetch_add-requires : goal.fetch_add-requires
fetch_add-requires g c = let t = c.requires.table in let seat = c.args.seat.now in let plan = c.args.shared.now.key in let slots = c.args.shared.now.table_id.slots in
    let entries : List Entry = c.args.book.now.entries in (
      t.here,
      (let words = t.shared.words in omega arith),
      subst (λ (es : List Entry). Allows (IsLiveBook plan) slots seat.id seat.me 2 (λ n. (n + 1) % 2 ^ 64) (CommitPlay es (step slots 2 1 0 none) seat.me)) (sym c.requires.left)
          (commit_allowed plan slots seat.id seat.me t.names t.all c.requires.turn c.requires.fresh entries c.requires.more c.requires.one c.requires.few),
    )
