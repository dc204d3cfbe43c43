use Rattle.std.proofs.Common.{arith, sym, subst}
use Rattle.atomic_table.specs.Table.{Allows, step}
use mathlib.Core.Option.{none}
use Rattle.word_rule.specs.declared.rule.Plan.{Plan}
use Rattle.word_rule.specs.Rule.{HasHistory}
use Rattle.word_rule.specs.Plays.{TellPlay}
use Rattle.word_rule.proofs.RuleLemmas.{tell_allowed}
use Rattle.word_rule.proofs.single_steps.tell_seat.Goals as goal

pub load-requires : goal.load-requires
load-requires g c = let plan = c.args.shared.now.key in let id = c.args.shared.now.table_id in let seat = c.args.seat.now in let shared = c.requires.table.shared in (
  c.requires.table.here,
  (let words = shared.words in let some = shared.some_word in omega arith),
  subst (λ (p : Plan). Allows (HasHistory plan) id.slots seat.id seat.me 0 (λ n. n) (TellPlay p (step id.slots 0 0 0 none) seat.me)) (sym c.requires.plan)
      (tell_allowed c.events_keep_sound.ensures plan id.slots seat.id seat.me 0 c.requires.share),
)
