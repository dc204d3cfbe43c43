use Rattle.std.proofs.Common.{ℕ, ◌<◌, sym, subst}
use Rattle.atomic_table.specs.Table.{Allows, step}
use mathlib.Core.Option.{none}
use Rattle.word_rule.specs.declared.rule.Plan.{Plan}
use Rattle.word_rule.specs.Rule.{HasHistory}
use Rattle.word_rule.specs.Plays.{LoadPlay}
use Rattle.word_rule.proofs.RuleLemmas.{load_allowed}
use Rattle.word_rule.proofs.single_steps.load_word.Goals as goal

pub load-requires : goal.load-requires
load-requires g c = let plan = c.args.shared.now.key in let id = c.args.shared.now.table_id in let seat = c.args.seat.now in (
  c.requires.table.here,
  subst (λ (n : ℕ). c.args.word < n) (sym c.requires.table.shared.words) c.requires.word,
  subst (λ (p : Plan). Allows (HasHistory plan) id.slots seat.id seat.me c.args.word (λ n. n) (LoadPlay p (step id.slots c.args.word 0 0 none) seat.me)) (sym c.requires.plan)
      (load_allowed c.events_keep_sound.ensures plan id.slots seat.id seat.me c.args.word c.requires.share c.requires.rests c.requires.word),
)
