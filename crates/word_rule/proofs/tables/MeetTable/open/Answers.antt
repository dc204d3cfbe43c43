use Rattle.std.proofs.Common.{rules, ◌≡◌, ℕ, [], subst, sym, ◌∙◌}
use Rattle.atomic_table.specs.Table.{opening}
use Rattle.word_rows.specs.Words.{full_words}
use Rattle.word_rows.specs.Changes.{first_view}
use Rattle.word_rule.specs.declared.rule.Plan.{Plan}
use Rattle.word_rule.specs.declared.rule.Knowledge.{Knowledge}
use Rattle.word_rule.specs.Rule.{HasHistory}
use Rattle.word_rule.proofs.RuleLemmas.{table_opens}
use Rattle.word_rule.proofs.tables.MeetTable.open.Goals as goal

abbrev first : ℕ → Knowledge
first n = record { view = first_view n; pasts = [] }

pub of_words-requires : goal.of_words-requires
of_words-requires c = let plan : Plan = record { width = c.args.width; all = c.args.shares } in
    let same : c.as_slice.result.now ≡ full_words c.args.width = c.as_slice.ensures.value ∙ c.in_ok-words.ensures.items_if_clones_equal (λ y h. search (rules, h)) in
    subst (λ l. HasHistory plan (opening l [] (first c.args.shares))) (sym same) (table_opens plan c.requires.shares c.ranges.shares.fits)
