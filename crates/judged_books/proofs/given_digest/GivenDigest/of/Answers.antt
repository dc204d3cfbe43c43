use Rattle.std.proofs.Common.{◌≡◌, subst, true}
use Rattle.hypothesis_index.specs.Places.{width_of}
use Rattle.word_rows.specs.Rows.{below}
use Rattle.judged_books.proofs.TableLemmas.{given_clears, name_triangle, names_long, task_triangle}
use Rattle.judged_books.proofs.given_digest.GivenDigest.of.Goals as goal

pub make_row-requires-clause-names : goal.make_row-requires-clause-names
make_row-requires-clause-names c = name_triangle c.args.table c.requires

pub make_row-requires-clause-tasks : goal.make_row-requires-clause-tasks
make_row-requires-clause-tasks c = task_triangle c.args.table c.requires

pub returns-clause-given : goal.returns-clause-given
returns-clause-given c given h = record {
  table = h;
  within = subst (λ n. below (width_of n) c.in_ok-row.row ≡ true) (names_long c.args.table given h) c.in_ok-row.ensures.within;
  clears = given_clears c.args.table given h c.in_ok-row.row c.in_ok-row.ensures.clears;
}
