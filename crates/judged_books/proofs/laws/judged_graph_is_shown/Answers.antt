use Rattle.model_meet.specs.RelationBits.{KeepsExclusion}
use Rattle.session_rules.specs.GivenDigests.{SurvivesUnder}
use Rattle.judged_books.proofs.GraphLemmas.{same_graph}
use Rattle.judged_books.proofs.laws.judged_graph_is_shown.Goals as goal

pub returns : goal.returns
returns c = λ known given kept words named k order g fits told shown form graph. record {
  keeps = form;
  of_trace = same_graph known (λ n x. (c.numbering_is_one_to_one.ensures.matched known.names n x).0) (KeepsExclusion words) (SurvivesUnder given kept)
      (λ m n a b other f g. (told.excludes m n a b other f g).0) (λ m n a b other f g. (told.excludes m n a b other f g).1)
      named k shown named.names_differ order g graph;
}
