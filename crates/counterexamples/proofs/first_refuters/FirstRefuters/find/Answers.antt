use Rattle.std.proofs.Common.{List, sym, ap, ◌∙◌, arith}
use Rattle.hypothesis_index.proofs.PairLemmas.{all_below}
use Rattle.counterexamples.proofs.TableLemmas.{table_tells}
use Rattle.counterexamples.specs.FirstRefuters.{FindingTable, refuter_of}
use Rattle.hypothesis_index.specs.Places.{place_of}
use Rattle.hypothesis_index.specs.declared.bit_place.BitPlace.{BitPlace}
use Rattle.counterexamples.specs.declared.word_refuters.WordRefuters.{WordRefuters}
use Rattle.counterexamples.specs.inner.Tables.{noted_at}
use Rattle.counterexamples.proofs.first_refuters.FirstRefuters.find.Goals as goal

pub returns : goal.returns
returns c =
    let words : List WordRefuters = c.self.inside.words.items in
    let at : BitPlace = place_of c.args.relation in
    let fits = (c.places_fit.ensures 512 c.args.relation (omega arith) c.requires (all_below c.args.relation c.requires)).1 in
    c.noted_at.ensures
    ∙ ap (λ (l : List WordRefuters). noted_at l c.place-at.result.word c.place-at.result.bit) c.deref.ensures.value
    ∙ ap (λ (p : BitPlace). noted_at words p.word p.bit) c.place-at.ensures
    ∙ sym (table_tells words at.word at.bit fits)
    ∙ ap (λ (table : FindingTable). refuter_of table c.args.relation) c.self.view_is
