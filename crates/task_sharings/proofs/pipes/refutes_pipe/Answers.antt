use Rattle.std.proofs.Common.{◌≡◌, ◌<◌, ◌↔◌, ℕ, IsTrue, sym, subst}
use Rattle.std.specs.Prelude.{slice_index}
use Rattle.hypothesis_index.specs.Places.{place_of}
use Rattle.hypothesis_index.specs.declared.bit_place.BitPlace.{BitPlace}
use Rattle.hypothesis_index.specs.declared.relation.Relation.TheVariants.{Pipe}
use Rattle.word_rows.specs.Words.{bit_of}
use Rattle.task_sharings.proofs.PipeLemmas.{pipe_fits, turned}
use Rattle.task_sharings.proofs.pipes.refutes_pipe.Goals as goal

pub bit-requires-clause-word : goal.bit-requires-clause-word
bit-requires-clause-word c =
    let fits = pipe_fits c.places_fit.ensures c.args.from c.args.to c.requires.differ c.requires.first c.requires.second in
    subst (λ (n : ℕ). c.place-at.result.word < n) (sym c.requires.width) (subst (λ (p : BitPlace). p.word < 126) (sym c.place-at.ensures) fits.0)

pub returns : goal.returns
returns c = λ trace told.
    let words = c.args.words.now in
    let p = place_of (Pipe c.args.from c.args.to) in
    turned c.bit.result (slice_index words p.word) p.bit
    (subst (λ (q : BitPlace). IsTrue c.bit.result ↔ (bit_of words q.word q.bit ≡ 1)) c.place-at.ensures c.bit.ensures)
    (told.bits c.args.from c.args.to c.requires.differ c.requires.first c.requires.second)
