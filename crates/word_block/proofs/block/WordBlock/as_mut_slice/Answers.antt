use Rattle.std.proofs.Common.{refl, sym, ap, ◌∙◌, length}
use Rattle.std.specs.List.{refill, length_refill}
use Rattle.word_block.specs.inner.Filling.{words_of}
use Rattle.word_block.proofs.FillingLemmas.{words_of-some, is_filled, count_words}
use Rattle.word_block.proofs.block.WordBlock.as_mut_slice.Goals as goal

pub invariant_of-self-lent : goal.invariant_of-self-lent
invariant_of-self-lent c = λ w.
    let i = c.self.invariant in let cs = c.self.inside.places.held in
    record {
      at = i.at;
      deed = i.deed;
      filled = is_filled c.self.inside.len (refill (length cs) (words_of cs) w) (sym (length_refill (length cs) (words_of cs) w (count_words _ cs i.filled)) ∙ i.filled.0);
    }

pub returns : goal.returns
returns c =
    let cs = c.self.inside.places.held in
    rw (← c.self.view_is) (
      (refl, λ w. words_of-some (refill (length cs) (words_of cs) w) ∙ ap (λ n. refill n (words_of cs) w) (count_words _ cs c.self.invariant.filled)),
      record { lends = tt; value = c.slice_mut.ensures.value },
    )
