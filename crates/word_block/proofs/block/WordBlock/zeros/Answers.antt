use Rattle.std.proofs.Common.{ℕ, sym, replicate, ap, ◌∙◌, arith}
use Rattle.std.proofs.lemmas.List.{length-replicate}
use Rattle.word_block.specs.inner.Filling.{words_of}
use Rattle.word_block.proofs.FillingLemmas.{words_of-some, is_filled, next_empty, one_more, all_zero}
use Rattle.word_block.proofs.block.WordBlock.zeros.Goals as goal

pub write-requires : goal.write-requires
write-requires c =
    (sym c.places.invariant.at, next_empty _ _ _ c.places.invariant.held c.places-test.true)

pub places-preserved : goal.places-preserved
places-preserved c =
    record {
      at = ap (λ p. p.at) c.write.ensures ∙ c.places.invariant.at;
      held = ap (λ p. p.held) c.write.ensures ∙ one_more _ _ _ c.places.invariant.held c.places-test.true;
    }

pub invariant_of-result : goal.invariant_of-result
invariant_of-result c =
    let made = c.in_ok-base.ensures in
    let all = all_zero _ c.args.len _ c.places.invariant.held (omega (arith, c.places-test.false, c.places.auto.index-end)) in
    record {
      at = c.places.invariant.at;
      deed = (made.2, made.3, made.4);
      filled = rw all (is_filled c.args.len (replicate c.args.len 0) (length-replicate {A = ℕ} c.args.len 0));
    }

pub returns : goal.returns
returns c =
    let all = all_zero _ c.args.len _ c.places.invariant.held (omega (arith, c.places-test.false, c.places.auto.index-end)) in
    ap words_of all ∙ words_of-some (replicate c.args.len 0)
