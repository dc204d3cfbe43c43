use Rattle.std.proofs.Common.{ap, ◌∙◌, ◌++◌, ◌∷◌, []}
use Rattle.mystery_io.specs.Taken.{bytes_of}
use Rattle.mystery_io.proofs.taken.Taken.push.Goals as goal

pub returns : goal.returns
unfolding bytes_of
returns c = ap (λ p. bytes_of p ++ c.of-byte.result.value ∷ []) c.of-before.ensures ∙ ap (λ b. bytes_of c.args.self.now ++ b ∷ []) c.of-byte.ensures
