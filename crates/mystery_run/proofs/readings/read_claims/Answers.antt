use Rattle.std.proofs.Common.{◌∙◌}
use Rattle.mystery_run.proofs.InputLemmas.{claims_said, claims_usable}
use Rattle.mystery_run.proofs.readings.read_claims.Goals as goal

pub returns-in-Ok-clause-said : goal.returns-in-Ok-clause-said
returns-in-Ok-clause-said g c = rw c.of.ensures (claims_said c.deref.result.now _ _ _ (c.deref.ensures.value ∙ c.in_ok-bytes.ensures.input) c.in-Ok.ensures.read c.new.ensures.items)

pub returns-in-Ok-clause-usable : goal.returns-in-Ok-clause-usable
returns-in-Ok-clause-usable g c = claims_usable _ _ c.in-Ok.claims.items c.deref.result.now c.in_ok-bytes.bytes.items c.new.ensures.items c.of.ensures c.in-Ok.ensures.few c.deref.ensures.value c.in_ok-bytes.ensures.fits
