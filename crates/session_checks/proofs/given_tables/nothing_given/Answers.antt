use Rattle.std.proofs.Common.{[], refl}
use Rattle.digest_facts.specs.Digests.{empty_digest}
use Rattle.session_checks.proofs.given_tables.nothing_given.Goals as goal

pub returns : goal.returns
returns c =
    let merge = c.in-Ok.ensures.merge empty_digest
    (record { digests = []; tables = tt; merge = refl })
    in (empty_digest, merge.0, merge.1)
