use Rattle.view_rows.proofs.name_pairs.is_exclusive.Goals as goal

pub returns : goal.returns
returns c =
    let told = c.lists_exclusion.ensures.bits in (
      (λ r. (c.if-not-rises.false, c.if-first-second.false, told.0 r)),
      (λ h. told.1 h.2),
    )
