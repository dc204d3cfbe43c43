-- What holds after an error, whichever it is.
use Rattle.std.proofs.Common.{Err, Ok, OnErr, Result}

pub on_any_error : {T E P : Type 0} (r : Result T E) → P → OnErr r P
on_any_error (Ok x) p = tt
on_any_error (Err e) p = p
