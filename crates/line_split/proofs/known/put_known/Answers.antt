use Rattle.std.proofs.Common.{◌∙◌, ℕ, Ok, Option, ap}
use Rattle.line_split.specs.inner.Calls.{call_of_line}
use Rattle.line_split.proofs.PutLemmas.{splits_blank}
use Rattle.line_split.proofs.known.put_known.Goals as goal

pub returns-in-None : goal.returns-in-None
returns-in-None g c = λ n num is.
    splits_blank (call_of_line c.args.call) g.P.OutputFiles.written g.P.OutputFiles.faults _ (record { file = c.args.file; number = n; bytes = c.args.line.now }) c.args.files.now c.args.pending.now (is ∙ ap (λ (o : Option ℕ). Ok o) c.in-None.is) c.requires.fits
