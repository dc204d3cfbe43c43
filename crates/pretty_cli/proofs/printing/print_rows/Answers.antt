use Rattle.std.proofs.Common.{[], sym}
use Rattle.std.proofs.lemmas.List.{append-nil}
use Rattle.pretty_cli.proofs.PrintLemmas.{on_any_error}
use Rattle.pretty_cli.proofs.printing.print_rows.Goals as goal

pub returns-clause-all : goal.returns-clause-all
returns-clause-all g c =
    let p = rw c.new-buffer.ensures at c.in_ok-print_parts.ensures.all in
    record {
      bytes = p.text;
      told = p.told;
      written = c.flush_ends_a_text.ensures.whole _ _ _ _ _ p.prints c.in_ok-flush.ensures.all;
    }

pub returns-in_err-flush-clause-prefix : goal.returns-in_err-flush-clause-prefix
returns-in_err-flush-clause-prefix g c =
    let p = rw c.new-buffer.ensures at c.in_ok-print_parts.ensures.all in
    on_any_error c.from_residual-in_err-flush.result (record {
      first = c.args.rows.now;
      rest = [];
      split = sym (append-nil c.args.rows.now);
      text = p.text;
      told = p.told;
      prefix = c.flush_ends_a_text.ensures.prefix _ _ _ _ _ p.prints c.in_err-flush.ensures.prefix;
    })
