use Rattle.std.proofs.Common.{◌≡◌, ◌∙◌, ℕ, List, ap}
use Rattle.std.proofs.lemmas.List.{append-nil}
use Rattle.digest_facts.specs.Digests.{Digest}
use Rattle.digest_facts.specs.Texts.{table_text}
use Rattle.session_rules.specs.DigestTexts.{IsDigestText}
use Rattle.text_rows.specs.TextSinks.{all_bytes}
use Rattle.view_rows.proofs.ModelPrintLemmas.{text_is_part}
use Rattle.view_rows.proofs.digest_printing.print_digest.Goals as goal

pub returns-clause-printed : goal.returns-clause-printed
returns-clause-printed g c = λ given kept judged.
    let made = c.in_ok-table.ensures given kept judged in
    text_is_part g.S.Sink.written g.S.Sink.faults c.print_texts.result c.args.sink.now c.print_texts.new.sink (IsDigestText given kept) c.args.buffer.now c.print_texts.new.buffer _
    (record { digest = made.digest; of_kept = made.is; text = append-nil c.in_ok-text.text.items ∙ (c.in_ok-text.ensures ∙ ap table_text made.table.table) })
    c.print_texts.ensures
