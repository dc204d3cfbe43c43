use Rattle.std.proofs.Common.{◌≡◌, ◌||◌, ℕ, Bool, cond, List, Some, get_or, take, sym, ap, ◌∙◌, ◌<◌, length, subst, length-set}
use Rattle.std.specs.Option.{option_or}
use Rattle.std.proofs.lemmas.List.Folds.{list_any_more}
use Rattle.std.proofs.lemmas.Option.{slice_get-get_or}
use Rattle.word_rows.specs.declared.entries.Entry.{Entry}
use Rattle.word_rows.specs.Rows.{clears, entry_clears}
use Rattle.word_rows.proofs.RowLemmas.{entry_below}
use Rattle.counterexamples.specs.inner.Tables.{noted_at}
use Rattle.counterexamples.proofs.TableLemmas.{entry_noted}
use Rattle.counterexamples.proofs.finding_all.note_row.Goals as goal

pub entries-preserved : goal.entries-preserved
entries-preserved c =
    let inv = c.entries.invariant in let row : List Entry = c.args.row.now in let at = c.entries.entry-index in
    let words = c.entries.words in let zero_entry : Entry = record { word = 0; mask = 0 } in
    let same : c.entries-entry-items.result.now ≡ row = c.entries-entry-items.ensures.same in
    let within : at < length row = subst (λ (l : List Entry). at < length l) same c.entries-test.true in
    let e : Entry = get_or row at zero_entry in
    let e_is : get_or c.entries-entry-items.result.now at zero_entry ≡ e = ap (λ (l : List Entry). get_or l at zero_entry) same in
    let f : Entry = get_or c.entries-entry-items.result.now at zero_entry in
    let known : f.word < length words = subst (λ (x : Entry). x.word < length words) (sym e_is) (subst (λ (n : ℕ). e.word < n) (sym inv.long) (entry_below (length c.args.words.now) row at zero_entry c.requires within)) in
    record {
      long = length-set words f.word c.note.new.self ∙ inv.long;
      each = λ i b h l.
          let o = noted_at c.args.words.now i b in
          let so_far = clears (take at row) i b in
          entry_noted words f _ c.note.new.self c.args.finding i b so_far o (subst (λ (n : ℕ). i < n) (sym inv.long) h) l (slice_get-get_or words f.word _ known) c.note.ensures (inv.each i b h l)
          ∙ ap (λ (x : Entry). cond (so_far || entry_clears x i b) (option_or o (Some c.args.finding)) o) e_is
          ∙ ap (λ (t : Bool). cond t (option_or o (Some c.args.finding)) o) (sym (list_any_more (λ (x : Entry). entry_clears x i b) row at zero_entry within));
    }
