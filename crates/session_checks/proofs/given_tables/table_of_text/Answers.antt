use Rattle.session_checks.proofs.given_tables.table_of_text.Goals as goal

pub returns : goal.returns
returns c =
    let given = c.what_is_read_gives_a_digest.ensures c.args.text.now c.in-Ok.tables.items
    c.in-Ok.ensures.read
    in let merge = (rw c.deref.ensures.value at c.in-Ok-merge_all.ensures.merge) given.0 given.1
    in (given.0, merge.0, merge.1)
