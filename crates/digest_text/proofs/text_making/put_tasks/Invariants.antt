use Rattle.std.proofs.Common.{◌≡◌, ◌++◌, map, take}
use Rattle.std.specs.List.{flat_map}
use Rattle.text_rows.specs.Rows.{row_of}
use Rattle.digest_facts.specs.Texts.{task_fields}
use Rattle.digest_text.proofs.text_making.put_tasks.Given as goal

-- the rows so far
abbrev pub invariant-tasks : goal.invariant-tasks
invariant-tasks l = l.text.items ≡ l.fn.text.items ++ flat_map row_of (map task_fields (take l.row-index l.tasks))
