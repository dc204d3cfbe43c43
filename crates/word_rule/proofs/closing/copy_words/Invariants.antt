use Rattle.std.proofs.Common.{◌≡◌, ◌≤◌, take, vec_capacity}
use Rattle.std.specs.Mem.Slots.{slots_items, slots_len}
use Rattle.word_rule.proofs.closing.copy_words.Given as goal

abbrev pub invariant-loop-index : goal.invariant-loop-index
invariant-loop-index l = record { copied : l.into.items ≡ take l.index (slots_items l.from.words); room : slots_len l.from.words ≤ vec_capacity l.into }
