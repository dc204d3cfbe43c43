use Rattle.std.proofs.Common.{◌≡◌, map, take}
use Rattle.mystery_run.specs.ReplayTexts.{hex_word}
use Rattle.mystery_run.proofs.replaying.hex_texts.Given as goal

-- the texts so far
abbrev pub invariant-loop-word : goal.invariant-loop-word
invariant-loop-word l = map (λ text. text.bytes) l.texts.items ≡ map hex_word (take l.word-index l.words)
