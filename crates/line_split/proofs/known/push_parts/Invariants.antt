use Rattle.std.proofs.Common.{◌≡◌, ◌++◌, map, take}
use Rattle.line_split.specs.inner.Calls.{call_of_line}
use Rattle.line_split.specs.inner.Known.{event_part}
use Rattle.line_split.proofs.known.push_parts.Given as goal

-- the parts of the events so far
abbrev pub invariant-events : goal.invariant-events
invariant-events l = l.parts.items ≡ l.fn.parts.items ++ map (event_part (call_of_line l.call)) (take l.index l.events)
