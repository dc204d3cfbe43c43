use Rattle.std.proofs.Common.{◌≡◌, ◌∷◌, Some, None, arith}
use Rattle.json.specs.Token.{Token}
use Rattle.json.specs.Json.{read_key}
use Rattle.event_lines.proofs.FlatReadingLemmas.{begins, steps, ends, shorter_by_member, text_read, number_read}
use Rattle.event_lines.proofs.flat_lines.read_members.Goals as goal

pub members-init : goal.members-init
members-init c = begins c.args.reader.now c.new-found.result c.new-found.ensures.none

pub members-smaller-else-not-put_text : goal.members-smaller-else-not-put_text
members-smaller-else-not-put_text c =
    let named : read_key c.members.reader ≡ Some (Some c.in-Some.key.now, c.next_key.new.self) = grind arith in
    let is : c.next_key.new.self ≡ Token.string c.in-String.text.now ∷ c.next.new.self = grind arith in
    shorter_by_member _ _ _ _ _ named is

pub members-preserved-else-not-put_text : goal.members-preserved-else-not-put_text
members-preserved-else-not-put_text c =
    let named : read_key c.members.reader ≡ Some (Some c.in-Some.key.now, c.next_key.new.self) = grind arith in
    let is : c.next_key.new.self ≡ Token.string c.in-String.text.now ∷ c.next.new.self = grind arith in
    steps _ c.members.reader c.next_key.new.self c.next.new.self c.members.found c.put_text.new.self c.in-Some.key.now _ c.members.invariant named (text_read _ _ _ is) (shorter_by_member _ _ _ _ _ named is) (c.put_text.ensures.put (grind arith))

pub members-smaller : goal.members-smaller
members-smaller c =
    let named : read_key c.members.reader ≡ Some (Some c.in-Some.key.now, c.next_key.new.self) = grind arith in
    let is : c.next_key.new.self ≡ Token.number c.in-Number.text.now ∷ c.next.new.self = grind arith in
    shorter_by_member _ _ _ _ _ named is

pub members-preserved : goal.members-preserved
members-preserved c =
    let named : read_key c.members.reader ≡ Some (Some c.in-Some.key.now, c.next_key.new.self) = grind arith in
    let is : c.next_key.new.self ≡ Token.number c.in-Number.text.now ∷ c.next.new.self = grind arith in
    steps _ c.members.reader c.next_key.new.self c.next.new.self c.members.found c.put_number.new.self c.in-Some.key.now _ c.members.invariant named (number_read _ _ _ _ is (rw c.as_bytes.ensures.value at c.in_ok-whole_number-in-Number.ensures)) (shorter_by_member _ _ _ _ _ named is) (c.put_number.ensures.put (grind arith))

pub returns : goal.returns
returns c =
    let closed : read_key c.members.reader ≡ Some (None, c.next_key.new.self) = grind arith in
    ends _ c.members.reader c.next_key.new.self c.members.found c.members.invariant closed
