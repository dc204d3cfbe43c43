use Rattle.std.proofs.Common.{◌+◌, ◌<◌, ◌^◌, length, take, arith, rules, subst, sym}
use Rattle.std.specs.Char.{is_ascii_hexdigit}
use Rattle.std.proofs.lemmas.List.{length-take-le}
use Rattle.std.proofs.lemmas.List.Sums.{suffix_len-le-length}
use Rattle.name_patterns.specs.Patterns.{is_uuid_byte}
use Rattle.name_patterns.specs.inner.Bytes.{AreBefore}
use Rattle.name_patterns.proofs.PatternLemmas.{before_more, pieces_more}
use Rattle.name_patterns.proofs.pattern.push_pattern.Goals as goal

pub varies_at-varies-requires-clause-short : goal.varies_at-varies-requires-clause-short
varies_at-varies-requires-clause-short c =
    let bytes = c.args.bytes.now in
    omega (arith, c.bytes.invariant.before.hex_is, suffix_len-le-length is_ascii_hexdigit (take c.bytes.at bytes), length-take-le c.bytes.at bytes (omega (arith, c.bytes-test.true)))

pub varies_at-varies-requires-clause-few : goal.varies_at-varies-requires-clause-few
varies_at-varies-requires-clause-few c =
    let bytes = c.args.bytes.now in
    omega (arith, c.bytes.invariant.before.uuid_is, suffix_len-le-length is_uuid_byte (take c.bytes.at bytes), length-take-le c.bytes.at bytes (omega (arith, c.bytes-test.true)))

pub after_byte-before-requires-clause-hex : goal.after_byte-before-requires-clause-hex
after_byte-before-requires-clause-hex c =
    let bytes = c.args.bytes.now in
    let few : length bytes < 2 ^ 64 = search rules in
    omega (arith, c.bytes.invariant.before.hex_is, suffix_len-le-length is_ascii_hexdigit (take c.bytes.at bytes), length-take-le c.bytes.at bytes (omega (arith, c.bytes-test.true)), c.bytes-test.true, few)

pub after_byte-before-requires-clause-uuid : goal.after_byte-before-requires-clause-uuid
after_byte-before-requires-clause-uuid c =
    let bytes = c.args.bytes.now in
    let few : length bytes < 2 ^ 64 = search rules in
    omega (arith, c.bytes.invariant.before.uuid_is, suffix_len-le-length is_uuid_byte (take c.bytes.at bytes), length-take-le c.bytes.at bytes (omega (arith, c.bytes-test.true)), c.bytes-test.true, few)

pub bytes-preserved : goal.bytes-preserved
bytes-preserved c =
    let bytes = c.args.bytes.now in
    let at = c.bytes.at in
    let lt : at < length bytes = omega (arith, c.bytes-test.true) in
    let told = c.varies_at-varies.ensures in
    record {
      pieces = pieces_more bytes c.args.text.now.items c.bytes.text.items c.push_byte.new.text.items at c.varies_at-varies.result c.bytes.before.varies c.bytes.invariant.pieces told c.bytes.invariant.before.varies_is c.in_ok-push_byte.ensures;
      before = subst (AreBefore bytes (at + 1)) (sym c.after_byte-before.ensures) (before_more bytes at c.bytes.before c.varies_at-varies.result lt c.bytes.invariant.before told);
    }
