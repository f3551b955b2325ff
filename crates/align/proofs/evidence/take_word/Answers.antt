use Rattle.std.proofs.Common.{sym, arith}
use Rattle.align.specs.Pairings.{pairing}
use Rattle.align.proofs.Known.{known_beyond, known_few}
use Rattle.align.proofs.evidence.take_word.Goals as goal

pub with_word-requires-clause-few : goal.with_word-requires-clause-few
with_word-requires-clause-few c =
    known_few c.args.operands.now
    (pairing c.args.p.own.now c.args.p.old.now c.args.p.new.now c.args.p.to_old.now c.args.p.to_new.now) c.args.place
    c.from-address.result c.args.known.now c.requires.so_far (omega (arith, c.if-address-lt-ADDRESSES.true))

pub returns-else-address-lt-ADDRESSES-clause-known : goal.returns-else-address-lt-ADDRESSES-clause-known
returns-else-address-lt-ADDRESSES-clause-known c =
    known_beyond c.args.operands.now
    (pairing c.args.p.own.now c.args.p.old.now c.args.p.new.now c.args.p.to_old.now c.args.p.to_new.now) c.args.place
    c.from-address.result c.args.known.now (rw c.from-address.ensures (sym c.in-Some.ensures))
    (omega (arith, c.if-address-lt-ADDRESSES.false)) c.requires.so_far
