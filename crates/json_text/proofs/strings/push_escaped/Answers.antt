use Rattle.std.proofs.Common.{refl, arith}
use Rattle.words.proofs.Texts.{append-nothing}
use Rattle.json_text.proofs.Escapes.{grown, none_escaped}
use Rattle.json_text.proofs.strings.push_escaped.Goals as goal

pub loop-byte-init : goal.loop-byte-init
loop-byte-init g c = record {
  items = rw none_escaped (append-nothing _ _ refl);
  short = omega arith;
}

pub loop-byte-preserved : goal.loop-byte-preserved
loop-byte-preserved g c = record {
  items =
      grown _ _ _ c.args.text.now c.loop-byte.byte-index (omega arith) c.loop-byte.invariant.items
      (rw (c.as_slice.ensures.value, c.escaped_byte.ensures.items) at c.push_all.ensures.items);
  short = omega (arith, c.loop-byte.invariant.short, c.push_all.ensures.len, c.escaped_byte.ensures.short);
}
