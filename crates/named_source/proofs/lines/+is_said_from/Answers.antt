use Rattle.std.proofs.Common.{arith}
use Rattle.audit.proofs.Steps.{extracode_next}
use Rattle.named_source.proofs.lines.+is_said_from.Goals as goal

-- fewer words are left; those behind and those left are a bank's; extracode is in force as it is at the next word
pub is_said_from-requires : goal.is_said_from-requires
is_said_from-requires t c = (
  omega arith,
  (
    omega arith,
    extracode_next c.args.rope.now c.args.bank c.args.number c.offset_of.result c.word-word.result c.args.extra _
        c.offset_of.ensures c.requires.extra c.word-word.ensures c.extracode_after-next.ensures,
  ),
)
