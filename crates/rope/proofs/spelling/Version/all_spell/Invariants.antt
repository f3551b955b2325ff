use Rattle.std.proofs.Common.{◌≡◌, ◌*◌, true}
use Rattle.rope.specs.Reading.{AllSpellWords}
use Rattle.rope.proofs.spelling.Version.all_spell.Given as goal

abbrev pub invariant-loop-number : goal.invariant-loop-number
invariant-loop-number l = l.all ≡ true → AllSpellWords l.self l.bytes (2 * l.number)
