use Rattle.std.proofs.Common.{◌+◌, ◌*◌, ◌++◌, List, ℕ, drop}
use Rattle.rope.specs.Reading.{AllSpellWords}
use Rattle.rope.specs.Steps.{AllStand, GoesOn}
use Rattle.rope.specs.declared.spelling.Version.{Version}
use Rattle.rope.proofs.memory.Rope.set_spelled.Given as goal

abbrev pub invariant-loop-number : goal.invariant-loop-number
invariant-loop-number l = record {
  goes : (version : Version) (rest : List ℕ) → AllSpellWords version l.bytes (2 * l.count)
      → GoesOn version (l.bytes ++ rest) l.initial.self l.position (drop (2 * l.number) l.bytes ++ rest) l.self (l.position + l.number);
  kept : (version : Version) (rest : List ℕ) → GoesOn version rest l.initial.self l.position rest l.self l.position;
  stand : AllStand l.initial.self l.position → AllStand l.self (l.position + l.number);
}
