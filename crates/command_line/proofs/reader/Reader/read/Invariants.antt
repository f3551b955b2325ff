use Rattle.std.proofs.Common.{◌≡◌, drop, map}
use Rattle.std.specs.String.{string_bytes}
use Rattle.command_line.specs.Reading.{read_on, reading_of}
use Rattle.command_line.proofs.reader.Reader.read.Given as goal

abbrev pub invariant-loop-word : goal.invariant-loop-word
invariant-loop-word l =
    read_on l.rows (map string_bytes (drop l.word-index l.words)) (reading_of l.self)
    ≡ read_on l.rows (map string_bytes l.words) (reading_of l.fn.self)
