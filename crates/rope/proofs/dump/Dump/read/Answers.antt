use Rattle.rope.specs.Reading.{image_length}
use Rattle.rope.proofs.DumpLaws.{taken_past}
use Rattle.rope.proofs.dump.Dump.read.Goals as goal

pub returns-in-Err-TooLong-clause-bytes : goal.returns-in-Err-TooLong-clause-bytes
returns-in-Err-TooLong-clause-bytes g c = λ told.
    taken_past image_length (g.R.Read.left c.args.reader.now) (g.R.Read.left c.read_text.new.reader)
    (rw c.in-Err-TooLong.field-0-is at (c.in-Err-TooLong.ensures.fault told))
