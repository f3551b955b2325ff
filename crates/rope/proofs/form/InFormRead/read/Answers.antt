use Rattle.std.proofs.Common.{◌≡◌, ◌<◌, ◌∙◌, length, refl, sym, ap, arith}
use Rattle.rope.proofs.FormLaws.{as_written, first_set}
use Rattle.rope.proofs.form.InFormRead.read.Goals as goal

pub returns-in-Some-clause-bytes : goal.returns-in-Some-clause-bytes
returns-in-Some-clause-bytes g c = λ told.
    let some : 0 < length c.args.buf.now = grind (arith, c.is_empty.ensures, c.if-is_empty.false) in
    ap (λ source. source.left) (sym c.self.view_is)
    ∙ rw c.in-Some.is at (c.in_ok-byte.ensures.byte told)
    ∙ rw (first_set c.args.buf.now c.in-Some.byte some) refl

pub returns-in-AsWritten-Nothing-clause-bytes : goal.returns-in-AsWritten-Nothing-clause-bytes
returns-in-AsWritten-Nothing-clause-bytes g c = λ told.
    let before : c.args.self.now.left ≡ g.R.Read.left c.self.inside.device =
    ap (λ source. source.left) (sym c.self.view_is)
    ∙ rw (c.in-AsWritten-Nothing.is-0, c.in-AsWritten-Nothing.is-1) (as_written (g.R.Read.left c.self.inside.device)) in
    rw (c.in-AsWritten-Nothing.is-0, c.in-AsWritten-Nothing.is-1, before, as_written (g.R.Read.left c.read.new.self))
    (c.read.ensures.bytes told)
