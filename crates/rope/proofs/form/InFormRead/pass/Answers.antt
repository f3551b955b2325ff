use Rattle.std.proofs.Common.{◌≡◌, ◌∙◌, sym, ap}
use Rattle.rope.proofs.FormLaws.{as_written}
use Rattle.rope.proofs.form.InFormRead.pass.Goals as goal
use Rattle.rope.proofs.form.InFormRead.pass.Goals.{After-pass}
use Rattle.rope.proofs.form.InFormRead.pass.Given.{Over}

-- the bytes that are left are those of the device
plain : (g : Over) (c : After-pass g) → c.args.self.now.left ≡ g.R.Read.left c.self.inside.device
plain g c = ap (λ source. source.left) (sym c.self.view_is)
    ∙ rw (c.in-AsWritten-Nothing.is-0, c.in-AsWritten-Nothing.is-1) (as_written (g.R.Read.left c.self.inside.device))

pub returns-in-AsWritten-Nothing-clause-within : goal.returns-in-AsWritten-Nothing-clause-within
returns-in-AsWritten-Nothing-clause-within g c = λ told passed. rw (plain g c) (c.pass.ensures.within told passed)

pub returns-in-AsWritten-Nothing-clause-bytes : goal.returns-in-AsWritten-Nothing-clause-bytes
returns-in-AsWritten-Nothing-clause-bytes g c = λ told.
    rw (c.in-AsWritten-Nothing.is-0, c.in-AsWritten-Nothing.is-1, plain g c)
    (as_written (g.R.Read.left c.pass.new.self) ∙ c.pass.ensures.bytes told)
