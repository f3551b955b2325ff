use Rattle.std.proofs.Common.{◌≡◌, ◌∙◌, sym, ap}
use Rattle.rope.proofs.FormLaws.{as_written}
use Rattle.rope.proofs.form.InFormRead.ready.Goals as goal

pub returns-in-AsWritten-Nothing : goal.returns-in-AsWritten-Nothing
returns-in-AsWritten-Nothing g c = λ told.
    let plain : c.args.self.now.left ≡ g.R.Read.left c.self.inside.device =
    ap (λ source. source.left) (sym c.self.view_is)
    ∙ rw (c.in-AsWritten-Nothing.is-0, c.in-AsWritten-Nothing.is-1) (as_written (g.R.Read.left c.self.inside.device)) in
    rw plain (c.ready.ensures told)
