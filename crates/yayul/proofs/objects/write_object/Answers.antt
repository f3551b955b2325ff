use Rattle.std.proofs.Common.{◌≡◌, ◌++◌, ℕ, List}
use Rattle.std.specs.Borrow.{Bor}
use Rattle.std.specs.Option.{option_map}
use Rattle.std.proofs.lemmas.Result.{err_from_is_err_and}
use Rattle.words.proofs.Texts.{Writes-after, beginning-after, beginning-longer}
use Rattle.words.specs.Devices.{Writes}
use Rattle.yayul.specs.ListingObjects.{row_end, row_front}
use Rattle.yayul.proofs.objects.write_object.Goals as goal

pub returns-in_err-write_all-clause-written : goal.returns-in_err-write_all-clause-written
returns-in_err-write_all-clause-written g c = λ told.
    let p = err_from_is_err_and c.from_residual.result c.from_residual.ensures.1 in
    rw p.1 (beginning-longer _ _ _ _ (rw (c.as_slice.ensures.value, c.row_front.ensures) at (c.in_err-write_all.ensures.written told)))

pub returns-in_err-write-clause-written : goal.returns-in_err-write-clause-written
returns-in_err-write-clause-written g c = λ told.
    let p = err_from_is_err_and c.from_residual-in_err-write.result c.from_residual-in_err-write.ensures.1 in
    rw p.1 (beginning-after _ _ _ _ _ (rw (c.as_slice.ensures.value, c.row_front.ensures) at (c.in_ok-write_all.ensures.written told))
    (beginning-longer _ _ _ _ (c.in_err-write.ensures.written told)))

pub returns-clause-written : goal.returns-clause-written
returns-clause-written g c = λ told.
    let front = row_front c.args.number c.args.members.now.items in
    let more = g.M.Margin.text c.args.margin.now c.args.word in
    let end = row_end (option_map (λ (t : Bor (List ℕ)). t.now) c.args.text) in
    let old = g.W.Write.written c.args.writer.now in
    let one = g.W.Write.written c.write_all.new.out in
    let two = g.W.Write.written c.write.new.writer in
    let last = g.W.Write.written c.write_row_end.new.writer in
    let first : one ≡ old ++ front = rw (c.as_slice.ensures.value, c.row_front.ensures) at (c.in_ok-write_all.ensures.written told) in
    let later : Writes one last (more ++ end) c.write_row_end.result =
    Writes-after one two last more end c.write_row_end.result (c.in_ok-write.ensures.written told) (c.write_row_end.ensures.written told) in
    Writes-after old one last front (more ++ end) c.write_row_end.result first later
