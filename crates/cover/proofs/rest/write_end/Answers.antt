use Rattle.std.proofs.Common.{◌++◌}
use Rattle.std.specs.Prelude.{codes}
use Rattle.words.specs.Devices.{Writes}
use Rattle.cpu.specs.declared.account.Account.TheVariants.{Input, Entry, Waiting}
use Rattle.cover.specs.CoverText.{figures_in}
use Rattle.cover.specs.Tallies.{figures_at}
use Rattle.std.proofs.lemmas.Result.{err_from_is_err_and}
use Rattle.words.proofs.Texts.{Writes-after, beginning-after, beginning-longer}
use Rattle.cover.proofs.rest.write_end.Goals as goal

pub returns-in_err-write_figures-clause-written : goal.returns-in_err-write_figures-clause-written
returns-in_err-write_figures-clause-written g c = λ told.
    let p = err_from_is_err_and c.from_residual.result c.from_residual.ensures.1 in
    let tally = figures_at c.args.tally.now in
    let input = figures_in c.args.notation (tally Input) (codes "INPUT") in
    let entry = figures_in c.args.notation (tally Entry) (codes "ENTRY") in
    let waiting = figures_in c.args.notation (tally Waiting) (codes "BRUPT") in
    let total = figures_in c.args.notation c.args.total (codes "TOTAL") in
    rw p.1 (beginning-longer _ _ input (entry ++ (waiting ++ total))
    (rw c.figures.ensures at (c.in_err-write_figures.ensures.written told)))

pub returns-in_err-write_figures-2-clause-written : goal.returns-in_err-write_figures-2-clause-written
returns-in_err-write_figures-2-clause-written g c = λ told.
    let p = err_from_is_err_and c.from_residual-in_err-write_figures-2.result c.from_residual-in_err-write_figures-2.ensures.1 in
    let tally = figures_at c.args.tally.now in
    let input = figures_in c.args.notation (tally Input) (codes "INPUT") in
    let entry = figures_in c.args.notation (tally Entry) (codes "ENTRY") in
    let waiting = figures_in c.args.notation (tally Waiting) (codes "BRUPT") in
    let total = figures_in c.args.notation c.args.total (codes "TOTAL") in
    rw p.1 (beginning-after _ _ _ input (entry ++ (waiting ++ total)) (rw c.figures.ensures at (c.in_ok-write_figures.ensures.written told))
    (beginning-longer _ _ entry (waiting ++ total) (rw c.figures-2.ensures at (c.in_err-write_figures-2.ensures.written told))))

pub returns-in_err-write_figures-3-clause-written : goal.returns-in_err-write_figures-3-clause-written
returns-in_err-write_figures-3-clause-written g c = λ told.
    let p = err_from_is_err_and c.from_residual-in_err-write_figures-3.result c.from_residual-in_err-write_figures-3.ensures.1 in
    let tally = figures_at c.args.tally.now in
    let input = figures_in c.args.notation (tally Input) (codes "INPUT") in
    let entry = figures_in c.args.notation (tally Entry) (codes "ENTRY") in
    let waiting = figures_in c.args.notation (tally Waiting) (codes "BRUPT") in
    let total = figures_in c.args.notation c.args.total (codes "TOTAL") in
    rw p.1 (beginning-after _ _ _ input (entry ++ (waiting ++ total)) (rw c.figures.ensures at (c.in_ok-write_figures.ensures.written told))
    (beginning-after _ _ _ entry (waiting ++ total) (rw c.figures-2.ensures at (c.in_ok-write_figures-2.ensures.written told))
    (beginning-longer _ _ waiting total (rw c.figures-3.ensures at (c.in_err-write_figures-3.ensures.written told)))))

pub returns-clause-written : goal.returns-clause-written
returns-clause-written g c = λ told.
    let tally = figures_at c.args.tally.now in
    let input = figures_in c.args.notation (tally Input) (codes "INPUT") in
    let entry = figures_in c.args.notation (tally Entry) (codes "ENTRY") in
    let waiting = figures_in c.args.notation (tally Waiting) (codes "BRUPT") in
    let total = figures_in c.args.notation c.args.total (codes "TOTAL") in
    let old = g.W.Write.written c.args.out.now in
    let one = g.W.Write.written c.write_figures.new.out in
    let two = g.W.Write.written c.write_figures-2.new.out in
    let three = g.W.Write.written c.write_figures-3.new.out in
    let end = g.W.Write.written c.write_figures-4.new.out in
    let last : Writes two end (waiting ++ total) c.write_figures-4.result =
    Writes-after two three end waiting total c.write_figures-4.result
    (rw c.figures-3.ensures at (c.in_ok-write_figures-3.ensures.written told)) (c.write_figures-4.ensures.written told) in
    let later : Writes one end (entry ++ (waiting ++ total)) c.write_figures-4.result =
    Writes-after one two end entry (waiting ++ total) c.write_figures-4.result
    (rw c.figures-2.ensures at (c.in_ok-write_figures-2.ensures.written told)) last in
    Writes-after old one end input (entry ++ (waiting ++ total)) c.write_figures-4.result
    (rw c.figures.ensures at (c.in_ok-write_figures.ensures.written told)) later
