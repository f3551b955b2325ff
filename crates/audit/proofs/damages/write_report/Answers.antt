use Rattle.std.proofs.lemmas.Result.{err_from_is_err_and}
use Rattle.std.specs.List.{range_with_len, flat_map}
use Rattle.words.proofs.Texts.{Writes-after, beginning-longer}
use Rattle.audit.specs.Damages.{module_text, modules, turned_text}
use Rattle.audit.proofs.damages.write_report.Goals as goal

pub returns-in_err-write_all-clause-written : goal.returns-in_err-write_all-clause-written
returns-in_err-write_all-clause-written g c = λ told.
    let p = err_from_is_err_and c.from_residual.result c.from_residual.ensures.1 in
    rw p.1 (beginning-longer _ _ (turned_text c.args.turned)
    (flat_map (module_text c.args.image.now c.args.turned) (range_with_len 0 modules))
    (rw c.turned_text.ensures at (c.in_err-write_all.ensures.written told)))

pub returns-clause-written : goal.returns-clause-written
returns-clause-written g c = λ told.
    Writes-after _ _ _ (turned_text c.args.turned) (flat_map (module_text c.args.image.now c.args.turned) (range_with_len 0 modules)) _
    (rw c.turned_text.ensures at (c.in_ok-write_all.ensures.written told)) (c.write_modules.ensures.written told)
