use Rattle.std.proofs.Common.{◌++◌}
use Rattle.std.proofs.lemmas.Result.{err_from_is_err_and}
use Rattle.std.specs.Prelude.{codes}
use Rattle.words.proofs.Texts.{beginning-longer}
use Rattle.json_text.specs.Strings.{escaped}
use Rattle.json_text.proofs.strings.write_json_string.Goals as goal

pub returns-in_err-write_all-clause-written : goal.returns-in_err-write_all-clause-written
returns-in_err-write_all-clause-written g c = λ told.
    let p = err_from_is_err_and c.from_residual.result c.from_residual.ensures.1 in
    rw p.1 (beginning-longer _ _ (codes "\"") (escaped c.args.text.now ++ codes "\"") (c.in_err-write_all.ensures.written told))
