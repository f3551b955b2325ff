use Rattle.std.proofs.Common.{◌++◌}
use Rattle.std.specs.Option.{option_map}
use Rattle.std.specs.Prelude.{codes}
use Rattle.std.proofs.lemmas.Result.{err_from_is_err_and}
use Rattle.words.proofs.Texts.{beginning-longer}
use Rattle.json_text.specs.Strings.{string_or_null}
use Rattle.yayul.specs.ListingObjects.{row_end}
use Rattle.yayul.proofs.objects.write_row_end.Goals as goal

pub returns-in_err-write_all-clause-written : goal.returns-in_err-write_all-clause-written
unfolding row_end
returns-in_err-write_all-clause-written g c = λ told.
    let p = err_from_is_err_and c.from_residual.result c.from_residual.ensures.1 in
    rw p.1 (beginning-longer _ _ (codes ",\"text\":") (string_or_null (option_map (λ t. t.now) c.args.text) ++ codes "}\n")
    (c.in_err-write_all.ensures.written told))
