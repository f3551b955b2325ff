use Rattle.std.proofs.Common.{◌-◌, ◌<◌, ◌∷◌, ◌∙◌, sym, ap, arith, length, drop, take, take_all, length-drop}
use Rattle.agc_text.specs.Fields.{texts, runs}
use Rattle.agc_text.proofs.Splits.{texts-none, texts-take}
use Rattle.agc_text.proofs.fields.split_field.Goals as goal

pub returns-then-is_empty : goal.returns-then-is_empty
returns-then-is_empty c = c.without_blanks-rest.ensures.runs
    ∙ texts-none c.without_blanks-rest.result.now (grind (arith, c.is_empty.ensures, c.if-is_empty.true))

pub returns : goal.returns
returns c =
    let rest = c.without_blanks-rest.result.now in
    let end = c.length_before-end.result in
    let some : 0 < length rest = grind (arith, c.is_empty.ensures, c.if-is_empty.false) in
    c.without_blanks-rest.ensures.runs ∙ texts-take rest end some (c.without_blanks-rest.ensures.first some)
    c.length_before-end.ensures.value
    ∙ ap (λ t. take end rest ∷ texts (runs t)) (sym (take_all (length rest - end) (drop end rest) (omega (arith, length-drop end rest))))
