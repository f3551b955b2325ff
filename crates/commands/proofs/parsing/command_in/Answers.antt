use Rattle.std.proofs.Common.{◌≡◌, ◌∷◌, ◌∙◌, sym, ap, option_and_then}
use Rattle.agc_text.specs.Fields.{runs, texts}
use Rattle.agc_text.specs.Tables.{value_in}
use Rattle.commands.specs.Commands.{Form, forms}
use Rattle.commands.proofs.ParsedLaws.{too-many}
use Rattle.commands.proofs.parsing.command_in.Goals as goal

pub returns-in-Some-split_field-3 : goal.returns-in-Some-split_field-3
returns-in-Some-split_field-3 c =
    let all : texts (runs c.args.rest.now) ≡ c.in-Some.first.now ∷ c.in-Some-split_field.second.now ∷ c.in-Some-split_field-2.third.now
    ∷ c.in-Some-split_field-3.field-0.0.now ∷ texts (runs c.in-Some-split_field-3.field-0.1.now) =
    c.in-Some.ensures ∙ ap (λ more. c.in-Some.first.now ∷ more)
    (c.in-Some-split_field.ensures ∙ ap (λ more. c.in-Some-split_field.second.now ∷ more)
    (c.in-Some-split_field-2.ensures ∙ ap (λ more. c.in-Some-split_field-2.third.now ∷ more) c.in-Some-split_field-3.ensures)) in
    sym (ap (λ more. option_and_then (λ (form : Form). form more) (value_in (forms c.args.symbols.now) c.args.name.now)) all
    ∙ too-many _ _ _ _ _ _ _)
