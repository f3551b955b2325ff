-- The fields after an operator, as a line that is read has them and as one that is taken apart.
use Rattle.std.proofs.Common.{◌≡◌, ◌∙◌, ℕ, List, Option, None, Some, refl, ap, option_map}
use Rattle.agc_text.specs.Views.{piece}
use Rattle.agc_text.specs.declared.fields.Field.{Field}
use Rattle.yayul.specs.Inside.Representation.{followed_by, text_of}
use Rattle.yayul.specs.Readings.{texts_from}

texts_same : (field : Option Field) (rest : List (List ℕ)) → followed_by (text_of field) rest ≡ texts_from (option_map piece field) rest
texts_same None rest = refl
texts_same (Some f) rest = refl

pub arguments_same : (operand offset : Option Field) (last : List (List ℕ))
    → followed_by (text_of operand) (followed_by (text_of offset) last)
    ≡ texts_from (option_map piece operand) (texts_from (option_map piece offset) last)
arguments_same operand offset last =
    ap (followed_by (text_of operand)) (texts_same offset last) ∙ texts_same operand (texts_from (option_map piece offset) last)
