-- Without assumptions no line has a row.
use Rattle.std.proofs.Common.{◌≡◌, ◌∙◌, ℕ, ◌+◌, List, [], ◌∷◌, length, ap, refl}
use Rattle.std.proofs.lemmas.List.{nil_from_length}
use Rattle.assumed.specs.declared.wording.Wording.{Wording}
use Rattle.assumed.specs.Sources.{assumed_rows}

none_of_lines : (name : List ℕ) (number : ℕ) (texts : List (List ℕ)) → assumed_rows name [] number texts ≡ []
none_of_lines name number [] = refl
none_of_lines name number (text ∷ texts) = none_of_lines name (number + 1) texts

pub no_rows : (name : List ℕ) (wordings : List Wording) (number : ℕ) (texts : List (List ℕ)) → length wordings ≡ 0
    → assumed_rows name wordings number texts ≡ []
no_rows name wordings number texts none =
    ap (λ ws. assumed_rows name ws number texts) (nil_from_length wordings none) ∙ none_of_lines name number texts
