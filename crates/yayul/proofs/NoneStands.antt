-- A line on which no fault stands.
use Rattle.std.proofs.Common.{◌≡◌, ◌++◌, ◌&&◌, Bool, true, false, List, [], ◌∷◌, Option, None, Some, refl}
use Rattle.std.specs.List.{list_all}
use Rattle.yayul.specs.Language.{FaultKind}
use Rattle.yayul.specs.Layout.{standing}
use Rattle.yayul.specs.declared.survey.LineFaults.{LineFaults}
use Rattle.yayul.specs.Inside.Surveys.{are_absent, is_absent, kinds_of}

none_standing : (conditions : List (Option FaultKind)) → list_all is_absent conditions ≡ true → standing conditions ≡ []
none_standing [] e = refl
none_standing (None ∷ conditions) e = none_standing conditions e
none_standing (Some kind ∷ conditions) e = absurd (cc)

one_absent : (condition : Option FaultKind) → is_absent condition ≡ true → standing (condition ∷ []) ≡ []
one_absent None e = refl
one_absent (Some kind) e = absurd (cc)

all_true : (a b c d e : Bool) → a && b && c && d && e ≡ true
    → (a ≡ true) × ((b ≡ true) × ((c ≡ true) × ((d ≡ true) × (e ≡ true))))
all_true true true true true true is = (refl, (refl, (refl, (refl, refl))))
all_true true true true true false is = absurd (cc)
all_true true true true false e is = absurd (cc)
all_true true true false d e is = absurd (cc)
all_true true false c d e is = absurd (cc)
all_true false b c d e is = absurd (cc)

pub none_stands : (f : LineFaults) → are_absent f ≡ true → kinds_of f ≡ []
none_stands f absent =
    let each = all_true (list_all is_absent f.of_text) (is_absent f.of_form) (list_all is_absent f.of_layout) (is_absent f.of_promise)
    (list_all is_absent f.of_words) absent in
    λ i. none_standing f.of_text each.0 i ++ one_absent f.of_form each.1.0 i ++ none_standing f.of_layout each.1.1.0 i
    ++ one_absent f.of_promise each.1.1.1.0 i ++ none_standing f.of_words each.1.1.1.1 i
