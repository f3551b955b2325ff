use Rattle.std.proofs.Common.{◌∙◌, ◌∷◌, [], ◌++◌, List, ℕ, ap}
use Rattle.std.specs.Prelude.{flat_map}
use Rattle.yayul.specs.Inside.Surveys.{number_in}
use Rattle.yayul.proofs.FaultOrder.{numbers_standing}
use Rattle.yayul.proofs.survey.LineFaults.numbers.Goals as goal

pub returns : goal.returns
returns c =
    let f = c.args.self.now in
    let first = c.push_numbers.ensures.items ∙ ap (λ (items : List ℕ). items ++ flat_map number_in f.of_text) c.new-numbers.ensures in
    let second = c.push_numbers-2.ensures.items ∙ ap (λ (items : List ℕ). items ++ flat_map number_in (f.of_form ∷ [])) first in
    let third = c.push_numbers-3.ensures.items ∙ ap (λ (items : List ℕ). items ++ flat_map number_in f.of_layout) second in
    let fourth = c.push_numbers-4.ensures.items ∙ ap (λ (items : List ℕ). items ++ flat_map number_in (f.of_promise ∷ [])) third in
    c.push_numbers-5.ensures.items ∙ ap (λ (items : List ℕ). items ++ flat_map number_in f.of_words) fourth
    ∙ numbers_standing f.of_text (f.of_form ∷ []) f.of_layout (f.of_promise ∷ []) f.of_words
