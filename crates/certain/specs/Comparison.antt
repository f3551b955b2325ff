-- A flight source and a rope as text: where they differ, the places of uncertain words told apart, and what the rope says of each form.
use Rattle.std.specs.Prelude.{ℕ, ◌+◌, ◌/◌, ◌%◌, ◌==◌, ◌&&◌, not, Bool, true, false, List, [], ◌++◌, length, get_or, codes, decimal}
use Rattle.std.specs.Prelude.{Option, None, Some, if◌then◌else◌}
use Rattle.std.specs.List.{range_with_len, flat_map}
use Rattle.std.specs.Option.{option_map_or}
use Rattle.rope.specs.Places.{Words, bank_words, fixed_places, word_at}
use Rattle.audit.specs.BankFacts.{count_before}
use Rattle.audit.specs.Differences.{count_line, difference_text, differing}
use Rattle.audit.specs.declared.differences.Extent.TheVariants.{Filled}
use Rattle.certain.specs.declared.form.UncertainForm.{UncertainForm}
use Rattle.certain.specs.Forms.{form_name, form_number, form_numbered, forms}
use Rattle.certain.specs.Places.{UncertainWords, form_at}

-- ## Lines
-- what stands at the end of the line of an uncertain place
abbrev pub remark : Option UncertainForm → List ℕ
remark None = []
remark (Some form) = codes " UNCERTAIN " ++ form_name form

-- the line of a place
unfoldable pub told_line : UncertainWords → Words → Words → ℕ × ℕ → List ℕ
told_line uncertain old new place = difference_text old new place ++ remark (form_at uncertain place.0 place.1) ++ codes "\n"

-- the lines of some places
abbrev pub told_lines : UncertainWords → Words → Words → List (ℕ × ℕ) → List ℕ
told_lines uncertain old new places = flat_map (told_line uncertain old new) places

-- ## Counts
-- the words at the place of a number differ
abbrev pub differs : Words → Words → ℕ → Bool
differs old new place =
    not (word_at old (place / bank_words) (place % bank_words) == word_at new (place / bank_words) (place % bank_words))

-- a form is the one that is asked for by its number, or any is asked for
abbrev pub is_asked : Option ℕ → UncertainForm → Bool
is_asked None form = true
is_asked (Some number) form = form_number form == number

-- the place of a number is uncertain by a form that is asked for, and the words there differ, or do not
abbrev pub is_counted : UncertainWords → Words → Words → Option ℕ → Bool → ℕ → Bool
is_counted uncertain old new asked wrong place =
    option_map_or (is_asked asked) (get_or uncertain place None) false
    && (if wrong then differs old new place else not (differs old new place))

-- how many such places there are
abbrev pub count_of : UncertainWords → Words → Words → Option ℕ → Bool → ℕ
count_of uncertain old new asked wrong = count_before (is_counted uncertain old new asked wrong) fixed_places

-- how many uncertain places differ, of how many
abbrev pub uncertain_text : ℕ → ℕ → List ℕ
uncertain_text wrong right =
    if wrong + right == 0 then [] else codes "UNCERTAIN " ++ decimal wrong ++ codes " OF " ++ decimal (wrong + right) ++ codes "\n"

unfoldable pub uncertain_line : UncertainWords → Words → Words → List ℕ
uncertain_line uncertain old new = uncertain_text (count_of uncertain old new None true) (count_of uncertain old new None false)

-- how many places of a form the rope confirms, and how many it denies
abbrev pub form_text : ℕ → ℕ → ℕ → List ℕ
form_text number right wrong =
    if right + wrong == 0 then []
    else codes "FORM " ++ form_name (form_numbered number) ++ codes " CONFIRMED " ++ decimal right ++ codes " DENIED " ++ decimal wrong
    ++ codes "\n"

unfoldable pub form_line : UncertainWords → Words → Words → ℕ → List ℕ
form_line uncertain old new number =
    form_text number (count_of uncertain old new (Some number) false) (count_of uncertain old new (Some number) true)

-- the lines of all forms that stand in the source, from the least certain one on
unfoldable pub form_lines : UncertainWords → Words → Words → List ℕ
form_lines uncertain old new = flat_map (form_line uncertain old new) (range_with_len 0 forms)

-- ## The whole
-- a line for each place that the source fills where the words differ, how many there are, and then what is known of the uncertain ones
unfoldable pub comparison : UncertainWords → Words → Words → List ℕ
comparison uncertain old new =
    told_lines uncertain old new (differing Filled old new)
    ++ (count_line (length (differing Filled old new)) ++ (uncertain_line uncertain old new ++ form_lines uncertain old new))
