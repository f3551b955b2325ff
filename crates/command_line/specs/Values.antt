-- Which values an argument takes.
use Rattle.std.specs.Prelude.{ℕ, ◌==◌, ◌&&◌, Bool, true, false, not, List, length, nat_le}
use Rattle.std.specs.Borrow.{Bor}
use Rattle.std.specs.List.{list_any}
use Rattle.std.specs.Str.{bytes_eq, all_ascii_digits}
use Rattle.std.specs.Str.Parse.{without_leading_plus, digits_value}
use Rattle.command_line.specs.declared.row.Value.{Value}
use Rattle.command_line.specs.declared.row.Value.TheVariants.{Nothing, Texts, TwoTexts, SomeTexts, OneOf, OneOfMany, Step, Steps, Links}

-- any value at all
abbrev pub takes_value : Value → Bool
takes_value Nothing = false
takes_value value = true

-- any number of words
abbrev pub takes_many : Value → Bool
takes_many Texts = true
takes_many SomeTexts = true
takes_many value = false

-- how many words at once
abbrev pub word_count : Value → ℕ
word_count TwoTexts = 2
word_count value = 1

-- a number of steps, which a number below zero stands for too, though it is none
abbrev pub takes_number : Value → Bool
takes_number Steps = true
takes_number value = false

-- the text is one of the names
abbrev pub is_among : List (Bor (List ℕ)) → List ℕ → Bool
is_among names text = list_any (λ name. bytes_eq name.now text) names

-- the text is a number, before which a plus may stand, within bounds
abbrev pub are_digits_within : ℕ → ℕ → List ℕ → Bool
are_digits_within least most digits =
    not (length digits == 0) && all_ascii_digits digits && nat_le least (digits_value 10 digits) && nat_le (digits_value 10 digits) most

abbrev pub is_within : ℕ → ℕ → List ℕ → Bool
is_within least most text = are_digits_within least most (without_leading_plus text)

-- the text is a value of an argument
abbrev pub accepts : Value → List ℕ → Bool
accepts (OneOf names) text = is_among names.now text
accepts (OneOfMany names) text = is_among names.now text
accepts Step text = is_within 0 1099511627774 text
accepts Steps text = is_within 0 1099511627774 text
accepts Links text = is_within 1 999 text
accepts value text = true
