-- What the words of a subcommand come to, worked out by hand for a table of six rows.
use Rattle.std.proofs.Common.{◌≡◌, ℕ, Bool, true, false, List, [], ◌∷◌, map, Option, Some, None, Result, Ok, Err, refl}
use Rattle.std.specs.Prelude.{codes}
use Rattle.std.specs.Borrow.{Bor}
use Rattle.command_line.specs.Reading.{Read, reading, take_word, finish, settle, begin, take_whole, take_placed, take_plain, take_help}
use Rattle.command_line.specs.Reading.{take_option}
use Rattle.command_line.specs.Reading.{take_letters, refusal_of}
use Rattle.command_line.specs.Found.{text_of}
use Rattle.command_line.specs.declared.row.Row.{Row}
use Rattle.command_line.specs.declared.row.Value.{Value}
use Rattle.command_line.specs.declared.row.Value.TheVariants.{Nothing, Text, TwoTexts, OneOf, Steps}
use Rattle.command_line.specs.declared.reader.Refusal.{Refusal}
use Rattle.command_line.specs.declared.reader.Refusal.TheVariants.{Help, UnknownOption, UnknownLetter, Unexpected, UnneededValue}
use Rattle.command_line.specs.declared.reader.Refusal.TheVariants.{NoValue, TooFewValues, Repeated, WrongValue, Conflict, Missing}

abbrev text : List ℕ → Bor (List ℕ)
text t = record { ref_ptr = (0, 0); now = t }

abbrev texts : List (Bor (List ℕ)) → Bor (List (Bor (List ℕ)))
texts ts = record { ref_ptr = (0, 0); now = ts }

abbrev row : List ℕ → Option (Bor (List ℕ)) → Value → Option (Bor (List ℕ)) → Bool → List (Bor (List ℕ)) → List (Bor (List ℕ)) → Row
row name long value default required needs conflicts = record {
  name = text name;
  long = long;
  value = value;
  value_names = texts [];
  default_value = default;
  is_required = required;
  needs = texts needs;
  conflicts = texts conflicts;
  help = text [];
}

abbrev table : List Row
table =
    row (codes "SRC") None Text None true [] []
    ∷ row (codes "N") None Steps None true [] []
    ∷ row (codes "FLIGHT") (Some (text (codes "flight"))) Nothing None false [] (text (codes "IMAGE") ∷ [])
    ∷ row (codes "IMAGE") (Some (text (codes "image"))) Nothing None false [] []
    ∷ row (codes "VERSION") (Some (text (codes "rope"))) (OneOf (texts (text (codes "1") ∷ text (codes "2") ∷ [])))
    (Some (text (codes "2"))) false (text (codes "IMAGE") ∷ []) []
    ∷ row (codes "WITH") (Some (text (codes "with"))) TwoTexts None false [] []
    ∷ []

-- the name of each argument beside its value
abbrev told : Read → Result (List (List ℕ × List ℕ)) Refusal
told (Ok r) = Ok (map (λ it. (it.0.name.now, it.1)) r.given)
told (Err refusal) = Err refusal

abbrev asks : List (List ℕ) → Result (List (List ℕ × List ℕ)) Refusal
asks words = told (reading table words)

-- the value of the version
abbrev version_in : Read → Option (List ℕ)
version_in (Ok r) = text_of table r.given (codes "VERSION")
version_in (Err refusal) = None

places : asks (codes "a" ∷ codes "4" ∷ []) ≡ Ok ((codes "SRC", codes "a") ∷ (codes "N", codes "4") ∷ [])
unfolding take_word finish settle begin take_whole take_placed take_plain take_help take_option take_letters refusal_of
places = refl

options : asks (codes "--image" ∷ codes "a" ∷ codes "--rope" ∷ codes "1" ∷ codes "4" ∷ [])
    ≡ Ok ((codes "IMAGE", []) ∷ (codes "SRC", codes "a") ∷ (codes "VERSION", codes "1") ∷ (codes "N", codes "4") ∷ [])
unfolding take_word finish settle begin take_whole take_placed take_plain take_help take_option take_letters refusal_of
options = refl

in_one_word : asks (codes "--image" ∷ codes "--rope=1" ∷ codes "a" ∷ codes "+4" ∷ [])
    ≡ Ok ((codes "IMAGE", []) ∷ (codes "VERSION", codes "1") ∷ (codes "SRC", codes "a") ∷ (codes "N", codes "+4") ∷ [])
unfolding take_word finish settle begin take_whole take_placed take_plain take_help take_option take_letters refusal_of
in_one_word = refl

two : asks (codes "--with" ∷ codes "b" ∷ codes "c" ∷ codes "a" ∷ codes "4" ∷ [])
    ≡ Ok ((codes "WITH", codes "b") ∷ (codes "WITH", codes "c") ∷ (codes "SRC", codes "a") ∷ (codes "N", codes "4") ∷ [])
unfolding take_word finish settle begin take_whole take_placed take_plain take_help take_option take_letters refusal_of
two = refl

after_dashes : asks (codes "--" ∷ codes "--image" ∷ codes "4" ∷ []) ≡ Ok ((codes "SRC", codes "--image") ∷ (codes "N", codes "4") ∷ [])
unfolding take_word finish settle begin take_whole take_placed take_plain take_help take_option take_letters refusal_of
after_dashes = refl

given_version : version_in (reading table (codes "--image" ∷ codes "--rope=1" ∷ codes "a" ∷ codes "4" ∷ [])) ≡ Some (codes "1")
unfolding take_word finish settle begin take_whole take_placed take_plain take_help take_option take_letters refusal_of
given_version = refl

default_version : version_in (reading table (codes "a" ∷ codes "4" ∷ [])) ≡ Some (codes "2")
unfolding take_word finish settle begin take_whole take_placed take_plain take_help take_option take_letters refusal_of
default_version = refl

help : asks (codes "a" ∷ codes "-h" ∷ codes "--rope" ∷ []) ≡ Err Help
unfolding take_word finish settle begin take_whole take_placed take_plain take_help take_option take_letters refusal_of
help = refl

help_after_fault : asks (codes "a" ∷ codes "x" ∷ codes "--help" ∷ []) ≡ Err WrongValue
unfolding take_word finish settle begin take_whole take_placed take_plain take_help take_option take_letters refusal_of
help_after_fault = refl

unknown : asks (codes "--verbose" ∷ codes "a" ∷ codes "4" ∷ []) ≡ Err UnknownOption
unfolding take_word finish settle begin take_whole take_placed take_plain take_help take_option take_letters refusal_of
unknown = refl

letter : asks (codes "a" ∷ codes "4" ∷ codes "-5" ∷ []) ≡ Err UnknownLetter
unfolding take_word finish settle begin take_whole take_placed take_plain take_help take_option take_letters refusal_of
letter = refl

below_zero : asks (codes "a" ∷ codes "-5" ∷ []) ≡ Err WrongValue
unfolding take_word finish settle begin take_whole take_placed take_plain take_help take_option take_letters refusal_of
below_zero = refl

too_many : asks (codes "a" ∷ codes "4" ∷ codes "b" ∷ []) ≡ Err Unexpected
unfolding take_word finish settle begin take_whole take_placed take_plain take_help take_option take_letters refusal_of
too_many = refl

unneeded : asks (codes "--image=1" ∷ codes "a" ∷ codes "4" ∷ []) ≡ Err UnneededValue
unfolding take_word finish settle begin take_whole take_placed take_plain take_help take_option take_letters refusal_of
unneeded = refl

no_value : asks (codes "a" ∷ codes "4" ∷ codes "--rope" ∷ []) ≡ Err NoValue
unfolding take_word finish settle begin take_whole take_placed take_plain take_help take_option take_letters refusal_of
no_value = refl

too_few : asks (codes "a" ∷ codes "4" ∷ codes "--with" ∷ codes "b" ∷ []) ≡ Err TooFewValues
unfolding take_word finish settle begin take_whole take_placed take_plain take_help take_option take_letters refusal_of
too_few = refl

repeated : asks (codes "--image" ∷ codes "a" ∷ codes "--image" ∷ codes "4" ∷ []) ≡ Err Repeated
unfolding take_word finish settle begin take_whole take_placed take_plain take_help take_option take_letters refusal_of
repeated = refl

another_version : asks (codes "--image" ∷ codes "--rope" ∷ codes "3" ∷ codes "a" ∷ codes "4" ∷ []) ≡ Err WrongValue
unfolding take_word finish settle begin take_whole take_placed take_plain take_help take_option take_letters refusal_of
another_version = refl

most_steps : asks (codes "a" ∷ codes "1099511627774" ∷ []) ≡ Ok ((codes "SRC", codes "a") ∷ (codes "N", codes "1099511627774") ∷ [])
unfolding take_word finish settle begin take_whole take_placed take_plain take_help take_option take_letters refusal_of
most_steps = refl

one_more_step : asks (codes "a" ∷ codes "1099511627775" ∷ []) ≡ Err WrongValue
unfolding take_word finish settle begin take_whole take_placed take_plain take_help take_option take_letters refusal_of
one_more_step = refl

conflict : asks (codes "--image" ∷ codes "--flight" ∷ codes "a" ∷ codes "4" ∷ []) ≡ Err Conflict
unfolding take_word finish settle begin take_whole take_placed take_plain take_help take_option take_letters refusal_of
conflict = refl

missing_place : asks (codes "a" ∷ []) ≡ Err Missing
unfolding take_word finish settle begin take_whole take_placed take_plain take_help take_option take_letters refusal_of
missing_place = refl

missing_need : asks (codes "--rope=1" ∷ codes "a" ∷ codes "4" ∷ []) ≡ Err Missing
unfolding take_word finish settle begin take_whole take_placed take_plain take_help take_option take_letters refusal_of
missing_need = refl
