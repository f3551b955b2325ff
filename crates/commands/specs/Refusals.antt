-- What an extended session says of a line that is no command.
use Rattle.std.specs.Prelude.{ℕ, ◌&&◌, ◌||◌, not, Bool, false, true, List, [], ◌∷◌, ◌++◌, take, drop, find, Option, None, Some, is_some}
use Rattle.std.specs.Prelude.{codes, if◌then◌else◌}
use Rattle.std.specs.Option.{option_map_or}
use Rattle.agc_text.specs.Digits.{digits_value}
use Rattle.agc_text.specs.Tables.{same_name, value_in}
use Rattle.symbols.specs.Values.{SymbolTable}
use Rattle.space.specs.declared.place.Linear.{Linear}
use Rattle.space.specs.declared.place.Linear.TheVariants.{Erasable, Fixed}
use Rattle.commands.specs.Commands.{before_comma, after_comma}
use Rattle.commands.specs.NamedPlaces.{named_place, begins_with_plus}
use Rattle.commands.specs.Subjects.{channel_named}
use Rattle.commands.specs.Usages.{Usage, usages}

-- a command that begins with a place
abbrev pub begins_with_place : List ℕ → Bool
begins_with_place name =
    same_name name (codes "mem") || same_name name (codes "last") || same_name name (codes "why") || same_name name (codes "list")
    || same_name name (codes "value") || same_name name (codes "never")

-- the field that names a place
abbrev pub breakpoint_place_field : List ℕ → List (List ℕ) → Option (List ℕ)
breakpoint_place_field kind [] = None
breakpoint_place_field kind (field ∷ more) = if same_name kind (codes "chan") then None else Some field

abbrev pub place_field : List ℕ → List (List ℕ) → Option (List ℕ)
place_field name [] = None
place_field name (field ∷ more) =
    if begins_with_place name then Some field
    else if same_name name (codes "break") then breakpoint_place_field field more
    else None

-- it names none, and is no symbol and no channel
abbrev pub is_no_symbol : SymbolTable → List ℕ → Bool
is_no_symbol symbols field = not (is_some (named_place symbols field)) && not (is_some (value_in symbols field))
    && not (is_some (channel_named symbols field))

-- the symbol that is missing
abbrev pub missing_symbol : SymbolTable → Option (List ℕ) → Option (List ℕ)
missing_symbol symbols None = None
missing_symbol symbols (Some field) = if is_no_symbol symbols field then Some field else None

-- the field that names an erasable place alone
abbrev pub erasable_breakpoint_field : List ℕ → List (List ℕ) → Option (List ℕ)
erasable_breakpoint_field kind [] = None
erasable_breakpoint_field kind (field ∷ more) = if same_name kind (codes "word")
    || same_name kind (codes "change") then Some field else None

abbrev pub erasable_field : List ℕ → List (List ℕ) → Option (List ℕ)
erasable_field name [] = None
erasable_field name (field ∷ more) =
    if same_name name (codes "last") || same_name name (codes "why") then Some field
    else if same_name name (codes "break") then erasable_breakpoint_field field more
    else None

-- it names a place of fixed memory
abbrev pub is_in_fixed_memory : Option Linear → Bool
is_in_fixed_memory None = false
is_in_fixed_memory (Some (Erasable p)) = false
is_in_fixed_memory (Some (Fixed bank offset)) = true

abbrev pub fixed_field : SymbolTable → Option (List ℕ) → Option (List ℕ)
fixed_field symbols None = None
fixed_field symbols (Some field) = if is_in_fixed_memory (named_place symbols field) then Some field else None

-- the fields in which octal numbers stand: a place and what moves it on; a channel; and what follows `break` and a word
abbrev pub moving_field : List (List ℕ) → List (List ℕ)
moving_field [] = []
moving_field (field ∷ more) = if begins_with_plus field then field ∷ [] else []

abbrev pub octal_fields : List ℕ → List (List ℕ) → List (List ℕ)
octal_fields name [] = []
octal_fields name (field ∷ more) =
    if begins_with_place name then field ∷ moving_field more
    else if same_name name (codes "chan") then field ∷ []
    else if same_name name (codes "break") then take 3 more
    else []

-- decimal digits, of which one is 8 or 9
abbrev pub is_beyond_octal : List ℕ → Bool
is_beyond_octal text = is_some (digits_value 10 text) && not (is_some (digits_value 8 text))

-- a field that is no symbol, with such digits: alone, after a plus sign, or beside a comma
abbrev pub is_no_octal : SymbolTable → List ℕ → Bool
is_no_octal symbols field =
    not (is_some (value_in symbols field))
    && (is_beyond_octal (if begins_with_plus field then drop 1 field else before_comma field) || is_beyond_octal (after_comma field))

-- octal digits
abbrev pub is_octal : List ℕ → Bool
is_octal text = is_some (digits_value 8 text)

-- the number of a place, or a bank of fixed memory, or an erasable one after an E, and an octal number beside a comma
abbrev pub is_numbered : List ℕ → Bool
is_numbered field =
    is_octal field
    || (is_octal (if same_name (take 1 field) (codes "E") then drop 1 (before_comma field) else before_comma field)
    && is_octal (after_comma field))

-- what is said of a field that names no place
abbrev pub no_such : List ℕ → List ℕ
no_such field =
    if is_numbered field then codes "no place " ++ field
    ++ codes ": places are octal, to 7777, or BANK,OFFSET to 47,1777, or as a listing has them"
    else codes "no symbol " ++ field

-- why a line has no form of its command
abbrev pub wrong_form : SymbolTable → List ℕ → List (List ℕ) → List ℕ → List ℕ
wrong_form symbols name fields takes =
    option_map_or (λ field. codes "numbers of places, channels and words are octal, and " ++ field ++ codes " has a digit 8 or 9")
    (find (is_no_octal symbols) (octal_fields name fields))
    (option_map_or no_such (missing_symbol symbols (place_field name fields))
    (option_map_or (λ field. field ++ codes " is in fixed memory, whose words never change")
    (fixed_field symbols (erasable_field name fields)) (name ++ codes " takes " ++ takes)))

-- why a line is no command
abbrev pub wrong_command : SymbolTable → List ℕ → List (List ℕ) → Option Usage → List ℕ
wrong_command symbols name fields None = codes "no command " ++ name
wrong_command symbols name fields (Some usage) = wrong_form symbols name fields usage.takes

-- the refusal of a line that is no command
abbrev pub refusal_line : SymbolTable → List ℕ → List (List ℕ) → List ℕ
refusal_line symbols name fields = codes "E50 COMMAND " ++ wrong_command symbols name fields (value_in usages name) ++ codes "\n"
