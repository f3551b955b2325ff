-- A table of names: a line for each, with what the name stands for, as a listing has it below SYMBOLS, or with a place alone.
use Rattle.std.specs.Prelude.{◌≡◌, ℕ, ◌+◌, ◌&&◌, Bool, true, false, nat_lt, nat_le, is_some, List, [], ◌∷◌, ◌++◌, length, Option, None}
use Rattle.std.specs.Prelude.{Some, Result, Ok, Err, codes, if◌then◌else◌, option_and_then}
use Rattle.std.specs.List.{list_all}
use Rattle.std.specs.Option.{option_map}
use Rattle.agc_text.specs.Bytes.{is_text_byte}
use Rattle.agc_text.specs.Digits.{digits_value, sized}
use Rattle.agc_text.specs.Fields.{fields, texts}
use Rattle.agc_text.specs.Lines.{lines}
use Rattle.agc_text.specs.Tables.{same_name, value_in}
use Rattle.space.specs.declared.place.Linear.{Linear}
use Rattle.space.specs.declared.place.Linear.TheVariants as linear
use Rattle.feed.specs.Statements.{word_in}
use Rattle.symbols.specs.Values.{SymbolTable}
use Rattle.symbols.specs.declared.values.Value.{Value}
use Rattle.symbols.specs.declared.values.Value.TheVariants.{Num, Erasable, Fixed}
use Rattle.commands.specs.NamedPlaces.{unnamed_place}
use Rattle.names.specs.declared.table.TableFault.{TableFault}
use Rattle.names.specs.declared.table.TableFault.TheVariants.{NoMemory, Line}
use Rattle.names.specs.declared.entry.Entry.{Entry}
use Rattle.names.specs.declared.entry.Entry.TheVariants.{Nothing, Names, Wrong}

-- a number that a word holds: 1 to 5 octal digits
abbrev pub number_in : List ℕ → Option Value
number_in text = option_map Num (word_in text)

-- what a place is as a value: a fixed one stands in a bank that fixed memory has
abbrev pub value_at : Linear → Option Value
value_at (linear.Erasable p) = Some (Erasable p)
value_at (linear.Fixed bank offset) = if nat_lt bank 0o44 then Some (Fixed bank offset) else None

-- a place alone
abbrev pub place_in : List ℕ → Option Value
place_in text = option_and_then value_at (unnamed_place text)

-- a value that is an erasable place, and one that is a fixed place
abbrev pub erasable_value : Value → Option Value
erasable_value (Num n) = None
erasable_value (Erasable p) = Some (Erasable p)
erasable_value (Fixed bank offset) = None

abbrev pub fixed_value : Value → Option Value
fixed_value (Num n) = None
fixed_value (Erasable p) = None
fixed_value (Fixed bank offset) = Some (Fixed bank offset)

-- a value by its kind, as a listing has it
abbrev pub listed_in : List ℕ → List ℕ → Option Value
listed_in kind text =
    if same_name kind (codes "FIXED") then option_and_then fixed_value (place_in text)
    else (if same_name kind (codes "ERASABLE") then option_and_then erasable_value (place_in text)
    else (if same_name kind (codes "NUM") then number_in text
    else None))

-- a name of at most 8 bytes with its value, where that has its form
abbrev pub named : List ℕ → Option Value → Entry
named name None = Wrong
named name (Some value) = if nat_le (length name) 8 then Names name value else Wrong

-- what the fields of a line give
abbrev pub entry_of : List (List ℕ) → Entry
entry_of [] = Nothing
entry_of (name ∷ []) = Wrong
entry_of (name ∷ place ∷ []) = named name (place_in place)
entry_of (name ∷ kind ∷ value ∷ []) = named name (listed_in kind value)
entry_of (name ∷ kind ∷ value ∷ next ∷ more) = Wrong

-- what a line gives
unfoldable pub entry : List ℕ → Entry
entry line = if list_all is_text_byte line then entry_of (texts (fields line)) else Wrong

-- a name more, where it is not there already
abbrev pub with_name : SymbolTable → List ℕ → Value → SymbolTable
with_name table name value = if is_some (value_in table name) then table else table ++ (name, value) ∷ []

-- what follows a line that gives something: a name may be added first
abbrev pub names_after : Entry → (SymbolTable → Result SymbolTable ℕ) → SymbolTable → ℕ → Result SymbolTable ℕ
names_after Nothing next table n = next table
names_after (Names name value) next table n = next (with_name table name value)
names_after Wrong next table n = Err (n + 1)

-- the names of some lines, after those of the n lines before; or the number of the first line that gives none
unfoldable pub names_of : SymbolTable → ℕ → List (List ℕ) → Result SymbolTable ℕ
names_of table n [] = Ok table
names_of table n (line ∷ more) = names_after (entry line) (λ given. names_of given (n + 1) more) table n

-- one or more decimal digits
abbrev pub is_decimal : List ℕ → Bool
is_decimal text = is_some (option_map sized (digits_value 10 text))

-- whether a line is the heading of a listing's symbols: SYMBOLS, and how many there are
abbrev pub is_heading_of : List (List ℕ) → Bool
is_heading_of [] = false
is_heading_of (first ∷ []) = false
is_heading_of (first ∷ count ∷ []) = same_name first (codes "SYMBOLS") && is_decimal count
is_heading_of (first ∷ count ∷ next ∷ more) = false

unfoldable pub is_heading : List ℕ → Bool
is_heading line = is_heading_of (texts (fields line))

-- whether a line may stand above the heading: a row of a listing, with its number in front, or a line without a field
abbrev pub is_row_of : List (List ℕ) → Bool
is_row_of [] = true
is_row_of (first ∷ more) = is_decimal first

unfoldable pub is_row : List ℕ → Bool
is_row line = is_row_of (texts (fields line))

-- how many lines stand before those below the heading, and those, where there is one and rows alone stand above it
unfoldable pub below : ℕ → List (List ℕ) → Option (ℕ × List (List ℕ))
below n [] = None
below n (line ∷ more) = if is_heading line then Some (n + 1, more) else (if is_row line then below (n + 1) more else None)

-- the table of some lines from the first one that counts
abbrev pub names_from : List (List ℕ) → Option (ℕ × List (List ℕ)) → Result SymbolTable ℕ
names_from all None = names_of [] 0 all
names_from all (Some found) = names_of [] found.0 found.1

-- the table of a text: of its lines below the heading, or where there is none of all its lines
abbrev pub table_of : List ℕ → Result SymbolTable ℕ
table_of text = names_from (lines text) (below 0 (lines text))

-- a fault of a text is told: that memory ran out says nothing of it
abbrev pub Tells : Result SymbolTable ℕ → TableFault → Type 0
Tells names NoMemory = Unit {0}
Tells names (Line n) = names ≡ Err n
