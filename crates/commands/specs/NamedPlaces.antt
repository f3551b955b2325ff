-- Places as an extended session takes them: as any session, by a register's or a counter's name, as a listing has
-- them, and moved on.
use Rattle.std.specs.Prelude.{ℕ, ◌+◌, ◌*◌, ◌%◌, ◌==◌, nat_lt, nat_le, Bool, List, [], ◌∷◌, take, drop, Option, None, Some, is_some, codes}
use Rattle.std.specs.Prelude.{if◌then◌else◌, option_and_then}
use Rattle.std.specs.Option.{option_or}
use Rattle.agc_text.specs.Digits.{number_of}
use Rattle.agc_text.specs.Tables.{same_name, value_in}
use Rattle.feed.specs.Statements.{passing}
use Rattle.space.specs.Places.{window}
use Rattle.space.specs.declared.place.Linear.{Linear}
use Rattle.space.specs.declared.place.Linear.TheVariants.{Erasable, Fixed}
use Rattle.symbols.specs.Registers.{registers}
use Rattle.symbols.specs.Values.{SymbolTable}
use Rattle.commands.specs.Commands.{place_in, numbered_place, fixed_place_in, before_comma, after_comma, bank_in}

-- a place by a name of its own: a register's or a counter's, as a source has it
abbrev pub own_place : List ℕ → Option Linear
own_place text = option_and_then numbered_place (value_in registers text)

-- a place, where a program reaches it at an address
abbrev pub reached_at : ℕ → Linear → Option Linear
reached_at address place = if window place == address then Some place else None

-- the place of an erasable bank, and that of a fixed bank, that a program reaches at an address
abbrev pub in_erasable_bank : ℕ → ℕ → Option Linear
in_erasable_bank bank address = reached_at address (Erasable (0o400 * bank + address % 0o400))

abbrev pub in_fixed_bank : ℕ → ℕ → Option Linear
in_fixed_bank bank address = reached_at address (Fixed bank (address % 0o2000))

-- an erasable bank: `E` and 1 to 5 octal digits, 0 to 7
abbrev pub erasable_bank_in : List ℕ → Option ℕ
erasable_bank_in text = passing (λ n. nat_le n 7) (number_of 8 5 (drop 1 text))

-- the place of a bank, as its text, and an address
abbrev pub place_of_bank : List ℕ → ℕ → Option Linear
place_of_bank bank address =
    if same_name (take 1 bank) (codes "E") then option_and_then (λ n. in_erasable_bank n address) (erasable_bank_in bank)
    else option_and_then (λ n. in_fixed_bank n address) (bank_in bank)

-- a place as a listing has it: a bank, a comma, and the address at which a program reaches it, of 1 to 5 octal digits
abbrev pub listed_place : List ℕ → Option Linear
listed_place text = option_and_then (λ address. place_of_bank (before_comma text) address) (number_of 8 5 (after_comma text))

-- a place for which no symbol is needed: a number's, else a bank and an offset, else as a listing has it
abbrev pub unnamed_place : List ℕ → Option Linear
unnamed_place text = option_or (numbered_place text) (option_or (fixed_place_in text) (listed_place text))

-- what neither any session takes for a place nor a symbol is
abbrev pub further_place : List ℕ → Option Linear
further_place text = option_or (own_place text) (listed_place text)

-- a place: as any session takes it; where no symbol has the name, a register's or a counter's, or as a listing has it
abbrev pub named_place : SymbolTable → List ℕ → Option Linear
named_place symbols text = option_or (place_in symbols text) (if is_some (value_in symbols text) then None else further_place text)

-- the place so many words on, in the same bank
abbrev pub moved_on : ℕ → Linear → Option Linear
moved_on k (Erasable p) = if nat_lt (p + k) 0o4000 then Some (Erasable (p + k)) else None
moved_on k (Fixed bank offset) = if nat_lt (offset + k) 0o2000 then Some (Fixed bank (offset + k)) else None

-- a field that begins with a plus sign, and the number of words after it: 1 to 5 octal digits
abbrev pub begins_with_plus : List ℕ → Bool
begins_with_plus field = same_name (take 1 field) (codes "+")

abbrev pub words_on : List ℕ → Option ℕ
words_on field = number_of 8 5 (drop 1 field)

-- a place that is moved on by a field after it, where this begins with a plus sign
abbrev pub moved_by : Option Linear → List (List ℕ) → Option Linear
moved_by place [] = place
moved_by place (field ∷ more) = if begins_with_plus field then option_and_then (λ k. option_and_then (moved_on k) place) (words_on field)
    else place

-- the place that some fields begin with, and the fields after it
abbrev pub place_first : SymbolTable → List (List ℕ) → Option Linear
place_first symbols [] = None
place_first symbols (field ∷ more) = moved_by (named_place symbols field) more

abbrev pub without_plus : List (List ℕ) → List (List ℕ)
without_plus [] = []
without_plus (field ∷ more) = if begins_with_plus field then more else field ∷ more

abbrev pub after_place : List (List ℕ) → List (List ℕ)
after_place [] = []
after_place (field ∷ more) = without_plus more
