-- What the values of symbols mean: the places that they name, and their text.
use Rattle.std.specs.Prelude.{ℕ, ◌-◌, ◌<◌, nat_lt, List, ◌++◌, Option, None, Some, codes, if◌then◌else◌}
use Rattle.space.specs.declared.place.Linear.{Linear}
use Rattle.space.specs.declared.place.Linear.TheVariants as linear
use Rattle.words.specs.Numerals.{octal_text}
use Rattle.symbols.specs.declared.values.Value.{Value}
use Rattle.symbols.specs.declared.values.Value.TheVariants.{Num, Erasable, Fixed}

-- the symbols of a program and what they stand for, in order of definition
abbrev pub SymbolTable : Type 0
SymbolTable = List (List ℕ × Value)

-- the place of a number: erasable, or in bank 2 or 3
abbrev pub place_of_number : ℕ → Option Linear
place_of_number n =
    if nat_lt n 0o4000 then Some (linear.Erasable n)
    else if nat_lt n 0o6000 then Some (linear.Fixed 2 (n - 0o4000))
    else if nat_lt n 0o10000 then Some (linear.Fixed 3 (n - 0o6000))
    else None

-- the place of a value, where it has one
abbrev pub place_of : Value → Option Linear
place_of (Num n) = place_of_number n
place_of (Erasable n) = Some (linear.Erasable n)
place_of (Fixed bank n) = Some (linear.Fixed bank n)

-- a place where a word may stand: one of erasable memory, or of a bank that fixed memory has
abbrev pub HasWords : Linear → Type 0
HasWords (linear.Erasable n) = Unit {0}
HasWords (linear.Fixed bank n) = bank < 0o44

-- the value of a symbol as text: a number, an erasable place, or a bank and an offset
abbrev pub value_text : Value → List ℕ
value_text (Num n) = codes "NUM " ++ octal_text 5 n
value_text (Erasable n) = codes "ERASABLE " ++ octal_text 4 n
value_text (Fixed bank offset) = codes "FIXED " ++ octal_text 2 bank ++ codes "," ++ octal_text 4 offset
