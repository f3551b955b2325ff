-- What the address words of a source name: those that ADRES, CADR, 2CADR and their like make, and the complements of these.
use Rattle.std.specs.Prelude.{ℕ, ◌+◌, ◌/◌, ◌%◌, ◌==◌, Bool, false, List, slice_index, Option, None, Some, option_and_then, if◌then◌else◌}
use Rattle.std.specs.Option.{option_map}
use Rattle.agc_text.specs.Fields.{Piece}
use Rattle.agc_text.specs.Tables.{value_in}
use Rattle.words.specs.Numbers.{neg}
use Rattle.space.specs.Places.{fb_of, place, sup_of}
use Rattle.space.specs.declared.place.Linear.{Linear}
use Rattle.space.specs.declared.place.Linear.TheVariants as linear
use Rattle.symbols.specs.Values.{SymbolTable}
use Rattle.symbols.specs.declared.values.Value.{Value}
use Rattle.symbols.specs.declared.values.Value.TheVariants as value
use Rattle.yayul.specs.Readings.{Parts}
use Rattle.yayul.specs.declared.role.Role.{Role}

-- a place of fixed memory: its bank and its offset
abbrev pub Place : Type 0
Place = ℕ × ℕ

abbrev pub fixed_in : Linear → Option Place
fixed_in (linear.Erasable p) = None
fixed_in (linear.Fixed bank offset) = Some (bank, offset)

-- the place to which an address leads where FB and the superbank bit are such: none in erasable memory
abbrev pub place_at : ℕ → ℕ → Bool → Option Place
place_at address fb sup = fixed_in (place (address % 0o10000) 0 fb sup)

-- whether a word of FB and EB has the superbank bit
abbrev pub has_superbank : ℕ → Bool
has_superbank word = (word / 0o100) % 2 == 1

-- The place that the first and the second word of a line name by themselves, where the first stands at a place of its own. ADRES holds an
-- address, which from 02000 to 03777 is that of its own bank; CADR the FB that selects a bank, and an offset; 2CADR an address, and then
-- FB and the superbank bit.
abbrev pub told_by : Role → Linear → ℕ → ℕ → Option Place
told_by Role.Address own first second = place_at first (fb_of own) (sup_of own)
told_by Role.FixedAddress own first second = place_at (0o2000 + first % 0o2000) (first / 0o2000) false
told_by Role.FixedComplement own first second = place_at (0o2000 + first % 0o2000) (first / 0o2000) false
told_by Role.FarAddress own first second = place_at first (second / 0o2000) (has_superbank second)
told_by Role.FarComplement own first second = place_at first (second / 0o2000) (has_superbank second)
told_by _ own first second = None

-- a word before it was complemented, as an operator does whose name begins with a minus sign
abbrev pub uncomplemented : List ℕ → ℕ → ℕ
uncomplemented operator word = if slice_index operator 0 == 0o55 then neg word else word

-- the bank of a symbol that stands for a place of fixed memory
abbrev pub bank_of : Value → Option ℕ
bank_of (value.Num n) = None
bank_of (value.Erasable n) = None
bank_of (value.Fixed bank n) = Some bank

abbrev pub operand_bank : SymbolTable → Option Piece → Option ℕ
operand_bank table operand = option_and_then bank_of (option_and_then (λ p. value_in table p.text) operand)

-- the place with another bank, where there is one
abbrev pub in_bank : Option ℕ → Place → Place
in_bank None p = p
in_bank (Some bank) p = (bank, p.1)

-- The place that the words of a line name: that which they name by themselves, in the bank of the symbol that is the operand, where this
-- is one of fixed memory. An offset leads to no other bank.
abbrev pub named_by : SymbolTable → Parts → Linear → ℕ → ℕ → Option Place
named_by table parts own first second =
    option_and_then (λ operator. option_and_then (λ role. option_map (in_bank (operand_bank table parts.operand))
    (told_by role own (uncomplemented operator.text first) (uncomplemented operator.text second))) parts.role) parts.operator
