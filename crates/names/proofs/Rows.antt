-- Rows of tables of names, and of words with names, worked by hand.
use Rattle.std.proofs.Common.{◌≡◌, ℕ, List, [], ◌∷◌, Some, None, Ok, Err, false, map, refl}
use Rattle.std.specs.Prelude.{codes, replicate}
use Rattle.agc_text.specs.Fields.{runs}
use Rattle.words.specs.Numerals.{octal_text}
use Rattle.space.specs.Places.{window}
use Rattle.symbols.specs.Values.{SymbolTable}
use Rattle.symbols.specs.declared.values.Value.TheVariants.{Num, Erasable, Fixed}
use Rattle.cpu.specs.Codes.{basic_rows, code_of}
use Rattle.cpu.specs.Operands.{address_of}
use Rattle.cpu.specs.Texts.{instruction_text}
use Rattle.trace.specs.TraceLines.{symbol_at}
use Rattle.names.specs.declared.entry.Entry.TheVariants.{Nothing, Names, Wrong}
use Rattle.names.specs.NamedLines.{named_text, place_told}
use Rattle.names.specs.Tables.{entry, is_heading, is_row, names_of, below}

-- ## Lines of a table
of_listing : map entry (codes "FIVE     FIXED 02,0005" ∷ codes "COUNT    ERASABLE 0100" ∷ codes "CHAN33   NUM 00033" ∷ [])
    ≡ Names (codes "FIVE") (Fixed 2 5) ∷ Names (codes "COUNT") (Erasable 0o100) ∷ Names (codes "CHAN33") (Num 0o33) ∷ []
unfolding entry runs window
of_listing = refl

-- by an offset, by an address, in the fixed banks, as a number, in erasable memory
by_hand : map entry (codes "BANKCALL 12,0137" ∷ codes "\tBANKCALL\t12,2137 # of the other table" ∷ codes "LAST 03,7777" ∷ codes "GOPROG 4000"
    ∷ codes "MODREG E3,1410" ∷ [])
    ≡ Names (codes "BANKCALL") (Fixed 0o12 0o137) ∷ Names (codes "BANKCALL") (Fixed 0o12 0o137) ∷ Names (codes "LAST") (Fixed 3 0o1777)
    ∷ Names (codes "GOPROG") (Fixed 2 0) ∷ Names (codes "MODREG") (Erasable 0o1410) ∷ []
unfolding entry runs window
by_hand = refl

-- no field
empty : entry (codes "   # FIVE 5") ≡ Nothing
unfolding entry runs window
empty = refl

-- forms that are none: a bank that fixed memory has not, an address of another bank, a name of nine bytes, a kind that does not fit, a
-- field more, a field less, a byte that no text may hold
wrong : map entry (codes "X 44,0000" ∷ codes "X 02,2137" ∷ codes "NINEBYTES 5" ∷ codes "X FIXED 0100" ∷ codes "X NUM 00005 5" ∷ codes "X"
    ∷ codes "X 5\r" ∷ [])
    ≡ replicate 7 Wrong
unfolding entry runs window
wrong = refl

-- ## Tables
-- of a name that stands twice the first; the second line of two is told
twice : names_of [] 0 (codes "X 5" ∷ codes "Y 6" ∷ codes "X 7" ∷ []) ≡ Ok ((codes "X", Erasable 5) ∷ (codes "Y", Erasable 6) ∷ [])
unfolding names_of entry runs window
twice = refl

second : names_of [] 0 (codes "X 5" ∷ codes "Y" ∷ codes "Z" ∷ []) ≡ Err 2
unfolding names_of entry runs window
second = refl

-- what stands before the heading of a listing's symbols is passed over, and its lines are counted
listing : below 0 (codes "    1" ∷ codes "SYMBOLS 1" ∷ codes "X NUM 00005" ∷ []) ≡ Some (2, codes "X NUM 00005" ∷ [])
unfolding below is_heading is_row runs
listing = refl

-- a table made by hand has no heading: SYMBOLS is a name like others there, below a line that is no row, and beside a place
no_heading : map (below 0) (
    (codes "START 02,4000" ∷ codes "X 02,4002" ∷ codes "SYMBOLS 0061" ∷ [])
    ∷ (codes "GARBAGE LINE OF MANY FIELDS" ∷ codes "SYMBOLS 0061" ∷ codes "X 02,4002" ∷ [])
    ∷ (codes "# by hand" ∷ codes "SYMBOLS 02,4000" ∷ codes "X 02,4002" ∷ []) ∷ [])
    ≡ replicate 3 None
unfolding below is_heading is_row runs
no_heading = refl

-- ## Words
table : SymbolTable
table = (codes "START", Fixed 2 0) ∷ (codes "FIVE", Fixed 2 5) ∷ (codes "SECOND", Fixed 2 5) ∷ (codes "WAITLIST", Fixed 2 0o100)
    ∷ (codes "TABLE", Fixed 0o12 1) ∷ (codes "SUM", Erasable 0o100) ∷ (codes "N", Num 0o61) ∷ []

abbrev named : ℕ → ℕ → List ℕ
named bank word = named_text table bank (code_of false word) (address_of (code_of false word))

-- the first of two names, and places behind a name
at_names : map (named 2) (0o64005 ∷ 0o04102 ∷ 0o54102 ∷ []) ≡ codes "AD FIVE" ∷ codes "TC WAITLIST +2" ∷ codes "TS SUM +2" ∷ []
unfolding table place_told symbol_at octal_text instruction_text basic_rows code_of
at_names = refl

-- a register by its letter, and below the first name no name; a name of a number is no place's
at_none : map (named 2) (0o30000 ∷ 0o30061 ∷ []) ≡ codes "CA A" ∷ codes "CA 0061" ∷ []
unfolding table place_told symbol_at octal_text instruction_text basic_rows code_of
at_none = refl

-- an address that FB decides is one of the word's own bank, but in bank 2; one that EB decides is not told
by_banks : named 0o12 0o32003 ∷ named 2 0o32003 ∷ named 0o12 0o31400 ∷ [] ≡ codes "CA TABLE +2" ∷ codes "CA 2003" ∷ codes "CA 1400" ∷ []
unfolding table place_told symbol_at octal_text instruction_text basic_rows code_of
by_banks = refl
