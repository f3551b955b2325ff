-- The words of fixed memory as text, a line for each as without names, where names stand for the places to which they lead.
use Rattle.std.specs.Prelude.{ℕ, zero, suc, ◌+◌, ◌-◌, ◌==◌, ◌||◌, Bool, nat_lt, List, [], ◌++◌, unwrap_or, codes, Option, None, Some}
use Rattle.std.specs.Prelude.{if◌then◌else◌}
use Rattle.std.specs.List.{range_with_len, flat_map}
use Rattle.std.specs.Option.{option_map, option_or}
use Rattle.words.specs.Numerals.{octal_text}
use Rattle.space.specs.declared.place.Linear.{Linear}
use Rattle.space.specs.declared.place.Linear.TheVariants.{Erasable, Fixed}
use Rattle.rope.specs.Places.{bank_words, Words, word_at}
use Rattle.symbols.specs.Values.{SymbolTable}
use Rattle.yayul.specs.Listing.{place_text}
use Rattle.cpu.specs.Codes.{Code, row_of, code_of}
use Rattle.cpu.specs.Operands.{address_of}
use Rattle.cpu.specs.Texts.{instruction_text}
use Rattle.audit.specs.ByBank.{by_bank}
use Rattle.audit.specs.WordLines.{extracode_at}
use Rattle.trace.specs.TraceLines.{place_name, short_octal, symbol_at}

-- a bank whose words are reached whatever FB holds
abbrev pub needs_no_fb : ℕ → Bool
needs_no_fb bank = bank == 2 || bank == 3

-- the place to which an address leads at a word of a bank, where the image tells it: below 01400 and from 04000 on no bank
-- register is asked; from 01400 on EB is, which no image tells; from 02000 on FB is, which selects the word's own bank where
-- its words need it
unfoldable pub place_told : ℕ → ℕ → Option Linear
place_told bank address =
    if nat_lt address 0o1400 then Some (Erasable address)
    else (if nat_lt address 0o2000 then None
    else (if nat_lt address 0o4000 then (if needs_no_fb bank then None else Some (Fixed bank (address - 0o2000)))
    else (if nat_lt address 0o6000 then Some (Fixed 2 (address - 0o4000))
    else Some (Fixed 3 (address - 0o6000)))))

-- how many places stand before a place, in its bank or in erasable memory; and the place so many before it
abbrev pub places_before : Linear → ℕ
places_before (Erasable p) = p
places_before (Fixed bank offset) = offset

abbrev pub place_before : Linear → ℕ → Linear
place_before (Erasable p) d = Erasable (p - d)
place_before (Fixed bank offset) d = Fixed bank (offset - d)

-- the first name of the nearest place before a place that has one, sought from so many places before on; and how far before it is
abbrev pub nearest : SymbolTable → Linear → ℕ → ℕ → Option (List ℕ × ℕ)
nearest names place d zero = None
nearest names place d (suc more) = option_or (option_map (λ name. (name, d)) (symbol_at names (place_before place d)))
    (nearest names place (d + 1) more)

abbrev pub nearest_name : SymbolTable → Linear → Option (List ℕ × ℕ)
nearest_name names place = nearest names place 0 (places_before place + 1)

-- how far before, as it is added to a name
abbrev pub distance_text : ℕ → List ℕ
distance_text zero = []
distance_text (suc d) = codes " +" ++ short_octal (suc d)

-- an address by the nearest name, or where there is none as it is
abbrev pub near_text : Option (List ℕ × ℕ) → ℕ → List ℕ
near_text None address = octal_text 4 address
near_text (Some near) address = near.0 ++ distance_text near.1

-- an address that leads to a place: a register's letters, or the first name that stands for it, or the nearest before it
abbrev pub named_place : SymbolTable → ℕ → Option Linear → List ℕ
named_place names address None = octal_text 4 address
named_place names address (Some there) = unwrap_or (place_name names there) (near_text (nearest_name names there) address)

-- an instruction at a word of a bank, with a name in place of the address that it has, if any
abbrev pub named_text : SymbolTable → ℕ → Code → Option ℕ → List ℕ
named_text names bank code None = instruction_text code
named_text names bank code (Some address) = (row_of code.instruction).name ++ codes " "
    ++ named_place names address (place_told bank address)

-- the instruction that the word at a place is
unfoldable pub named_instruction : SymbolTable → Words → ℕ → ℕ → List ℕ
named_instruction names words bank offset = let code = code_of (extracode_at words bank offset) (word_at words bank offset) in named_text
    names bank code (address_of code)

-- the line of a word: its place, the word, and the instruction that it is
unfoldable pub named_line : SymbolTable → Words → ℕ → ℕ → List ℕ
named_line names words bank offset =
    place_text (Fixed bank offset) ++ codes " " ++ octal_text 5 (word_at words bank offset) ++ codes " "
    ++ named_instruction names words bank offset ++ codes "\n"

-- the lines of a bank's words, each of its places once, by rising offsets
unfoldable pub named_bank_lines : SymbolTable → Words → ℕ → List ℕ
named_bank_lines names words bank = flat_map (named_line names words bank) (range_with_len 0 bank_words)

-- the lines of one bank, or of all by their numbers
abbrev pub named_lines : SymbolTable → Words → Option ℕ → List ℕ
named_lines names words bank = by_bank (named_bank_lines names words) bank
