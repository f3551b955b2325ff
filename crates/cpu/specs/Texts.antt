-- Instructions as text.
use Rattle.std.specs.Prelude.{ℕ, Bool, List, [], ◌++◌, codes}
use Rattle.words.specs.Numerals.{octal_text}
use Rattle.cpu.specs.declared.instruction.Operand.{Operand}
use Rattle.cpu.specs.declared.instruction.Operand.TheVariants.{Nothing, Short, Long, ShortPair, LongPair, Channel}
use Rattle.cpu.specs.Codes.{Code, row_of, code_of}
use Rattle.cpu.specs.Effects.{first_of, greatest_short, greatest_address}

-- an address, in four octal digits after a blank
abbrev pub address_text : ℕ → List ℕ
address_text k = codes " " ++ octal_text 4 k

-- a channel, in three octal digits after a blank
abbrev pub channel_text : ℕ → List ℕ
channel_text n = codes " " ++ octal_text 3 n

-- an operand as text: of two places that follow one another the address is the first's
abbrev pub operand_text : Operand → ℕ → List ℕ
operand_text Nothing k = []
operand_text Short k = address_text k
operand_text Long k = address_text k
operand_text ShortPair k = address_text (first_of greatest_short k)
operand_text LongPair k = address_text (first_of greatest_address k)
operand_text Channel n = channel_text n

-- how many bytes an operand's text has
abbrev pub operand_width : Operand → ℕ
operand_width Nothing = 0
operand_width Channel = 4
operand_width _ = 5

-- an instruction as text: its name, and its operand
unfoldable pub instruction_text : Code → List ℕ
instruction_text code =
    let row = row_of code.instruction in
    row.name ++ operand_text row.operand code.operand

-- a word as text, under extracode or not
abbrev pub disassembly : Bool → ℕ → List ℕ
disassembly extracode word = instruction_text (code_of extracode word)
