-- Instructions: what there is to say of each, and which words are which.
use Rattle.std.specs.Prelude.{ℕ, ◌%◌, ◌^◌, Bool, true, false, nat_le, ◌==◌, ◌&&◌, ◌||◌, List, [], ◌∷◌, find, filter, length, unwrap_or}
use Rattle.std.specs.Prelude.{codes}
use Rattle.cpu.specs.declared.instruction.Instruction.{Instruction}
use Rattle.cpu.specs.declared.instruction.Instruction.TheVariants.{Relint, Inhint, Extend, Resume, Tc, Ccs, Tcf, Das, Lxch, Incr, Ads, Ca}
use Rattle.cpu.specs.declared.instruction.Instruction.TheVariants.{Cs, Index, Dxch, Ts, Xch, Ad, Mask, Read, Write, Rand, Wand, Ror, Wor}
use Rattle.cpu.specs.declared.instruction.Instruction.TheVariants.{Rxor, Edrupt, Dv, Bzf, Msu, Qxch, Aug, Dim, Dca, Dcs, Su, Bzmf, Mp}
use Rattle.cpu.specs.declared.instruction.Operand.{Operand}
use Rattle.cpu.specs.declared.instruction.Operand.TheVariants.{Nothing, Short, Long, ShortPair, LongPair, Channel}
use Rattle.cpu.specs.declared.instruction.Role.{Role}
use Rattle.cpu.specs.declared.instruction.Role.TheVariants.{Plain, JumpsAtZero, JumpsAtZeroOrMinus, PutsOut, BeginsExtracode}
use Rattle.cpu.specs.declared.instruction.Role.TheVariants.{KeepsExtracode}

-- all that there is to say of an instruction but its effect: its name, what a word's low bits hold, its cycles, and what it
-- does besides
pub record Row : Type 0 where
  pub name : List ℕ
  pub operand : Operand
  pub cycles : ℕ
  pub role : Role

abbrev pub row : List ℕ → Operand → ℕ → Role → Row
row name operand cycles role = record { name = name; operand = operand; cycles = cycles; role = role }

-- each instruction's row; INDEX takes 12 bits, of which the upper two are 0 in its words outside extracode
abbrev pub row_of : Instruction → Row
row_of Relint = row (codes "RELINT") Nothing 1 Plain
row_of Inhint = row (codes "INHINT") Nothing 1 Plain
row_of Extend = row (codes "EXTEND") Nothing 1 BeginsExtracode
row_of Resume = row (codes "RESUME") Nothing 2 Plain
row_of Tc = row (codes "TC") Long 1 Plain
row_of Ccs = row (codes "CCS") Short 2 Plain
row_of Tcf = row (codes "TCF") Long 1 Plain
row_of Das = row (codes "DAS") ShortPair 3 Plain
row_of Lxch = row (codes "LXCH") Short 2 Plain
row_of Incr = row (codes "INCR") Short 2 Plain
row_of Ads = row (codes "ADS") Short 2 Plain
row_of Ca = row (codes "CA") Long 2 Plain
row_of Cs = row (codes "CS") Long 2 Plain
row_of Index = row (codes "INDEX") Long 2 KeepsExtracode
row_of Dxch = row (codes "DXCH") ShortPair 3 Plain
row_of Ts = row (codes "TS") Short 2 Plain
row_of Xch = row (codes "XCH") Short 2 Plain
row_of Ad = row (codes "AD") Long 2 Plain
row_of Mask = row (codes "MASK") Long 2 Plain
row_of Read = row (codes "READ") Channel 2 Plain
row_of Write = row (codes "WRITE") Channel 2 PutsOut
row_of Rand = row (codes "RAND") Channel 2 Plain
row_of Wand = row (codes "WAND") Channel 2 PutsOut
row_of Ror = row (codes "ROR") Channel 2 Plain
row_of Wor = row (codes "WOR") Channel 2 PutsOut
row_of Rxor = row (codes "RXOR") Channel 2 Plain
row_of Edrupt = row (codes "EDRUPT") Channel 3 Plain
row_of Dv = row (codes "DV") Short 6 Plain
row_of Bzf = row (codes "BZF") Long 2 JumpsAtZero
row_of Msu = row (codes "MSU") Short 2 Plain
row_of Qxch = row (codes "QXCH") Short 2 Plain
row_of Aug = row (codes "AUG") Short 2 Plain
row_of Dim = row (codes "DIM") Short 2 Plain
row_of Dca = row (codes "DCA") LongPair 3 Plain
row_of Dcs = row (codes "DCS") LongPair 3 Plain
row_of Su = row (codes "SU") Short 2 Plain
row_of Bzmf = row (codes "BZMF") Long 2 JumpsAtZeroOrMinus
row_of Mp = row (codes "MP") Long 3 Plain

-- words from a least to a greatest one are an instruction
pub record Range : Type 0 where
  pub least : ℕ
  pub greatest : ℕ
  pub instruction : Instruction

abbrev pub range : ℕ → ℕ → Instruction → Range
range least greatest instruction = record { least = least; greatest = greatest; instruction = instruction }

-- what words are where extracode is not in force
unfoldable pub basic_rows : List Range
basic_rows =
    range 0o0 0o2 Tc
    ∷ range 0o3 0o3 Relint
    ∷ range 0o4 0o4 Inhint
    ∷ range 0o5 0o5 Tc
    ∷ range 0o6 0o6 Extend
    ∷ range 0o7 0o7777 Tc
    ∷ range 0o10000 0o11777 Ccs
    ∷ range 0o12000 0o17777 Tcf
    ∷ range 0o20000 0o21777 Das
    ∷ range 0o22000 0o23777 Lxch
    ∷ range 0o24000 0o25777 Incr
    ∷ range 0o26000 0o27777 Ads
    ∷ range 0o30000 0o37777 Ca
    ∷ range 0o40000 0o47777 Cs
    ∷ range 0o50000 0o50016 Index
    ∷ range 0o50017 0o50017 Resume
    ∷ range 0o50020 0o51777 Index
    ∷ range 0o52000 0o53777 Dxch
    ∷ range 0o54000 0o55777 Ts
    ∷ range 0o56000 0o57777 Xch
    ∷ range 0o60000 0o67777 Ad
    ∷ range 0o70000 0o77777 Mask
    ∷ []

-- the four words that stand apart, within words of TC and of INDEX
abbrev pub is_apart : ℕ → Bool
is_apart word = word == 0o3 || word == 0o4 || word == 0o6 || word == 0o50017

-- what words are under extracode
unfoldable pub extracode_rows : List Range
extracode_rows =
    range 0o0 0o777 Read
    ∷ range 0o1000 0o1777 Write
    ∷ range 0o2000 0o2777 Rand
    ∷ range 0o3000 0o3777 Wand
    ∷ range 0o4000 0o4777 Ror
    ∷ range 0o5000 0o5777 Wor
    ∷ range 0o6000 0o6777 Rxor
    ∷ range 0o7000 0o7777 Edrupt
    ∷ range 0o10000 0o11777 Dv
    ∷ range 0o12000 0o17777 Bzf
    ∷ range 0o20000 0o21777 Msu
    ∷ range 0o22000 0o23777 Qxch
    ∷ range 0o24000 0o25777 Aug
    ∷ range 0o26000 0o27777 Dim
    ∷ range 0o30000 0o37777 Dca
    ∷ range 0o40000 0o47777 Dcs
    ∷ range 0o50000 0o57777 Index
    ∷ range 0o60000 0o61777 Su
    ∷ range 0o62000 0o67777 Bzmf
    ∷ range 0o70000 0o77777 Mp
    ∷ []

-- the two tables
abbrev pub table : Bool → List Range
table false = basic_rows
table true = extracode_rows

-- whether a word lies in a range
abbrev pub serves : ℕ → Range → Bool
serves word r = nat_le r.least word && nat_le word r.greatest

-- in how many ranges of a table a word lies: in one, whatever the word
unfoldable pub rows_serving : Bool → ℕ → ℕ
rows_serving extracode word = length (filter (serves word) (table extracode))

-- what would be looked up for a number that is no word
abbrev pub no_range : Range
no_range = range 0 0 Extend

-- the instruction that a word is, under extracode or not
abbrev pub instruction_of : Bool → ℕ → Instruction
instruction_of extracode word = (unwrap_or (find (serves word) (table extracode)) no_range).instruction

-- how many low bits of a word are its operand
abbrev pub bits : Operand → ℕ
bits Nothing = 0
bits Short = 10
bits Long = 12
bits ShortPair = 10
bits LongPair = 12
bits Channel = 9

-- the operand of an instruction in a word
abbrev pub operand_of : Instruction → ℕ → ℕ
operand_of instruction word = word % 2 ^ bits (row_of instruction).operand

-- an instruction with its operand
pub record Code : Type 0 where
  pub instruction : Instruction
  pub operand : ℕ

-- what a word is, under extracode or not
unfoldable pub code_of : Bool → ℕ → Code
code_of extracode word =
    let instruction = instruction_of extracode word in
    record { instruction = instruction; operand = operand_of instruction word }
