-- What a fault is in words, by its cause: a text with marks for the fields of its line, and its cure where one is sure.
use Rattle.std.specs.Prelude.{ℕ, ◌+◌, ◌-◌, ◌==◌, ◌&&◌, ◌||◌, not, Bool, true, false, nat_lt, nat_le, List, [], ◌∷◌, ◌++◌, length, map, take}
use Rattle.std.specs.Prelude.{drop, Option, None, is_some, unwrap_or, codes, flat_map, slice_get, if◌then◌else◌}
use Rattle.std.specs.List.{list_any}
use Rattle.std.specs.Option.{option_map_or, option_or}
use Rattle.agc_text.specs.Bytes.{line_length}
use Rattle.agc_text.specs.Digits.{digits_value}
use Rattle.agc_text.specs.Fields.{Piece}
use Rattle.agc_text.specs.Tables.{same_name, value_in}
use Rattle.yayul.specs.Forms.{is_digits}
use Rattle.yayul.specs.declared.faults.FaultKind.{FaultKind}
use Rattle.yayul.specs.declared.faults.FaultKind.TheVariants.{BadBank, BadLabel, BadOperand, BankFull, CodeInErasable, LongLine}
use Rattle.yayul.specs.declared.faults.FaultKind.TheVariants.{NeedsExtend, NoMemory, NotAscii, NotExtracode, OutOfRange, PlaceTaken}
use Rattle.yayul.specs.declared.faults.FaultKind.TheVariants.{TooManyLines, TwiceDefined, Undefined, UnknownOperator, UsedTooEarly}
use Rattle.yayul.specs.declared.faults.FaultKind.TheVariants.{WrongKindOfAddress}
use Rattle.yayul.specs.declared.finding.Finding.{Finding}
use Rattle.yayul.specs.declared.language.Language.TheVariants.{Standard}
use Rattle.warnings.specs.Roles.{is_block, is_decimal, is_erase, is_octal, leads_on_to, leads_to_fixed, names_bank, reads, reads_erasable}
use Rattle.warnings.specs.Roles.{refuses_label, subtracts, takes_channel, takes_erasable_place, takes_fixed_place, takes_nothing}
use Rattle.warnings.specs.Roles.{writes_erasable}
use Rattle.yayul.specs.Readings.{Parts}
use Rattle.yayul.specs.Roles.{is_operator_of, names_of_length}
use Rattle.explain.specs.Refusals.{meaning}
use Rattle.symbols.specs.Registers.{registers}
use Rattle.warnings.specs.declared.told.Doubt.{Doubt}
use Rattle.warnings.specs.declared.told.Doubt.TheVariants.{HeldBank, SuperbankBits}
use Rattle.warnings.specs.declared.told.Warning.{Warning}
use Rattle.diagnostics.specs.Shown.{shown_byte}
use Rattle.near_names.specs.Names.{is_among, is_short, near_name}
use Rattle.warnings.specs.Fields.{begins, is_signed, text_of}

-- what is wrong, how it is mended or nothing, and a text that stands in either; and whether `--flight` takes what stands there
pub record Cause : Type 0 where
  pub words : List ℕ
  pub cure : List ℕ
  pub other : List ℕ
  pub flight : Bool

abbrev pub said : List ℕ → Cause
said words = record { words = words; cure = []; other = []; flight = false }

abbrev pub cured : List ℕ → List ℕ → Cause
cured words cure = record { words = words; cure = cure; other = []; flight = false }

abbrev pub cured_by : List ℕ → List ℕ → List ℕ → Cause
cured_by words cure other = record { words = words; cure = cure; other = other; flight = false }

-- a field as it is shown, where it stands
abbrev pub shown_field : Option Piece → List ℕ
shown_field field = map shown_byte (text_of field)

-- where another line stands, in words, by the digits of its number; nothing without them
abbrev pub of_line : List ℕ → List ℕ
of_line digits = if length digits == 0 then [] else codes ", of line " ++ digits ++ codes ","

-- one of the marks
abbrev pub is_mark : ℕ → Bool
is_mark byte = byte == 0o46 || byte == 0o45 || byte == 0o100 || byte == 0o41 || byte == 0o176 || byte == 0o136

-- what a byte of a text stands for: `&` for the label, `%` for the operator, `@` for the operand, `!` for another text, `~` for a text from
-- other lines, `^` for the line that it is the number of
abbrev pub filled_byte : Parts → List ℕ → List ℕ → ℕ → List ℕ
filled_byte parts other beside byte =
    if byte == 0o46 then shown_field parts.label
    else if byte == 0o45 then shown_field parts.operator
    else if byte == 0o100 then shown_field parts.operand
    else if byte == 0o41 then other
    else if byte == 0o176 then beside
    else if byte == 0o136 then of_line beside
    else byte ∷ []

-- a text with all that its marks stand for
abbrev pub filled : Parts → List ℕ → List ℕ → List ℕ → List ℕ
filled parts other beside text = flat_map (filled_byte parts other beside) text

-- ## Fields
-- a text holds a byte
abbrev pub holds : ℕ → List ℕ → Bool
holds byte text = list_any (λ other. other == byte) text

-- what begins comments in other languages: a semicolon or a slash
abbrev pub is_foreign_comment : List ℕ → Bool
is_foreign_comment text = begins 0o73 text || begins 0o57 text

-- decimal digits, one of them 8 or 9
abbrev pub is_beyond_octal : List ℕ → Bool
is_beyond_octal text = is_some (digits_value 10 text) && not (is_some (digits_value 8 text))

-- a comment as other languages have it stands for the operand or the offset
abbrev pub has_foreign_comment : Parts → Bool
has_foreign_comment parts = is_foreign_comment (text_of parts.operand) || is_foreign_comment (text_of parts.offset)

-- ## Operators
-- the operator's name that is near to a text: one as long, else one longer, else one shorter
abbrev pub near_operator : List ℕ → Option (List ℕ)
near_operator text =
    option_or (near_name (names_of_length (length text)) text)
    (option_or (near_name (names_of_length (length text + 1)) text) (near_name (names_of_length (length text - 1)) text))

-- operators of other machines, and what stands for them
abbrev pub foreign_operators : List (List ℕ × List ℕ)
foreign_operators =
    (codes "ORG", codes "SETLOC sets the location")
    ∷ (codes "EQU", codes "EQUALS gives a name its value")
    ∷ (codes "LDA", codes "CA loads A")
    ∷ (codes "LOAD", codes "CA loads A")
    ∷ (codes "LD", codes "CA loads A")
    ∷ (codes "MOV", codes "CA loads A, and TS stores it")
    ∷ (codes "STA", codes "TS stores A")
    ∷ (codes "STORE", codes "TS stores A")
    ∷ (codes "ST", codes "TS stores A")
    ∷ (codes "JMP", codes "TCF goes on in fixed memory, TC anywhere")
    ∷ (codes "GOTO", codes "TCF goes on in fixed memory, TC anywhere")
    ∷ (codes "BRA", codes "TCF goes on in fixed memory, TC anywhere")
    ∷ (codes "JSR", codes "TC calls a routine")
    ∷ (codes "CALL", codes "TC calls a routine")
    ∷ (codes "RTS", codes "RETURN goes back")
    ∷ (codes "RET", codes "RETURN goes back")
    ∷ (codes "NOP", codes "NOOP does nothing")
    ∷ (codes "ADD", codes "AD adds a word to A")
    ∷ (codes "SUB", codes "SU, an extracode, subtracts a word of erasable memory; CS and AD subtract any")
    ∷ (codes "MUL", codes "MP, an extracode, multiplies")
    ∷ (codes "DIV", codes "DV, an extracode, divides")
    ∷ (codes "AND", codes "MASK leaves the bits that both words have")
    ∷ (codes "DC", codes "OCT or DEC makes a word")
    ∷ (codes "DW", codes "OCT or DEC makes a word")
    ∷ (codes "DS", codes "ERASE reserves a word")
    ∷ (codes "2DEC", codes "two words: a DEC for each")
    ∷ (codes "2OCT", codes "two words: an OCT for each")
    ∷ []

-- a text has the form of a label
abbrev pub is_label : List ℕ → Bool
is_label text = is_short text && not (holds 0o44 text) && not (is_signed text) && not (is_digits text)

-- the operand is a bank in octal, or in decimal digits
abbrev pub is_octal_bank : Parts → Bool
is_octal_bank parts = option_map_or (λ n. nat_lt n 0o44) (digits_value 8 (text_of parts.operand)) false

abbrev pub is_decimal_bank : Parts → Bool
is_decimal_bank parts = option_map_or (λ n. nat_lt n 0o44) (digits_value 10 (text_of parts.operand)) false

-- the offset is a sign, behind which a field stands
abbrev pub has_parted_offset : Parts → Bool
has_parted_offset parts = parts.more && (same_name (text_of parts.offset) (codes "+") || same_name (text_of parts.offset) (codes "-"))

-- several numbers stand for one: with a comma behind the first, or with blanks between them
abbrev pub lists_numbers : Parts → Bool
lists_numbers parts = (is_octal parts.role || is_decimal parts.role)
    && (holds 0o54 (text_of parts.operand) || is_digits (text_of parts.offset))

-- ## Causes
-- E11: a line that is too long; a comment that begins where a line may still go on can be parted
abbrev pub long_cause : List ℕ → Cause
long_cause text = if holds 0o43 (take line_length text) then cured (meaning 11) (codes "part the comment into two lines") else said
    (meaning 11)

-- the bytes of a byte order mark stand in front
abbrev pub begins_with_mark : List ℕ → Bool
begins_with_mark (a ∷ b ∷ c ∷ rest) = a == 0o357 && b == 0o273 && c == 0o277
begins_with_mark _ = false

-- E10: the byte at a place of a line
abbrev pub byte_cause : List ℕ → ℕ → Cause
byte_cause text place =
    if place == 0 && begins_with_mark text then cured (codes "a byte order mark stands in front of the line, and a line holds ASCII alone")
    (codes "tail -c +4 FILE > NEW")
    else if option_map_or (λ byte. byte == 0o15) (slice_get text place) false then
    (if place + 1 == length text then said (codes "a carriage return ends the line; only a line feed may") else said
    (codes "a carriage return stands in the line"))
    else if option_map_or (λ byte. byte == 0o14) (slice_get text place) false then said (codes "a form feed stands in the line")
    else if option_map_or (λ byte. nat_le 0o200 byte) (slice_get text place) false then said
    (codes "this byte is not ASCII, and a line holds ASCII alone, its comment too")
    else said (codes "this byte is no character that prints, no blank and no tab")

-- E13: a label that is missing, is not taken or has no label's form
abbrev pub label_cause : Parts → Cause
label_cause parts =
    if not (is_some parts.label) then cured (codes "% gives a name its value, and no name stands in the first column") (codes "NAME % @")
    else if refuses_label parts.role then (if is_label (text_of parts.label) then cured (codes "% takes no label")
    (codes "put & on the next line") else said (codes "% takes no label"))
    else if holds 0o44 (text_of parts.label) then said (codes "& has a $, which no label may have")
    else if is_signed (text_of parts.label) then said (codes "& begins with a sign, as no label may")
    else if is_short (text_of parts.label) then said (codes "& is a number, and no label")
    else said (codes "& has more than 8 characters, the most of a label")

-- E15: what is no operator
abbrev pub operator_cause : Parts → Cause
operator_cause parts =
    if is_operator_of Standard (text_of parts.label) then cured
    (codes "& stands in the first column, so it is a label, and % is taken for the operator") (codes "put a blank before &")
    else if is_foreign_comment (text_of parts.operator) then cured (codes "% is no operator") (codes "a comment begins with #")
    else if not (is_some parts.label) && is_operator_of Standard (text_of parts.operand) then cured (codes "% is no operator")
    (codes "a label begins in the first column: no blank before %")
    else if is_some (value_in foreign_operators (text_of parts.operator)) then cured_by (codes "% is no operator of this assembler")
    (codes "!") (unwrap_or (value_in foreign_operators (text_of parts.operator)) [])
    else if is_some (near_operator (text_of parts.operator)) then cured_by (codes "% is no operator") (codes "did you mean !?")
    (unwrap_or (near_operator (text_of parts.operator)) [])
    else said (codes "% is no operator")

-- E16, of an operator that takes digits, or a bank
abbrev pub digits_cause : Parts → Cause
digits_cause parts =
    if lists_numbers parts then cured (codes "% takes one number, and nothing after it") (codes "a line for each number")
    else if is_some parts.offset then cured (codes "% takes one number, and nothing after it") (codes "a comment begins with #")
    else if is_octal parts.role && is_signed (text_of parts.operand) then cured (codes "OCT takes no sign")
    (codes "DEC takes one; a minus complements the word")
    else if is_octal parts.role then cured (codes "OCT takes octal digits, 0 to 7, and @ is no such number")
    (codes "DEC takes decimal digits")
    else if is_decimal parts.role then said (codes "DEC takes a whole number, or a fraction of 1 to 9 decimals as .75, and @ is neither")
    else if is_beyond_octal (text_of parts.operand) then
    (if is_decimal_bank parts && not (is_block parts.role) then cured (codes "banks are octal, and @ has a digit 8 or 9")
    (codes "% @D takes it as decimal") else said (codes "banks are octal, and @ has a digit 8 or 9"))
    else said (codes "% takes a bank's number, and @ is none")

-- E16, of an operator that takes a place or a value
abbrev pub place_cause : Parts → Cause
place_cause parts =
    if has_parted_offset parts then cured (codes "after @ only an offset may stand, a sign and an octal number")
    (codes "no blank stands between both")
    else if parts.more then cured (codes "after the operand only one offset may stand") (codes "a comment begins with #")
    else if is_beyond_octal (text_of parts.operand) then cured (codes "numbers are octal, and @ has a digit 8 or 9") (codes "@D is decimal")
    else if is_signed (text_of parts.operand) then cured
    (codes "@ is no sign with a number, which stands alone and moves on from this line")
    (codes "NAME +1 is the word after NAME; CS loads a complement")
    else if is_some parts.offset then cured (codes "after @ only an offset may stand, a sign and an octal number")
    (codes "NAME +1; a comment begins with #")
    else if holds 0o44 (text_of parts.operand) then said (codes "@ has a $, which no symbol may have")
    else said (codes "@ is no symbol, which has 8 characters at most, and no number")

-- E16: an operand that is missing, is not taken or has no operand's form
abbrev pub operand_cause : Parts → Cause
operand_cause parts =
    if has_foreign_comment parts then cured (codes "the operand does not end where a comment was meant to begin")
    (codes "a comment begins with #")
    else if takes_nothing parts.role then cured (codes "% takes no operand") (codes "a comment begins with #")
    else if is_erase parts.role then cured (codes "ERASE takes nothing, or a plus sign and a number")
    (codes "ERASE reserves one word, ERASE +1 two")
    else if not (is_some parts.operand) then said (codes "% needs an operand")
    else if is_octal parts.role || is_decimal parts.role || names_bank parts.role then digits_cause parts
    else place_cause parts

-- a plus or a minus sign stands behind the first byte, with which a name of a flight program may begin
abbrev pub holds_sign : List ℕ → Bool
holds_sign text = holds 0o53 (drop 1 text) || holds 0o55 (drop 1 text)

-- E17 and E18: a symbol that no line, or no earlier one, defines, where a label is near to it or none is
abbrev pub symbol_cause : List ℕ → Bool → Parts → Cause
symbol_cause words near parts =
    if is_some (value_in registers (text_of parts.operand)) then cured_by words
    (codes "no register has a name beforehand; this line gives it one: @ EQUALS !")
    (unwrap_or (value_in registers (text_of parts.operand)) [])
    else if holds 0o54 (text_of parts.operand) then cured words (codes "@ is one name; INDEX on the line before adds to an address")
    else if begins 0o75 (text_of parts.operand) then cured words (codes "a constant has a line of its own, whose label is the operand")
    else if holds_sign (text_of parts.operand) then cured words (codes "@ is one name; a blank stands before an offset")
    else if near then cured words (codes "did you mean ~?")
    else if holds 0o72 (text_of parts.operand) then cured words (codes "@ is one name, its colon too; a label has no colon")
    else said words

-- the cure of a symbol that a label with a colon is near to: not that name, where the symbol has no colon
abbrev pub without_colon : List ℕ → Parts → Cause → Cause
without_colon near parts c =
    if holds 0o72 near && not (holds 0o72 (text_of parts.operand)) then cured c.words
    (codes "~ is one name, its colon too; a label has no colon") else c

-- a register's name, or a text that is told by a byte in it to be meant otherwise
abbrev pub is_another_form : Parts → Bool
is_another_form parts = is_some (value_in registers (text_of parts.operand)) || holds 0o54 (text_of parts.operand)
    || begins 0o75 (text_of parts.operand) || holds_sign (text_of parts.operand) || holds 0o72 (text_of parts.operand)

-- E17: how a symbol is defined, by the operator that takes it
abbrev pub definition_cure : Parts → List ℕ
definition_cure parts =
    if writes_erasable parts.role || reads_erasable parts.role then
    codes "@ ERASE, among lines after SETLOC 100, reserves a word of this name"
    else if takes_channel parts.role then codes "@ EQUALS and an octal number give a channel this name"
    else if leads_on_to parts.role then codes "@ in the first column of the line to which % is to lead"
    else if reads parts.role then
    codes "of a number: @ DEC 5, behind the last jump, and of a word that changes: @ ERASE, after SETLOC 100"
    else []

abbrev pub definition_cause : Parts → Cause
definition_cause parts = cured (codes "no line defines @") (definition_cure parts)

abbrev pub undefined_cause : Bool → Parts → Cause
undefined_cause near parts = if near || is_another_form parts then symbol_cause (codes "no line defines @") near parts else definition_cause
    parts

abbrev pub early_cause : Bool → Parts → Cause
early_cause near parts = symbol_cause (codes "% needs the value of @ here, and no earlier line defines it") near parts

-- E18: a symbol that a line below defines, the number of which stands for `~`
abbrev pub below_cause : Cause
below_cause = said (codes "% needs the value of @ here, and line ~ defines it, which is below")

-- E19: a bank that the operator does not take
abbrev pub bank_cause : Parts → Cause
bank_cause parts =
    if is_block parts.role then (if is_octal_bank parts then cured (codes "BLOCK takes 2 and 3, and @ is neither") (codes "BANK @") else
    said (codes "BLOCK takes 2 and 3, and @ is neither"))
    else said (codes "banks are 0 to 43 in octal, and @ is none")

-- E20: past the end
abbrev pub room_cause : Parts → Cause
room_cause parts =
    if is_erase parts.role then said (codes "ERASE passes the end of erasable memory, 3777")
    else if not (is_some parts.operator) then said (codes "& stands past the end of its bank, or of erasable memory")
    else cured (codes "this stands past the last word of its bank, or of erasable memory") (codes "go on in another bank: BANK or SETLOC")

-- E25: another kind of place, or a channel
abbrev pub kind_cause : Parts → Cause
kind_cause parts =
    if is_erase parts.role then cured (codes "ERASE reserves erasable words, and the location is in fixed memory")
    (codes "SETLOC and a place below 4000 before it")
    else if takes_channel parts.role then said (codes "% takes a channel, 0 to 777, and @^ is none")
    else if takes_erasable_place parts.role then said (codes "% takes an erasable place, and @^ is none")
    else if takes_fixed_place parts.role then said (codes "% takes a fixed place, and @^ is none")
    else if leads_to_fixed parts.role then said (codes "% leads to fixed memory, 2000 and up, and @^ is not there")
    else if writes_erasable parts.role then cured (codes "% writes to erasable memory, and @^ is not there")
    (codes "reserve the word there: SETLOC and a place below 4000, and ERASE")
    else if subtracts parts.role then cured (codes "% takes a word of erasable memory, and @^ is not there")
    (codes "CS @ and AD subtract a constant: X less @ is CS @, AD X, without EXTEND")
    else if reads_erasable parts.role then cured (codes "% takes a word of erasable memory, and @^ is not there")
    (codes "copy the word to erasable memory first")
    else said (meaning 25)

-- E26: a number out of its range
abbrev pub range_cause : Parts → Cause
range_cause parts =
    if is_octal parts.role then said (codes "a word holds 77777 at most, and @ is more")
    else if is_decimal parts.role && holds 0o56 (text_of parts.operand) then said
    (codes "a fraction of a word comes to less than 1 in 14 bits, and @ does not")
    else if is_decimal parts.role then said (codes "a word holds -16383 to 16383, and @ is beyond")
    else if takes_nothing parts.role then said (codes "% goes to the next word, and this is the last of its bank")
    else if is_some parts.offset || is_signed (text_of parts.operand) then said (codes "this leads out of its bank, or of the numbers")
    else said (codes "@ is past the last address or number")

-- a fault of a symbol that no line, or no earlier one, defines
abbrev pub is_of_symbol : FaultKind → Bool
is_of_symbol Undefined = true
is_of_symbol UsedTooEarly = true
is_of_symbol _ = false

-- the label that is near to the symbol of such a fault; none where a later line defines it
abbrev pub near_label : List (List ℕ) → Parts → FaultKind → Option (List ℕ)
near_label labels parts kind =
    if is_of_symbol kind && not (is_among labels (text_of parts.operand)) then near_name labels (text_of parts.operand) else None

-- a fault of a kind of a line with some fields in words, from a place on, where a text from other lines stands for `~` or none does
unfoldable pub cause_of_kind : Bool → List ℕ → Parts → ℕ → FaultKind → Cause
cause_of_kind near text parts place NoMemory = said (meaning 2)
cause_of_kind near text parts place NotAscii = byte_cause text place
cause_of_kind near text parts place LongLine = long_cause text
cause_of_kind near text parts place TooManyLines = said (meaning 12)
cause_of_kind near text parts place BadLabel = label_cause parts
cause_of_kind near text parts place TwiceDefined = if near then said (codes "line ~ has the label & already") else said
    (codes "an earlier line has the label &")
cause_of_kind near text parts place UnknownOperator = operator_cause parts
cause_of_kind near text parts place BadOperand = operand_cause parts
cause_of_kind near text parts place Undefined = undefined_cause near parts
cause_of_kind near text parts place UsedTooEarly = early_cause near parts
cause_of_kind near text parts place BadBank = bank_cause parts
cause_of_kind near text parts place BankFull = room_cause parts
cause_of_kind near text parts place PlaceTaken = if near then said (codes "line ~ has a word at this place already") else said (meaning 21)
cause_of_kind near text parts place CodeInErasable = cured (meaning 22) (codes "SETLOC and a fixed place, or BANK, before it")
cause_of_kind near text parts place NeedsExtend = cured (codes "% is an extracode, and EXTEND does not stand before it")
    (codes "EXTEND on the line before, behind a blank")
cause_of_kind near text parts place NotExtracode = cured (codes "EXTEND stands before %, which is no extracode") (codes "take EXTEND out")
cause_of_kind near text parts place WrongKindOfAddress = kind_cause parts
cause_of_kind near text parts place OutOfRange = range_cause parts

-- a fault of a line
abbrev pub fault_cause : Bool → List ℕ → Parts → Finding → Cause
fault_cause near text parts f = cause_of_kind near text parts f.span.start f.kind

-- 2: a number that is read as a register; some operators take no constant, which stands in fixed memory
abbrev pub number_cause : Parts → Cause
number_cause parts =
    if reads_erasable parts.role then cured
    (codes "an operand is an address: @ is the register or the counter at place @, and not the number")
    (codes "the number has a line of its own, behind the last jump: NAME OCT @, and CA NAME and TS copy it to where % takes it")
    else cured (codes "an operand is an address: @ is the register or the counter at place @, and not the number")
    (codes "the number has a line of its own, behind the last jump: NAME OCT @ (or DEC and decimal digits), and here % NAME")

-- 12 to 16: what a routine of an interrupt does, where the program runs on, and what stands twice or is not reached
abbrev pub way_cause : ℕ → Cause
way_cause number =
    if number == 12 then cured (codes "an interrupt's routine comes here, and % changes A, L or Q, which it has not kept")
    (codes "XCH, LXCH or QXCH of a cell before it, and again before RESUME")
    else if number == 13 then cured (codes "an interrupt enters here, and no line is RESUME, which ends it")
    (codes "RESUME as the last instruction of the routine")
    else if number == 14 then cured (codes "the program runs on over the vectors, 4004 to 4053, where interrupts enter")
    (codes "TCF before it, and the program from 4054 on; behind SETLOC to its vector the routine of each interrupt")
    else if number == 15 then cured (codes "& stands where an earlier line reserves a word")
    (codes "no SETLOC between the two; for two names of one word & EQUALS the other")
    else cured (codes "% stands behind a jump without a label, and nothing leads here")
    (codes "a label and a jump to it, or leave it out")

-- a warning of a line with some fields in words
abbrev pub warning_cause : Parts → ℕ → Cause
warning_cause parts number =
    if number == 1 then cured (codes "& is an operator's name, and in the first column it is a label") (codes "put a blank before &")
    else if number == 2 then number_cause parts
    else if number == 3 then cured (codes "% takes two words, and ERASE reserves one for @") (codes "@ ERASE +1 reserves two")
    else if number == 4 then cured (codes "after % the program runs on to a constant, or where no word stands")
    (codes "TCF or RETURN behind it, and constants elsewhere")
    else if number == 5 then cured (codes "a vector has four words, and with this one the next vector begins")
    (codes "TCF as the fourth, and the routine elsewhere")
    else if number == 6 then cured (codes "% reaches a switched erasable bank, and no line sets EB")
    (codes "NAME ECADR @ on a line of its own; before this CA NAME, and TS 3, which is EB")
    else if number == 7 then cured_by (codes "& is a register's name, and stands for another place here")
    (codes "& EQUALS ! is the register") (unwrap_or (value_in registers (text_of parts.label)) [])
    else if number == 8 then said (codes "no operand names &")
    else if number == 9 then cured (codes "@ stands in a switched bank of fixed memory, and no line sets FB")
    (codes "NAME FCADR @ on a line of its own; before this CA NAME, and TS 4, which is FB; for banks 40 to 43 WRITE 7 of 100 too")
    else if number == 10 then cured (codes "channel @ is a register, L or Q, and nothing goes out")
    (codes "another channel, or, where the register is meant, its name: L EQUALS 1, Q EQUALS 2")
    else if number == 11 then cured (codes "a run starts here, at 4000, and % is no instruction")
    (codes "the program first, or a jump to it, and constants behind its last jump")
    else if nat_le 12 number && nat_le number 16 then way_cause number
    else said []

-- 17: why it is not certain what the assembler of flight programs makes of a word, and how sure it is that it makes another
abbrev pub doubt_cause : Doubt → Cause
doubt_cause SuperbankBits = said
    (codes "the second word of % is not certain: for banks 030 to 037 a superbank, 060, may stand in it (65 in 100)")
doubt_cause HeldBank = cured (codes "a word of % is not certain: EBANK= before an earlier 2CADR may hold for that one alone (85 in 100)")
    (codes "EBANK= on the line before % makes it certain")

-- a warning in words: by its number, or by why a word is not certain
abbrev pub caution_cause : Parts → Warning → Cause
caution_cause parts w = option_map_or doubt_cause w.doubt (warning_cause parts w.number)
