-- Fixed memory as a source with names and instructions, which gives its words.
use Rattle.std.specs.Prelude.{ℕ, zero, suc, ◌+◌, ◌-◌, ◌==◌, ◌&&◌, ◌||◌, not, Bool, true, false, nat_le, List, [], ◌∷◌, ◌++◌, length}
use Rattle.std.specs.Prelude.{unwrap_or, codes, Option, None, Some, Result, Ok, Err, if◌then◌else◌}
use Rattle.std.specs.List.{range_with_len, flat_map}
use Rattle.std.specs.Option.{option_map_or}
use Rattle.words.specs.Numerals.{octal_text}
use Rattle.agc_text.specs.Tables.{same_name}
use Rattle.space.specs.declared.place.Linear.TheVariants as linear
use Rattle.rope.specs.Places.{banks, bank_words, Words, slot_at, word_at}
use Rattle.symbols.specs.Values.{SymbolTable, value_text}
use Rattle.symbols.specs.declared.values.Value.{Value}
use Rattle.symbols.specs.declared.values.Value.TheVariants.{Num, Erasable, Fixed}
use Rattle.yayul.specs.Forms.{is_name}
use Rattle.yayul.specs.declared.faults.Fault.{Fault}
use Rattle.yayul.specs.Listing.{blanks, place_text}
use Rattle.yayul.specs.Program.{Program, program}
use Rattle.yayul.specs.declared.language.Language.TheVariants.{Standard}
use Rattle.cpu.specs.Next.{extracode_after}
use Rattle.cpu.specs.Texts.{disassembly}
use Rattle.audit.specs.SourceLines.{source_text}
use Rattle.audit.specs.WordLines.{extracode_at}
use Rattle.named_source.specs.GivenBack.{is_written}
use Rattle.trace.specs.TraceLines.{symbol_at}
use Rattle.names.specs.NamedLines.{named_instruction}
use Rattle.names.specs.Tables.{with_name}

-- ## Names
-- the letters of a register, which are names of their own
abbrev pub is_register : List ℕ → Bool
is_register name =
    same_name name (codes "A") || (same_name name (codes "L") || (same_name name (codes "Q") || (same_name name (codes "EB")
    || (same_name name (codes "FB") || (same_name name (codes "Z") || same_name name (codes "BB"))))))

-- the name of a cell with a use of its own
unfoldable pub is_kept : List ℕ → Bool
is_kept name =
    same_name name (codes "ARUPT") || (same_name name (codes "LRUPT")
    || (same_name name (codes "QRUPT") || (same_name name (codes "ZRUPT")
    || (same_name name (codes "BBRUPT") || (same_name name (codes "BRUPT")
    || (same_name name (codes "CYR") || (same_name name (codes "SR")
    || (same_name name (codes "CYL") || (same_name name (codes "EDOP"))))))))))

unfoldable pub is_counter : List ℕ → Bool
is_counter name =
    same_name name (codes "TIME2") || (same_name name (codes "TIME1")
    || (same_name name (codes "TIME3") || (same_name name (codes "TIME4")
    || (same_name name (codes "TIME5") || (same_name name (codes "TIME6")
    || (same_name name (codes "CDUX") || (same_name name (codes "CDUY")
    || (same_name name (codes "CDUZ") || (same_name name (codes "OPTY")
    || (same_name name (codes "OPTX") || (same_name name (codes "PIPAX")
    || (same_name name (codes "PIPAY") || (same_name name (codes "PIPAZ") || (same_name name (codes "INLINK")))))))))))))))

-- whether a name may be a label of the source
unfoldable pub is_label : List ℕ → Bool
is_label name = is_name name && not (is_register name || (is_kept name || is_counter name))

-- the names that may, one after another
abbrev pub with_label : SymbolTable → List ℕ × Value → SymbolTable
with_label labels entry = if is_label entry.0 then with_name labels entry.0 entry.1 else labels

unfoldable pub labels_after : SymbolTable → List (List ℕ × Value) → SymbolTable
labels_after labels [] = labels
labels_after labels (entry ∷ more) = labels_after (with_label labels entry) more

abbrev pub labels_of : SymbolTable → SymbolTable
labels_of names = labels_after [] names

-- ## Lines that give names their values
-- a text with blanks up to a column
abbrev pub column : ℕ → List ℕ → List ℕ
column width text = text ++ blanks (width - length text)

-- whether a name is the one that stands as the label of a word's line
abbrev pub is_first : SymbolTable → List ℕ → ℕ → ℕ → Bool
is_first labels name bank offset = option_map_or (same_name name) (symbol_at labels (linear.Fixed bank offset)) false

-- the line that gives a label a number, and those that give it an erasable place
abbrev pub number_line : List ℕ → ℕ → List ℕ
number_line name n = column 9 name ++ codes "EQUALS  " ++ octal_text 5 n ++ codes "\n"

abbrev pub erasable_lines : List ℕ → ℕ → List ℕ
erasable_lines name place = codes "         SETLOC  " ++ octal_text 4 place ++ codes "\n" ++ column 9 name ++ codes "ERASE\n"

-- the lines that give a label a place of fixed memory, before any word stands
abbrev pub fixed_lines : List ℕ → ℕ → ℕ → List ℕ
fixed_lines name bank offset =
    codes "         BANK    " ++ octal_text 2 bank ++ codes "\n         SETLOC  +" ++ octal_text 4 offset ++ codes "\n" ++ name
    ++ codes "\n"

-- the lines that give a label its value: none where it stands at its word
abbrev pub label_lines : SymbolTable → Option ℕ → List ℕ → Value → List ℕ
label_lines labels asked name (Num n) = number_line name n
label_lines labels asked name (Erasable place) = erasable_lines name place
label_lines labels asked name (Fixed bank offset) =
    if is_written asked bank && is_first labels name bank offset then [] else fixed_lines name bank offset

-- the line of a name that may be no label, a comment
abbrev pub no_label_line : List ℕ → Value → List ℕ
no_label_line name value = codes "# " ++ name ++ codes " " ++ value_text value ++ codes "\n"

-- the lines of a name
abbrev pub name_lines : SymbolTable → Option ℕ → List ℕ × Value → List ℕ
name_lines labels asked entry =
    if is_label entry.0 then label_lines labels asked entry.0 entry.1 else no_label_line entry.0 entry.1

-- those of the registers, and of the cells with a use of their own
unfoldable pub register_lines : List ℕ
register_lines =
    (codes "A        EQUALS  0\nL        EQUALS  1\nQ        EQUALS  2\nEB       EQUALS  3\nFB       EQUALS  4\nZ        EQUALS  5\nBB     "
    ++ (codes "  EQUALS  6\nARUPT    EQUALS  10\nLRUPT    EQUALS  11\nQRUPT    EQUALS  12\nZRUPT    EQUALS  15\nBBRUPT   EQUALS  "
    ++ (codes "16\nBRUPT    EQUALS  17\nCYR      EQUALS  20\nSR       EQUALS  21\nCYL      EQUALS  22\nEDOP     EQUALS  23\nTIME2    "
    ++ (codes "EQUALS  24\nTIME1    EQUALS  25\nTIME3    EQUALS  26\nTIME4    EQUALS  27\nTIME5    EQUALS  30\nTIME6    EQUALS  "
    ++ (codes "31\nCDUX     EQUALS  32\nCDUY     EQUALS  33\nCDUZ     EQUALS  34\nOPTY     EQUALS  35\nOPTX     EQUALS  36\nPIPAX    "
    ++ codes "EQUALS  37\nPIPAY    EQUALS  40\nPIPAZ    EQUALS  41\nINLINK   EQUALS  45\n")))))

-- ## Lines of words
-- the words that stand as numbers: those of EDRUPT, which has no operator, and 0 where no extracode is in force, as places without a word
-- hold it
abbrev pub is_number : Bool → ℕ → Bool
is_number extracode word = if extracode then nat_le 0o7000 word && nat_le word 0o7777 else word == 0

-- whether a word stands as its instruction, with so many words left in its bank: the language has it, and where it puts extracode in force
-- so does the next word
unfoldable pub is_said_from : Words → ℕ → ℕ → ℕ → Bool
is_said_from words bank offset zero = false
is_said_from words bank offset (suc left) =
    if extracode_after (extracode_at words bank offset) (word_at words bank offset) then is_said_from words bank (offset + 1) left
    else not (is_number (extracode_at words bank offset) (word_at words bank offset))

abbrev pub is_said : Words → ℕ → ℕ → Bool
is_said words bank offset = is_said_from words bank offset (bank_words - offset)

-- what a word stands as, and what is remarked of it: the instruction and the number, or the other way round
abbrev pub statement : SymbolTable → Words → ℕ → ℕ → Bool → List ℕ
statement labels words bank offset said =
    if said then named_instruction labels words bank offset else codes "OCT " ++ octal_text 5 (word_at words bank offset)

abbrev pub remark : Bool → ℕ → Bool → List ℕ
remark extracode word said = if said then octal_text 5 word else disassembly extracode word

-- the line of a word that stands as an instruction or not: a label, the word, and its place with the remark in a comment
unfoldable pub line_of : SymbolTable → Words → ℕ → ℕ → Bool → List ℕ
line_of labels words bank offset said =
    column 9 (unwrap_or (symbol_at labels (linear.Fixed bank offset)) []) ++ column 26 (statement labels words bank offset said)
    ++ codes "# "
    ++ place_text (linear.Fixed bank offset) ++ codes " " ++ remark (extracode_at words bank offset) (word_at words bank offset) said
    ++ codes "\n"

abbrev pub said_line : SymbolTable → Words → ℕ → ℕ → List ℕ
said_line labels words bank offset = line_of labels words bank offset (is_said words bank offset)

-- the line that leads to the first word of a bank
abbrev pub bank_line : ℕ → List ℕ
bank_line bank = codes "         BANK    " ++ octal_text 2 bank ++ codes "\n"

-- the lines of a bank: each of its words once, by rising offsets
unfoldable pub said_bank : SymbolTable → Words → ℕ → List ℕ
said_bank labels words bank = bank_line bank ++ flat_map (said_line labels words bank) (range_with_len 0 bank_words)

-- the lines of one bank, or of all by their numbers
abbrev pub said_banks : SymbolTable → Words → Option ℕ → List ℕ
said_banks labels words None = flat_map (said_bank labels words) (range_with_len 0 banks)
said_banks labels words (Some bank) = said_bank labels words bank

-- ## The source
-- the lines of all names
unfoldable pub all_names : SymbolTable → Option ℕ → SymbolTable → List ℕ
all_names labels asked names = flat_map (name_lines labels asked) names

-- a source with names and instructions
unfoldable pub with_names : SymbolTable → Words → Option ℕ → List ℕ
with_names names words asked = (register_lines ++ all_names (labels_of names) asked names) ++ said_banks (labels_of names) words asked

-- what has to stand at a place: its word where its bank is written, 0 where there was none, and else nothing
abbrev pub wanted : Words → Option ℕ → ℕ → ℕ → Option ℕ
wanted words asked bank offset = if is_written asked bank then Some (word_at words bank offset) else None

-- whether two places hold the same
abbrev pub is_same : Option ℕ → Option ℕ → Bool
is_same None None = true
is_same (Some word) (Some other) = word == other
is_same _ _ = false

-- whether what has to stand there does at the first offsets of a bank, and in the first banks
unfoldable pub bank_given : Words → Option ℕ → Words → ℕ → ℕ → Bool
bank_given words asked given bank zero = true
bank_given words asked given bank (suc offset) = is_same (slot_at given bank offset) (wanted words asked bank offset)
    && bank_given words asked given bank offset

unfoldable pub banks_given : Words → Option ℕ → Words → ℕ → Bool
banks_given words asked given zero = true
banks_given words asked given (suc bank) = bank_given words asked given bank bank_words && banks_given words asked given bank

-- whether what a source comes to has these words and no other
abbrev pub gives_words : Words → Option ℕ → Result Program Fault → Bool
gives_words words asked (Ok p) = banks_given words asked p.rope banks
gives_words words asked (Err fault) = false

-- the source with names and instructions where it gives the words, as it is tried; else the one of octal words
unfoldable pub named_source : SymbolTable → Words → Option ℕ → List ℕ
named_source names words asked =
    if gives_words words asked (program Standard (with_names names words asked))
    then with_names names words asked else source_text words asked
