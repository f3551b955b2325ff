-- A run as text: a line for each step.
use Rattle.std.specs.Prelude.{ℕ, zero, suc, ◌+◌, ◌-◌, ◌*◌, ◌^◌, ◌==◌, ◌&&◌, ◌||◌, Bool, true, false, nat_lt, nat_le, List, [], ◌++◌, length}
use Rattle.std.specs.Prelude.{min, find, unwrap_or, codes, decimal, Option, None, Some, if◌then◌else◌}
use Rattle.std.specs.List.{flat_map}
use Rattle.std.specs.Option.{option_map, option_or}
use Rattle.words.specs.Numbers.{correct}
use Rattle.words.specs.Numerals.{octal_text}
use Rattle.space.specs.Cells.{Cells, get, get_channel, accumulator, lower_accumulator, return_address, erasable_bank, fixed_bank}
use Rattle.space.specs.Cells.{program_counter, both_banks, erasable_count}
use Rattle.space.specs.declared.place.Linear.{Linear}
use Rattle.space.specs.declared.place.Linear.TheVariants as linear
use Rattle.rope.specs.Places.{Words, word_at}
use Rattle.feed.specs.Counters.{row_of as counter_row}
use Rattle.feed.specs.declared.input.Input.{Input}
use Rattle.feed.specs.declared.input.Input.TheVariants.{Count, Word, Interrupt}
use Rattle.feed.specs.declared.input.Sequence.{Sequence}
use Rattle.feed.specs.declared.input.Sequence.TheVariants.{Pinc, Minc, Dinc, Pcdu, Mcdu, Shinc, Shanc}
use Rattle.yayul.specs.Listing.{blanks, place_text}
use Rattle.symbols.specs.Values.{SymbolTable}
use Rattle.symbols.specs.declared.values.Value.{Value}
use Rattle.symbols.specs.declared.values.Value.TheVariants.{Erasable, Fixed}
use Rattle.cpu.specs.declared.output.Output.{Output}
use Rattle.cpu.specs.declared.next_step.Fetched.{Fetched}
use Rattle.cpu.specs.declared.next_step.NextStep.{NextStep}
use Rattle.cpu.specs.declared.next_step.NextStep.TheVariants.{Takes, Enters, Executes}
use Rattle.cpu.specs.Asking.{interrupt_asked}
use Rattle.cpu.specs.ChannelLines.{channel_line}
use Rattle.cpu.specs.Codes.{Code, row_of, code_of}
use Rattle.cpu.specs.Effects.{place_in, value_at}
use Rattle.cpu.specs.Operands.{address_of}
use Rattle.cpu.specs.Links.{link, targets}
use Rattle.cpu.specs.Reads.{reads}
use Rattle.cpu.specs.declared.spot.Spot.{Spot}
use Rattle.cpu.specs.declared.spot.Spot.TheVariants.{Cell, InRope}
use Rattle.cpu.specs.Next.{next}
use Rattle.cpu.specs.NextStep.{next_step}
use Rattle.cpu.specs.Run.{run}
use Rattle.cpu.specs.State.{State, Scenario}
use Rattle.cpu.specs.Texts.{instruction_text}

-- a field: a text, and blanks up to the next column, two at least
abbrev pub field : ℕ → List ℕ → List ℕ
field width text = text ++ blanks (2 + (width - length text))

-- three fields: a place, what the step is, and its text
abbrev pub step_fields : List ℕ → List ℕ → List ℕ → List ℕ
step_fields place kind text = field 7 place ++ field 5 kind ++ field 17 text

-- a sequence, as a feed names it
abbrev pub sequence_name : Sequence → List ℕ
sequence_name Pinc = codes "PINC"
sequence_name Minc = codes "MINC"
sequence_name Dinc = codes "DINC"
sequence_name Pcdu = codes "PCDU"
sequence_name Mcdu = codes "MCDU"
sequence_name Shinc = codes "SHINC"
sequence_name Shanc = codes "SHANC"

-- an input, as a line of a feed has it after its cycle
abbrev pub input_text : Input → List ℕ
input_text (Count counter sequence) = (counter_row counter).name ++ codes " " ++ sequence_name sequence
input_text (Word n w) = codes "CHAN " ++ octal_text 3 n ++ codes " " ++ octal_text 5 w
input_text (Interrupt k) = codes "RUPT " ++ decimal k

-- the name of an interrupt
abbrev pub interrupt_name : ℕ → List ℕ
interrupt_name k =
    if k == 1 then codes "T6RUPT"
    else (if k == 2 then codes "T5RUPT"
    else (if k == 3 then codes "T3RUPT"
    else (if k == 4 then codes "T4RUPT"
    else (if k == 5 then codes "KEYRUPT1"
    else (if k == 6 then codes "KEYRUPT2"
    else (if k == 7 then codes "UPRUPT"
    else (if k == 8 then codes "DOWNRUPT"
    else (if k == 9 then codes "RADARUPT"
    else codes "RUPT10"))))))))

-- the interrupt for which an input asks, if any
abbrev pub asked_text : Option ℕ → List ℕ
asked_text None = []
asked_text (Some k) = codes " ASKS " ++ interrupt_name k

-- an input with what it asks for
abbrev pub taken_text : State → Input → List ℕ
taken_text s input = input_text input ++ asked_text (interrupt_asked s input)

-- the place where an interrupt is entered
abbrev pub entry_place : ℕ → Linear
entry_place k = linear.Fixed 2 (4 * k)

-- where the word that is executed stands: the word that RESUME brings stands in BRUPT
abbrev pub word_place : Fetched → List ℕ
word_place f = if f.waited then codes "BRUPT" else place_text f.place

-- the letters of a register
abbrev pub register_name : ℕ → Option (List ℕ)
register_name p =
    if p == accumulator then Some (codes "A")
    else (if p == lower_accumulator then Some (codes "L")
    else (if p == return_address then Some (codes "Q")
    else (if p == erasable_bank then Some (codes "EB")
    else (if p == fixed_bank then Some (codes "FB")
    else (if p == program_counter then Some (codes "Z")
    else (if p == both_banks then Some (codes "BB")
    else None))))))

-- the name that the manual gives a cell with a use of its own, behind the registers
abbrev pub special_name : ℕ → Option (List ℕ)
special_name p =
    if p == 0o10 then Some (codes "ARUPT")
    else (if p == 0o11 then Some (codes "LRUPT")
    else (if p == 0o12 then Some (codes "QRUPT")
    else (if p == 0o15 then Some (codes "ZRUPT")
    else (if p == 0o16 then Some (codes "BBRUPT")
    else (if p == 0o17 then Some (codes "BRUPT")
    else (if p == 0o20 then Some (codes "CYR")
    else (if p == 0o21 then Some (codes "SR")
    else (if p == 0o22 then Some (codes "CYL")
    else (if p == 0o23 then Some (codes "EDOP")
    else (if p == 0o24 then Some (codes "TIME2")
    else (if p == 0o25 then Some (codes "TIME1")
    else (if p == 0o26 then Some (codes "TIME3")
    else (if p == 0o27 then Some (codes "TIME4")
    else (if p == 0o30 then Some (codes "TIME5")
    else (if p == 0o31 then Some (codes "TIME6")
    else (if p == 0o32 then Some (codes "CDUX")
    else (if p == 0o33 then Some (codes "CDUY")
    else (if p == 0o34 then Some (codes "CDUZ")
    else (if p == 0o35 then Some (codes "OPTY")
    else (if p == 0o36 then Some (codes "OPTX")
    else (if p == 0o37 then Some (codes "PIPAX")
    else (if p == 0o40 then Some (codes "PIPAY")
    else (if p == 0o41 then Some (codes "PIPAZ")
    else (if p == 0o45 then Some (codes "INLINK")
    else None))))))))))))))))))))))))

-- whether a place is what a symbol stands for
abbrev pub stands_for : Linear → Value → Bool
stands_for (linear.Erasable p) (Erasable q) = p == q
stands_for (linear.Fixed bank offset) (Fixed b n) = bank == b && offset == n
stands_for place value = false

-- the first symbol, in order of definition, that stands for a place
unfoldable pub symbol_at : SymbolTable → Linear → Option (List ℕ)
symbol_at symbols place = option_map (λ e. e.0) (find (λ e. stands_for place e.1) symbols)

-- the name of a place: a register's letters, or a symbol, or the name of a cell with a use of its own
abbrev pub place_name : SymbolTable → Linear → Option (List ℕ)
place_name symbols (linear.Erasable p) = option_or (register_name p) (option_or (symbol_at symbols (linear.Erasable p)) (special_name p))
place_name symbols (linear.Fixed bank offset) = symbol_at symbols (linear.Fixed bank offset)

-- how many octal digits a number below 2 ^ 15 has
abbrev pub octal_digits : ℕ → ℕ
octal_digits n = if nat_lt n 0o10 then 1 else (if nat_lt n 0o100 then 2 else
    (if nat_lt n 0o1000 then 3 else (if nat_lt n 0o10000 then 4 else 5)))

abbrev pub short_octal : ℕ → List ℕ
short_octal n = octal_text (octal_digits n) n

-- how many places before an erasable one a symbol is sought: at most 63, and none among the registers and the counters
abbrev pub near_count : ℕ → ℕ
near_count p = min 0o77 (p - 0o61)

-- the symbol of the nearest of so many erasable places before a place, from a distance on; and how far before it that is
abbrev pub near_symbol : SymbolTable → ℕ → ℕ → ℕ → Option (List ℕ × ℕ)
near_symbol symbols p d zero = None
near_symbol symbols p d (suc more) = option_or (option_map (λ name. (name, d)) (symbol_at symbols (linear.Erasable (p - d))))
    (near_symbol symbols p (d + 1) more)

-- a symbol, and how many words behind it, with a gap between both
abbrev pub behind_text : List ℕ → List ℕ × ℕ → List ℕ
behind_text gap near = near.0 ++ gap ++ codes "+" ++ short_octal near.1

-- an erasable place by the symbol before it
abbrev pub near_name : List ℕ → SymbolTable → Linear → Option (List ℕ)
near_name gap symbols (linear.Erasable p) = option_map (behind_text gap) (near_symbol symbols p 1 (near_count p))
near_name gap symbols (linear.Fixed bank offset) = None

-- the name of a place, or of an erasable one the symbol before it and how far
abbrev pub full_name : List ℕ → SymbolTable → Linear → Option (List ℕ)
full_name gap symbols place = option_or (place_name symbols place) (near_name gap symbols place)

-- an operand has a blank there, as in a source; a cell none, since blanks part it from the next
abbrev pub operand_gap : List ℕ
operand_gap = codes " "

abbrev pub cell_gap : List ℕ
cell_gap = []

-- an instruction as text, with the name of the place that it names in place of the address
abbrev pub named_text : SymbolTable → State → Code → Option ℕ → List ℕ
named_text symbols s code None = instruction_text code
named_text symbols s code (Some k) = (row_of code.instruction).name ++ codes " "
    ++ unwrap_or (full_name operand_gap symbols (place_in s k)) (octal_text 4 k)

abbrev pub word_text : SymbolTable → State → Bool → ℕ → List ℕ
word_text symbols s extra word = let code = code_of extra word in named_text symbols s code (address_of code)

-- the sum that INDEX left, as an offset of a source: its sign, and its size in octal
abbrev pub added_text : Option ℕ → List ℕ
added_text None = []
added_text (Some x) = if nat_lt x (2 ^ 15) then codes " +" ++ short_octal x else codes " -" ++ short_octal (2 ^ 16 - 1 - x)

-- an instruction: the word that stands at its place, as text, and what INDEX adds to it
abbrev pub fetched_text : SymbolTable → Words → State → Fetched → List ℕ
fetched_text symbols rope s f =
    if f.waited then word_text symbols s f.extra f.word
    else word_text symbols s f.extra (correct (value_at rope s f.place)) ++ added_text f.added

-- what a step is: an input with what it asks for, the entry of an interrupt, or an instruction with the word that is executed
abbrev pub what_text : SymbolTable → Words → State → NextStep → List ℕ
what_text symbols rope s (Takes input) = step_fields (codes "-") (codes "INPUT") (taken_text s input)
what_text symbols rope s (Enters k) = step_fields (place_text (entry_place k)) (codes "ENTRY") (interrupt_name k)
what_text symbols rope s (Executes f) = step_fields (word_place f) (octal_text 5 f.word) (fetched_text symbols rope s f)

-- a cell: a place by its name, or as a listing has it; or a channel
abbrev pub cell_name : SymbolTable → ℕ → List ℕ
cell_name symbols c =
    if nat_lt c erasable_count then unwrap_or (place_name symbols (linear.Erasable c)) (place_text (linear.Erasable c))
    else codes "CH" ++ octal_text 3 (c - erasable_count)

-- what is read there: 16 bits at A and Q, elsewhere a word
abbrev pub cell_reading : Cells → ℕ → List ℕ
cell_reading cells c =
    if nat_lt c erasable_count then (if c == accumulator
    || c == return_address then octal_text 6 (get cells c) else octal_text 5 (correct (get cells c)))
    else octal_text 5 (correct (get_channel cells (c - erasable_count)))

-- the same, where a place without a name is called by the symbol before it
abbrev pub cell_shown : SymbolTable → ℕ → List ℕ
cell_shown symbols c =
    if nat_lt c erasable_count then unwrap_or (full_name cell_gap symbols (linear.Erasable c)) (place_text (linear.Erasable c))
    else codes "CH" ++ octal_text 3 (c - erasable_count)

-- a cell that was written, and what is read there now; Z, which each instruction moves on, is told by the place of the next step
abbrev pub written : SymbolTable → Cells → ℕ → List ℕ
written symbols cells c = if c == program_counter then [] else codes " " ++ cell_shown symbols c ++ codes "=" ++ cell_reading cells c

-- a spot that is read: a cell, or a place of fixed memory by its name, or as a listing has it
abbrev pub spot_name : SymbolTable → Spot → List ℕ
spot_name symbols (Cell c) = cell_shown symbols c
spot_name symbols (InRope bank offset) = unwrap_or (place_name symbols (linear.Fixed bank offset)) (place_text (linear.Fixed bank offset))

-- what stands there
abbrev pub spot_reading : Words → Cells → Spot → List ℕ
spot_reading rope cells (Cell c) = cell_reading cells c
spot_reading rope cells (InRope bank offset) = octal_text 5 (word_at rope bank offset)

abbrev pub spot_is_z : Spot → Bool
spot_is_z (Cell c) = c == program_counter
spot_is_z (InRope bank offset) = false

-- a spot that was read, with what stood there before the step; nothing of Z, as where it is written
abbrev pub was_read : SymbolTable → Words → Cells → Spot → List ℕ
was_read symbols rope cells x = if spot_is_z x then [] else codes " " ++ spot_name symbols x ++ codes "=" ++ spot_reading rope cells x

-- a text, or the sign that there is none
abbrev pub or_none : List ℕ → List ℕ
or_none [] = codes " -"
or_none text = text

-- the end of a line: the channel line of what the step puts out, if anything
abbrev pub line_end : Option Output → List ℕ
line_end None = codes "\n"
line_end (Some o) = codes "  " ++ channel_line o

-- what a step has read, where that is shown
unfoldable pub reads_text : Bool → SymbolTable → Scenario → State → List ℕ
reads_text false symbols scenario s = []
reads_text true symbols scenario s = codes "READS" ++ or_none (flat_map (was_read symbols scenario.rope s.cells) (reads (link scenario s)))
    ++ codes " "

-- the line of the step that follows a state: its number, the cycles after it, what it is, what it has read, where that is shown, what it
-- has written, and what goes out
unfoldable pub trace_line : Bool → SymbolTable → Scenario → ℕ → State → List ℕ
trace_line shows_reads symbols scenario number s =
    let after = next scenario s in
    field 8 (decimal number) ++ field 8 (decimal after.0.cycles) ++ what_text symbols scenario.rope s (next_step scenario s)
    ++ reads_text shows_reads symbols scenario s ++ or_none (flat_map (written symbols after.0.cells) (targets (link scenario s)))
    ++ line_end after.1

-- the line of a step that follows a state, where lines are written from a first step on
abbrev pub line_from : Bool → SymbolTable → Scenario → ℕ → ℕ → State → List ℕ
line_from shows_reads symbols scenario first number s = if nat_le first number then trace_line shows_reads symbols scenario number s else []

-- the lines of the first n steps, from a first one on
unfoldable pub trace_lines : Bool → SymbolTable → Scenario → ℕ → ℕ → List ℕ
trace_lines shows_reads symbols scenario first zero = []
trace_lines shows_reads symbols scenario first (suc n) =
    trace_lines shows_reads symbols scenario first n ++ line_from shows_reads symbols scenario first (suc n) (run scenario n)
