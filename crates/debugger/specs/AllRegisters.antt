-- All registers, with what waits for the next instruction and which interrupts are asked for.
use Rattle.std.specs.Prelude.{ℕ, List, [], ◌++◌, filter, codes, decimal, Option, None, Some}
use Rattle.std.specs.List.{flat_map, range_with_len}
use Rattle.std.specs.FinSet.{contains}
use Rattle.words.specs.Numbers.{correct}
use Rattle.words.specs.Numerals.{octal_text}
use Rattle.space.specs.Cells.{Cells, get, at, superbank, accumulator, lower_accumulator, return_address, program_counter, erasable_bank}
use Rattle.space.specs.Cells.{fixed_bank, both_banks}
use Rattle.cpu.specs.State.{State}
use Rattle.debugger.specs.Replies.{line, flag_text}

-- the interrupts that are asked for, in their order
unfoldable pub requested : State → List ℕ
requested s = filter (contains s.requests) (range_with_len 1 10)

-- numbers, each after a blank
abbrev pub numbers_text : List ℕ → List ℕ
numbers_text numbers = flat_map (λ k. codes " " ++ decimal k) numbers

-- a text, or that there is none
abbrev pub or_none : List ℕ → List ℕ
or_none [] = codes " NONE"
or_none text = text

-- what waits, in octal, or that nothing does
abbrev pub waiting_text : ℕ → Option ℕ → List ℕ
waiting_text digits None = codes "NONE"
waiting_text digits (Some n) = octal_text digits n

-- the word that is read at a register
abbrev pub word_in : Cells → ℕ → List ℕ
word_in cells p = octal_text 5 (correct (get cells p))

-- the registers
abbrev pub register_lines : Cells → List ℕ
register_lines cells =
    line (codes "A " ++ octal_text 6 (get cells accumulator))
    ++ line (codes "L " ++ word_in cells lower_accumulator)
    ++ line (codes "Q " ++ octal_text 6 (get cells return_address))
    ++ line (codes "Z " ++ octal_text 4 (correct (get cells program_counter)))
    ++ line (codes "EB " ++ octal_text 1 (at cells erasable_bank))
    ++ line (codes "FB " ++ octal_text 2 (at cells fixed_bank))
    ++ line (codes "BB " ++ word_in cells both_banks)

-- the flags: the superbank bit, extracode, whether interrupts are inhibited, and whether one is served
abbrev pub flag_lines : State → List ℕ
flag_lines s =
    line (codes "SUP " ++ flag_text (superbank s.cells))
    ++ line (codes "EXT " ++ flag_text s.extra)
    ++ line (codes "INH " ++ flag_text s.inhibit)
    ++ line (codes "INT " ++ flag_text s.inside)

-- the line of what is asked for, and those of what waits
abbrev pub asked_line : State → List ℕ
asked_line s = line (codes "ASKED" ++ or_none (numbers_text (requested s)))

abbrev pub sum_line : State → List ℕ
sum_line s = line (codes "SUM " ++ waiting_text 6 s.waiting_sum)

abbrev pub word_line : State → List ℕ
word_line s = line (codes "WORD " ++ waiting_text 5 s.waiting_word)

-- the same, and the cycles
abbrev pub waiting_lines : State → List ℕ
waiting_lines s =
    asked_line s ++ sum_line s ++ word_line s ++ line (codes "CYCLES " ++ decimal s.cycles)

unfoldable pub all_registers : State → List ℕ
all_registers s = register_lines s.cells ++ flag_lines s ++ waiting_lines s
