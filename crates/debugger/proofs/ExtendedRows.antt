-- Extended sessions over a small program, replied by the definitions alone.
use Rattle.std.proofs.Common.{◌≡◌, ℕ, Bool, List, [], ◌∷◌, ◌++◌, Some, None, true, false, ap, ◌∙◌, refl}
use Rattle.std.specs.Prelude.{◌==◌, if◌then◌else◌}
use Rattle.std.specs.Prelude.{codes, decimal}
use Rattle.std.specs.Fmt.{digits}
use Rattle.agc_text.specs.Fields.{runs}
use Rattle.words.specs.Numerals.{octal_text}
use Rattle.feed.specs.Merged.{due}
use Rattle.feed.specs.Names.{counters, sequences}
use Rattle.feed.specs.Statements.{parsed}
use Rattle.rope.specs.Places.{Words, word_at}
use Rattle.space.specs.declared.place.Linear.{Linear}
use Rattle.space.specs.declared.place.Linear.TheVariants as linear
use Rattle.space.specs.Places.{place}
use Rattle.cpu.specs.ChannelLines.{channel_lines}
use Rattle.std.specs.FinSet as set
use Rattle.std.specs.Ordering.{nat_cmp, eq_by_cmp}
use Rattle.std.specs.Cmp.{nat_cmp_total}
use Rattle.std.specs.Prelude.{◌||◌}
use Rattle.space.specs.Cells.{Cells, get, accumulator, lower_accumulator, return_address, program_counter, both_banks, erasable_bank}
use Rattle.space.specs.Cells.{fixed_bank}
use Rattle.cpu.proofs.Holding.{get-holding, at-holding, superbank-holding}
use Rattle.cpu.proofs.Held.{state, rope}
use Rattle.cpu.specs.Codes.{basic_rows, extracode_rows, code_of}
use Rattle.cpu.specs.Operands.{address_of}
use Rattle.cpu.specs.Texts.{instruction_text}
use Rattle.cpu.specs.Next.{instruction_word}
use Rattle.audit.specs.WordLines.{extracode_at}
use Rattle.names.specs.NamedLines.{named_line, named_instruction, named_text, place_told}
use Rattle.cpu.specs.State.{State}
use Rattle.cpu.proofs.FiveRun.{five, five_words}
use Rattle.symbols.specs.declared.values.Value.TheVariants.{Num, Erasable, Fixed}
use Rattle.symbols.specs.Values.{SymbolTable}
use Rattle.space.specs.Places.{window}
use Rattle.agc_text.specs.Lines.{lines}
use Rattle.yayul.specs.Forms.{statement_of}
use Rattle.yayul.specs.Layout.{line_effect}
use Rattle.yayul.specs.Listing.{number_column, place_text, word_columns}
use Rattle.yayul.specs.Operators.{operators, operator_rows}
use Rattle.yayul.specs.PlaceRows.{no_source}
use Rattle.yayul.specs.Program.{Source}
use Rattle.yayul.specs.declared.language.Language.TheVariants.{Standard}
use Rattle.trace.specs.TraceLines.{symbol_at}
use Rattle.debugger.specs.Standing.{nearest_text, place_line, where_line, found_text, words_text, rows_text}
use Rattle.debugger.specs.WhatIfs.{noted_from}
use Rattle.names.specs.NamedLines.{nearest_name}
use Rattle.debugger.specs.Rows.{based_text, list_row, plain_row, numbers_text as numbers_row, row_text}
use Rattle.debugger.specs.declared.rows.RowKind.TheVariants.{Instruction, Number}
use Rattle.commands.specs.Commands.{forms}
use Rattle.commands.specs.Extended.{extended_line, extended_forms}
use Rattle.commands.specs.Usages.{usages}
use Rattle.commands.specs.declared.command.Breakpoint.{Breakpoint}
use Rattle.commands.specs.declared.command.Breakpoint.TheVariants.{Place, Channel, Bits, Cycles, Executed, Changed}
use Rattle.commands.specs.declared.subject.Subject.TheVariants as subject
use Rattle.commands.specs.declared.extended.ExtendedLine.TheVariants.{Common, On, Until}
use Rattle.commands.specs.declared.command.Command.{Command}
use Rattle.commands.specs.declared.command.Command.TheVariants.{Goto, Back, Seek, Memory}
use Rattle.words.specs.BitSums.{and_sum}
use Rattle.debugger.specs.History.{History, Sight, history}
use Rattle.debugger.specs.Growth.{grow, lowest_hit, words_line}
use Rattle.debugger.specs.Replies.{Desk, answer, reply, at_line}
use Rattle.debugger.specs.Channels.{channel_line, channel_word, channels_set}
use Rattle.debugger.specs.Differs.{channels_changed, erasable_line}
use Rattle.debugger.specs.AllRegisters.{register_lines, flag_lines, requested, numbers_text, or_none, sum_line, word_line}
use Rattle.debugger.specs.ExtendedReplies.{extended_reply}
use Rattle.debugger.specs.Transcript.{first_desk}
use Rattle.debugger.specs.Terms.{terms_of}
use Rattle.debugger.specs.Conversation.{conversation}
use Rattle.debugger.proofs.Scripts.{ended}
use Rattle.debugger.proofs.FiveRows.{history-five}

abbrev symbols : SymbolTable
symbols = (codes "FIVE", Fixed 2 5) ∷ []

abbrev session : List (List ℕ) → List ℕ
session lines = conversation (terms_of symbols no_source five) (extended_line symbols) (first_desk five [] []) lines

-- breakpoints are told, and taken away one by one; those that stay are numbered anew
breakpoints : session (codes "breaks" ∷ codes "break at FIVE" ∷ codes "break word 101 75" ∷ codes "break chan 10 12"
    ∷ codes "break chan 10 12 77" ∷ codes "break exec FIVE" ∷ codes "break change E3,1400" ∷ codes "break change CH10" ∷ codes "breaks"
    ∷ codes "clear 2" ∷ codes "clear 5" ∷ codes "clear 5" ∷ codes "clear 5" ∷ codes "clear 0" ∷ codes "breaks" ∷ codes "clear"
    ∷ codes "breaks" ∷ [])
    ≡ ended (codes "COUNT 0" ∷ codes "BREAK 1" ∷ codes "BREAK 2" ∷ codes "BREAK 3" ∷ codes "BREAK 4" ∷ codes "BREAK 5" ∷ codes "BREAK 6"
    ∷ codes "BREAK 7" ∷ codes "BREAK 1 at 02,4005" ∷ codes "BREAK 2 word E0,0101 00075" ∷ codes "BREAK 3 chan 010 00012"
    ∷ codes "BREAK 4 chan 010 00012 00077" ∷ codes "BREAK 5 exec 02,4005" ∷ codes "BREAK 6 change E3,1400"
    ∷ codes "BREAK 7 change CH010" ∷ codes "COUNT 7" ∷ codes "CLEAR 2" ∷ codes "CLEAR 5" ∷ codes "CLEAR 5" ∷ codes "NONE" ∷ codes "NONE"
    ∷ codes "BREAK 1 at 02,4005" ∷ codes "BREAK 2 chan 010 00012" ∷ codes "BREAK 3 chan 010 00012 00077" ∷ codes "BREAK 4 exec 02,4005"
    ∷ codes "COUNT 4" ∷ codes "CLEAR" ∷ codes "COUNT 0" ∷ [])
unfolding window extended_line extended_forms extended_reply usages forms runs parsed counters sequences answer reply digits
    octal_text place_text
breakpoints = refl

-- a program that asks tells where a reply ends, and `quit` ends here too
the_end : session (codes "sym FIV" ∷ codes "echo ." ∷ codes "mem FIV" ∷ codes "echo ." ∷ codes "quit" ∷ codes "echo ." ∷ [])
    ≡ ended (codes "E17 UNDEFINED" ∷ codes "." ∷ codes "E50 COMMAND no symbol FIV" ∷ codes "." ∷ [])
unfolding extended_line extended_forms extended_reply usages forms runs parsed counters sequences answer reply digits octal_text
the_end = refl

-- where so many steps were made, and one of them is looked at
abbrev at_step : ℕ → ℕ → List Breakpoint → Desk
at_step steps position breakpoints = record (first_desk five [] []) { steps = steps; position = position; breakpoints = breakpoints }

-- what `on` is told there
abbrev on : History → ℕ → ℕ → ℕ → List Breakpoint → List ℕ
on h k steps position breakpoints = (extended_reply (terms_of symbols no_source five) h (at_step steps position breakpoints) (On k)).text

-- over steps that stand, to the next at which a breakpoint holds, though one holds at the position too; and by so many at most
on_what_stands : on (history five) 5 8 0 (Place (linear.Fixed 2 2) ∷ []) ++ on (history five) 5 8 2 (Place (linear.Fixed 2 2) ∷ [])
    ++ on (history five) 4 8 2 (Place (linear.Fixed 2 2) ∷ [])
    ≡ ended (codes "HIT 1" ∷ codes "AT 2 4 02,4002" ∷ codes "HIT 1" ∷ codes "AT 7 12 02,4002" ∷ codes "AT 6 10 02,4001" ∷ [])
unfolding extended_reply grow lowest_hit at_line digits octal_text place channel_lines place_text window
on_what_stands = ap (λ h. on h 5 8 0 (Place (linear.Fixed 2 2) ∷ []) ++ on h 5 8 2 (Place (linear.Fixed 2 2) ∷ [])
    ++ on h 4 8 2 (Place (linear.Fixed 2 2) ∷ [])) history-five ∙ refl

-- and then over new steps, whose lines are written
on_new_steps : on (history five) 9 3 2 (Place (linear.Fixed 2 2) ∷ []) ++ on (history five) 9 3 1 (Channel 8 10 ∷ [])
    ++ on (history five) 2 3 2 [] ++ on (history five) 0 3 2 []
    ≡ ended (codes "7 CH 010 00012" ∷ codes "HIT 1" ∷ codes "AT 7 12 02,4002" ∷ codes "7 CH 010 00012" ∷ codes "HIT 1"
    ∷ codes "AT 4 7 02,4004" ∷ codes "7 CH 010 00012" ∷ codes "AT 4 7 02,4004" ∷ codes "AT 2 4 02,4002" ∷ [])
unfolding extended_reply grow lowest_hit at_line digits octal_text place channel_lines place_text window
on_new_steps = ap (λ h. on h 9 3 2 (Place (linear.Fixed 2 2) ∷ []) ++ on h 9 3 1 (Channel 8 10 ∷ []) ++ on h 2 3 2 [] ++ on h 0 3 2 [])
    history-five ∙ refl

-- where it is quiet the outputs of new steps are counted; those of steps that stand are not, and none is no line
abbrev hushed : History → ℕ → ℕ → ℕ → List Breakpoint → List ℕ
hushed h k steps position breakpoints =
    (extended_reply (terms_of symbols no_source five) h (record (at_step steps position breakpoints) { quiet = true }) (On k)).text

on_counted_steps : hushed (history five) 9 3 2 (Place (linear.Fixed 2 2) ∷ []) ++ hushed (history five) 5 8 0 (Place (linear.Fixed 2 4) ∷ [])
    ++ hushed (history five) 9 4 2 (Place (linear.Fixed 2 2) ∷ [])
    ≡ ended (codes "WORDS 1" ∷ codes "HIT 1" ∷ codes "AT 7 12 02,4002" ∷ codes "HIT 1" ∷ codes "AT 4 7 02,4004" ∷ codes "HIT 1"
    ∷ codes "AT 7 12 02,4002" ∷ [])
unfolding extended_reply grow lowest_hit at_line digits octal_text place channel_lines place_text window
on_counted_steps = ap (λ h. hushed h 9 3 2 (Place (linear.Fixed 2 2) ∷ []) ++ hushed h 5 8 0 (Place (linear.Fixed 2 4) ∷ [])
    ++ hushed h 9 4 2 (Place (linear.Fixed 2 2) ∷ [])) history-five ∙ refl

words_counted : words_line 0 ++ words_line 12 ≡ codes "WORDS 12\n"
unfolding digits
words_counted = refl

told_quiet : session (codes "quiet on" ∷ codes "quiet off" ∷ []) ≡ ended (codes "QUIET on" ∷ codes "QUIET off" ∷ [])
unfolding extended_line extended_forms extended_reply usages forms runs parsed counters sequences answer reply digits octal_text
told_quiet = refl

-- some bits of a channel
on_some_bits : on (history five) 9 3 1 (Bits 8 0o102 7 ∷ []) ++ on (history five) 9 8 0 (Bits 8 0o102 0o17 ∷ Bits 8 0o77777 2 ∷ [])
    ≡ ended (codes "7 CH 010 00012" ∷ codes "HIT 1" ∷ codes "AT 4 7 02,4004" ∷ codes "HIT 2" ∷ codes "AT 4 7 02,4004" ∷ [])
unfolding extended_reply grow lowest_hit at_line digits octal_text place channel_lines place_text window and_sum
on_some_bits = ap (λ h. on h 9 3 1 (Bits 8 0o102 7 ∷ []) ++ on h 9 8 0 (Bits 8 0o102 0o17 ∷ Bits 8 0o77777 2 ∷ [])) history-five ∙ refl

-- the instruction at a place was executed by the step that led there; no step has led to the start
on_executed : on (history five) 9 8 0 (Executed (linear.Fixed 2 2) ∷ []) ++ on (history five) 9 8 3 (Executed (linear.Fixed 2 2) ∷ [])
    ++ on (history five) 9 3 2 (Place (linear.Fixed 2 4) ∷ Executed (linear.Fixed 2 3) ∷ [])
    ++ on (history five) 4 8 0 (Executed (linear.Fixed 2 0) ∷ [])
    ≡ ended (codes "HIT 1" ∷ codes "AT 3 5 02,4003" ∷ codes "HIT 1" ∷ codes "AT 8 13 02,4003" ∷ codes "7 CH 010 00012" ∷ codes "HIT 1"
    ∷ codes "AT 4 7 02,4004" ∷ codes "HIT 1" ∷ codes "AT 1 2 02,4001" ∷ [])
unfolding extended_reply grow lowest_hit at_line digits octal_text place channel_lines place_text window due
on_executed = ap (λ h. on h 9 8 0 (Executed (linear.Fixed 2 2) ∷ []) ++ on h 9 8 3 (Executed (linear.Fixed 2 2) ∷ [])
    ++ on h 9 3 2 (Place (linear.Fixed 2 4) ∷ Executed (linear.Fixed 2 3) ∷ []) ++ on h 4 8 0 (Executed (linear.Fixed 2 0) ∷ []))
    history-five ∙ refl

-- the word was changed by the step that led there: A is 5 after steps 1 and 6, and 10 after 2 and 7; channel 10 has it from step 4
-- on; L stays, though A and Z change
on_changed : on (history five) 9 8 0 (Changed (subject.Place 0) ∷ []) ++ on (history five) 9 8 2 (Changed (subject.Place 0) ∷ [])
    ++ on (history five) 9 8 0 (Changed (subject.Place 1) ∷ Changed (subject.Channel 8) ∷ [])
    ++ on (history five) 4 8 4 (Changed (subject.Channel 8) ∷ []) ++ on (history five) 8 8 0 (Changed (subject.Place 1) ∷ [])
    ≡ ended (codes "HIT 1" ∷ codes "AT 1 2 02,4001" ∷ codes "HIT 1" ∷ codes "AT 6 10 02,4001" ∷ codes "HIT 2" ∷ codes "AT 4 7 02,4004"
    ∷ codes "AT 8 13 02,4003" ∷ codes "AT 8 13 02,4003" ∷ [])
unfolding extended_reply grow lowest_hit at_line digits octal_text place channel_lines place_text window due
on_changed =
    ap (λ h. on h 9 8 0 (Changed (subject.Place 0) ∷ []) ++ on h 9 8 2 (Changed (subject.Place 0) ∷ [])
    ++ on h 9 8 0 (Changed (subject.Place 1) ∷ Changed (subject.Channel 8) ∷ []) ++ on h 4 8 4 (Changed (subject.Channel 8) ∷ [])
    ++ on h 8 8 0 (Changed (subject.Place 1) ∷ [])) history-five ∙ refl

-- over new steps, and back, where none has led to the start
abbrev sought_change : History → ℕ → List ℕ
sought_change h position = (extended_reply (terms_of symbols no_source five) h (at_step 8 position (Changed (subject.Place 5) ∷ []))
    (Common Seek)).text

changed_on_new_steps : on (history five) 9 3 2 (Changed (subject.Channel 8) ∷ []) ++ sought_change (history five) 2
    ++ sought_change (history five) 1
    ≡ ended (codes "7 CH 010 00012" ∷ codes "HIT 1" ∷ codes "AT 4 7 02,4004" ∷ codes "HIT 1" ∷ codes "AT 1 2 02,4001" ∷ codes "NONE" ∷ [])
unfolding extended_reply reply grow lowest_hit at_line digits octal_text place channel_lines place_text window due
changed_on_new_steps = ap (λ h. on h 9 3 2 (Changed (subject.Channel 8) ∷ []) ++ sought_change h 2 ++ sought_change h 1) history-five ∙ refl

-- the commands of any session tell the bank too, and other words as ever
abbrev common : History → Command → List ℕ
common h command = (extended_reply (terms_of symbols no_source five) h (at_step 8 2 (Place (linear.Fixed 2 1) ∷ [])) (Common command)).text

commons : common (history five) (Goto 3) ++ common (history five) (Back 1) ++ common (history five) Seek ++ common (history five) (Goto 9)
    ++ common (history five) (Memory (linear.Fixed 2 5))
    ≡ ended (codes "AT 3 5 02,4003" ∷ codes "AT 1 2 02,4001" ∷ codes "HIT 1" ∷ codes "AT 1 2 02,4001" ∷ codes "E41 NOT YET"
    ∷ codes "MEM 00005" ∷ [])
unfolding extended_reply reply grow lowest_hit at_line digits octal_text place channel_lines place_text window
commons = ap (λ h. common h (Goto 3) ++ common h (Back 1) ++ common h Seek ++ common h (Goto 9) ++ common h (Memory (linear.Fixed 2 5)))
    history-five ∙ refl

-- all registers where INDEX has left a sum, two interrupts are asked for, and one is served
abbrev cells : List (ℕ × ℕ)
cells = (0, 0o177715) ∷ (1, 5) ∷ (3, 3) ∷ (4, 0o12) ∷ (5, 0o4107) ∷ []

abbrev indexed : State
indexed =
    record (state (record {
      cells = cells;
      extra = true;
      requests = set.insert (set.insert set.empty 10) 3;
      taken = 0;
      counts = [];
      cycles
          = 28;
    })) {
      inhibit = false;
      inside = true;
      waiting_sum = Some 0o177774;
    }

all_seven : register_lines indexed.cells ≡ ended
    (codes "A 177715" ∷ codes "L 00005" ∷ codes "Q 000000" ∷ codes "Z 4107" ∷ codes "EB 3" ∷ codes "FB 12" ∷ codes "BB 24003" ∷ [])
unfolding octal_text
all_seven =
    rw (
      get-holding cells accumulator,
      get-holding cells lower_accumulator,
      get-holding cells return_address,
      get-holding cells
          program_counter,
      get-holding cells both_banks,
      at-holding cells erasable_bank,
      at-holding cells fixed_bank,
    ) refl

flags : flag_lines indexed ≡ ended (codes "SUP 0" ∷ codes "EXT 1" ∷ codes "INH 0" ∷ codes "INT 1" ∷ [])
flags = rw (superbank-holding cells) refl

is_asked : (k : ℕ) → set.contains indexed.requests k ≡ (eq_by_cmp nat_cmp k 3 || (eq_by_cmp nat_cmp k 10 || false))
is_asked k =
    set.contains-insert nat_cmp_total (set.insert set.empty 10) 3 k
    ∙ ap (λ b. eq_by_cmp nat_cmp k 3 || b) (set.contains-insert nat_cmp_total set.empty 10 k
    ∙ ap (λ b. eq_by_cmp nat_cmp k 10 || b) (set.contains-empty nat_cmp k))

asks : requested indexed ≡ 3 ∷ 10 ∷ []
unfolding requested
asks = rw (is_asked 1, is_asked 2, is_asked 3, is_asked 4, is_asked 5, is_asked 6, is_asked 7, is_asked 8, is_asked 9, is_asked 10) refl

asked : or_none (numbers_text (3 ∷ 10 ∷ [])) ++ or_none (numbers_text []) ≡ codes " 3 10 NONE"
unfolding digits
asked = refl

waiting : sum_line indexed ++ word_line indexed ≡ ended (codes "SUM 177774" ∷ codes "WORD NONE" ∷ [])
unfolding octal_text
waiting = refl

-- what `until` is told where so many steps were made
abbrev until : History → ℕ → ℕ → List ℕ
until h cycles steps = (extended_reply (terms_of symbols no_source five) h (at_step steps 1 []) (Until cycles)).text

-- to the first step with so many cycles, back or on, over steps that stand
until_what_stands : until (history five) 0 8 ++ until (history five) 1 8 ++ until (history five) 5 8 ++ until (history five) 6 8
    ++ until (history five) 13 8
    ≡ ended (codes "AT 0 0 02,4000" ∷ codes "AT 1 2 02,4001" ∷ codes "AT 3 5 02,4003" ∷ codes "AT 4 7 02,4004" ∷ codes "AT 8 13 02,4003"
    ∷ [])
unfolding extended_reply grow lowest_hit at_line digits octal_text place channel_lines place_text window
until_what_stands = ap (λ h. until h 0 8 ++ until h 1 8 ++ until h 5 8 ++ until h 6 8 ++ until h 13 8) history-five ∙ refl

-- new steps end after the first with so many cycles
until_new_steps : (grow (history five) (Cycles 6 ∷ []) 5 3 []).text ++ decimal (grow (history five) (Cycles 6 ∷ []) 5 3 []).steps
    ++ decimal (grow (history five) (Cycles 11 ∷ []) 5 5 []).steps ≡ codes "7 CH 010 00012\n47"
unfolding grow lowest_hit digits octal_text channel_lines
until_new_steps = ap (λ h. (grow h (Cycles 6 ∷ []) 5 3 []).text ++ decimal (grow h (Cycles 6 ∷ []) 5 3 []).steps
    ++ decimal (grow h (Cycles 11 ∷ []) 5 5 []).steps) history-five ∙ refl

-- the nearest symbol at a place or before it in its bank, the first of two; a number is at no place
abbrev table : SymbolTable
table =
    (codes "FIVE", Fixed 2 5) ∷ (codes "SIX", Fixed 2 6) ∷ (codes "ALSO", Fixed 2 5) ∷ (codes "SUM", Erasable 0o101)
    ∷ (codes "LOW", Num 0o4007) ∷ []

near : nearest_text (nearest_name table (linear.Fixed 2 4)) ++ nearest_text (nearest_name table (linear.Fixed 2 5))
    ++ nearest_text (nearest_name table (linear.Fixed 2 0o20)) ++ nearest_text (nearest_name table (linear.Fixed 3 6))
    ++ nearest_text (nearest_name table (linear.Erasable 0o103))
    ≡ codes " FIVE SIX +12 SUM +2"
unfolding symbol_at octal_text
near = refl

-- the symbols whose names begin so
found : found_text table (codes "S") ++ found_text table (codes "FIVE") ++ found_text table (codes "FIVES")
    ≡ ended (codes "FIND SIX FIXED 02,0006" ∷ codes "FIND SUM ERASABLE 0101" ∷ codes "COUNT 2" ∷ codes "FIND FIVE FIXED 02,0005"
    ∷ codes "COUNT 1" ∷ codes "COUNT 0" ∷ [])
unfolding found_text octal_text digits
found = refl

-- words one after another, up to the last of a bank
abbrev words : History → Linear → ℕ → List ℕ
words h place k = words_text h (h.after 0) place k

words_there : words (history five) (linear.Fixed 2 3) 3 ++ words (history five) (linear.Fixed 2 0o1776) 9
    ++ words (history five) (linear.Erasable 0o3777) 2 ++ words (history five) (linear.Erasable 0) 0
    ≡ ended (codes "MEM 02,4003 01010" ∷ codes "MEM 02,4004 14000" ∷ codes "MEM 02,4005 00005" ∷ codes "MEM 02,5776 00000"
    ∷ codes "MEM 02,5777 00000" ∷ codes "MEM E7,1777 00000" ∷ [])
unfolding words_text place_text window octal_text
words_there =
    ap (λ h. words h (linear.Fixed 2 3) 3 ++ words h (linear.Fixed 2 0o1776) 9 ++ words h (linear.Erasable 0o3777) 2
    ++ words h (linear.Erasable 0) 0) history-five ∙ refl

-- the next instruction, by the symbol before its place, or as the word that waits
by_place : place_line symbols (linear.Fixed 2 6) ≡ codes "WHERE 02,4006 FIVE +1\n"
unfolding place_text window octal_text symbol_at
by_place = refl

by_word : where_line symbols (rope five_words) (record indexed { extra = false; waiting_sum = None; waiting_word = Some 4 })
    ≡ codes "WHERE BRUPT 00004 INHINT\n"
unfolding instruction_word code_of basic_rows instruction_text octal_text
by_word = refl

-- the row of a word is the line that it has with names: an instruction by the symbol of its place, an extracode where one is in
-- force, and of erasable memory the word alone
instruction_is : (memory : Words) (bank offset word : ℕ) (extra : Bool) (text : List ℕ) → extracode_at memory bank offset ≡ extra
    → word_at memory bank offset ≡ word
    → named_text symbols bank (code_of extra word) (address_of (code_of extra word)) ≡ text
    → named_instruction symbols memory bank offset ≡ text
unfolding named_instruction
instruction_is memory bank offset word extra text in_force is told =
    ap (λ code. named_text symbols bank code (address_of code))
    (ap (λ x. code_of x (word_at memory bank offset)) in_force ∙ ap (code_of extra) is) ∙ told

ca_five : named_text symbols 2 (code_of false 0o34005) (address_of (code_of false 0o34005)) ≡ codes "CA FIVE"
unfolding place_told symbol_at octal_text instruction_text basic_rows code_of
ca_five = refl

write_10 : named_text symbols 2 (code_of true 0o01010) (address_of (code_of true 0o01010)) ≡ codes "WRITE 010"
unfolding place_told symbol_at octal_text instruction_text extracode_rows code_of
write_10 = refl

row_by_symbol : (memory : Words) (seen : Sight) → extracode_at memory 2 0 ≡ false → word_at memory 2 0 ≡ 0o34005
    → plain_row symbols memory seen (linear.Fixed 2 0) ≡ codes "LIST 02,4000 34005 CA FIVE\n"
unfolding named_line octal_text place_text window
row_by_symbol memory seen extra first = rw (instruction_is memory 2 0 0o34005 false (codes "CA FIVE") extra first ca_five, first) refl

row_of_extracode : (memory : Words) (seen : Sight) → extracode_at memory 2 3 ≡ true → word_at memory 2 3 ≡ 0o01010
    → plain_row symbols memory seen (linear.Fixed 2 3) ≡ codes "LIST 02,4003 01010 WRITE 010\n"
unfolding named_line octal_text place_text window
row_of_extracode memory seen extra fourth = rw (instruction_is memory 2 3 0o01010 true (codes "WRITE 010") extra fourth write_10, fourth)
    refl

abbrev row : History → Linear → List ℕ
row h place = row_text Instruction symbols no_source (rope five_words) h (h.after 7) place

erasable_row : row (history five) (linear.Erasable 5) ++ row (history five) (linear.Erasable 0o1400)
    ≡ ended (codes "LIST E0,0005 04002" ∷ codes "LIST E3,1400 00000" ∷ [])
unfolding lines place_text window octal_text
erasable_row = ap (λ h. row h (linear.Erasable 5) ++ row h (linear.Erasable 0o1400)) history-five ∙ refl

-- with a source the row of the listing: of fixed memory its word; of erasable memory the word that stands there at the position
abbrev source : Source
source = record { language = Standard; text = codes " SETLOC 4000\n CA FIVE\n AD FIVE\n SETLOC 5\nZREG ERASE +1\n" }

row_of_ad : (memory : Words) (h : History) (seen : Sight) → word_at memory 2 1 ≡ 0o64005
    → list_row symbols source memory h seen (linear.Fixed 2 1) ≡ codes "LIST     3 02,4001 64005   AD FIVE\n"
unfolding runs operators operator_rows statement_of line_effect lines number_column word_columns place_text window octal_text digits
row_of_ad memory h seen second = rw second refl

abbrev sourced : History → ℕ → Linear → List ℕ
sourced h t place = row_text Instruction symbols source (rope five_words) h (h.after t) place

sourced_rows : sourced (history five) 7 (linear.Erasable 5) ++ sourced (history five) 0 (linear.Erasable 5)
    ++ sourced (history five) 7 (linear.Erasable 6)
    ≡ ended (codes "LIST     5 E0,0005 04002  ZREG ERASE +1" ∷ codes "LIST     5 E0,0005 04000  ZREG ERASE +1" ∷ codes "LIST E0,0006 00000"
    ∷ [])
unfolding runs operators operator_rows statement_of line_effect lines number_column place_text window octal_text digits
sourced_rows = ap (λ h. sourced h 7 (linear.Erasable 5) ++ sourced h 0 (linear.Erasable 5) ++ sourced h 7 (linear.Erasable 6)) history-five
    ∙ refl

-- words as numbers: both zeros, one and minus one, the greatest and the least, and a half
numbers : ended (numbers_row 0 ∷ numbers_row 0o77777 ∷ numbers_row 1 ∷ numbers_row 0o77776 ∷ numbers_row 0o37777 ∷ numbers_row 0o40000
    ∷ numbers_row 0o20000 ∷ [])
    ≡ ended (codes "00000 0 0.00000000000000 000000000000000" ∷ codes "77777 -0 -0.00000000000000 111111111111111"
    ∷ codes "00001 1 0.00006103515625 000000000000001" ∷ codes "77776 -1 -0.00006103515625 111111111111110"
    ∷ codes "37777 16383 0.99993896484375 011111111111111" ∷ codes "40000 -16383 -0.99993896484375 100000000000000"
    ∷ codes "20000 8192 0.50000000000000 010000000000000" ∷ [])
unfolding based_text octal_text digits
numbers = refl

-- so many from a place on, up to the last of its bank
abbrev values : History → Linear → ℕ → List ℕ
values h place k = rows_text Number symbols no_source (rope five_words) h (h.after 7) place k

values_there : values (history five) (linear.Fixed 2 3) 2 ++ values (history five) (linear.Fixed 2 0o1777) 9
    ++ values (history five) (linear.Erasable 0) 1 ++ values (history five) (linear.Erasable 0) 0
    ≡ ended (codes "VALUE 02,4003 01010 520 0.03173828125000 000001000001000"
    ∷ codes "VALUE 02,4004 14000 6144 0.37500000000000 001100000000000" ∷ codes "VALUE 02,5777 00000 0 0.00000000000000 000000000000000"
    ∷ codes "VALUE E0,0000 00012 10 0.00061035156250 000000000001010" ∷ [])
unfolding rows_text based_text place_text window octal_text digits
values_there = ap (λ h. values h (linear.Fixed 2 3) 2 ++ values h (linear.Fixed 2 0o1777) 9 ++ values h (linear.Erasable 0) 1
    ++ values h (linear.Erasable 0) 0) history-five ∙ refl

-- the channels whose words are not zero, the first and the last too; and those whose words differ
abbrev word_on : ℕ → ℕ
word_on c = if c == 0 then 1 else if c == 0o12 then 0o75 else if c == 0o777 then 0o40000 else 0

abbrev other_on : ℕ → ℕ
other_on c = if c == 0o12 then 0o75 else if c == 0o13 then 1 else 0

channels_told : channels_set word_on ++ channels_set (λ c. 0) ++ channels_changed word_on other_on ++ channels_changed other_on other_on
    ≡ 0 ∷ 0o12 ∷ 0o777 ∷ 0 ∷ 0o13 ∷ 0o777 ∷ []
channels_told = refl

-- the line of each register is that of `regs all`, in the order of places, and other places are told with their banks
lines_of_places : erasable_line indexed.cells 0 ++ erasable_line indexed.cells 1 ++ erasable_line indexed.cells 2
    ++ erasable_line indexed.cells 3 ++ erasable_line indexed.cells 4 ++ erasable_line indexed.cells 5 ++ erasable_line indexed.cells 6
    ≡ ended (codes "A 177715" ∷ codes "L 00005" ∷ codes "Q 000000" ∷ codes "EB 3" ∷ codes "FB 12" ∷ codes "Z 4107" ∷ codes "BB 24003" ∷ [])
unfolding octal_text
lines_of_places =
    rw (
      get-holding cells accumulator,
      get-holding cells lower_accumulator,
      get-holding cells return_address,
      at-holding cells
          erasable_bank,
      at-holding cells fixed_bank,
      get-holding cells program_counter,
      get-holding cells both_banks,
    ) refl

line_of_memory : (c : Cells) → get c 0o1402 ≡ 0o177776 → erasable_line c 0o1402 ≡ codes "MEM E3,1402 77776\n"
unfolding octal_text place_text window
line_of_memory c is = rw is refl

line_of_channel : (c : Cells) → channel_word c 0o12 ≡ 0o75 → channel_line c 0o12 ≡ codes "CHAN 012 00075\n"
unfolding octal_text
line_of_channel c is = rw is refl

-- since which step notes count beside an input at step 5: since there, or an earlier step
notes_since : noted_from None 5 ∷ noted_from (Some 3) 5 ∷ noted_from (Some 9) 5 ∷ [] ≡ 5 ∷ 3 ∷ 5 ∷ []
notes_since = refl
