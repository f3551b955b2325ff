-- Sessions over a small program, replied by the definitions alone.
use Rattle.std.proofs.Common.{◌≡◌, Bool, true, false, ℕ, List, [], ◌∷◌, ◌++◌, Option, None, map, ap, refl}
use Rattle.std.specs.Prelude.{codes, replicate}
use Rattle.std.specs.Fmt.{digits}
use Rattle.std.specs.List.{range_with_len}
use Rattle.agc_text.specs.Fields.{runs}
use Rattle.agc_text.specs.Lines.{lines}
use Rattle.words.specs.Numerals.{octal_text}
use Rattle.feed.specs.Names.{counters, sequences}
use Rattle.feed.specs.Statements.{parsed}
use Rattle.space.specs.Places.{place}
use Rattle.cpu.specs.Codes.{code_of, basic_rows, extracode_rows}
use Rattle.cpu.specs.Texts.{instruction_text}
use Rattle.cpu.specs.declared.output.Output.{Output}
use Rattle.cpu.proofs.FiveRun.{five, five_words, after_0, moves, start-held, goes}
use Rattle.symbols.specs.declared.values.Value.TheVariants.{Fixed}
use Rattle.symbols.specs.Values.{SymbolTable}
use Rattle.commands.specs.Commands.{parsed_line, forms}
use Rattle.commands.specs.declared.command.Command.TheVariants.{Run, Tail}
use Rattle.commands.specs.declared.command.ParsedLine.TheVariants.{Known}
use Rattle.cpu.specs.ChannelLines.{channel_lines}
use Rattle.debugger.specs.History.{History, history}
use Rattle.debugger.specs.Growth.{grow, lowest_hit}
use Rattle.debugger.specs.Replies.{Desk, Reply, stands, says, refuses, line, answer, reply, at_line, registers_line, next_line}
use Rattle.debugger.specs.Replies.{places_changed}
use Rattle.debugger.specs.Transcript.{transcript, line_reply, first_desk, command_lines}
use Rattle.debugger.proofs.ListedHistories.{listed, history-listed}
use Rattle.debugger.proofs.Scripts.{ended, adds_none, replies_over, same-replies}

abbrev symbols : SymbolTable
symbols = (codes "FIVE", Fixed 2 5) ∷ []

-- the run, of which the first steps are listed
abbrev pub five_listed : History
five_listed = listed five_words [] after_0 moves

pub history-five : history five ≡ five_listed
history-five = history-listed five_words [] after_0 moves start-held goes

-- what a script is replied, where calls that make steps are answered so
abbrev session_with : List Bool → List ℕ → List ℕ
session_with answers commands = transcript symbols (first_desk five answers []) commands

-- what it is replied where none is refused
abbrev session : List ℕ → List ℕ
session commands = session_with [] commands

by_listing : (answers : List Bool) (commands : List ℕ) → adds_none symbols (command_lines commands) ≡ true
    → session_with answers commands ≡ replies_over five_listed symbols (first_desk five answers []) (command_lines commands)
unfolding transcript
by_listing answers commands n = same-replies symbols five_listed (first_desk five answers []) (command_lines commands) history-five n

-- forward, back, and to a breakpoint that was passed
back_and_forth : session (ended (codes "run 7" ∷ codes "goto 6" ∷ codes "goto 3" ∷ codes "goto 0" ∷ codes "step 2" ∷ codes "break at 4001"
    ∷ codes "seek" ∷ codes "goto 8" ∷ []))
    ≡ ended (codes "7 CH 010 00012" ∷ codes "AT 7 12 4002" ∷ codes "AT 6 10 4001" ∷ codes "AT 3 5 4003" ∷ codes "AT 0 0 4000"
    ∷ codes "AT 2 4 4002" ∷ codes "BREAK 1" ∷ codes "HIT 1" ∷ codes "AT 1 2 4001" ∷ codes "E41 NOT YET" ∷ [])
unfolding parsed_line forms runs command_lines lines answer reply grow lowest_hit at_line digits octal_text place parsed counters sequences
    registers_line next_line places_changed code_of basic_rows extracode_rows instruction_text channel_lines
back_and_forth = by_listing [] (ended (codes "run 7" ∷ codes "goto 6" ∷ codes "goto 3" ∷ codes "goto 0" ∷ codes "step 2"
    ∷ codes "break at 4001" ∷ codes "seek" ∷ codes "goto 8" ∷ [])) refl

-- most commands in turn
each_command : session (ended (codes "break at 4002" ∷ codes "run 20" ∷ codes "run 20" ∷ codes "seek" ∷ codes "seek" ∷ codes "back 5"
    ∷ codes "tail" ∷ codes "run 1" ∷ codes "sym FIVE" ∷ codes "mem FIVE" ∷ codes "chan 10" ∷ codes "last 0" ∷ codes "goto 9"
    ∷ codes "break word FIVE 5" ∷ []))
    ≡ ended (codes "BREAK 1" ∷ codes "HIT 1" ∷ codes "AT 2 4 4002" ∷ codes "7 CH 010 00012" ∷ codes "HIT 1" ∷ codes "AT 7 12 4002"
    ∷ codes "HIT 1" ∷ codes "AT 2 4 4002" ∷ codes "NONE" ∷ codes "AT 0 0 4000" ∷ codes "7 CH 010 00012" ∷ codes "TAIL 1"
    ∷ codes "AT 8 13 4003" ∷ codes "SYM FIXED 02,0005" ∷ codes "MEM 00005" ∷ codes "CHAN 00012" ∷ codes "LAST 7" ∷ codes "E41 NOT YET"
    ∷ codes "E50 COMMAND" ∷ [])
unfolding parsed_line forms runs command_lines lines answer reply grow lowest_hit at_line digits octal_text place parsed counters sequences
    registers_line next_line places_changed code_of basic_rows extracode_rows instruction_text channel_lines
each_command = by_listing [] (ended (codes "break at 4002" ∷ codes "run 20" ∷ codes "run 20" ∷ codes "seek" ∷ codes "seek" ∷ codes "back 5"
    ∷ codes "tail" ∷ codes "run 1" ∷ codes "sym FIVE" ∷ codes "mem FIVE" ∷ codes "chan 10" ∷ codes "last 0" ∷ codes "goto 9"
    ∷ codes "break word FIVE 5" ∷ [])) refl

-- sixteen breakpoints and one more
many_breakpoints : session (ended (codes "break at 4002" ∷ codes "break at 4002" ∷ codes "break at 4002" ∷ codes "break at 4002"
    ∷ codes "break at 4002" ∷ codes "break at 4002" ∷ codes "break at 4002" ∷ codes "break at 4002" ∷ codes "break at 4002"
    ∷ codes "break at 4002" ∷ codes "break at 4002" ∷ codes "break at 4002" ∷ codes "break at 4002" ∷ codes "break at 4002"
    ∷ codes "break at 4002" ∷ codes "break at 4002" ∷ codes "break at 4002" ∷ []))
    ≡ ended (codes "BREAK 1" ∷ codes "BREAK 2" ∷ codes "BREAK 3" ∷ codes "BREAK 4" ∷ codes "BREAK 5" ∷ codes "BREAK 6" ∷ codes "BREAK 7"
    ∷ codes "BREAK 8" ∷ codes "BREAK 9" ∷ codes "BREAK 10" ∷ codes "BREAK 11" ∷ codes "BREAK 12" ∷ codes "BREAK 13" ∷ codes "BREAK 14"
    ∷ codes "BREAK 15" ∷ codes "BREAK 16" ∷ codes "E52 FULL" ∷ [])
unfolding parsed_line forms runs command_lines lines answer reply grow lowest_hit at_line digits octal_text place parsed counters sequences
    registers_line next_line places_changed code_of basic_rows extracode_rows instruction_text channel_lines
many_breakpoints = by_listing [] (ended (codes "break at 4002" ∷ codes "break at 4002" ∷ codes "break at 4002" ∷ codes "break at 4002"
    ∷ codes "break at 4002" ∷ codes "break at 4002" ∷ codes "break at 4002" ∷ codes "break at 4002" ∷ codes "break at 4002"
    ∷ codes "break at 4002" ∷ codes "break at 4002" ∷ codes "break at 4002" ∷ codes "break at 4002" ∷ codes "break at 4002"
    ∷ codes "break at 4002" ∷ codes "break at 4002" ∷ codes "break at 4002" ∷ [])) refl

-- a wrong form is told before the breakpoints are full
many_breakpoints_and_a_wrong_one : session (ended
    (codes "break at 4002" ∷ codes "break at 4002" ∷ codes "break at 4002" ∷ codes "break at 4002" ∷ codes "break at 4002"
    ∷ codes "break at 4002" ∷ codes "break at 4002" ∷ codes "break at 4002" ∷ codes "break at 4002" ∷ codes "break at 4002"
    ∷ codes "break at 4002" ∷ codes "break at 4002" ∷ codes "break at 4002" ∷ codes "break at 4002" ∷ codes "break at 4002"
    ∷ codes "break at 4002" ∷ codes "break at" ∷ codes "break word FIVE 5" ∷ codes "clear" ∷ codes "break at 4002" ∷ []))
    ≡ ended (codes "BREAK 1" ∷ codes "BREAK 2" ∷ codes "BREAK 3" ∷ codes "BREAK 4" ∷ codes "BREAK 5" ∷ codes "BREAK 6" ∷ codes "BREAK 7"
    ∷ codes "BREAK 8" ∷ codes "BREAK 9" ∷ codes "BREAK 10" ∷ codes "BREAK 11" ∷ codes "BREAK 12" ∷ codes "BREAK 13" ∷ codes "BREAK 14"
    ∷ codes "BREAK 15" ∷ codes "BREAK 16" ∷ codes "E50 COMMAND" ∷ codes "E50 COMMAND" ∷ codes "CLEAR" ∷ codes "BREAK 1" ∷ [])
unfolding parsed_line forms runs command_lines lines answer reply grow lowest_hit at_line digits octal_text place parsed counters sequences
    registers_line next_line places_changed code_of basic_rows extracode_rows instruction_text channel_lines
many_breakpoints_and_a_wrong_one = by_listing []
    (ended (codes "break at 4002" ∷ codes "break at 4002" ∷ codes "break at 4002" ∷ codes "break at 4002" ∷ codes "break at 4002"
    ∷ codes "break at 4002" ∷ codes "break at 4002" ∷ codes "break at 4002" ∷ codes "break at 4002" ∷ codes "break at 4002"
    ∷ codes "break at 4002" ∷ codes "break at 4002" ∷ codes "break at 4002" ∷ codes "break at 4002" ∷ codes "break at 4002"
    ∷ codes "break at 4002" ∷ codes "break at" ∷ codes "break word FIVE 5" ∷ codes "clear" ∷ codes "break at 4002" ∷ [])) refl

-- lines of 81 bytes, blank or a comment, and of 80
long_lines : session (ended ((replicate 81 32) ∷ (replicate 80 32) ∷ (codes "step 1 #" ++ replicate 73 120)
    ∷ (codes "step 1 #" ++ replicate 72 120) ∷ []))
    ≡ ended (codes "E51 LONG" ∷ codes "E51 LONG" ∷ codes "AT 1 2 4001" ∷ [])
unfolding parsed_line forms runs command_lines lines answer reply grow lowest_hit at_line digits octal_text place parsed counters sequences
    registers_line next_line places_changed code_of basic_rows extracode_rows instruction_text channel_lines
long_lines = by_listing [] (ended ((replicate 81 32) ∷ (replicate 80 32) ∷ (codes "step 1 #" ++ replicate 73 120)
    ∷ (codes "step 1 #" ++ replicate 72 120) ∷ [])) refl

-- `quit` alone ends
the_end : session (ended (codes "step 1" ∷ codes "quit 5" ∷ codes "quit" ∷ codes "step 1" ∷ []))
    ≡ ended (codes "AT 1 2 4001" ∷ codes "E50 COMMAND" ∷ [])
unfolding parsed_line forms runs command_lines lines answer reply grow lowest_hit at_line digits octal_text place parsed counters sequences
    registers_line next_line places_changed code_of basic_rows extracode_rows instruction_text channel_lines
the_end = by_listing [] (ended (codes "step 1" ∷ codes "quit 5" ∷ codes "quit" ∷ codes "step 1" ∷ [])) refl

-- the registers and what changed
registers_and_changes : session (ended (codes "run 7" ∷ codes "regs" ∷ codes "changed 0" ∷ []))
    ≡ ended (codes "7 CH 010 00012" ∷ codes "AT 7 12 4002" ∷ codes "A 000012 L 00000 Q 000000 Z 4002 EB 0 FB 00 SUP 0 EXT 0 INH 1 INT 0"
    ∷ codes "NEXT 00006 EXTEND" ∷ codes "0000" ∷ codes "0005" ∷ codes "COUNT 2" ∷ [])
unfolding parsed_line forms runs command_lines lines answer reply grow lowest_hit at_line digits octal_text place parsed counters sequences
    registers_line next_line places_changed code_of basic_rows extracode_rows instruction_text channel_lines
registers_and_changes = by_listing [] (ended (codes "run 7" ∷ codes "regs" ∷ codes "changed 0" ∷ [])) refl

-- places by numbers, banks and offsets
places : session (ended (codes "mem 2,5" ∷ codes "mem 02,0005" ∷ codes "mem 4005" ∷ codes "mem 0" ∷ codes "mem 10000" ∷ codes "mem 2,2000"
    ∷ codes "mem 47,1777" ∷ codes "mem 50,0" ∷ codes "mem 2000" ∷ codes "mem 8" ∷ codes "mem 000005" ∷ codes "mem 5D" ∷ codes "mem" ∷ []))
    ≡ ended (codes "MEM 00005" ∷ codes "MEM 00005" ∷ codes "MEM 00005" ∷ codes "MEM 00000" ∷ codes "E50 COMMAND" ∷ codes "E50 COMMAND"
    ∷ codes "MEM 00000" ∷ codes "E50 COMMAND" ∷ codes "MEM 00000" ∷ codes "E50 COMMAND" ∷ codes "E50 COMMAND" ∷ codes "E50 COMMAND"
    ∷ codes "E50 COMMAND" ∷ [])
unfolding parsed_line forms runs command_lines lines answer reply grow lowest_hit at_line digits octal_text place parsed counters sequences
    registers_line next_line places_changed code_of basic_rows extracode_rows instruction_text channel_lines
places = by_listing [] (ended (codes "mem 2,5" ∷ codes "mem 02,0005" ∷ codes "mem 4005" ∷ codes "mem 0" ∷ codes "mem 10000"
    ∷ codes "mem 2,2000" ∷ codes "mem 47,1777" ∷ codes "mem 50,0" ∷ codes "mem 2000" ∷ codes "mem 8" ∷ codes "mem 000005" ∷ codes "mem 5D"
    ∷ codes "mem" ∷ [])) refl

-- numbers of steps
counts : session (ended (codes "step" ∷ codes "step 1 2" ∷ codes "step 000000000000001" ∷ codes "step 0000000000000001" ∷ codes "step +1"
    ∷ codes "step 1D" ∷ codes "STEP 1" ∷ codes "back 5" ∷ codes "goto 1" ∷ codes "changed 2" ∷ []))
    ≡ ended (codes "E50 COMMAND" ∷ codes "E50 COMMAND" ∷ codes "AT 1 2 4001" ∷ codes "E50 COMMAND" ∷ codes "E50 COMMAND"
    ∷ codes "E50 COMMAND" ∷ codes "E50 COMMAND" ∷ codes "AT 0 0 4000" ∷ codes "AT 1 2 4001" ∷ codes "E41 NOT YET" ∷ [])
unfolding parsed_line forms runs command_lines lines answer reply grow lowest_hit at_line digits octal_text place parsed counters sequences
    registers_line next_line places_changed code_of basic_rows extracode_rows instruction_text channel_lines
counts = by_listing [] (ended (codes "step" ∷ codes "step 1 2" ∷ codes "step 000000000000001" ∷ codes "step 0000000000000001"
    ∷ codes "step +1" ∷ codes "step 1D" ∷ codes "STEP 1" ∷ codes "back 5" ∷ codes "goto 1" ∷ codes "changed 2" ∷ [])) refl

-- blanks, comments, and bytes that no field may have
blank_lines : session (ended ((0o40 ∷ []) ∷ codes "# step 1" ∷ codes "step 1#2" ∷ (codes "step" ++ 9 ∷ codes "1")
    ∷ (codes "step 1 #" ++ 255 ∷ []) ∷ (codes "quit" ++ 13 ∷ []) ∷ []))
    ≡ ended (codes "AT 1 2 4001" ∷ codes "AT 2 4 4002" ∷ codes "AT 3 5 4003" ∷ codes "E50 COMMAND" ∷ [])
unfolding parsed_line forms runs command_lines lines answer reply grow lowest_hit at_line digits octal_text place parsed counters sequences
    registers_line next_line places_changed code_of basic_rows extracode_rows instruction_text channel_lines
blank_lines = by_listing [] (ended ((0o40 ∷ []) ∷ codes "# step 1" ∷ codes "step 1#2" ∷ (codes "step" ++ 9 ∷ codes "1")
    ∷ (codes "step 1 #" ++ 255 ∷ []) ∷ (codes "quit" ++ 13 ∷ []) ∷ [])) refl

-- breakpoints on words, the lowest told
breakpoints_on_words : session (ended (codes "break word 1 1" ∷ codes "break chan 10 12" ∷ codes "break word 0 12"
    ∷ codes "break chan 1000 1" ∷ codes "break word 0 100000" ∷ codes "run 3" ∷ codes "run 1" ∷ codes "run 1" ∷ codes "goto 4"
    ∷ codes "seek" ∷ codes "clear" ∷ codes "seek" ∷ []))
    ≡ ended (codes "BREAK 1" ∷ codes "BREAK 2" ∷ codes "BREAK 3" ∷ codes "E50 COMMAND" ∷ codes "E50 COMMAND" ∷ codes "HIT 3"
    ∷ codes "AT 2 4 4002" ∷ codes "HIT 3" ∷ codes "AT 3 5 4003" ∷ codes "7 CH 010 00012" ∷ codes "HIT 2" ∷ codes "AT 4 7 4004"
    ∷ codes "AT 4 7 4004" ∷ codes "HIT 3" ∷ codes "AT 3 5 4003" ∷ codes "CLEAR" ∷ codes "NONE" ∷ [])
unfolding parsed_line forms runs command_lines lines answer reply grow lowest_hit at_line digits octal_text place parsed counters sequences
    registers_line next_line places_changed code_of basic_rows extracode_rows instruction_text channel_lines
breakpoints_on_words = by_listing [] (ended (codes "break word 1 1" ∷ codes "break chan 10 12" ∷ codes "break word 0 12"
    ∷ codes "break chan 1000 1" ∷ codes "break word 0 100000" ∷ codes "run 3" ∷ codes "run 1" ∷ codes "run 1" ∷ codes "goto 4"
    ∷ codes "seek" ∷ codes "clear" ∷ codes "seek" ∷ [])) refl

-- symbols, and what never changed
symbols_asked : session (ended (codes "sym FOUR" ∷ codes "sym 5" ∷ codes "sym" ∷ codes "sym FIVE FIVE" ∷ codes "last FIVE" ∷ codes "last 1"
    ∷ codes "chan 1" ∷ codes "chan 777" ∷ codes "chan 2 2" ∷ codes "tail" ∷ []))
    ≡ ended (codes "E17 UNDEFINED" ∷ codes "E17 UNDEFINED" ∷ codes "E50 COMMAND" ∷ codes "E50 COMMAND" ∷ codes "E50 COMMAND" ∷ codes "NONE"
    ∷ codes "CHAN 00000" ∷ codes "CHAN 00000" ∷ codes "E50 COMMAND" ∷ codes "TAIL 0" ∷ [])
unfolding parsed_line forms runs command_lines lines answer reply grow lowest_hit at_line digits octal_text place parsed counters sequences
    registers_line next_line places_changed code_of basic_rows extracode_rows instruction_text channel_lines
symbols_asked = by_listing [] (ended (codes "sym FOUR" ∷ codes "sym 5" ∷ codes "sym" ∷ codes "sym FIVE FIVE" ∷ codes "last FIVE"
    ∷ codes "last 1" ∷ codes "chan 1" ∷ codes "chan 777" ∷ codes "chan 2 2" ∷ codes "tail" ∷ [])) refl

-- the registers where extracode is in force, and at the start
registers_under_extracode : session (ended (codes "step 3" ∷ codes "regs" ∷ codes "changed 3" ∷ codes "run 1" ∷ codes "changed 3"
    ∷ codes "goto 0" ∷ codes "regs" ∷ []))
    ≡ ended (codes "AT 3 5 4003" ∷ codes "A 000012 L 00000 Q 000000 Z 4003 EB 0 FB 00 SUP 0 EXT 1 INH 1 INT 0"
    ∷ codes "NEXT 01010 WRITE 010" ∷ codes "COUNT 0" ∷ codes "7 CH 010 00012" ∷ codes "AT 4 7 4004" ∷ codes "0005" ∷ codes "COUNT 1"
    ∷ codes "AT 0 0 4000" ∷ codes "A 000000 L 00000 Q 000000 Z 4000 EB 0 FB 00 SUP 0 EXT 0 INH 1 INT 0" ∷ codes "NEXT 34005 CA 4005"
    ∷ [])
unfolding parsed_line forms runs command_lines lines answer reply grow lowest_hit at_line digits octal_text place parsed counters sequences
    registers_line next_line places_changed code_of basic_rows extracode_rows instruction_text channel_lines
registers_under_extracode = by_listing [] (ended
    (codes "step 3" ∷ codes "regs" ∷ codes "changed 3" ∷ codes "run 1" ∷ codes "changed 3" ∷ codes "goto 0" ∷ codes "regs" ∷ [])) refl

-- a step that is refused ends a command at the present, and the next one goes on
memory_runs_out : session_with (false ∷ false ∷ false ∷ false ∷ false ∷ true ∷ false ∷ true ∷ [])
    (ended (codes "run 7" ∷ codes "goto 2" ∷ codes "step 3" ∷ codes "step 5" ∷ codes "tail" ∷ codes "step 1" ∷ []))
    ≡ ended (codes "7 CH 010 00012" ∷ codes "E2 MEMORY" ∷ codes "AT 5 8 4000" ∷ codes "AT 2 4 4002" ∷ codes "AT 5 8 4000"
    ∷ codes "E2 MEMORY" ∷ codes "AT 6 10 4001" ∷ codes "7 CH 010 00012" ∷ codes "TAIL 1" ∷ codes "AT 7 12 4002" ∷ [])
unfolding parsed_line forms runs command_lines lines answer reply grow lowest_hit at_line digits octal_text place parsed counters sequences
    registers_line next_line places_changed code_of basic_rows extracode_rows instruction_text channel_lines
memory_runs_out = by_listing (false ∷ false ∷ false ∷ false ∷ false ∷ true ∷ false ∷ true ∷ [])
    (ended (codes "run 7" ∷ codes "goto 2" ∷ codes "step 3" ∷ codes "step 5" ∷ codes "tail" ∷ codes "step 1" ∷ [])) refl

-- a last line without a line feed counts, and empty lines are replied nothing
last_line : session (codes "step 1" ++ 10 ∷ 10 ∷ 10 ∷ codes "step 1") ≡ ended (codes "AT 1 2 4001" ∷ codes "AT 2 4 4002" ∷ [])
unfolding parsed_line forms runs command_lines lines answer reply grow lowest_hit at_line digits octal_text place parsed counters sequences
    registers_line next_line places_changed code_of basic_rows extracode_rows instruction_text channel_lines
last_line = by_listing [] (codes "step 1" ++ 10 ∷ 10 ∷ 10 ∷ codes "step 1") refl

-- at the limit no step is made, and no memory is asked for
abbrev at_limit : List Bool → Desk
at_limit answers = record {
  scenario = five;
  steps = 1099511627774;
  position = 1099511627774;
  breakpoints = [];
  quiet = false;
  answers = answers;
  additions
      = [];
}

limit : (h : History) (answers : List Bool)
    → answer h (at_limit answers) (Known (Run 5)) ≡ stands h (codes "E40 LIMIT" ++ 10 ∷ []) (at_limit answers)
unfolding answer reply grow
limit h answers = refl

no_limit : (h : History) (answers : List Bool)
    → answer h (at_limit answers) (Known (Run 0)) ≡ stands h [] (at_limit answers)
unfolding answer reply grow
no_limit h answers = refl

-- of forty outputs the last thirty-two are told
abbrev numbered : ℕ → Output
numbered k = record { cycles = k; channel = 8; word = k }

abbrev forty : History
forty = record five_listed { outputs = λ n. map numbered (range_with_len 1 n) }

abbrev after_forty : Desk
after_forty = record { scenario = five; steps = 40; position = 3; breakpoints = []; quiet = false; answers = []; additions = [] }

long_tail : answer forty after_forty (Known Tail)
    ≡ says (channel_lines (map numbered (range_with_len 9 32)) ++ codes "TAIL 32" ++ 10 ∷ []) after_forty
unfolding answer reply digits octal_text channel_lines
long_tail = refl

-- what one line brings at the start, where the first call that adds an input is answered so
abbrev first_told : List (Option ℕ) → List ℕ → Reply
first_told additions line = line_reply symbols (first_desk five [] additions) line

abbrev first_refused : List (Option ℕ) → List ℕ → Reply
first_refused additions text = refuses (first_desk five [] additions) text

-- inputs that are not added: memory runs out, the cycle is not above that of the present, the counter takes no such pulse
no_memory : first_told (None ∷ []) (codes "add 1 TIME1 PINC") ≡ says (line (codes "E2 MEMORY")) (first_desk five [] [])
unfolding parsed_line forms runs command_lines lines answer reply grow lowest_hit at_line digits octal_text place parsed counters sequences
    registers_line next_line places_changed code_of basic_rows extracode_rows instruction_text channel_lines line_reply
no_memory = ap (λ h. answer h (first_desk five [] (None ∷ [])) (parsed_line symbols (codes "add 1 TIME1 PINC"))) history-five

too_early : first_told (None ∷ []) (codes "add 0 TIME1 PINC") ≡ first_refused (None ∷ []) (codes "E42 TOO EARLY")
unfolding parsed_line forms runs command_lines lines answer reply grow lowest_hit at_line digits octal_text place parsed counters sequences
    registers_line next_line places_changed code_of basic_rows extracode_rows instruction_text channel_lines line_reply
too_early = ap (λ h. answer h (first_desk five [] (None ∷ [])) (parsed_line symbols (codes "add 0 TIME1 PINC"))) history-five

wrong_counter : first_told (None ∷ []) (codes "add 1 TIME6 PINC") ≡ first_refused (None ∷ []) (codes "E33 COUNTER")
unfolding parsed_line forms runs command_lines lines answer reply grow lowest_hit at_line digits octal_text place parsed counters sequences
    registers_line next_line places_changed code_of basic_rows extracode_rows instruction_text channel_lines line_reply
wrong_counter = refl

wrong_additions : map (first_told (None ∷ []))
    (codes "add" ∷ codes "add # 1 TIME1 PINC" ∷ codes "add 1 TIME1 PULSE" ∷ codes "add EVERY 0 1 1 1 TIME1 PINC"
    ∷ (codes "add 1 TIME1 PINC #" ++ 255 ∷ []) ∷ codes "add 1000000000000000 TIME1 PINC" ∷ [])
    ≡ replicate 6 (first_refused (None ∷ []) (codes "E50 COMMAND"))
unfolding parsed_line forms runs command_lines lines answer reply grow lowest_hit at_line digits octal_text place parsed counters sequences
    registers_line next_line places_changed code_of basic_rows extracode_rows instruction_text channel_lines line_reply
wrong_additions = refl
