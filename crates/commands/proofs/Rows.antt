-- Lines of commands, read by the definitions alone.
use Rattle.std.proofs.Common.{◌≡◌, ℕ, Some, None, List, [], ◌∷◌, ◌++◌, map, refl}
use Rattle.std.specs.Prelude.{codes, replicate}
use Rattle.agc_text.specs.Fields.{runs}
use Rattle.feed.specs.Names.{counters, sequences}
use Rattle.feed.specs.Statements.{parsed}
use Rattle.feed.specs.declared.input.Counter.TheVariants.{Time1}
use Rattle.feed.specs.declared.input.Input.TheVariants.{Count, Word, Interrupt}
use Rattle.feed.specs.declared.input.Sequence.TheVariants.{Pinc}
use Rattle.space.specs.declared.place.Linear.TheVariants.{Erasable, Fixed}
use Rattle.symbols.specs.declared.values.Value.TheVariants as value
use Rattle.symbols.specs.Values.{SymbolTable}
use Rattle.commands.specs.Commands.{parsed_line, forms}
use Rattle.commands.specs.declared.command.Breakpoint.TheVariants as breakpoint
use Rattle.commands.specs.declared.command.Command.TheVariants.{Step, Run, Back, Goto, Seek, Break, Clear, Registers, Memory, Channel, Last}
use Rattle.commands.specs.declared.command.Command.TheVariants.{Symbol, Changed, Tail, Add, Quit}
use Rattle.commands.specs.declared.command.ParsedLine.{ParsedLine}
use Rattle.commands.specs.declared.command.ParsedLine.TheVariants.{Nothing, TooLong, Unknown, WrongCounter, Known}

-- symbols of each kind: two that look like a bank and an offset, and two that have no place
abbrev symbols : SymbolTable
symbols =
    (codes "FIVE", value.Fixed 2 5) ∷ (codes "2,5", value.Num 0o100) ∷ (codes "2,0005", value.Num 0o10000)
    ∷ (codes "BIG", value.Num 0o10000)
    ∷ (codes "LOW", value.Num 0o4005) ∷ (codes "X", value.Erasable 0o20) ∷ (codes "FAR", value.Fixed 35 0) ∷ []

-- what lines ask for
abbrev asked : List (List ℕ) → List ParsedLine
asked lines = map (parsed_line symbols) lines

-- every command in its form
each_command : asked (codes "step 1" ∷ codes "run 20" ∷ codes "back 5" ∷ codes "goto 9" ∷ codes "seek" ∷ codes "break at 4002"
    ∷ codes "break word 5 12" ∷ codes "break chan 10 12" ∷ codes "clear" ∷ codes "regs" ∷ codes "mem FIVE" ∷ codes "chan 10"
    ∷ codes "last 0" ∷ codes "sym FIVE" ∷ codes "changed 0" ∷ codes "tail" ∷ codes "add 12 TIME1 PINC" ∷ codes "quit" ∷ [])
    ≡ Known (Step 1) ∷ Known (Run 20) ∷ Known (Back 5) ∷ Known (Goto 9) ∷ Known Seek ∷ Known (Break (breakpoint.Place (Fixed 2 2)))
    ∷ Known (Break (breakpoint.Word 5 0o12)) ∷ Known (Break (breakpoint.Channel 8 0o12)) ∷ Known Clear ∷ Known Registers
    ∷ Known (Memory (Fixed 2 5)) ∷ Known (Channel 8) ∷ Known (Last 0) ∷ Known (Symbol (Some (value.Fixed 2 5))) ∷ Known (Changed 0)
    ∷ Known Tail ∷ Known (Add 12 (Count Time1 Pinc)) ∷ Known Quit ∷ []
unfolding parsed_line forms runs parsed counters sequences
each_command = refl

-- blanks and comments ask for nothing
no_field : asked (([]) ∷ ((32 ∷ 9 ∷ [])) ∷ codes "# step 1" ∷ codes " #" ∷ [])
    ≡ Nothing ∷ Nothing ∷ Nothing ∷ Nothing ∷ []
unfolding parsed_line forms runs parsed counters sequences
no_field = refl

-- fields stand between any blanks, and a comment sign ends them
blanks : asked (codes "  step   1 " ∷ ((codes "step" ++ 9 ∷ codes "1")) ∷ codes "step 1#2" ∷ ((codes "step 1 #" ++ 255 ∷ []))
    ∷ codes "step#1" ∷ [])
    ≡ Known (Step 1) ∷ Known (Step 1) ∷ Known (Step 1) ∷ Known (Step 1) ∷ Unknown ∷ []
unfolding parsed_line forms runs parsed counters sequences
blanks = refl

-- a byte that no text may hold is part of its field
bad_bytes : asked (((codes "quit" ++ 13 ∷ [])) ∷ ((codes "step 1" ++ 127 ∷ [])) ∷ ((codes "sym FIVE" ++ 255 ∷ [])) ∷ [])
    ≡ Unknown ∷ Unknown ∷ Known (Symbol None) ∷ []
unfolding parsed_line forms runs parsed counters sequences
bad_bytes = refl

-- numbers of steps have 1 to 15 decimal digits
counts : asked (codes "step 000000000000001" ∷ codes "run 999999999999999" ∷ codes "step 0000000000000001" ∷ codes "back 1D"
    ∷ codes "goto +1" ∷ codes "changed -1" ∷ codes "step x" ∷ codes "step" ∷ codes "STEP 1" ∷ [])
    ≡ Known (Step 1) ∷ Known (Run 999999999999999) ∷ Unknown ∷ Unknown ∷ Unknown ∷ Unknown ∷ Unknown ∷ Unknown ∷ Unknown ∷ []
unfolding parsed_line forms runs parsed counters sequences
counts = refl

-- a further field makes any command another line
further_fields : asked (codes "step 1 2" ∷ codes "run 1 2" ∷ codes "back 1 2" ∷ codes "goto 1 2" ∷ codes "seek 1" ∷ codes "break at 0 0"
    ∷ codes "break word 0 0 0" ∷ codes "break chan 10 0 0" ∷ codes "clear 1" ∷ codes "regs 1" ∷ codes "mem 0 0" ∷ codes "chan 10 0"
    ∷ codes "last 0 0" ∷ codes "sym FIVE FIVE" ∷ codes "changed 0 0" ∷ codes "tail 1" ∷ codes "quit 5" ∷ codes "quit 1 2 3 4" ∷ [])
    ≡ Unknown ∷ Unknown ∷ Unknown ∷ Unknown ∷ Unknown ∷ Unknown ∷ Unknown ∷ Unknown ∷ Unknown ∷ Unknown ∷ Unknown ∷ Unknown ∷ Unknown
    ∷ Unknown ∷ Unknown ∷ Unknown ∷ Unknown ∷ Unknown ∷ []
unfolding parsed_line forms runs parsed counters sequences
further_fields = refl

-- so does a field that is missing
fields_missing : asked (codes "run" ∷ codes "break" ∷ codes "break at" ∷ codes "break word 0" ∷ codes "break chan 10" ∷ codes "break reg 0"
    ∷ codes "mem" ∷ codes "chan" ∷ codes "last" ∷ codes "sym" ∷ codes "changed" ∷ [])
    ≡ Unknown ∷ Unknown ∷ Unknown ∷ Unknown ∷ Unknown ∷ Unknown ∷ Unknown ∷ Unknown ∷ Unknown ∷ Unknown ∷ Unknown ∷ []
unfolding parsed_line forms runs parsed counters sequences
fields_missing = refl

-- the place of a number, of 1 to 5 octal digits
numbered_places : asked (codes "mem 2000" ∷ codes "break at 2000" ∷ codes "mem 3777" ∷ codes "mem 4000" ∷ codes "mem 6001"
    ∷ codes "mem 7777" ∷ codes "mem 10000" ∷ codes "mem 77777" ∷ codes "mem 000000" ∷ codes "mem 8" ∷ codes "mem +1" ∷ [])
    ≡ Known (Memory (Erasable 0o2000)) ∷ Known (Break (breakpoint.Place (Erasable 0o2000))) ∷ Known (Memory (Erasable 0o3777))
    ∷ Known (Memory (Fixed 2 0)) ∷ Known (Memory (Fixed 3 1)) ∷ Known (Memory (Fixed 3 0o1777)) ∷ Unknown ∷ Unknown ∷ Unknown ∷ Unknown
    ∷ Unknown ∷ []
unfolding parsed_line forms runs parsed counters sequences
numbered_places = refl

-- a bank and an offset, of 1 to 5 octal digits each
fixed_places : asked (codes "mem 43,1777" ∷ codes "mem 47,0" ∷ codes "mem 00047,00000" ∷ codes "mem 50,0" ∷ codes "mem 2,2000"
    ∷ codes "mem 2," ∷ codes "mem ,2" ∷ codes "mem 2,3,4" ∷ codes "mem 000002,0" ∷ [])
    ≡ Known (Memory (Fixed 35 0o1777)) ∷ Known (Memory (Fixed 39 0)) ∷ Known (Memory (Fixed 39 0)) ∷ Unknown ∷ Unknown ∷ Unknown ∷ Unknown
    ∷ Unknown ∷ Unknown ∷ []
unfolding parsed_line forms runs parsed counters sequences
fixed_places = refl

-- a symbol comes before a bank and an offset, where it has a place
places_of_symbols : asked (codes "mem 2,5" ∷ codes "mem 2,0005" ∷ codes "mem BIG" ∷ codes "mem LOW" ∷ codes "mem X" ∷ codes "mem FAR"
    ∷ codes "mem FOUR" ∷ [])
    ≡ Known (Memory (Erasable 0o100)) ∷ Known (Memory (Fixed 2 5)) ∷ Unknown ∷ Known (Memory (Fixed 2 5)) ∷ Known (Memory (Erasable 0o20))
    ∷ Known (Memory (Fixed 35 0)) ∷ Unknown ∷ []
unfolding parsed_line forms runs parsed counters sequences
places_of_symbols = refl

-- a fixed place holds no word that changes
erasable_places : asked (codes "last LOW" ∷ codes "last FIVE" ∷ codes "break word FIVE 5" ∷ codes "break word X 5" ∷ codes "last X" ∷ [])
    ≡ Unknown ∷ Unknown ∷ Unknown ∷ Known (Break (breakpoint.Word 0o20 5)) ∷ Known (Last 0o20) ∷ []
unfolding parsed_line forms runs parsed counters sequences
erasable_places = refl

-- channels go to 777 and words to 77777
channels_and_words : asked (codes "chan 777" ∷ codes "chan 1" ∷ codes "chan 1000" ∷ codes "break chan 1000 1" ∷ codes "break word 0 77777"
    ∷ codes "break word 0 100000" ∷ codes "break chan 0 000001" ∷ [])
    ≡ Known (Channel 0o777) ∷ Known (Channel 1) ∷ Unknown ∷ Unknown ∷ Known (Break (breakpoint.Word 0 0o77777)) ∷ Unknown ∷ Unknown ∷ []
unfolding parsed_line forms runs parsed counters sequences
channels_and_words = refl

-- the value of a symbol, where there is one
values_of_symbols : asked (codes "sym LOW" ∷ codes "sym FOUR" ∷ codes "sym 5" ∷ codes "sym 2,5" ∷ [])
    ≡ Known (Symbol (Some (value.Num 0o4005))) ∷ Known (Symbol None) ∷ Known (Symbol None) ∷ Known (Symbol (Some (value.Num 0o100))) ∷ []
unfolding parsed_line forms runs parsed counters sequences
values_of_symbols = refl

-- what is added is a line of a feed that gives an input
inputs : asked (codes " add 0 CHAN 15 21 # a key" ∷ codes "add 1 TIME6 PINC" ∷ codes "add" ∷ codes "add # 1 TIME1 PINC" ∷ codes "add#"
    ∷ codes "add 1 TIME1 PULSE" ∷ codes "add EVERY 0 1 1 1 TIME1 PINC" ∷ ((codes "add 1 TIME1 PINC #" ++ 255 ∷ []))
    ∷ codes "add 1000000000000000 TIME1 PINC" ∷ codes "add 999999999999999 RUPT 10" ∷ [])
    ≡ Known (Add 0 (Word 13 0o21)) ∷ WrongCounter ∷ Unknown ∷ Unknown ∷ Unknown ∷ Unknown ∷ Unknown ∷ Unknown ∷ Unknown
    ∷ Known (Add 999999999999999 (Interrupt 10)) ∷ []
unfolding parsed_line forms runs parsed counters sequences
inputs = refl

-- 80 bytes are a line, and one more is too long, blank or not
long_lines : asked ((codes "seek" ++ replicate 76 32) ∷ (codes "seek" ++ replicate 77 32) ∷ replicate 80 32 ∷ replicate 81 32
    ∷ (codes "step 1 #" ++ replicate 73 255) ∷ [])
    ≡ Known Seek ∷ TooLong ∷ Nothing ∷ TooLong ∷ TooLong ∷ []
unfolding parsed_line forms runs parsed counters sequences
long_lines = refl
