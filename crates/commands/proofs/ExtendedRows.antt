-- Lines of extended sessions, read by the definitions alone.
use Rattle.std.proofs.Common.{◌≡◌, ℕ, Some, None, true, false, List, [], ◌∷◌, ◌++◌, map, refl}
use Rattle.std.specs.Prelude.{codes, replicate}
use Rattle.agc_text.specs.Fields.{runs}
use Rattle.feed.specs.Names.{counters, sequences}
use Rattle.feed.specs.Statements.{parsed}
use Rattle.feed.specs.declared.input.Counter.TheVariants.{Time1, Time3}
use Rattle.feed.specs.declared.input.Input.TheVariants.{Count, Interrupt, Word}
use Rattle.feed.specs.declared.input.Sequence.TheVariants.{Pinc}
use Rattle.space.specs.declared.place.Linear.TheVariants.{Erasable, Fixed}
use Rattle.symbols.specs.declared.values.Value.TheVariants as value
use Rattle.symbols.specs.Values.{SymbolTable}
use Rattle.commands.specs.Commands.{forms}
use Rattle.commands.specs.Extended.{extended_line, extended_forms, telling}
use Rattle.commands.specs.Usages.{usages}
use Rattle.space.specs.Places.{window}
use Rattle.commands.specs.declared.subject.Subject.TheVariants as subject
use Rattle.commands.specs.declared.command.Breakpoint.TheVariants as breakpoint
use Rattle.commands.specs.declared.command.Command.TheVariants.{Registers, Memory, Channel, Last, Break, Clear, Step, Add, Tail}
use Rattle.commands.specs.declared.command.ParsedLine.TheVariants.{Nothing, TooLong, WrongCounter}
use Rattle.commands.specs.declared.extended.ExtendedLine.{ExtendedLine}
use Rattle.commands.specs.declared.extended.IndexLines.TheVariants.{Omitted, Told}
use Rattle.commands.specs.declared.extended.ExtendedLine.TheVariants.{Plain, Common, Says, Help, Breaks, ClearOne, On, AllRegisters, Until}
use Rattle.commands.specs.declared.extended.ExtendedLine.TheVariants.{WhyStep, Why, Words, Where, Find, Trace, Inputs, Over, Out, Listed}
use Rattle.commands.specs.declared.extended.ExtendedLine.TheVariants.{Values, Channels, Differs, WhySince, TailSteps, Survey, Say, WhatIf}
use Rattle.commands.specs.declared.whatif.Extent.TheVariants.{Here, Each}
use Rattle.commands.specs.declared.whatif.Trial.TheVariants.{Given, Restart, Noted}
use Rattle.commands.specs.declared.extended.ExtendedLine.TheVariants.{Calls, WhyWay, WhyControl, WhyInputs, WhyInterrupts, Never, Quiet}
use Rattle.commands.specs.declared.extended.LinkLines.{LinkLines}

-- a place in fixed memory, and a number that is no place
abbrev symbols : SymbolTable
symbols = (codes "FIVE", value.Fixed 2 5) ∷ (codes "BIG", value.Num 0o10000) ∷ (codes "SUM", value.Erasable 0o101)
    ∷ (codes "Q", value.Erasable 0o102) ∷ (codes "CH12", value.Fixed 2 6) ∷ (codes "index", value.Erasable 0o103)
    ∷ (codes "EDOP", value.Erasable 0o105) ∷ []

abbrev asked : List (List ℕ) → List ExtendedLine
asked lines = map (extended_line symbols) lines

-- what no other session is asked for
further : asked (codes "breaks" ∷ codes "clear 2 # the second" ∷ codes "help" ∷ codes "help mem" ∷ codes "on" ∷ codes "on 5"
    ∷ codes "regs all" ∷ codes "regs" ∷ codes "until 123456789012345" ∷ [])
    ≡ Breaks ∷ ClearOne 2 ∷ Help ∷ Says (codes "HELP mem takes a place, or a place and a count: the word there, or so many\n")
    ∷ On 999999999999999 ∷ On 5 ∷ AllRegisters ∷ Common Registers ∷ Until 123456789012345 ∷ []
unfolding extended_line extended_forms usages forms runs parsed counters sequences window
further = refl

-- what any session is asked for
plain : asked (codes "clear" ∷ codes "mem FIVE" ∷ codes " step 1 # one" ∷ codes "add 12 TIME1 PINC" ∷ codes "add 12 TIME1 DINC"
    ∷ codes "# nothing" ∷ [] ∷ replicate 81 32 ∷ [])
    ≡ Common Clear ∷ Common (Memory (Fixed 2 5)) ∷ Common (Step 1) ∷ Common (Add 12 (Count Time1 Pinc)) ∷ Plain WrongCounter ∷ Plain Nothing
    ∷ Plain Nothing ∷ Plain TooLong ∷ []
unfolding extended_line extended_forms usages forms runs parsed counters sequences window
plain = refl

-- what stands after `echo` and one blank, a comment sign too; and after `echo`, where none stands
echoes : asked (codes "echo DONE 5" ∷ codes " echo  two # three" ∷ codes "echo" ∷ codes "echo " ∷ codes "echo#x" ∷ codes "echo\t#x" ∷ [])
    ≡ Says (codes "DONE 5\n") ∷ Says (codes " two # three\n") ∷ Says (codes "\n") ∷ Says (codes "\n") ∷ Says (codes "#x\n")
    ∷ Says (codes "#x\n") ∷ []
unfolding extended_line extended_forms usages forms runs parsed counters sequences window
echoes = refl

-- what is told besides the lines of steps
abbrev plainly : LinkLines
plainly = telling Omitted false

abbrev with_index : LinkLines
with_index = telling Told false

-- what `why` is about: an erasable place, and where no symbol has the name a register or a channel; and how many links it tells
whys : asked (codes "why" ∷ codes "why SUM" ∷ codes "why SUM 3" ∷ codes "why 101 999" ∷ codes "why A" ∷ codes "why BB 0" ∷ codes "why Q"
    ∷ codes "why CYR" ∷ codes "why ARUPT" ∷ codes "why EDOP" ∷ codes "why CH010" ∷ codes "why CH7 2" ∷ [])
    ≡ WhyStep plainly ∷ Why (subject.Place 0o101) 16 plainly ∷ Why (subject.Place 0o101) 3 plainly ∷ Why (subject.Place 0o101) 999 plainly
    ∷ Why (subject.Place 0) 16 plainly ∷ Why (subject.Place 6) 0 plainly ∷ Why (subject.Place 0o102) 16 plainly
    ∷ Why (subject.Place 0o20) 16 plainly ∷ Why (subject.Place 0o10) 16 plainly ∷ Why (subject.Place 0o105) 16 plainly
    ∷ Why (subject.Channel 8) 16 plainly ∷ Why (subject.Channel 7) 2 plainly ∷ []
unfolding extended_line extended_forms usages forms runs parsed counters sequences window
whys = refl

-- and whether the lines of INDEX are told. Where `index` stands alone it is the word, though a symbol has this name
indexed : asked (codes "why index" ∷ codes "why SUM index" ∷ codes "why SUM +1 3 index" ∷ codes "why CH010 index"
    ∷ codes "why CH7 0 index # told" ∷ codes "why index 3" ∷ codes "why index index" ∷ codes "why index +0" ∷ [])
    ≡ WhyStep with_index ∷ Why (subject.Place 0o101) 16 with_index ∷ Why (subject.Place 0o102) 3 with_index
    ∷ Why (subject.Channel 8) 16 with_index ∷ Why (subject.Channel 7) 0 with_index ∷ Why (subject.Place 0o103) 3 plainly
    ∷ Why (subject.Place 0o103) 16 with_index ∷ Why (subject.Place 0o103) 16 plainly ∷ []
unfolding extended_line extended_forms usages forms runs parsed counters sequences window
indexed = refl

unindexed : asked (codes "why SUM index 3" ∷ codes "why SUM 3 INDEX" ∷ codes "why SUM 3 index index" ∷ codes "why SUM indexes" ∷ [])
    ≡ replicate 4 (Says (codes "E50 COMMAND why takes [step|PLACE [k|control|inputs|interrupts|since]]\n"))
unfolding extended_line extended_forms usages forms runs parsed counters sequences window
unindexed = refl

-- and whether places are told, after `index` where both stand
placed : asked (codes "why places" ∷ codes "why index places" ∷ codes "why SUM places" ∷ codes "why SUM +1 3 index places"
    ∷ codes "why CH010 0 places # told" ∷ codes "why places 3" ∷ codes "why places index" ∷ [])
    ≡ WhyStep (telling Omitted true) ∷ WhyStep (telling Told true) ∷ Why (subject.Place 0o101) 16 (telling Omitted true)
    ∷ Why (subject.Place 0o102) 3 (telling Told true) ∷ Why (subject.Channel 8) 0 (telling Omitted true)
    ∷ Says (codes "E50 COMMAND no symbol places\n") ∷ Says (codes "E50 COMMAND no symbol places\n") ∷ []
unfolding extended_line extended_forms usages forms runs parsed counters sequences window
placed = refl

unplaced : asked (codes "why SUM places 3" ∷ codes "why SUM places index" ∷ codes "why SUM 3 index places places" ∷ codes "why SUM PLACES"
    ∷ codes "why index 3 places index" ∷ [])
    ≡ replicate 5 (Says (codes "E50 COMMAND why takes [step|PLACE [k|control|inputs|interrupts|since]]\n"))
unfolding extended_line extended_forms usages forms runs parsed counters sequences window
unplaced = refl

-- and since which step
since : asked (codes "why SUM since 5" ∷ codes "why SUM 3 since 0" ∷ codes "why SUM +1 3 index places since 12 # steps"
    ∷ codes "why CH010 places since 7" ∷ codes "why index index since 7" ∷ [])
    ≡ WhySince (subject.Place 0o101) 16 plainly 5 ∷ WhySince (subject.Place 0o101) 3 plainly 0
    ∷ WhySince (subject.Place 0o102) 3 (telling Told true) 12 ∷ WhySince (subject.Channel 8) 16 (telling Omitted true) 7
    ∷ WhySince (subject.Place 0o103) 16 with_index 7
    ∷ []
unfolding extended_line extended_forms usages forms runs parsed counters sequences window
since = refl

not_since : asked (codes "why SUM since" ∷ codes "why SUM since x" ∷ codes "why SUM since 5 3" ∷ codes "why SUM since 5 index"
    ∷ codes "why SUM 1000 since 5" ∷ codes "why SUM places index since 5" ∷ codes "why SUM Since 5" ∷ [])
    ≡ replicate 7 (Says (codes "E50 COMMAND why takes [step|PLACE [k|control|inputs|interrupts|since]]\n"))
unfolding extended_line extended_forms usages forms runs parsed counters sequences window
not_since = refl

-- and the choice before: of the position, though a symbol has the name, and of a word
ways : asked (codes "why step" ∷ codes "why SUM control" ∷ codes "why SUM +1 control # why" ∷ codes "why CH010 control"
    ∷ codes "why Q control" ∷ [])
    ≡ WhyWay ∷ WhyControl (subject.Place 0o101) ∷ WhyControl (subject.Place 0o102) ∷ WhyControl (subject.Channel 8)
    ∷ WhyControl (subject.Place 0o102) ∷ []
unfolding extended_line extended_forms usages forms runs parsed counters sequences window
ways = refl

-- what a whole chain comes from, and the interrupts in which its steps stand
whole : asked (codes "why SUM inputs" ∷ codes "why SUM +1 interrupts # why" ∷ codes "why CH010 inputs" ∷ codes "why CH010 interrupts" ∷ [])
    ≡ WhyInputs (subject.Place 0o101) ∷ WhyInterrupts (subject.Place 0o102) ∷ WhyInputs (subject.Channel 8)
    ∷ WhyInterrupts (subject.Channel 8) ∷ []
unfolding extended_line extended_forms usages forms runs parsed counters sequences window
whole = refl

no_whole : asked (codes "why SUM inputs 3" ∷ codes "why SUM 3 interrupts" ∷ codes "why SUM Inputs" ∷ codes "why SUM input" ∷ [])
    ≡ replicate 4 (Says (codes "E50 COMMAND why takes [step|PLACE [k|control|inputs|interrupts|since]]\n"))
unfolding extended_line extended_forms usages forms runs parsed counters sequences window
no_whole = refl

no_ways : asked (codes "why SUM control 3" ∷ codes "why SUM 3 control" ∷ codes "why SUM Control" ∷ codes "why SUM step" ∷ [])
    ≡ replicate 4 (Says (codes "E50 COMMAND why takes [step|PLACE [k|control|inputs|interrupts|since]]\n"))
unfolding extended_line extended_forms usages forms runs parsed counters sequences window
no_ways = refl

ways_of_nothing : asked (codes "why step 3" ∷ codes "why FIVE control" ∷ codes "why control" ∷ [])
    ≡ Says (codes "E50 COMMAND no symbol step\n") ∷ Says (codes "E50 COMMAND FIVE is in fixed memory, whose words never change\n")
    ∷ Says (codes "E50 COMMAND no symbol control\n") ∷ []
unfolding extended_line extended_forms usages forms runs parsed counters sequences window
ways_of_nothing = refl

since_nothing : asked (codes "why since 5" ∷ codes "why FIVE since 5" ∷ [])
    ≡ Says (codes "E50 COMMAND no symbol since\n") ∷ Says (codes "E50 COMMAND FIVE is in fixed memory, whose words never change\n") ∷ []
unfolding extended_line extended_forms usages forms runs parsed counters sequences window
since_nothing = refl

wrong_whys : asked (codes "why FIVE" ∷ codes "why CH12" ∷ codes "why SUMM" ∷ codes "why SUMM 3" ∷ codes "why SUM x" ∷ codes "why SUM 1000"
    ∷ codes "why SUM 3 4" ∷ codes "why CH1000" ∷ codes "why CH" ∷ [])
    ≡ map (λ text. Says (codes "E50 COMMAND " ++ text))
    (codes "FIVE is in fixed memory, whose words never change\n"
    ∷ codes "CH12 is in fixed memory, whose words never change\n"
    ∷ codes "no symbol SUMM\n"
    ∷ codes "no symbol SUMM\n"
    ∷ codes "why takes [step|PLACE [k|control|inputs|interrupts|since]]\n"
    ∷ codes "why takes [step|PLACE [k|control|inputs|interrupts|since]]\n"
    ∷ codes "why takes [step|PLACE [k|control|inputs|interrupts|since]]\n"
    ∷ codes "no symbol CH1000\n"
    ∷ codes "no symbol CH\n"
    ∷ [])
unfolding extended_line extended_forms usages forms runs parsed counters sequences window
wrong_whys = refl

-- refusals say which field they mean
refusals : asked (codes "mem FIV" ∷ codes "break at FIV" ∷ codes "mem BIG" ∷ codes "mem FIVE x" ∷ codes "last FIVE"
    ∷ codes "break chan 1000 5" ∷ codes "until" ∷ codes "regs some" ∷ codes "regs all all" ∷ codes "stop" ∷ codes "help stop"
    ∷ codes "clear x" ∷ codes "add 12 TIME1" ∷ [])
    ≡ Says (codes "E50 COMMAND no symbol FIV\n")
    ∷ Says (codes "E50 COMMAND no symbol FIV\n")
    ∷ Says (codes "E50 COMMAND mem takes a place, or a place and a count\n")
    ∷ Says (codes "E50 COMMAND mem takes a place, or a place and a count\n")
    ∷ Says (codes "E50 COMMAND FIVE is in fixed memory, whose words never change\n")
    ∷ Says (codes "E50 COMMAND break takes at|exec|change PLACE, word PLACE W, chan C W [M]\n")
    ∷ Says (codes "E50 COMMAND until takes a number of cycles\n")
    ∷ Says (codes "E50 COMMAND regs takes all, or nothing\n")
    ∷ Says (codes "E50 COMMAND regs takes all, or nothing\n")
    ∷ Says (codes "E50 COMMAND no command stop\n")
    ∷ Says (codes "E50 COMMAND help takes a command, or nothing\n")
    ∷ Says (codes "E50 COMMAND clear takes a breakpoint's number, or nothing\n")
    ∷ Says (codes "E50 COMMAND add takes a line of a feed\n")
    ∷ []
unfolding extended_line extended_forms usages forms runs parsed counters sequences window
refusals = refl

-- places as a listing has them, moved on, and by the letters of registers, where no symbol has these
abbrev memory : ℕ → ExtendedLine
memory p = Common (Memory (Erasable p))

places : asked (codes "mem 02,4005" ∷ codes "mem 3,6000" ∷ codes "mem 05,3777" ∷ codes "mem E3,1400" ∷ codes "mem E0,0101"
    ∷ codes "mem E2,1377" ∷ codes "mem A" ∷ codes "mem Q" ∷ codes "mem SUM +3" ∷ codes "mem FIVE +10" ∷ codes "mem E3,1400 +1" ∷ [])
    ≡ Common (Memory (Fixed 2 5)) ∷ Common (Memory (Fixed 3 0)) ∷ Common (Memory (Fixed 5 0o1777)) ∷ memory 0o1400 ∷ memory 0o101
    ∷ memory 0o1377 ∷ memory 0 ∷ memory 0o102 ∷ memory 0o104 ∷ Common (Memory (Fixed 2 0o15)) ∷ memory 0o1401 ∷ []
unfolding extended_line extended_forms usages forms runs parsed counters sequences window
places = refl

-- in each command that takes one
every_place : asked (codes "mem SUM +3 5" ∷ codes "mem 02,4005 999" ∷ codes "mem L 0" ∷ codes "last L" ∷ codes "last SUM +1"
    ∷ codes "why SUM +1" ∷ codes "why E3,1400 +2 4" ∷ codes "break at FIVE +1" ∷ codes "break at 02,4005" ∷ codes "break word Z 5"
    ∷ codes "break word SUM +3 75" ∷ [])
    ≡ Words (Erasable 0o104) 5 ∷ Words (Fixed 2 5) 999 ∷ Words (Erasable 1) 0 ∷ Common (Last 1) ∷ Common (Last 0o102)
    ∷ Why (subject.Place 0o102) 16 plainly ∷ Why (subject.Place 0o1402) 4 plainly ∷ Common (Break (breakpoint.Place (Fixed 2 6)))
    ∷ Common (Break (breakpoint.Place (Fixed 2 5))) ∷ Common (Break (breakpoint.Word 5 5)) ∷ Common (Break (breakpoint.Word 0o104 0o75))
    ∷ []
unfolding extended_line extended_forms usages forms runs parsed counters sequences window
every_place = refl

-- an address that is none of the bank, a place past the end of its bank, a sign without number, and too many words
wrong_places : asked (codes "mem 02,2005" ∷ codes "mem E3,1377" ∷ codes "mem E8,1400" ∷ codes "mem 50,2000" ∷ codes "mem FIVE +1773"
    ∷ codes "mem SUM +" ∷ codes "mem SUM -1" ∷ codes "mem SUM 1000" ∷ codes "mem SUM +1 +1" ∷ codes "why CH7 +1" ∷ codes "break word SUM +1"
    ∷ [])
    ≡ map (λ text. Says (codes "E50 COMMAND " ++ text))
    (codes "no place 02,2005: places are octal, to 7777, or BANK,OFFSET to 47,1777, or as a listing has them\n"
    ∷ codes "no place E3,1377: places are octal, to 7777, or BANK,OFFSET to 47,1777, or as a listing has them\n"
    ∷ codes "no symbol E8,1400\n"
    ∷ codes "no place 50,2000: places are octal, to 7777, or BANK,OFFSET to 47,1777, or as a listing has them\n"
    ∷ codes "mem takes a place, or a place and a count\n"
    ∷ codes "mem takes a place, or a place and a count\n"
    ∷ codes "mem takes a place, or a place and a count\n"
    ∷ codes "mem takes a place, or a place and a count\n"
    ∷ codes "mem takes a place, or a place and a count\n"
    ∷ codes "why takes [step|PLACE [k|control|inputs|interrupts|since]]\n"
    ∷ codes "break takes at|exec|change PLACE, word PLACE W, chan C W [M]\n"
    ∷ [])
unfolding extended_line extended_forms usages forms runs parsed counters sequences window
wrong_places = refl

-- where the next instruction stands, and symbols by their beginning
looks : asked (codes "where" ∷ codes "find SU" ∷ codes "where 1" ∷ codes "find" ∷ codes "find S U" ∷ [])
    ≡ Where ∷ Find (codes "SU") ∷ Says (codes "E50 COMMAND where takes nothing\n")
    ∷ Says (codes "E50 COMMAND find takes the beginning of a name\n") ∷ Says (codes "E50 COMMAND find takes the beginning of a name\n")
    ∷ []
unfolding extended_line extended_forms usages forms runs parsed counters sequences window
looks = refl

-- a channel under a mask
bits : asked (codes "break chan 10 12" ∷ codes "break chan 10 12 77" ∷ codes "break chan 10 12 77 1" ∷ codes "break chan 10 12 8"
    ∷ codes "break chan 1000 12 77" ∷ [])
    ≡ Common (Break (breakpoint.Channel 8 0o12)) ∷ Common (Break (breakpoint.Bits 8 0o12 0o77))
    ∷ map (λ text. Says (codes "E50 COMMAND " ++ text))
    (codes "break takes at|exec|change PLACE, word PLACE W, chan C W [M]\n"
    ∷ codes "numbers of places, channels and words are octal, and 8 has a digit 8 or 9\n"
    ∷ codes "break takes at|exec|change PLACE, word PLACE W, chan C W [M]\n"
    ∷ [])
unfolding extended_line extended_forms usages forms runs parsed counters sequences window
bits = refl

-- the instruction at a place, in each form of a place
executed : asked (codes "break exec FIVE" ∷ codes "break exec FIVE +1" ∷ codes "break exec 02,4005" ∷ codes "break exec Q"
    ∷ codes "break exec A" ∷ codes "break exec FIV" ∷ codes "break exec FIVE 5" ∷ codes "break exec" ∷ codes "break executed FIVE" ∷ [])
    ≡ map (λ place. Common (Break (breakpoint.Executed place))) (Fixed 2 5 ∷ Fixed 2 6 ∷ Fixed 2 5 ∷ Erasable 0o102 ∷ Erasable 0 ∷ [])
    ++ map (λ text. Says (codes "E50 COMMAND " ++ text))
    (codes "no symbol FIV\n"
    ∷ codes "break takes at|exec|change PLACE, word PLACE W, chan C W [M]\n"
    ∷ codes "break takes at|exec|change PLACE, word PLACE W, chan C W [M]\n"
    ∷ codes "break takes at|exec|change PLACE, word PLACE W, chan C W [M]\n"
    ∷ [])
unfolding extended_line extended_forms usages forms runs parsed counters sequences window
executed = refl

-- a word that changes: at an erasable place in each form, and on a channel, unless a symbol has its name
changed : asked (codes "break change SUM" ∷ codes "break change SUM +3" ∷ codes "break change 101" ∷ codes "break change E3,1400"
    ∷ codes "break change A" ∷ codes "break change TIME3" ∷ codes "break change CH012" ∷ codes "break change CH777 # all" ∷ [])
    ≡ map (λ subject. Common (Break (breakpoint.Changed subject)))
    (subject.Place 0o101 ∷ subject.Place 0o104 ∷ subject.Place 0o101 ∷ subject.Place 0o1400 ∷ subject.Place 0 ∷ subject.Place 0o26
    ∷ subject.Channel 0o12 ∷ subject.Channel 0o777 ∷ [])
unfolding extended_line extended_forms usages forms runs parsed counters sequences window
changed = refl

-- fixed memory, which never changes, no place, a field too many, and no channel
not_changed : asked (codes "break change FIVE" ∷ codes "break change 02,4005" ∷ codes "break change" ∷ codes "break change SUM 5"
    ∷ codes "break change CH012 5" ∷ codes "break change SUM +" ∷ codes "break change SUMM" ∷ codes "break change CH1000"
    ∷ codes "break changed SUM" ∷ [])
    ≡ map (λ text. Says (codes "E50 COMMAND " ++ text))
    (codes "FIVE is in fixed memory, whose words never change\n"
    ∷ codes "02,4005 is in fixed memory, whose words never change\n"
    ∷ codes "break takes at|exec|change PLACE, word PLACE W, chan C W [M]\n"
    ∷ codes "break takes at|exec|change PLACE, word PLACE W, chan C W [M]\n"
    ∷ codes "break takes at|exec|change PLACE, word PLACE W, chan C W [M]\n"
    ∷ codes "break takes at|exec|change PLACE, word PLACE W, chan C W [M]\n"
    ∷ codes "no symbol SUMM\n"
    ∷ codes "no symbol CH1000\n"
    ∷ codes "break takes at|exec|change PLACE, word PLACE W, chan C W [M]\n"
    ∷ [])
unfolding extended_line extended_forms usages forms runs parsed counters sequences window
not_changed = refl

-- the last steps
last_steps : asked (codes "trace 5" ∷ codes "trace" ∷ codes "trace x" ∷ codes "trace 5 6" ∷ [])
    ≡ Trace 5 ∷ map (λ text. Says (codes "E50 COMMAND " ++ text))
    (codes "trace takes a number of steps\n" ∷ codes "trace takes a number of steps\n" ∷ codes "trace takes a number of steps\n" ∷ [])
unfolding extended_line extended_forms usages forms runs parsed counters sequences window
last_steps = refl

-- and in sentences
said_steps : asked (codes "say 5" ∷ codes "say" ∷ codes "say x" ∷ codes "say 5 6" ∷ [])
    ≡ Say 5 ∷ map (λ text. Says (codes "E50 COMMAND " ++ text))
    (codes "say takes a number of steps\n" ∷ codes "say takes a number of steps\n" ∷ codes "say takes a number of steps\n" ∷ [])
unfolding extended_line extended_forms usages forms runs parsed counters sequences window
said_steps = refl

-- the last outputs, with their steps
outputs_with_steps : asked (codes "tail" ∷ codes "tail steps" ∷ codes "tail 5 steps" ∷ codes "tail 999 steps # all" ∷ codes "tail 0 steps"
    ∷ [])
    ≡ Common Tail ∷ TailSteps 32 ∷ TailSteps 5 ∷ TailSteps 999 ∷ TailSteps 0 ∷ []
unfolding extended_line extended_forms usages forms runs parsed counters sequences window
outputs_with_steps = refl

outputs_without : asked (codes "tail 5" ∷ codes "tail 1000 steps" ∷ codes "tail steps 5" ∷ codes "tail steps steps" ∷ codes "tail 5 STEPS"
    ∷ codes "tail 5 steps 6" ∷ [])
    ≡ replicate 6 (Says (codes "E50 COMMAND tail takes nothing, or [a count] steps\n"))
unfolding extended_line extended_forms usages forms runs parsed counters sequences window
outputs_without = refl

-- to the end of a routine, by so many steps at most, and the inputs that were added
travels : asked (codes "over" ∷ codes "over 20" ∷ codes "out" ∷ codes "out 3 # steps" ∷ codes "inputs" ∷ codes "over x" ∷ codes "out 1 2"
    ∷ codes "inputs 1" ∷ codes "over 1234567890123456" ∷ [])
    ≡ Over 999999999999999 ∷ Over 20 ∷ Out 999999999999999 ∷ Out 3 ∷ Inputs
    ∷ Says (codes "E50 COMMAND over takes a number of steps, or nothing\n")
    ∷ Says (codes "E50 COMMAND out takes a number of steps, or nothing\n")
    ∷ Says (codes "E50 COMMAND inputs takes nothing\n")
    ∷ Says (codes "E50 COMMAND over takes a number of steps, or nothing\n")
    ∷ []
unfolding extended_line extended_forms usages forms runs parsed counters sequences window
travels = refl

-- the words of a place on as instructions, sixteen where no number stands, and as numbers, one where none stands
shown : asked (codes "list FIVE" ∷ codes "list 02,4005 +1 3" ∷ codes "list SUM 0" ∷ codes "value SUM" ∷ codes "value E3,1400 +2 4"
    ∷ codes "value A" ∷ [])
    ≡ Listed (Fixed 2 5) 16 ∷ Listed (Fixed 2 6) 3 ∷ Listed (Erasable 0o101) 0 ∷ Values (Erasable 0o101) 1 ∷ Values (Erasable 0o1402) 4
    ∷ Values (Erasable 0) 1 ∷ []
unfolding extended_line extended_forms usages forms runs parsed counters sequences window
shown = refl

not_shown : asked (codes "list" ∷ codes "list FIV 5" ∷ codes "list FIVE 1000" ∷ codes "value" ∷ codes "value SUMM" ∷ codes "value SUM 1 2"
    ∷ [])
    ≡ map (λ text. Says (codes "E50 COMMAND " ++ text))
    (codes "list takes a place, or a place and a count\n"
    ∷ codes "no symbol FIV\n"
    ∷ codes "list takes a place, or a place and a count\n"
    ∷ codes "value takes a place, or a place and a count\n"
    ∷ codes "no symbol SUMM\n"
    ∷ codes "value takes a place, or a place and a count\n"
    ∷ [])
unfolding extended_line extended_forms usages forms runs parsed counters sequences window
not_shown = refl

-- counters by their names, where no symbol has these
counters_named : asked (codes "mem TIME3" ∷ codes "last PIPAX" ∷ codes "why INLINK 2" ∷ codes "mem TIME1 +1 3" ∷ codes "mem TIME7" ∷ [])
    ≡ memory 0o26 ∷ Common (Last 0o37) ∷ Why (subject.Place 0o45) 2 plainly ∷ Words (Erasable 0o26) 3
    ∷ Says (codes "E50 COMMAND no symbol TIME7\n") ∷ []
unfolding extended_line extended_forms usages forms runs parsed counters sequences window
counters_named = refl

-- the word on a channel, where no symbol has the name
channels_named : asked (codes "mem CH012" ∷ codes "mem CH1000" ∷ codes "mem CH" ∷ codes "mem CH012 2" ∷ codes "last CH7" ∷ [])
    ≡ Common (Channel 0o12)
    ∷ Says (codes "E50 COMMAND no symbol CH1000\n")
    ∷ Says (codes "E50 COMMAND no symbol CH\n")
    ∷ Says (codes "E50 COMMAND mem takes a place, or a place and a count\n")
    ∷ Says (codes "E50 COMMAND last takes an erasable place\n")
    ∷ []
unfolding extended_line extended_forms usages forms runs parsed counters sequences window
channels_named = refl

-- where octal numbers stand: alone, after a plus sign, and beside a comma; in words and masks too
octal_alone : asked (codes "mem 18" ∷ codes "last 1009" ∷ codes "why 90 3" ∷ codes "list 08" ∷ codes "value 800000000000000000000"
    ∷ codes "chan 18" ∷ codes "break at 4018" ∷ codes "break exec 9" ∷ codes "break change 18" ∷ codes "break chan 18 5"
    ∷ codes "break chan 10 18" ∷ codes "break chan 10 12 79" ∷ codes "break word SUM 8" ∷ codes "break word SUM +1 9"
    ∷ codes "break word 18" ∷ codes "mem SUM +8" ∷ codes "break at SUM +18" ∷ codes "mem 02,4008" ∷ codes "mem 08,4000"
    ∷ codes "mem E3,1480" ∷ [])
    ≡ map (λ number. Says (codes "E50 COMMAND numbers of places, channels and words are octal, and " ++ number
    ++ codes " has a digit 8 or 9\n"))
    (codes "18" ∷ codes "1009" ∷ codes "90" ∷ codes "08" ∷ codes "800000000000000000000" ∷ codes "18" ∷ codes "4018" ∷ codes "9"
    ∷ codes "18" ∷ codes "18" ∷ codes "18" ∷ codes "79" ∷ codes "8" ∷ codes "9" ∷ codes "18" ∷ codes "+8" ∷ codes "+18"
    ∷ codes "02,4008" ∷ codes "08,4000" ∷ codes "E3,1480" ∷ [])
unfolding extended_line extended_forms usages forms runs parsed counters sequences window
octal_alone = refl

-- numbers of words and of steps are decimal, and a symbol may have such a name
abbrev numbered : SymbolTable
numbered = (codes "X,18", value.Fixed 2 5) ∷ []

not_octal_alone : asked (codes "mem SUM 18" ∷ codes "why SUM 9" ∷ codes "mem 18A" ∷ codes "mem SUM 18 9" ∷ codes "chan 1000"
    ∷ codes "mem 77777" ∷ []) ++ map (extended_line numbered) (codes "mem X,18" ∷ codes "mem X,18 1000" ∷ codes "mem X,19" ∷ [])
    ≡ Words (Erasable 0o101) 18 ∷ Why (subject.Place 0o101) 9 plainly
    ∷ Says (codes "E50 COMMAND no symbol 18A\n")
    ∷ Says (codes "E50 COMMAND mem takes a place, or a place and a count\n")
    ∷ Says (codes "E50 COMMAND chan takes a channel\n")
    ∷ Says (codes "E50 COMMAND no place 77777: places are octal, to 7777, or BANK,OFFSET to 47,1777, or as a listing has them\n")
    ∷ Common (Memory (Fixed 2 5))
    ∷ Says (codes "E50 COMMAND mem takes a place, or a place and a count\n")
    ∷ Says (codes "E50 COMMAND numbers of places, channels and words are octal, and X,19 has a digit 8 or 9\n")
    ∷ []
unfolding extended_line extended_forms usages forms runs parsed counters sequences window
not_octal_alone = refl

-- numbers that no place has: alone, as a bank and an offset, and as a listing has them
no_places : asked (codes "mem 10000" ∷ codes "last 010000" ∷ codes "break at 50,0000" ∷ codes "list 44,4000 2" ∷ codes "value E3,1200"
    ∷ codes "why 10000 +1" ∷ [])
    ≡ map (λ field. Says (codes "E50 COMMAND no place " ++ field
    ++ codes ": places are octal, to 7777, or BANK,OFFSET to 47,1777, or as a listing has them\n"))
    (codes "10000" ∷ codes "010000" ∷ codes "50,0000" ∷ codes "44,4000" ∷ codes "E3,1200" ∷ codes "10000" ∷ [])
unfolding extended_line extended_forms usages forms runs parsed counters sequences window
no_places = refl

-- what is no number, and the last places
no_numbers : asked (codes "mem E9,1400" ∷ codes "mem E5" ∷ codes "mem ,5" ∷ codes "mem 2," ∷ codes "mem X10000" ∷ codes "mem 7777"
    ∷ codes "mem 3777" ∷ codes "mem 47,1777" ∷ [])
    ≡ map (λ field. Says (codes "E50 COMMAND no symbol " ++ field ++ codes "\n"))
    (codes "E9,1400" ∷ codes "E5" ∷ codes ",5" ∷ codes "2," ∷ codes "X10000" ∷ [])
    ++ map (λ place. Common (Memory place)) (Fixed 3 0o1777 ∷ Erasable 0o3777 ∷ Fixed 0o47 0o1777 ∷ [])
unfolding extended_line extended_forms usages forms runs parsed counters sequences window
no_numbers = refl

-- fixed memory, where an erasable place is asked for; a word is missing besides
in_fixed_memory : asked (codes "break word FIVE 5" ∷ codes "break word 4000" ∷ codes "last CH12" ∷ codes "why 02,4005 index"
    ∷ codes "break word BIG 5" ∷ codes "break at FIVE 5" ∷ [])
    ≡ map (λ text. Says (codes "E50 COMMAND " ++ text))
    (codes "FIVE is in fixed memory, whose words never change\n"
    ∷ codes "4000 is in fixed memory, whose words never change\n"
    ∷ codes "CH12 is in fixed memory, whose words never change\n"
    ∷ codes "02,4005 is in fixed memory, whose words never change\n"
    ∷ codes "break takes at|exec|change PLACE, word PLACE W, chan C W [M]\n"
    ∷ codes "break takes at|exec|change PLACE, word PLACE W, chan C W [M]\n"
    ∷ [])
unfolding extended_line extended_forms usages forms runs parsed counters sequences window
in_fixed_memory = refl

-- whole states: the channels that hold something, and what differs from a step
states : asked (codes "chans" ∷ codes "differs 5" ∷ codes "differs 123456789012345 # far" ∷ codes "chans 1" ∷ codes "differs"
    ∷ codes "differs x" ∷ codes "differs 5 6" ∷ codes "chans all" ∷ codes "help chans" ∷ codes "help differs" ∷ [])
    ≡ Channels ∷ Differs 5 ∷ Differs 123456789012345
    ∷ Says (codes "E50 COMMAND chans takes nothing\n")
    ∷ Says (codes "E50 COMMAND differs takes a step\n")
    ∷ Says (codes "E50 COMMAND differs takes a step\n")
    ∷ Says (codes "E50 COMMAND differs takes a step\n")
    ∷ Says (codes "E50 COMMAND chans takes nothing\n")
    ∷ Says (codes "HELP chans takes nothing: the channels whose words are not zero\n")
    ∷ Says (codes "HELP differs takes a step: the words that differ from those at the step\n")
    ∷ []
unfolding extended_line extended_forms usages forms runs parsed counters sequences window
states = refl

-- what is tried: an input as a line of a feed has it after its cycle, and how many steps
trials : asked (codes "whatif TIME3 PINC" ∷ codes "whatif RUPT 4 20 # soon" ∷ codes "whatif CHAN 15 21"
    ∷ codes "whatif CHAN 015 00021 1099511627776" ∷ codes "whatif TIME3 PINC 5 from 6 to 6"
    ∷ codes "whatif CHAN 15 21 5 from 0 to 1099511627776" ∷ codes "whatif TIME3 MINC" ∷ codes "help whatif" ∷ [])
    ≡ WhatIf (Given (Count Time3 Pinc)) (Here 1000)
    ∷ WhatIf (Given (Interrupt 4)) (Here 20)
    ∷ WhatIf (Given (Word 0o15 0o21)) (Here 1000)
    ∷ WhatIf (Given (Word 0o15 0o21)) (Here 1099511627776)
    ∷ WhatIf (Given (Count Time3 Pinc)) (Each 5 6 0)
    ∷ WhatIf (Given (Word 0o15 0o21)) (Each 5 0 1099511627776)
    ∷ Plain WrongCounter
    ∷ Says (codes "HELP whatif takes RESTART|[notes] INPUT, [k [from A to B]]: what it would change\n") ∷ []
unfolding extended_line extended_forms usages forms runs parsed counters sequences window
trials = refl

-- no input, one that no feed has, none on a channel that takes none, no count, and too many fields
not_tried : asked (codes "whatif" ∷ codes "whatif RUPT" ∷ codes "whatif RUPT 11" ∷ codes "whatif 5 RUPT 4" ∷ codes "whatif CHAN 15"
    ∷ codes "whatif CHAN 1 21" ∷ codes "whatif RUPT 4 x" ∷ codes "whatif TIME3 PINC 5 6" ∷ codes "whatif CHAN 15 21 5 6"
    ∷ codes "whatif CHAN 15 21 1234567890123456" ∷ codes "whatif RUPT 4 5 from 7 to 6" ∷ codes "whatif RUPT 4 from 6 to 7"
    ∷ codes "whatif RUPT 4 5 at 6 to 7" ∷ codes "whatif RUPT 4 5 from 6 on 7" ∷ codes "whatif RUPT 4 5 from 6 to"
    ∷ codes "whatif RUPT 4 5 from 6 to 7 8" ∷ codes "whatif RUPT 4 5 from x to 7" ∷ [])
    ≡ replicate 17 (Says (codes "E50 COMMAND whatif takes RESTART|[notes] INPUT, [k [from A to B]]\n"))
unfolding extended_line extended_forms usages forms runs parsed counters sequences window
not_tried = refl

-- or a restart
restarts : asked (codes "whatif RESTART" ∷ codes "whatif RESTART 20 # soon" ∷ codes "whatif RESTART 5 from 6 to 9"
    ∷ codes "whatif RESTART 5 from 9 to 6" ∷ codes "whatif RESTART x" ∷ codes "whatif restart 5" ∷ [])
    ≡ WhatIf Restart (Here 1000) ∷ WhatIf Restart (Here 20) ∷ WhatIf Restart (Each 5 6 3)
    ∷ replicate 3 (Says (codes "E50 COMMAND whatif takes RESTART|[notes] INPUT, [k [from A to B]]\n"))
unfolding extended_line extended_forms usages forms runs parsed counters sequences window
restarts = refl

-- or the notes of an input, since a step or since it comes
notes_tried : asked (codes "whatif notes TIME3 PINC" ∷ codes "whatif notes RUPT 4 20 # soon"
    ∷ codes "whatif notes since 0 CHAN 15 21 5 from 6 to 9" ∷ codes "whatif notes since 12 TIME3 PINC" ∷ codes "whatif notes TIME3 MINC" ∷ [])
    ≡ WhatIf (Noted None (Count Time3 Pinc)) (Here 1000)
    ∷ WhatIf (Noted None (Interrupt 4)) (Here 20)
    ∷ WhatIf (Noted (Some 0) (Word 0o15 0o21)) (Each 5 6 3)
    ∷ WhatIf (Noted (Some 12) (Count Time3 Pinc)) (Here 1000)
    ∷ Plain WrongCounter ∷ []
unfolding extended_line extended_forms usages forms runs parsed counters sequences window
notes_tried = refl

-- none of a restart, nor of nothing; and the step since which stands first
not_noted : asked (codes "whatif notes" ∷ codes "whatif notes RESTART 5" ∷ codes "whatif notes since" ∷ codes "whatif notes since x RUPT 4"
    ∷ codes "whatif notes since 5" ∷ codes "whatif notes notes RUPT 4" ∷ codes "whatif since 5 RUPT 4" ∷ codes "whatif notes RUPT 4 since 5"
    ∷ codes "whatif NOTES RUPT 4" ∷ [])
    ≡ replicate 9 (Says (codes "E50 COMMAND whatif takes RESTART|[notes] INPUT, [k [from A to B]]\n"))
unfolding extended_line extended_forms usages forms runs parsed counters sequences window
not_noted = refl

-- what is surveyed: two steps, a number of buckets, and erasable places and channels
surveys : asked (codes "survey 1 60 6" ∷ codes "survey 3 3 4096 SUM +1 CH013 A Q # four" ∷ codes "survey 1 9 1 A A A A A A A A"
    ∷ codes "help survey" ∷ [])
    ≡ Survey (record { first = 1; last = 60; buckets = 6; subjects = [] })
    ∷ Survey (record {
      first = 3;
      last = 3;
      buckets = 4096;
      subjects = subject.Place 0o102 ∷ subject.Channel 0o13 ∷ subject.Place 0
          ∷ subject.Place 0o102 ∷ [];
    })
    ∷ Survey (record { first = 1; last = 9; buckets = 1; subjects = replicate 8 (subject.Place 0) })
    ∷ Says (codes "HELP survey takes FROM TO, 1 to 4096 buckets, at most 8 places: a run by buckets\n") ∷ []
unfolding extended_line extended_forms usages forms runs parsed counters sequences window
surveys = refl

-- no step before the first, none from a later one to an earlier, no bucket or too many, nine places, a place of fixed memory, and a
-- symbol's name for a channel
not_surveyed : asked (codes "survey" ∷ codes "survey 1 60" ∷ codes "survey 0 60 6" ∷ codes "survey 7 6 1" ∷ codes "survey 1 60 0"
    ∷ codes "survey 1 60 4097" ∷ codes "survey 1 x 6" ∷ codes "survey 1 9 1 A A A A A A A A A" ∷ codes "survey 1 60 6 FIVE"
    ∷ codes "survey 1 60 6 CH12" ∷ [])
    ≡ replicate 10 (Says (codes "E50 COMMAND survey takes FROM TO, 1 to 4096 buckets, at most 8 places\n"))
unfolding extended_line extended_forms usages forms runs parsed counters sequences window
not_surveyed = refl

-- the calls in progress, of which nothing is asked besides
in_progress : asked (codes "calls" ∷ codes "calls # now" ∷ codes "calls 3" ∷ codes "help calls" ∷ [])
    ≡ Calls ∷ Calls ∷ Says (codes "E50 COMMAND calls takes nothing\n")
    ∷ Says (codes "HELP calls takes nothing: the calls that are in progress, innermost first\n") ∷ []
unfolding extended_line extended_forms usages forms runs parsed counters sequences window
in_progress = refl

-- why the program never came to a place: of a symbol and what moves it on, of a place, of an erasable one
never_there : asked (codes "never FIVE" ∷ codes "never FIVE +1 # why" ∷ codes "never 4005" ∷ codes "never 12,1777" ∷ codes "never SUM" ∷ [])
    ≡ Never (Fixed 2 5) ∷ Never (Fixed 2 6) ∷ Never (Fixed 2 5) ∷ Never (Fixed 0o12 0o1777) ∷ Never (Erasable 0o101) ∷ []
unfolding extended_line extended_forms usages forms runs parsed counters sequences window
never_there = refl

never_nowhere : asked (codes "never" ∷ codes "never FIVE 3" ∷ codes "never FIVEE" ∷ codes "never 4008" ∷ codes "help never" ∷ [])
    ≡ map (λ text. Says text)
    (codes "E50 COMMAND never takes a place\n" ∷ codes "E50 COMMAND never takes a place\n" ∷ codes "E50 COMMAND no symbol FIVEE\n"
    ∷ codes "E50 COMMAND numbers of places, channels and words are octal, and 4008 has a digit 8 or 9\n"
    ∷ codes "HELP never takes a place: the last choice that led away from there\n" ∷ [])
unfolding extended_line extended_forms usages forms runs parsed counters sequences window
never_nowhere = refl

-- whether outputs are counted from now on
hushes : asked (codes "quiet on" ∷ codes " quiet off # again" ∷ codes "quiet" ∷ codes "quiet of" ∷ codes "quiet on off" ∷ codes "quiet ON"
    ∷ codes "help quiet" ∷ [])
    ≡ Quiet true ∷ Quiet false
    ∷ map (λ text. Says text)
    (codes "E50 COMMAND quiet takes on, or off\n" ∷ codes "E50 COMMAND quiet takes on, or off\n"
    ∷ codes "E50 COMMAND quiet takes on, or off\n" ∷ codes "E50 COMMAND quiet takes on, or off\n"
    ∷ codes "HELP quiet takes on, or off: counts the outputs of new steps, or tells them\n" ∷ [])
unfolding extended_line extended_forms usages forms runs parsed counters sequences window
hushes = refl
