-- What each command replies, and the state after it.
use Rattle.std.specs.Prelude.{ℕ, ◌+◌, ◌-◌, ◌==◌, nat_lt, nat_le, min, not, Bool, true, false, List, [], ◌∷◌, ◌++◌, length, drop, filter}
use Rattle.std.specs.Prelude.{Option, None, Some, is_some, codes, decimal, if◌then◌else◌}
use Rattle.std.specs.List.{flat_map, range_with_len}
use Rattle.words.specs.Numerals.{octal_text}
use Rattle.feed.specs.declared.input.Input.{Input}
use Rattle.space.specs.Cells.{erasable_count, accumulator, lower_accumulator, return_address, program_counter}
use Rattle.space.specs.declared.place.Linear.{Linear}
use Rattle.space.specs.declared.place.Linear.TheVariants.{Erasable, Fixed}
use Rattle.cpu.specs.declared.output.Output.{Output}
use Rattle.cpu.specs.Texts.{disassembly}
use Rattle.symbols.specs.Values.{value_text}
use Rattle.symbols.specs.declared.values.Value.{Value}
use Rattle.cpu.specs.ChannelLines.{channel_lines}
use Rattle.cpu.specs.State.{Scenario}
use Rattle.cpu.specs.Additions.{plain_inputs, most_plain_inputs}
use Rattle.replay.specs.View.{greatest_cycle}
use Rattle.replay.specs.LastHit.{last_hit}
use Rattle.yayul.specs.Listing.{place_text}
use Rattle.debugger.specs.Additions.{with_added}
use Rattle.debugger.specs.declared.manner.Manner.{Manner}
use Rattle.debugger.specs.declared.manner.Manner.TheVariants as manner
use Rattle.debugger.specs.History.{Sight, History}
use Rattle.debugger.specs.Growth.{Growth, growth_told, later, word_seen, channel_seen, hit_at}
use Rattle.commands.specs.declared.command.Breakpoint.{Breakpoint}
use Rattle.commands.specs.declared.command.Command.{Command}
use Rattle.commands.specs.declared.command.Command.TheVariants.{Step, Run, Back, Goto, Seek, Break, Clear, Registers, Memory, Channel, Last}
use Rattle.commands.specs.declared.command.Command.TheVariants.{Symbol, Changed, Tail, Add, Quit}
use Rattle.debugger.specs.declared.ending.Ending.{Ending}
use Rattle.debugger.specs.declared.ending.Ending.TheVariants.{Reached, Hit, NoMemory, Limit}
use Rattle.commands.specs.declared.command.ParsedLine.{ParsedLine}
use Rattle.commands.specs.declared.command.ParsedLine.TheVariants.{Nothing, TooLong, Unknown, WrongCounter, Known}

-- the answers of calls that add inputs or try them, one after another: the line that the first comes to stand on, or none where
-- memory ran out; where no answer is left it may be any line
abbrev pub addition_to_come : List (Option ℕ) → Option ℕ
addition_to_come [] = Some 0
addition_to_come (addition ∷ more) = addition

-- where a session stands: what runs, the steps made, the step that is looked at, the breakpoints, whether the outputs of new steps
-- are counted in place of being told, and the answers to come of the calls that take memory: those that make steps, and those that
-- add or try inputs
pub record Desk : Type 0 where
  pub scenario : Scenario
  pub steps : ℕ
  pub position : ℕ
  pub breakpoints : List Breakpoint
  pub quiet : Bool
  pub answers : List Bool
  pub additions : List (Option ℕ)

-- what a line brings: a text, and where the session stands then
pub record Reply : Type 0 where
  pub text : List ℕ
  pub desk : Desk

abbrev pub says : List ℕ → Desk → Reply
says text d = record { text = text; desk = d }

-- a line of text
abbrev pub line : List ℕ → List ℕ
line text = text ++ codes "\n"

-- what a line brings that changes nothing
abbrev pub refuses : Desk → List ℕ → Reply
refuses d text = says (line text) d

-- the most breakpoints
abbrev pub most_breakpoints : ℕ
most_breakpoints = 16

-- how many outputs are told at the end
abbrev pub tail_length : ℕ
tail_length = 32

-- the last so many of a list, or all
abbrev pub last_of : {X : Type 0} → ℕ → List X → List X
last_of count xs = drop (length xs - count) xs

-- what is seen at the position
abbrev pub here : History → Desk → Sight
here h d = h.after d.position

-- the line that tells a position, with the cycles there and where Z leads
unfoldable pub at_line : ℕ → ℕ → List ℕ → List ℕ
at_line position cycles address = line (codes "AT " ++ decimal position ++ codes " " ++ decimal cycles ++ codes " " ++ address)

-- where Z leads: by Z, or by the place as a listing has it
abbrev pub address_text : Manner → ℕ → Linear → List ℕ
address_text manner.Plain z place = octal_text 4 z
address_text manner.Extended z place = place_text place

-- the line of a position, by what is seen there
abbrev pub at_line_of : Manner → ℕ → Sight → List ℕ
at_line_of m position seen = at_line position seen.cycles (address_text m (word_seen seen program_counter) seen.place)

-- some lines, and then the line of the position
abbrev pub stands : History → List ℕ → Desk → Reply
stands h text d = says (text ++ at_line_of h.manner d.position (here h d)) d

abbrev pub hit_line : ℕ → List ℕ
hit_line i = line (codes "HIT " ++ decimal i)

-- the line of how steps ended
abbrev pub ending_line : Ending → List ℕ
ending_line Reached = []
ending_line (Hit i) = hit_line i
ending_line NoMemory = line (codes "E2 MEMORY")
ending_line Limit = line (codes "E40 LIMIT")

-- a text, and then a reply
abbrev pub after_text : List ℕ → Reply → Reply
after_text text r = record r { text = text ++ r.text }

-- the session after steps
abbrev pub after_growth : Desk → Growth → ℕ → Desk
after_growth d g position = record d { steps = g.steps; answers = g.answers; position = position }

-- steps were made: the lines of their outputs or how many these are, how they ended, and the position
abbrev pub after_steps : History → Desk → Growth → ℕ → Reply
after_steps h d g position = after_text g.text (stands h (ending_line g.ending) (after_growth d g position))

-- the position moves on, and new steps are made where it passes the present; where they end before, it is at their end
abbrev pub steps_on : History → Desk → ℕ → Reply
steps_on h d target = let g = growth_told d.quiet h [] (target - d.steps) d.steps d.answers in after_steps h d g (min target g.steps)

-- new steps are made from the present on, up to a breakpoint
abbrev pub runs_on : History → Desk → ℕ → Reply
runs_on h d k = let g = growth_told d.quiet h d.breakpoints k d.steps d.answers in after_steps h d g g.steps

-- the position moves among the steps that were made
abbrev pub moves : History → Desk → ℕ → Reply
moves h d t = stands h [] (record d { position = t })

abbrev pub not_yet : Desk → Reply
not_yet d = refuses d (codes "E41 NOT YET")

abbrev pub goes : History → Desk → ℕ → Reply
goes h d t = if nat_lt d.steps t then not_yet d else moves h d t

-- the last step before the position at which a breakpoint holds
abbrev pub last_stop : History → Desk → Option ℕ
last_stop h d = last_hit (λ t. is_some (hit_at h d.breakpoints t)) d.position

-- the line of the breakpoint that holds
abbrev pub hit_text : Option ℕ → List ℕ
hit_text None = []
hit_text (Some i) = hit_line i

-- the position moves back to a step
abbrev pub sought : History → Desk → Option ℕ → Reply
sought h d None = refuses d (codes "NONE")
sought h d (Some t) = stands h (hit_text (hit_at h d.breakpoints t)) (record d { position = t })

abbrev pub breaks : Desk → Breakpoint → Reply
breaks d b =
    if nat_le most_breakpoints (length d.breakpoints) then refuses d (codes "E52 FULL")
    else says (line (codes "BREAK " ++ decimal (length d.breakpoints + 1))) (record d { breakpoints = d.breakpoints ++ b ∷ [] })

-- a flag as a digit
abbrev pub flag_text : Bool → List ℕ
flag_text false = codes "0"
flag_text true = codes "1"

-- four flags, each after its name
abbrev pub flags_text : Bool → Bool → Bool → Bool → List ℕ
flags_text sup extra inhibit inside =
    codes " SUP " ++ flag_text sup ++ codes " EXT " ++ flag_text extra ++ codes " INH " ++ flag_text inhibit ++ codes " INT "
    ++ flag_text inside

-- the line of the registers
unfoldable pub registers_line : Sight → List ℕ
registers_line seen =
    line
    (codes "A " ++ octal_text 6 (seen.reading accumulator)
    ++ codes " L " ++ octal_text 5 (word_seen seen lower_accumulator)
    ++ codes " Q " ++ octal_text 6 (seen.reading return_address)
    ++ codes " Z " ++ octal_text 4 (word_seen seen program_counter)
    ++ codes " EB " ++ octal_text 1 seen.eb
    ++ codes " FB " ++ octal_text 2 seen.fb
    ++ flags_text seen.sup seen.extra seen.inhibit seen.inside)

-- the line of the next instruction
unfoldable pub next_line : Sight → List ℕ
next_line seen =
    line
    (codes "NEXT " ++ octal_text 5 seen.instruction ++ codes " "
    ++ disassembly seen.extra seen.instruction)

-- the word at a place
abbrev pub memory_word : History → Sight → Linear → ℕ
memory_word h seen (Erasable p) = word_seen seen p
memory_word h seen (Fixed bank offset) = h.fixed bank offset

-- the step after which an erasable place first held what it holds at the position
abbrev pub last_change : History → Desk → ℕ → Option ℕ
last_change h d p = last_hit (λ t. not (word_seen (h.after t) p == word_seen (here h d) p)) d.position

abbrev pub last_text : Option ℕ → List ℕ
last_text None = codes "NONE"
last_text (Some t) = codes "LAST " ++ decimal (t + 1)

abbrev pub symbol_text : Option Value → List ℕ
symbol_text None = codes "E17 UNDEFINED"
symbol_text (Some value) = codes "SYM " ++ value_text value

-- the erasable places that read differently
unfoldable pub places_changed : Sight → Sight → List ℕ
places_changed old new = filter (λ p. not (old.reading p == new.reading p)) (range_with_len 0 erasable_count)

-- a line for each, and how many there are
abbrev pub changed_text : List ℕ → List ℕ
changed_text places = flat_map (λ p. line (octal_text 4 p)) places ++ line (codes "COUNT " ++ decimal (length places))

abbrev pub changes_since : History → Desk → ℕ → Reply
changes_since h d t =
    if nat_lt d.steps t then not_yet d else says (changed_text (places_changed (h.after t) (h.after d.steps))) d

-- a channel line for each output, and how many there are
abbrev pub outputs_text : List Output → List ℕ
outputs_text outputs = channel_lines outputs ++ line (codes "TAIL " ++ decimal (length outputs))

-- the last outputs of the steps that were made
abbrev pub tail_text : History → Desk → List ℕ
tail_text h d = outputs_text (last_of tail_length (h.outputs d.steps))

-- an input is added on a line, or memory runs out
abbrev pub added_on : Option ℕ → Desk → ℕ → Input → Reply
added_on None d cycle input = says (line (codes "E2 MEMORY")) (record d { additions = later d.additions })
added_on (Some l) d cycle input =
    says (line (codes "ADDED")) (record d { scenario = with_added l cycle input d.scenario; additions = later d.additions })

-- an input is added, unless its cycle has too many digits, or isn't above those of the present, or too many stand
abbrev pub adds : History → Desk → ℕ → Input → Reply
adds h d cycle input =
    if nat_lt greatest_cycle cycle then refuses d (codes "E50 COMMAND")
    else (if nat_le cycle (h.after d.steps).cycles then refuses d (codes "E42 TOO EARLY")
    else (if nat_le most_plain_inputs (plain_inputs d.scenario) then refuses d (codes "E32 TOO MANY")
    else added_on (addition_to_come d.additions) d cycle input))

-- what a command brings, over a run
unfoldable pub reply : History → Desk → Command → Reply
reply h d (Step k) = steps_on h d (d.position + k)
reply h d (Run k) = runs_on h d k
reply h d (Back k) = moves h d (d.position - k)
reply h d (Goto t) = goes h d t
reply h d Seek = sought h d (last_stop h d)
reply h d (Break b) = breaks d b
reply h d Clear = says (line (codes "CLEAR")) (record d { breakpoints = [] })
reply h d Registers = says (registers_line (here h d) ++ next_line (here h d)) d
reply h d (Memory place) = says (line (codes "MEM " ++ octal_text 5 (memory_word h (here h d) place))) d
reply h d (Channel c) = says (line (codes "CHAN " ++ octal_text 5 (channel_seen (here h d) c))) d
reply h d (Last p) = says (line (last_text (last_change h d p))) d
reply h d (Symbol value) = says (line (symbol_text value)) d
reply h d (Changed t) = changes_since h d t
reply h d Tail = says (tail_text h d) d
reply h d (Add cycle input) = adds h d cycle input
reply h d Quit = says [] d

-- what a line brings, by what it asks for
unfoldable pub answer : History → Desk → ParsedLine → Reply
answer h d Nothing = says [] d
answer h d TooLong = refuses d (codes "E51 LONG")
answer h d Unknown = refuses d (codes "E50 COMMAND")
answer h d WrongCounter = refuses d (codes "E33 COUNTER")
answer h d (Known command) = reply h d command
