-- A session of commands, by what its lines ask for: the session without more commands is one, the extended one another.
use Rattle.std.specs.Prelude.{◌≡◌, ℕ, ◌+◌, ◌-◌, ◌*◌, ◌^◌, Bool, false, List, [], ◌∷◌, ◌++◌, take, Option, Result, Ok, Err, if◌then◌else◌}
use Rattle.agc_text.specs.Lines.{lines, ended_lines}
use Rattle.words.specs.Devices.{WritesBeginning}
use Rattle.cpu.specs.State.{Scenario}
use Rattle.symbols.specs.Values.{SymbolTable}
use Rattle.yayul.specs.Program.{Source}
use Rattle.commands.specs.Commands.{parsed_line}
use Rattle.commands.specs.Extended.{extended_line}
use Rattle.commands.specs.declared.extended.IndexLines.{IndexLines}
use Rattle.commands.specs.declared.extended.IndexLines.TheVariants.{Omitted, Told}
use Rattle.commands.specs.declared.extended.LinkLines.{LinkLines}
use Rattle.commands.specs.declared.extended.ExtendedLine.{ExtendedLine}
use Rattle.commands.specs.declared.extended.ExtendedLine.TheVariants.{Plain, Common, Says, Help, Breaks, ClearOne, On, AllRegisters, Until}
use Rattle.commands.specs.declared.extended.ExtendedLine.TheVariants.{WhyStep, Why, Words, Where, Find, Trace, Inputs, Over, Out, Listed}
use Rattle.commands.specs.declared.extended.ExtendedLine.TheVariants.{Values, Channels, Differs, WhySince, TailSteps, Survey, Say, WhatIf}
use Rattle.commands.specs.declared.extended.ExtendedLine.TheVariants.{Calls, WhyWay, WhyControl, WhyInputs, WhyInterrupts, Never, Quiet}
use Rattle.commands.specs.declared.command.ParsedLine.TheVariants.{Known}
use Rattle.debugger.specs.declared.manner.Manner.{Manner}
use Rattle.debugger.specs.declared.manner.Manner.TheVariants as manner
use Rattle.debugger.specs.History.{history}
use Rattle.debugger.specs.Replies.{Desk, Reply}
use Rattle.debugger.specs.Terms.{Terms, terms_of}
use Rattle.debugger.specs.ExtendedReplies.{extended_reply}
use Rattle.debugger.specs.Transcript.{ends, first_desk, most_command_bytes}
use Rattle.replay.specs.View.{SessionView}
use Rattle.debugger.specs.Sessions.{AllGranted, Commands, StandsAt}
use Rattle.debugger.specs.declared.fault.DebugFault.{DebugFault}
use Rattle.debugger.specs.declared.fault.DebugFault.TheVariants.{NoMemory, ReadFailed, WriteFailed}

-- what lines ask for
abbrev pub Reading : Type 0
Reading = List ℕ → ExtendedLine

-- as any session reads them, and as an extended one does
unfoldable pub reading : Manner → SymbolTable → Reading
reading manner.Plain symbols = λ line. Plain (parsed_line symbols line)
reading manner.Extended symbols = extended_line symbols

-- the most bytes of commands that are read: an extended session reads on, as far as a count of 64 bits goes
abbrev pub most_extended_bytes : ℕ
most_extended_bytes = 2 ^ 64 - 1

abbrev pub most_bytes : Manner → ℕ
most_bytes manner.Plain = most_command_bytes
most_bytes manner.Extended = most_extended_bytes

-- the lines of so many bytes of commands
unfoldable pub lines_within : ℕ → List ℕ → List (List ℕ)
lines_within most commands = lines (take most commands)

-- the end is asked for
abbrev pub is_end : ExtendedLine → Bool
is_end (Plain request) = ends request
is_end (Common command) = ends (Known command)
is_end (Says text) = false
is_end Help = false
is_end Breaks = false
is_end (ClearOne i) = false
is_end (On k) = false
is_end (Until cycles) = false
is_end AllRegisters = false
is_end (WhyStep lines) = false
is_end (Why subject k lines) = false
is_end (WhySince subject k lines since) = false
is_end (Words place k) = false
is_end Where = false
is_end (Find text) = false
is_end (Trace k) = false
is_end (TailSteps k) = false
is_end Inputs = false
is_end (Over k) = false
is_end (Out k) = false
is_end (Listed place k) = false
is_end (Values place k) = false
is_end Channels = false
is_end (Differs t) = false
is_end (Survey asked) = false
is_end (Say k) = false
is_end (WhatIf trial extent) = false
is_end Calls = false
is_end WhyWay = false
is_end (WhyControl subject) = false
is_end (WhyInputs subject) = false
is_end (WhyInterrupts subject) = false
is_end (Never place) = false
is_end (Quiet on) = false

-- what a request brings, in terms and over the reference run of what runs now
abbrev pub to_asked : Terms → ExtendedLine → Desk → Reply
to_asked terms request d = extended_reply terms (history d.scenario) d request

-- where a session stands after its replies to lines
abbrev pub desk_after : Terms → Reading → Desk → List (List ℕ) → Desk
desk_after terms read d [] = d
desk_after terms read d (line ∷ more) = desk_after terms read (to_asked terms (read line) d).desk more

-- the replies to lines, up to the end
abbrev pub conversation : Terms → Reading → Desk → List (List ℕ) → List ℕ
conversation terms read d [] = []
conversation terms read d (line ∷ more) =
    if is_end (read line) then []
    else (let r = to_asked terms (read line) d in r.text ++ conversation terms read r.desk more)

-- where they lead to
abbrev pub last_desk : Terms → Reading → Desk → List (List ℕ) → Desk
last_desk terms read d [] = d
last_desk terms read d (line ∷ more) =
    if is_end (read line) then d
    else last_desk terms read (to_asked terms (read line) d).desk more

-- the lines that are read: those up to the end
unfoldable pub lines_heard : Reading → List (List ℕ) → List (List ℕ)
lines_heard read [] = []
lines_heard read (line ∷ more) = line ∷ (if is_end (read line) then [] else lines_heard read more)

-- how many times the steps that were made a link of `why` executes, at most
abbrev pub index_effort : IndexLines → ℕ
index_effort Omitted = 6
index_effort Told = 9

abbrev pub link_effort : LinkLines → ℕ
link_effort lines = index_effort lines.index

-- how many times a request does, besides new ones: of `why` each link, and its last search once, or twice where it ends at a step; of the
-- last outputs each, and all steps twice; of `where` and `out` four times, of `calls` five; of a choice its search and its
-- links, of `never` two
-- searches and these
abbrev pub effort : ExtendedLine → ℕ
effort (WhyStep lines) = link_effort lines
effort (Why subject k lines) = link_effort lines * k + 1
effort (WhySince subject k lines since) = link_effort lines * k + 2
effort (TailSteps k) = 2 * (k + 1)
effort Where = 4
effort (Out k) = 4
effort Calls = 5
effort WhyWay = 105
effort (WhyControl subject) = 107
effort (Never place) = 107
effort request = 3

abbrev pub efforts : Reading → List (List ℕ) → ℕ
efforts read [] = 0
efforts read (line ∷ more) = effort (read line) + efforts read more

-- what a session is over: whether its keeper may refuse, the symbols, the source, what lines ask for, how many bytes of them are read at
-- most, and what runs at first
pub record Talk : Type 0 where
  pub may_refuse : Bool
  pub symbols : SymbolTable
  pub source : Source
  pub read : Reading
  pub most : ℕ
  pub scenario : Scenario

-- the replies to lines, where the calls that make steps and those that add inputs are answered so
abbrev pub talk_in : Talk → List Bool → List (Option ℕ) → List (List ℕ) → List ℕ
talk_in s answers additions lines = conversation (terms_of s.symbols s.source s.scenario) s.read (first_desk s.scenario answers additions)
    lines

-- and where they lead to
abbrev pub talk_leads_to : Talk → List Bool → List (Option ℕ) → List (List ℕ) → Desk
talk_leads_to s answers additions lines = last_desk (terms_of s.symbols s.source s.scenario) s.read
    (first_desk s.scenario answers additions) lines

-- the replies to lines were written, under some answers; where the keeper may not refuse, no call that makes a step was
-- refused for memory
pub record WritesTalk (s : Talk) (lines : List (List ℕ)) (old new : List ℕ) : Type 0 where
  pub answers : List Bool
  pub additions : List (Option ℕ)
  pub granted : s.may_refuse ≡ false → AllGranted answers
  pub written : new ≡ old ++ talk_in s answers additions lines

-- a beginning of them was written
pub record BeginsTalk (s : Talk) (lines : List (List ℕ)) (old new : List ℕ) : Type 0 where
  pub answers : List Bool
  pub additions : List (Option ℕ)
  pub granted : s.may_refuse ≡ false → AllGranted answers
  pub part : WritesBeginning old new (talk_in s answers additions lines)

-- a read failed after some bytes, and the replies to their whole lines were written
pub record EndsTalk (s : Talk) (commands : Commands) (old new : List ℕ) : Type 0 where
  pub bytes : List ℕ
  pub read : commands.before ≡ bytes ++ commands.left
  pub replied : WritesTalk s (ended_lines bytes) old new

-- what a session has written, by its answer: the replies to its lines; nothing where memory ran out; the replies to the whole
-- lines before a failed read; a beginning of them after a failed write
abbrev pub Talks : Talk → Commands → List ℕ → List ℕ → Result (Unit {0}) DebugFault → Type 0
Talks s commands old new (Ok x) = WritesTalk s (lines_within s.most commands.before) old new
Talks s commands old new (Err NoMemory) = new ≡ old
Talks s commands old new (Err ReadFailed) = EndsTalk s commands old new
Talks s commands old new (Err WriteFailed) = BeginsTalk s (lines_within s.most commands.before) old new

-- the session that is left, under the answers by which the replies were written: it stands where its lines lead to; at the start
-- where memory ran out; after a failed read where the whole lines before lead to. After a failed write nothing is said of it here
abbrev pub LeavesTalk : (s : Talk) (commands : Commands) (old new : List ℕ) (result : Result (Unit {0}) DebugFault) → SessionView
    → Talks s commands old new result → Type 0
LeavesTalk s commands old new (Ok x) left w = StandsAt (talk_leads_to s w.answers w.additions (lines_within s.most commands.before)) left
LeavesTalk s commands old new (Err NoMemory) left same = StandsAt (first_desk s.scenario [] []) left
LeavesTalk s commands old new (Err ReadFailed) left e = StandsAt
    (talk_leads_to s e.replied.answers e.replied.additions (ended_lines e.bytes)) left
LeavesTalk s commands old new (Err WriteFailed) left b = Unit {0}

-- both
abbrev pub TalksTo : Talk → Commands → List ℕ → List ℕ → Result (Unit {0}) DebugFault → SessionView → Type 0
TalksTo s commands old new result left = (w : Talks s commands old new result) × LeavesTalk s commands old new result left w
