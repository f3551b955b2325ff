-- What sessions over a program are opened, what the engine of the debugger answers, and what it has then written.
use Rattle.std.specs.Prelude.{◌≡◌, ℕ, Bool, true, false, List, [], Result, Ok, Err}
use Rattle.words.specs.Readings.{TakesAtMost}
use Rattle.cpu.specs.State.{State, start}
use Rattle.debugger.specs.Transcript.{most_command_bytes}
use Rattle.commands.specs.Extended.{extended_line}
use Rattle.debugger.specs.Conversation.{Talk, Talks, most_extended_bytes}
use Rattle.debugger.specs.Sessions.{Setting, Debugs}
use Rattle.debugger.specs.declared.fault.DebugFault.{DebugFault}
use Rattle.replay.specs.Calls.{Event, Saw, TimeTravel}
use Rattle.replay.specs.View.{SessionView}
use Rattle.replay.specs.declared.calls.Call.{Call}
use Rattle.workshop.specs.declared.debugging.Opened.{Opened}
use Rattle.workshop.specs.declared.fault.WorkshopFault.{WorkshopFault}
use Rattle.workshop.specs.declared.fault.WorkshopFault.TheVariants.{NoMemory}
use Rattle.workshop.specs.Faults.{of_debug_fault}
use Rattle.workshop.specs.declared.inputs.Loaded.{Loaded}
use Rattle.workshop.specs.declared.origin.Origin.{Origin}
use Rattle.workshop.specs.declared.origin.Origin.TheVariants.{Source}
use Rattle.yayul.specs.PlaceRows.{no_source}
use Rattle.yayul.specs.Program as Program
use Rattle.yayul.specs.declared.language.Language.TheVariants.{Standard}
use Rattle.workshop.specs.Failures.{Reader, Writer, has_read_failed, has_write_failed, failures_if}
use Rattle.workshop.specs.Inputs.{scenario_of}
use Rattle.workshop.specs.Loading.{Files, Loads, program_and_feed}

-- the session over a program and inputs that has made no step
abbrev pub opened : Loaded → SessionView
opened l = record { scenario = scenario_of l; meter = 0; images = []; present = start; shown = (0, start); n = 0 }

-- where a program and a feed were read a session over them is opened, unless memory ran out
abbrev pub OpensThen : Result Loaded WorkshopFault → Result Opened WorkshopFault → Type 0
OpensThen (Ok l) (Ok o) = (o.session ≡ opened l) × (o.symbols ≡ l.symbols)
OpensThen (Ok l) (Err fault) = fault ≡ NoMemory
OpensThen (Err fault) result = result ≡ Err fault

-- a session is opened over a program and a feed, beside the program's source, unless memory ran out
abbrev pub OpensListed : Loaded → Result (Opened × Program.Source) WorkshopFault → Type 0
OpensListed l (Ok o) = (o.0.session ≡ opened l) × (o.0.symbols ≡ l.symbols) × (o.1 ≡ l.rows)
OpensListed l (Err fault) = fault ≡ NoMemory

-- a program and a feed are read, and what was read decides what is opened
pub record Opens (from : Origin) (before after : Files) (result : Result Opened WorkshopFault) : Type 0 where
  pub loaded : Result Loaded WorkshopFault
  pub loads : Loads from before after loaded
  pub next : OpensThen loaded result

-- how a session of commands has ended, as an engine tells it
abbrev pub of_debugging : Result (Unit {0}) DebugFault → Result (Unit {0}) WorkshopFault
of_debugging (Ok x) = Ok x
of_debugging (Err fault) = Err (of_debug_fault fault)

-- what a session that was opened is over: no step is refused for memory
abbrev pub setting_of : Opened → Setting
setting_of o = record { may_refuse = false; symbols = o.symbols; scenario = o.session.scenario }

-- what an engine of commands has
pub record Debugging : Type 0 where
  pub files : Files
  pub commands : Reader
  pub out : Writer

abbrev pub in_session : Reader → Reader → Reader → Writer → Debugging
in_session program feed commands out = record { files = program_and_feed program feed; commands = commands; out = out }

-- the commands are answered over a session that was opened: the transcript is written where the commands and what is written are
-- told; and the reader of the commands or the writer has failed exactly where that is answered
pub record AnswersCommands (o : Opened) (before after : Debugging) (result : Result (Unit {0}) WorkshopFault) : Type 0 where
  pub ended : Result (Unit {0}) DebugFault
  pub gives : result ≡ of_debugging ended
  pub replies : before.commands.told ≡ true → before.out.told ≡ true →
      Debugs (setting_of o) (record { before = before.commands.left; left = after.commands.left }) before.out.written after.out.written
      ended
  pub reader : after.commands.failures ≡ failures_if (has_read_failed result) before.commands.failures
  pub writer : after.out.failures ≡ failures_if (has_write_failed result) before.out.failures
  pub read : before.commands.told ≡ true → TakesAtMost most_command_bytes before.commands.left after.commands.left

-- where a session was opened its commands are answered, and after a fault none is read and nothing written
abbrev pub DebugsThen : Result Opened WorkshopFault → Debugging → Debugging → Result (Unit {0}) WorkshopFault → Type 0
DebugsThen (Ok o) before after result = AnswersCommands o before after result
DebugsThen (Err fault) before after result = (result ≡ Err fault) × (after.commands ≡ before.commands) × (after.out ≡ before.out)

-- a session is opened, and what was opened decides what is debugged
pub record DebugsProgram (from : Origin) (before after : Debugging) (result : Result (Unit {0}) WorkshopFault) : Type 0 where
  pub opened : Result Opened WorkshopFault
  pub opens : Opens from before.files after.files opened
  pub next : DebugsThen opened before after result

-- the source of a program that was read
abbrev pub source_of : Result Loaded WorkshopFault → Program.Source
source_of (Ok l) = l.rows
source_of (Err fault) = no_source

-- what an extended session that was opened is over
abbrev pub talk_of : Program.Source → Opened → Talk
talk_of source o = record {
  may_refuse = false;
  symbols = o.symbols;
  source = source;
  read = extended_line o.symbols;
  most
      = most_extended_bytes;
  scenario = o.session.scenario;
}

-- the lines of an extended session are answered over a session that was opened, as commands are
pub record AnswersExtended (source : Program.Source) (o : Opened) (before after : Debugging) (result : Result (Unit {0}) WorkshopFault) :
    Type 0 where
  pub ended : Result (Unit {0}) DebugFault
  pub gives : result ≡ of_debugging ended
  pub replies : before.commands.told ≡ true → before.out.told ≡ true →
      Talks (talk_of source o) (record { before = before.commands.left; left = after.commands.left }) before.out.written after.out.written
      ended
  pub reader : after.commands.failures ≡ failures_if (has_read_failed result) before.commands.failures
  pub writer : after.out.failures ≡ failures_if (has_write_failed result) before.out.failures
  pub read : before.commands.told ≡ true → TakesAtMost most_extended_bytes before.commands.left after.commands.left

-- where a session was opened its lines are answered, and after a fault none is read and nothing written
abbrev pub DebugsExtendedThen : Program.Source → Result Opened WorkshopFault → Debugging → Debugging → Result (Unit {0}) WorkshopFault
    → Type 0
DebugsExtendedThen source (Ok o) before after result = AnswersExtended source o before after result
DebugsExtendedThen source (Err fault) before after result = (result ≡ Err fault) × (after.commands ≡ before.commands)
    × (after.out ≡ before.out)

-- a session is opened, and what was opened decides what is debugged, with the source that was read
pub record DebugsExtended (from : Origin) (before after : Debugging) (result : Result (Unit {0}) WorkshopFault) : Type 0 where
  pub opened : Result Opened WorkshopFault
  pub opens : Opens from before.files after.files opened
  pub next : DebugsExtendedThen (source_of opens.loaded) opened before after result

-- the time-travel theorem, of the program of a source over the inputs of a feed: of a list of calls of a session over them
-- that begins at the start, an observer saw some events, each call with its answer, and the session came to step n
pub record Travels {O : Type 0} (l : Loaded) (sees : O → Event → O → Type 0) (returns : State → Bool → Type 0) (calls : List Call)
    (old new : O) (n : ℕ) : Type 0 where
  pub events : List Event
  pub session : SessionView
  pub saw : Saw sees old events new
  pub travel : TimeTravel false returns (opened l) calls events session
  pub steps : n ≡ session.n

-- a session is opened over the program of a source of the standard language; where none is, the observer is as it was, and why is answered
abbrev pub FollowsThen : {O : Type 0} → Result Opened WorkshopFault → O → O → Result ℕ WorkshopFault → Type 0
FollowsThen (Ok o) old new (Ok n) = Unit {0}
FollowsThen (Ok o) old new (Err fault) = ⊥
FollowsThen (Err fault) old new result = (result ≡ Err fault) × (new ≡ old)

pub record Follows {O : Type 0} (before after : Files) (old new : O) (result : Result ℕ WorkshopFault) : Type 0 where
  pub opened : Result Opened WorkshopFault
  pub opens : Opens (Source Standard) before after opened
  pub next : FollowsThen opened old new result
