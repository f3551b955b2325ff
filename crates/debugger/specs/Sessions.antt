-- What a session of commands writes.
use Rattle.std.specs.Prelude.{◌≡◌, ℕ, Bool, true, false, List, [], ◌∷◌, ◌++◌, Option, Result, Ok, Err}
use Rattle.agc_text.specs.Lines.{ended_lines}
use Rattle.words.specs.Devices.{WritesBeginning}
use Rattle.cpu.specs.State.{Scenario}
use Rattle.symbols.specs.Values.{SymbolTable}
use Rattle.replay.specs.View.{SessionView}
use Rattle.debugger.specs.Replies.{Desk}
use Rattle.debugger.specs.Transcript.{replies, first_desk, desk_at_end, command_lines}
use Rattle.debugger.specs.declared.fault.DebugFault.{DebugFault}
use Rattle.debugger.specs.declared.fault.DebugFault.TheVariants.{NoMemory, ReadFailed, WriteFailed}

-- no call is refused
abbrev pub AllGranted : List Bool → Type 0
AllGranted [] = Unit {0}
AllGranted (refused ∷ more) = (refused ≡ false) × AllGranted more

-- what a session is over: whether its keeper may refuse, the symbols, and what runs at first
pub record Setting : Type 0 where
  pub may_refuse : Bool
  pub symbols : SymbolTable
  pub scenario : Scenario

-- the replies to lines, where the calls that make steps and those that add inputs are answered so
abbrev pub replies_in : Setting → List Bool → List (Option ℕ) → List (List ℕ) → List ℕ
replies_in s answers additions lines = replies s.symbols (first_desk s.scenario answers additions) lines

-- and where they lead to
abbrev pub replies_lead_to : Setting → List Bool → List (Option ℕ) → List (List ℕ) → Desk
replies_lead_to s answers additions lines = desk_at_end s.symbols (first_desk s.scenario answers additions) lines

-- a session stands there: it runs what runs there, and has made as many steps
pub record StandsAt (d : Desk) (left : SessionView) : Type 0 where
  pub scenario : left.scenario ≡ d.scenario
  pub steps : left.n ≡ d.steps

-- the replies to lines were written, under some answers; where the keeper may not refuse, no call that makes a step was
-- refused for memory
pub record WritesReplies (s : Setting) (lines : List (List ℕ)) (old new : List ℕ) : Type 0 where
  pub answers : List Bool
  pub additions : List (Option ℕ)
  pub granted : s.may_refuse ≡ false → AllGranted answers
  pub written : new ≡ old ++ replies_in s answers additions lines

-- a beginning of them was written
pub record BeginsReplies (s : Setting) (lines : List (List ℕ)) (old new : List ℕ) : Type 0 where
  pub answers : List Bool
  pub additions : List (Option ℕ)
  pub granted : s.may_refuse ≡ false → AllGranted answers
  pub part : WritesBeginning old new (replies_in s answers additions lines)

-- the commands, of which some are left
pub record Commands : Type 0 where
  pub before : List ℕ
  pub left : List ℕ

-- a read failed after some bytes, and the replies to their whole lines were written
pub record EndsReading (s : Setting) (commands : Commands) (old new : List ℕ) : Type 0 where
  pub bytes : List ℕ
  pub read : commands.before ≡ bytes ++ commands.left
  pub replied : WritesReplies s (ended_lines bytes) old new

-- what a session of commands has written, by its answer: the transcript; nothing where memory ran out; the replies to the
-- whole lines before a failed read; a beginning of the transcript after a failed write
abbrev pub Debugs : Setting → Commands → List ℕ → List ℕ → Result (Unit {0}) DebugFault → Type 0
Debugs s commands old new (Ok x) = WritesReplies s (command_lines commands.before) old new
Debugs s commands old new (Err NoMemory) = new ≡ old
Debugs s commands old new (Err ReadFailed) = EndsReading s commands old new
Debugs s commands old new (Err WriteFailed) = BeginsReplies s (command_lines commands.before) old new

-- the session that is left, under the answers by which the replies were written: it stands where its lines lead to; at the start
-- where memory ran out; after a failed read where the whole lines before lead to. After a failed write nothing is said of it here
abbrev pub Leaves : (s : Setting) (commands : Commands) (old new : List ℕ) (result : Result (Unit {0}) DebugFault) → SessionView
    → Debugs s commands old new result → Type 0
Leaves s commands old new (Ok x) left w = StandsAt (replies_lead_to s w.answers w.additions (command_lines commands.before)) left
Leaves s commands old new (Err NoMemory) left same = StandsAt (first_desk s.scenario [] []) left
Leaves s commands old new (Err ReadFailed) left e = StandsAt (replies_lead_to s e.replied.answers e.replied.additions (ended_lines e.bytes))
    left
Leaves s commands old new (Err WriteFailed) left b = Unit {0}

-- both
abbrev pub DebugsTo : Setting → Commands → List ℕ → List ℕ → Result (Unit {0}) DebugFault → SessionView → Type 0
DebugsTo s commands old new result left = (w : Debugs s commands old new result) × Leaves s commands old new result left w

-- the fault of a failed read, and that of a failed write
abbrev pub has_read_failed : {T : Type 0} → Result T DebugFault → Bool
has_read_failed (Ok x) = false
has_read_failed (Err NoMemory) = false
has_read_failed (Err ReadFailed) = true
has_read_failed (Err WriteFailed) = false

abbrev pub has_write_failed : {T : Type 0} → Result T DebugFault → Bool
has_write_failed (Ok x) = false
has_write_failed (Err NoMemory) = false
has_write_failed (Err ReadFailed) = false
has_write_failed (Err WriteFailed) = true

-- the number that a fault is told by
abbrev pub number_of : DebugFault → ℕ
number_of NoMemory = 2
number_of ReadFailed = 6
number_of WriteFailed = 7
