-- What the parts of the debugger do to a session and to what is written. Calls that take memory may be refused: what is said
-- holds under some answers of those that were made, whatever is answered later.
use Rattle.std.specs.Prelude.{◌≡◌, ℕ, ◌+◌, ◌*◌, ◌≤◌, Bool, false, List, [], ◌++◌, Option, Result, Ok, Err}
use Rattle.words.specs.Devices.{WritesBeginning}
use Rattle.words.specs.declared.device.WriteFailed.{WriteFailed}
use Rattle.commands.specs.declared.command.Breakpoint.{Breakpoint}
use Rattle.commands.specs.declared.command.ParsedLine.{ParsedLine}
use Rattle.replay.specs.View.{SessionView}
use Rattle.debugger.specs.History.{History, history, in_manner}
use Rattle.debugger.specs.declared.manner.Manner.{Manner}
use Rattle.debugger.specs.Growth.{growth_told}
use Rattle.debugger.specs.Replies.{Desk, Reply, says, answer}
use Rattle.debugger.specs.Sessions.{AllGranted}
use Rattle.commands.specs.declared.extended.ExtendedLine.{ExtendedLine}
use Rattle.debugger.specs.ExtendedReplies.{grows_to, grows_until, further}
use Rattle.debugger.specs.Conversation.{to_asked}
use Rattle.debugger.specs.Terms.{Terms}
use Rattle.debugger.specs.Routines.{goes_to, grows_there}
use Rattle.debugger.specs.declared.ending.Ending.{Ending}

-- steps were made, up to an ending, and the lines of their outputs written, or how many these are
pub record Grown (may_refuse quiet : Bool) (h : History) (breakpoints : List Breakpoint) (more n : ℕ) (ending : Ending) (steps : ℕ)
    (old new : List ℕ) : Type 0 where
  pub answers : List Bool
  pub granted : may_refuse ≡ false → AllGranted answers
  pub text : List ℕ
  pub goes_on : (rest : List Bool) → growth_told quiet h breakpoints more n (answers ++ rest)
      ≡ record { text = text; steps = steps; answers = rest; ending = ending }
  pub written : new ≡ old ++ text

-- a line could not be written whole
pub record GrowthBroken (may_refuse quiet : Bool) (h : History) (breakpoints : List Breakpoint) (more n : ℕ) (old new : List ℕ) : Type 0 where
  pub answers : List Bool
  pub granted : may_refuse ≡ false → AllGranted answers
  pub part : WritesBeginning old new (growth_told quiet h breakpoints more n answers).text

abbrev pub Grows : Bool → Bool → History → List Breakpoint → ℕ → ℕ → ℕ → List ℕ → List ℕ → Result Ending WriteFailed → Type 0
Grows may_refuse quiet h breakpoints more n steps old new (Ok ending) = Grown may_refuse quiet h breakpoints more n ending steps old new
Grows may_refuse quiet h breakpoints more n steps old new (Err failed) = GrowthBroken may_refuse quiet h breakpoints more n old new

-- where a session stands, with no answer to come
abbrev pub desk : SessionView → ℕ → List Breakpoint → Bool → Desk
desk s position breakpoints quiet =
    record {
      scenario = s.scenario;
      steps = s.n;
      position = position;
      breakpoints = breakpoints;
      quiet = quiet;
      answers = [];
      additions = [];
    }

-- with these answers to come
abbrev pub awaiting : Desk → List Bool → List (Option ℕ) → Desk
awaiting d answers additions = record d { answers = answers; additions = additions }

-- what a request brings in a manner
abbrev pub to_request : Manner → ParsedLine → Desk → Reply
to_request m request d = answer (in_manner m (history d.scenario)) d request

-- the same, with these answers to come
abbrev pub answered : Manner → Desk → ParsedLine → List Bool → List (Option ℕ) → Reply
answered m d request answers additions = to_request m request (awaiting d answers additions)

-- something that is asked for has this text as its reply, and leads from one place to the other
abbrev pub BringsAsked : Desk → ExtendedLine → List ℕ → Desk → Type 0
BringsAsked from request text to = (terms : Terms) (answers : List Bool) (additions : List (Option ℕ))
    → to_asked terms request (awaiting from answers additions) ≡ says text (awaiting to answers additions)

-- a request has this text as its reply in a manner, and leads from one place to the other
abbrev pub BringsIn : Manner → Desk → ParsedLine → List ℕ → Desk → Type 0
BringsIn m from request text to = (answers : List Bool) (additions : List (Option ℕ))
    → answered m from request answers additions ≡ says text (awaiting to answers additions)

-- the same, in any manner
abbrev pub Brings : Desk → ParsedLine → List ℕ → Desk → Type 0
Brings from request text to = (m : Manner) → BringsIn m from request text to

-- a request that may add an input has this text as its reply, under some answers of the calls that add
pub record BringsAdding (from : Desk) (request : ParsedLine) (text : List ℕ) (to : Desk) : Type 0 where
  pub additions : List (Option ℕ)
  pub brings : (m : Manner) (answers : List Bool) (later : List (Option ℕ))
      → answered m from request answers (additions ++ later) ≡ says text (awaiting to answers later)

-- something was answered: its reply was written
pub record Replied (may_refuse : Bool) (reply : Desk → Reply) (from to : Desk) (old new : List ℕ) : Type 0 where
  pub answers : List Bool
  pub additions : List (Option ℕ)
  pub granted : may_refuse ≡ false → AllGranted answers
  pub text : List ℕ
  pub brings : (rest : List Bool) (later : List (Option ℕ))
      → reply (awaiting from (answers ++ rest) (additions ++ later)) ≡ says text (awaiting to rest later)
  pub written : new ≡ old ++ text

-- its reply could not be written whole
pub record ReplyBroken (may_refuse : Bool) (reply : Desk → Reply) (from : Desk) (old new : List ℕ) : Type 0 where
  pub answers : List Bool
  pub additions : List (Option ℕ)
  pub granted : may_refuse ≡ false → AllGranted answers
  pub part : WritesBeginning old new (reply (awaiting from answers additions)).text

abbrev pub Replies : Bool → (Desk → Reply) → Desk → Desk → List ℕ → List ℕ → Result (Unit {0}) WriteFailed → Type 0
Replies may_refuse reply from to old new (Ok x) = Replied may_refuse reply from to old new
Replies may_refuse reply from to old new (Err failed) = ReplyBroken may_refuse reply from old new

abbrev pub Executes : Manner → Bool → Desk → ParsedLine → Desk → List ℕ → List ℕ → Result (Unit {0}) WriteFailed → Type 0
Executes m may_refuse from request to old new result = Replies may_refuse (to_request m request) from to old new result

-- what `on` brings where no breakpoint holds among the steps that stand
abbrev pub grows_on : ℕ → Desk → Reply
grows_on k d = grows_to (further (history d.scenario)) d (d.position + k)

-- what `until` brings where no step that was made has so many cycles
abbrev pub makes_until : ℕ → Desk → Reply
makes_until cycles d = grows_until (further (history d.scenario)) d cycles

-- what `over` and `out` bring, by where they end; and where none of the steps that stand comes to it
abbrev pub goes_to_end : Breakpoint → ℕ → Desk → Reply
goes_to_end end k d = goes_to (further (history d.scenario)) d k end

abbrev pub grows_to_end : Breakpoint → ℕ → Desk → Reply
grows_to_end end k d = grows_there (further (history d.scenario)) d end (d.position + k)

-- what a look at earlier steps leaves: only the shown machine and the meter may change, and so many steps are executed at
-- most
pub record HasLooked (old new : SessionView) (most : ℕ) : Type 0 where
  pub scenario : new.scenario ≡ old.scenario
  pub steps : new.n ≡ old.n
  pub cost : new.meter ≤ old.meter + most

-- what a command leaves of a session, beside its steps: it executes at most as many steps as it makes, and three times as
-- many as there are then
pub record HasGoneOn (old new : SessionView) : Type 0 where
  pub forward : old.n ≤ new.n
  pub cost : new.meter + old.n ≤ old.meter + 4 * new.n

-- the same, of a command that executes so many times the steps that there are
pub record HasDone (effort : ℕ) (old new : SessionView) : Type 0 where
  pub forward : old.n ≤ new.n
  pub cost : new.meter + old.n ≤ old.meter + (effort + 1) * new.n
