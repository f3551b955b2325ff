-- What a test claims of a run, and whether the run of some steps bears it out.
use Rattle.std.specs.Prelude.{ℕ, zero, suc, ◌+◌, ◌-◌, ◌%◌, ◌==◌, ◌&&◌, not, Bool, false, nat_lt, nat_le, int_lt, int_le, Option, Some, None}
use Rattle.std.specs.Prelude.{if◌then◌else◌}
use Rattle.std.specs.Option.{option_or}
use Rattle.words.specs.Numbers.{correct, value}
use Rattle.space.specs.Cells.{get, return_address}
use Rattle.space.specs.Places.{same_place}
use Rattle.space.specs.declared.place.Linear.{Linear}
use Rattle.cpu.specs.declared.account.Account.{Account}
use Rattle.cpu.specs.declared.account.Account.TheVariants as account
use Rattle.cpu.specs.declared.account.Account.TheVariants.{Entry, Waiting, Place}
use Rattle.cpu.specs.declared.output.Output.{Output}
use Rattle.cpu.specs.Effects.{next_address, place_in}
use Rattle.cpu.specs.Profiles.{account_of}
use Rattle.cpu.specs.Run.{run, out}
use Rattle.cpu.specs.State.{State, Scenario}
use Rattle.expect.specs.declared.claim.Claim.{Claim}
use Rattle.expect.specs.declared.claim.Claim.TheVariants.{Puts, PutsNoMore, Always, Never, AtEnd, At, Calls, CallsWithin}
use Rattle.expect.specs.declared.claim.Claim.TheVariants.{Notes, Check, Covered}
use Rattle.expect.specs.declared.claim.Condition.{Condition}
use Rattle.expect.specs.declared.claim.Relation.{Relation}
use Rattle.expect.specs.declared.claim.Relation.TheVariants.{Same, Other, Less, Greater, AtMost, AtLeast}
use Rattle.expect.specs.declared.claim.Sought.{Sought}
use Rattle.expect.specs.declared.watch.Call.{Call}
use Rattle.expect.specs.declared.watch.Failure.{Failure}

-- how a word stands to another: as a word, or by the number that it stands for, of which both zeros are 0
abbrev pub related : Relation → ℕ → ℕ → Bool
related Same word other = word == other
related Other word other = not (word == other)
related Less word other = int_lt (value word) (value other)
related Greater word other = int_lt (value other) (value word)
related AtMost word other = int_le (value word) (value other)
related AtLeast word other = int_le (value other) (value word)

-- the word at an erasable place after some steps
abbrev pub word_at : ℕ → State → ℕ
word_at place s = correct (get s.cells place)

-- whether a condition holds in a state
abbrev pub holds : Condition → State → Bool
holds c s = related c.relation (word_at c.place s) c.word

-- whether a step has put a word on a channel, and the word
abbrev pub is_on : ℕ → Option Output → Bool
is_on channel None = false
is_on channel (Some put) = put.channel == channel

abbrev pub word_of : Option Output → Option ℕ
word_of None = None
word_of (Some put) = Some put.word

-- whether it is the word that is sought, in time
abbrev pub is_sought : Sought → Option Output → Bool
is_sought sought None = false
is_sought sought (Some put) = put.word == sought.word && nat_le put.cycles sought.within

-- the place of a word that RESUME brings back, past which Z leads
abbrev pub resumed_place : State → Linear
resumed_place s = place_in s ((next_address s + 0o7777) % 0o10000)

-- whether the next step, by its account, executes the word at a place
abbrev pub executes : Linear → State → Account → Bool
executes place s account.Input = false
executes place s Entry = false
executes place s Waiting = same_place place (resumed_place s)
executes place s (Place next) = same_place place next

-- whether a program that stands so executes the word at a place next
abbrev pub is_at : Scenario → Linear → State → Bool
is_at scenario place s = executes place s (account_of scenario s)

-- the call of a routine that goes on: it begins where the program comes to the routine, and ends where Z is what Q was then; what is
-- called within it belongs to it
abbrev pub begun : State → Call
begun s = record { back = get s.cells return_address % 0o10000; cycles = s.cycles }

abbrev pub on_call : Scenario → Linear → State → Option Call → Option Call
on_call scenario place s None = if is_at scenario place s then Some (begun s) else None
on_call scenario place s (Some call) = if next_address s == call.back then None else Some call

-- the same of a claim's routine; another claim has none
abbrev pub called : Scenario → Claim → State → Option Call → Option Call
called scenario (CallsWithin place most) s call = on_call scenario place s call
called scenario _ s call = None

-- whether a call has taken more cycles
abbrev pub is_long : ℕ → State → Option Call → Bool
is_long most s None = false
is_long most s (Some call) = nat_lt most (s.cycles - call.cycles)

-- what a claim counts: words on its channel, or how often the program comes to its place
abbrev pub counts : Scenario → Claim → State → Option Output → Bool
counts scenario (Puts sought) s put = is_on sought.channel put
counts scenario (PutsNoMore channel most) s put = is_on channel put
counts scenario (Always c) s put = false
counts scenario (Never c) s put = false
counts scenario (AtEnd c) s put = false
counts scenario (At place c) s put = is_at scenario place s
counts scenario (Calls place times) s put = is_at scenario place s
counts scenario (CallsWithin place most) s put = is_at scenario place s
counts scenario (Notes allowed) s put = false
counts scenario Check s put = false
counts scenario (Covered least) s put = false

-- whether a step breaks a claim that has counted so many before, while a call went on: s is the state after it, and put what it has put out
abbrev pub breaks : Scenario → Claim → ℕ → Option Call → State → Option Output → Bool
breaks scenario (Puts sought) seen call s put = is_on sought.channel put && seen == sought.before && not (is_sought sought put)
breaks scenario (PutsNoMore channel most) seen call s put = is_on channel put && nat_le most seen
breaks scenario (Always c) seen call s put = not (holds c s)
breaks scenario (Never c) seen call s put = holds c s
breaks scenario (AtEnd c) seen call s put = false
breaks scenario (At place c) seen call s put = is_at scenario place s && not (holds c s)
breaks scenario (Calls place times) seen call s put = is_at scenario place s && nat_le times seen
breaks scenario (CallsWithin place most) seen call s put = is_long most s call
breaks scenario (Notes allowed) seen call s put = false
breaks scenario Check seen call s put = false
breaks scenario (Covered least) seen call s put = false

-- what is told of a step that breaks it: the word that was put out, or the word at its place
abbrev pub told_of : Claim → State → Option Output → Option ℕ
told_of (Puts sought) s put = word_of put
told_of (PutsNoMore channel most) s put = word_of put
told_of (Always c) s put = Some (word_at c.place s)
told_of (Never c) s put = Some (word_at c.place s)
told_of (AtEnd c) s put = Some (word_at c.place s)
told_of (At place c) s put = Some (word_at c.place s)
told_of (Calls place times) s put = None
told_of (CallsWithin place most) s put = None
told_of (Notes allowed) s put = None
told_of Check s put = None
told_of (Covered least) s put = None

-- whether a claim that no step has broken, and that has counted so many, is still not borne out at the end
abbrev pub lacks : Claim → ℕ → State → Bool
lacks (Puts sought) seen s = nat_le seen sought.before
lacks (PutsNoMore channel most) seen s = false
lacks (Always c) seen s = false
lacks (Never c) seen s = false
lacks (AtEnd c) seen s = not (holds c s)
lacks (At place c) seen s = seen == 0
lacks (Calls place times) seen s = nat_lt seen times
lacks (CallsWithin place most) seen s = seen == 0
lacks (Notes allowed) seen s = false
lacks Check seen s = false
lacks (Covered least) seen s = false

-- what is told of the end then: nothing where it never came
abbrev pub told_at_end : Claim → State → Option ℕ
told_at_end (AtEnd c) s = Some (word_at c.place s)
told_at_end (Puts sought) s = None
told_at_end (PutsNoMore channel most) s = None
told_at_end (Always c) s = None
told_at_end (Never c) s = None
told_at_end (At place c) s = None
told_at_end (Calls place times) s = None
told_at_end (CallsWithin place most) s = None
told_at_end (Notes allowed) s = None
told_at_end Check s = None
told_at_end (Covered least) s = None

-- ## Of a run
-- how many a claim counts at the start and in the first n steps
unfoldable pub seen : Scenario → Claim → ℕ → ℕ
seen scenario claim zero = if counts scenario claim (run scenario 0) None then 1 else 0
seen scenario claim (suc n) = seen scenario claim n + (if counts scenario claim (run scenario (suc n)) (out scenario (suc n)) then 1 else 0)

-- the call that goes on after the first n steps
unfoldable pub call_at : Scenario → Claim → ℕ → Option Call
call_at scenario claim zero = called scenario claim (run scenario 0) None
call_at scenario claim (suc n) = called scenario claim (run scenario (suc n)) (call_at scenario claim n)

-- a step that does not bear a claim out: its number, the cycles after it, and what is told of it
abbrev pub failure : ℕ → State → Option ℕ → Failure
failure step s told = record { step = step; cycles = s.cycles; word = told }

-- what a step tells that breaks a claim; none where it does not
abbrev pub broken_by : Scenario → Claim → ℕ → Option Call → ℕ → State → Option Output → Option Failure
broken_by scenario claim seen call step s put =
    if breaks scenario claim seen call s put then Some (failure step s (told_of claim s put)) else None

-- what the start tells that breaks a claim of a place, to which the program comes there; the start is no step, so of others it tells
-- nothing
abbrev pub broken_at_start : Scenario → Claim → State → Option Failure
broken_at_start scenario (At place c) s = broken_by scenario (At place c) 0 None 0 s None
broken_at_start scenario (Calls place times) s = broken_by scenario (Calls place times) 0 None 0 s None
broken_at_start scenario _ s = None

-- the start, or the first of n steps, that breaks a claim
unfoldable pub broken : Scenario → Claim → ℕ → Option Failure
broken scenario claim zero = broken_at_start scenario claim (run scenario 0)
broken scenario claim (suc n) =
    option_or (broken scenario claim n) (broken_by scenario claim (seen scenario claim n) (call_at scenario claim n) (suc n)
    (run scenario (suc n)) (out scenario (suc n)))

-- what the end tells where a claim lacks something still
abbrev pub lacking : Claim → ℕ → ℕ → State → Option Failure
lacking claim seen n s = if lacks claim seen s then Some (failure n s (told_at_end claim s)) else None

-- where a claim of n steps fails first; none where it is met
abbrev pub fate : Scenario → ℕ → Claim → Option Failure
fate scenario n claim = option_or (broken scenario claim n) (lacking claim (seen scenario claim n) n (run scenario n))
