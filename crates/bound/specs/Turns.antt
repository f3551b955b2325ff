-- Where an instruction of fixed memory leads, and after how many cycles, as far as its word tells.
use Rattle.std.specs.Prelude.{ℕ, ◌+◌, ◌/◌, ◌%◌, Bool, true, false, not, ◌==◌, ◌&&◌, ◌||◌, nat_lt, if◌then◌else◌, List}
use Rattle.std.specs.Prelude.{Option, Some, None}
use Rattle.std.specs.List.{list_any}
use Rattle.space.specs.Cells.{both_banks, fixed_bank, program_counter, return_address, return_address_channel, superbank_channel}
use Rattle.rope.specs.Places.{Words, word_at}
use Rattle.cpu.specs.declared.instruction.Instruction.{Instruction}
use Rattle.cpu.specs.declared.instruction.Instruction.TheVariants.{Extend, Resume, Tc, Ccs, Tcf, Das, Lxch, Incr, Ads, Index, Dxch, Ts, Xch}
use Rattle.cpu.specs.declared.instruction.Instruction.TheVariants.{Write, Wand, Wor, Bzf, Qxch, Aug, Dim, Bzmf}
use Rattle.cpu.specs.Codes.{code_of, row_of}
use Rattle.cpu.specs.Next.{jump_cycles}
use Rattle.cpu.specs.Operands.{address_of}
use Rattle.bound.specs.declared.kind.Kind.{Kind}
use Rattle.bound.specs.declared.kind.Kind.TheVariants as kind
use Rattle.bound.specs.declared.site.Mode.{Mode}
use Rattle.bound.specs.declared.site.Site.{Site}
use Rattle.bound.specs.declared.turn.Leg.{Leg}
use Rattle.bound.specs.declared.turn.Turn.{Turn}
use Rattle.bound.specs.declared.turn.Turn.TheVariants.{Back, Through, One, Two, Four, Stop}
use Rattle.bound.specs.declared.turn.Why.TheVariants.{Indexed, Leaves, Steers, Resumes, Changed}

-- how an instruction leads on
abbrev pub kind_of : Instruction → Kind
kind_of Tc = kind.Calls
kind_of Tcf = kind.Jumps
kind_of Bzf = kind.Branches
kind_of Bzmf = kind.Branches
kind_of Ccs = kind.Skips
kind_of Ts = kind.Stores
kind_of Index = kind.Indexes
kind_of Extend = kind.Extends
kind_of Resume = kind.Resumes
kind_of Das = kind.ChangesTwo
kind_of Dxch = kind.ChangesTwo
kind_of Lxch = kind.Changes
kind_of Incr = kind.Changes
kind_of Ads = kind.Changes
kind_of Xch = kind.Changes
kind_of Qxch = kind.Exchanges
kind_of Aug = kind.Changes
kind_of Dim = kind.Changes
kind_of Write = kind.PutsOut
kind_of Wand = kind.PutsOut
kind_of Wor = kind.PutsOut
kind_of _ = kind.Passes

-- the first address of fixed memory, and the first that leads to it whatever the bank registers hold
abbrev pub first_fixed : ℕ
first_fixed = 0o2000

abbrev pub first_unbanked : ℕ
first_unbanked = 0o4000

-- How a word is come to: whether extracode is in force, whether INDEX left a sum, whether Q holds the way back, and whether the way back
-- leads to a bank that FB and the superbank select.
abbrev pub mode : Bool → Bool → Bool → Bool → Mode
mode extra indexed held banked = record { extra = extra; indexed = indexed; held = held; banked = banked }

-- a word of fixed memory that is executed, by its bank and its address
abbrev pub site : ℕ → ℕ → Mode → Site
site bank address mode = record { bank = bank; address = address; mode = mode }

-- where a routine begins: nothing waits, and Q holds the way back
abbrev pub entry : Bool → Mode
entry banked = mode false false true banked

-- where nothing waits, and Q holds the way back or not
abbrev pub then_held : Site → Bool → Mode
then_held p held = mode false false held p.mode.banked

abbrev pub leg : Site → ℕ → Leg
leg to cycles = record { to = to; cycles = cycles }

-- The word to which an address leads in an instruction at p: none in erasable memory; below 4000 one of the bank of p, and none where p is
-- itself executed at an address from 4000 on, since FB may then hold any bank.
abbrev pub at_address : Site → ℕ → Mode → Option Site
at_address p address mode =
    if nat_lt address first_fixed then None
    else (if nat_lt address first_unbanked then (if nat_lt p.address first_unbanked then Some (site p.bank address mode) else None)
    else Some (site (address / 0o2000) address mode))

-- the word so many addresses further; the same where nothing waits, and Q holds the way back or not
abbrev pub further_so : Site → ℕ → Mode → Option Site
further_so p n mode = at_address p ((p.address + n) % 0o10000) mode

abbrev pub further : Site → ℕ → Bool → Option Site
further p n held = further_so p n (then_held p held)

-- the word to which a jump leads
abbrev pub target : Site → Option ℕ → Option Site
target p None = None
target p (Some address) = at_address p address (then_held p p.mode.held)

-- one way on, two, or four; none of these where one of them leads to erasable memory, or to a bank that no word tells
abbrev pub one : Option Site → ℕ → Turn
one None n = Stop Leaves
one (Some q) n = One (leg q n)

abbrev pub two : Option Site → ℕ → Option Site → ℕ → Turn
two (Some q) m (Some r) n = Two (leg q m) (leg r n)
two (Some q) m None n = Stop Leaves
two None m r n = Stop Leaves

abbrev pub four_by : Turn → Turn → Turn
four_by (Two a b) (Two c d) = Four a b c d
four_by _ _ = Stop Leaves

-- whether FB and the superbank select the bank of p, or one that it goes back to
abbrev pub needs_bank : Site → Bool
needs_bank p = nat_lt p.address first_unbanked || p.mode.banked

-- whether what an instruction at p writes decides which word comes after it: Z does, and where its bank counts FB, which BB has, and the
-- superbank's channel
abbrev pub steers : Site → ℕ → Bool
steers p r = r == program_counter || (needs_bank p && (r == fixed_bank || r == both_banks))

abbrev pub steers_by : Site → Option ℕ → Bool
steers_by p None = false
steers_by p (Some r) = steers p r

abbrev pub second : Option ℕ → Option ℕ
second None = None
second (Some r) = Some ((r + 1) % 0o10000)

abbrev pub steers_out : Site → ℕ → Bool
steers_out p channel = needs_bank p && channel == superbank_channel

-- where an instruction leads unless what it writes decides that
abbrev pub unless : Bool → Turn → Turn
unless b turn = if b then Stop Steers else turn

-- whether an address is among those of cells of which it is said that they keep Q
abbrev pub is_among : ℕ → List ℕ → Bool
is_among k kept = list_any (λ c. c == k) kept

-- whether Q holds the way back after an instruction at p that writes this place
abbrev pub still_held : Site → Option ℕ → Bool
still_held p None = p.mode.held
still_held p (Some r) = p.mode.held && not (r == return_address)

-- The same after QXCH: of Q itself as before it; of a cell that keeps Q where Q did not hold the way back, which the cell held; else not.
abbrev pub swapped : List ℕ → Site → Option ℕ → Bool
swapped kept p None = false
swapped kept p (Some k) =
    not p.mode.indexed && (if k == return_address then p.mode.held else is_among k kept && not p.mode.held)

-- a routine is called, and the way goes on at the word after the call, where Q holds something else, unless one of these is not told
abbrev pub through : Option Site → Option Site → ℕ → Turn
through (Some t) (Some q) n = Through t (leg q n)
through (Some t) None n = Stop Leaves
through None q n = Stop Leaves

-- back to where the routine was called: the word in Q or in a cell, an address, is executed as TC of it, so TC counts twice
abbrev pub back : Bool → ℕ → Turn
back held n = if held then Back (n + n) else Stop Changed

-- TC of a cell of which it is said that it keeps Q goes back, and so does TC of Q where it holds the way back
abbrev pub call : List ℕ → Site → Option ℕ → ℕ → Turn
call kept p None n = Stop Leaves
call kept p (Some k) n =
    if is_among k kept then back true n
    else (if k == return_address then back p.mode.held n
    else through (at_address p k (entry (needs_bank p))) (further p 1 false) n)

-- the next word, where Q holds the way back or not
abbrev pub next : Site → Bool → ℕ → Turn
next p held n = one (further p 1 held) n

-- the next word, while something waits
abbrev pub waits : Site → Bool → Bool → ℕ → Turn
waits p extra indexed n = one (further_so p 1 (mode extra indexed p.mode.held p.mode.banked)) n

-- so many words further, or one more
abbrev pub next_two : Site → ℕ → Bool → ℕ → Turn
next_two p k held n = two (further p k held) n (further p (k + 1) held) n

-- TS, which may skip a word; one that writes a place; QXCH; one that writes two places; one that writes its channel
abbrev pub stores : Site → Option ℕ → ℕ → Turn
stores p address n = unless (steers_by p address) (next_two p 1 (still_held p address) n)

abbrev pub changes : Site → Option ℕ → ℕ → Turn
changes p address n = unless (steers_by p address) (next p (still_held p address) n)

abbrev pub exchanges : List ℕ → Site → Option ℕ → ℕ → Turn
exchanges kept p address n = unless (steers_by p address) (next p (swapped kept p address) n)

abbrev pub changes_two : Site → Option ℕ → ℕ → Turn
changes_two p address n =
    unless (steers_by p address || steers_by p (second address)) (next p (still_held p address && still_held p (second address)) n)

abbrev pub puts_out : Site → ℕ → ℕ → Turn
puts_out p channel n = unless (steers_out p channel) (next p (p.mode.held && not (channel == return_address_channel)) n)

-- Where an instruction at p leads, by its kind, the address that it names, its cycles and its channel. A jump under INDEX leads where no
-- word tells.
abbrev pub turn_by : List ℕ → Site → Kind → Option ℕ → ℕ → ℕ → Turn
turn_by kept p kind.Calls address n channel = if p.mode.indexed then Stop Indexed else call kept p address n
turn_by kept p kind.Jumps address n channel = if p.mode.indexed then Stop Indexed else one (target p address) n
turn_by kept p kind.Branches address n channel =
    if p.mode.indexed then Stop Indexed else two (target p address) jump_cycles (further p 1 p.mode.held) n
turn_by kept p kind.Skips address n channel = four_by (next_two p 1 p.mode.held n) (next_two p 3 p.mode.held n)
turn_by kept p kind.Stores address n channel = stores p address n
turn_by kept p kind.Indexes address n channel = waits p p.mode.extra true n
turn_by kept p kind.Extends address n channel = waits p true false n
turn_by kept p kind.Resumes address n channel = Stop Resumes
turn_by kept p kind.Changes address n channel = changes p address n
turn_by kept p kind.Exchanges address n channel = exchanges kept p address n
turn_by kept p kind.ChangesTwo address n channel = changes_two p address n
turn_by kept p kind.PutsOut address n channel = puts_out p channel n
turn_by kept p kind.Passes address n channel = next p p.mode.held n

-- the same of the word at p
abbrev pub turn_of : List ℕ → Site → ℕ → Turn
turn_of kept p word =
    let code = code_of p.mode.extra word in
    turn_by kept p (kind_of code.instruction) (address_of code) (row_of code.instruction).cycles (word % 0o1000)

unfoldable pub turn : Words → List ℕ → Site → Turn
turn words kept p = turn_of kept p (word_at words p.bank (p.address % 0o2000))
