-- What each step did, in a sentence. In a sentence stand for what it tells of:
--   <  >   A before the step, and after it        (  )   L
--   [  ]   the operand, or a counter              {  }   the word behind it, or the counter into which an overflow is carried
--   ^  |   A and the operand before the step, without an overflow
--   @   what the operand, or the pulse, is called    &   the pulse of the other counter       ~   an interrupt
--   #   the number of the channel                    !   the word on it after the step
--   $   Q after the step, as an address              %   the operand after the step, its bits alone
use Rattle.std.specs.Prelude.{ℕ, ◌%◌, ◌^◌, ◌==◌, ◌&&◌, ◌||◌, Bool, true, false, not, nat_le, List, [], ◌++◌, codes, Option, None, Some}
use Rattle.std.specs.Prelude.{if◌then◌else◌}
use Rattle.words.specs.Numbers.{correct}
use Rattle.words.specs.Products.{quotient_fits}
use Rattle.words.specs.Signs.{over, minus_zero, is_zero, is_minus_wide}
use Rattle.space.specs.Cells.{accumulator, return_address, program_counter, cycle_right, edit_opcode, lower_accumulator_channel}
use Rattle.space.specs.Cells.{return_address_channel, superbank_channel}
use Rattle.space.specs.declared.place.Linear.{Linear}
use Rattle.space.specs.declared.place.Linear.TheVariants.{Erasable, Fixed}
use Rattle.feed.specs.declared.input.Counter.{Counter}
use Rattle.feed.specs.declared.input.Input.{Input}
use Rattle.feed.specs.declared.input.Input.TheVariants.{Count, Word, Interrupt}
use Rattle.feed.specs.declared.input.Sequence.{Sequence}
use Rattle.feed.specs.declared.input.Sequence.TheVariants.{Pinc, Minc, Dinc, Pcdu, Mcdu, Shinc, Shanc}
use Rattle.cpu.specs.declared.instruction.Instruction.{Instruction}
use Rattle.cpu.specs.declared.instruction.Instruction.TheVariants.{Relint, Inhint, Extend, Resume, Tc, Ccs, Tcf, Das, Lxch, Incr, Ads, Ca}
use Rattle.cpu.specs.declared.instruction.Instruction.TheVariants.{Cs, Index, Dxch, Ts, Xch, Ad, Mask, Read, Write, Rand, Wand, Ror, Wor}
use Rattle.cpu.specs.declared.instruction.Instruction.TheVariants.{Rxor, Edrupt, Dv, Bzf, Msu, Qxch, Aug, Dim, Dca, Dcs, Su, Bzmf, Mp}
use Rattle.cpu.specs.declared.next_step.Fetched.{Fetched}
use Rattle.cpu.specs.declared.next_step.NextStep.{NextStep}
use Rattle.cpu.specs.declared.next_step.NextStep.TheVariants.{Takes, Enters, Executes}
use Rattle.cpu.specs.Asking.{interrupt_asked}
use Rattle.cpu.specs.Codes.{code_of}
use Rattle.cpu.specs.Effects.{has_overflow, is_whole}
use Rattle.cpu.specs.Inputs.{carries_into, count_of, is_overflow, step_of}
use Rattle.cpu.specs.State.{State}
use Rattle.say.specs.declared.places.Places.{Places}
use Rattle.say.specs.declared.values.Values.{Values}

-- ## Where a sentence depends on more than the instruction

abbrev pub is_place : ℕ → Linear → Bool
is_place p (Erasable q) = q == p
is_place p (Fixed bank offset) = false

-- a place that edits what is stored there
abbrev pub is_editing : Linear → Bool
is_editing (Erasable q) = nat_le cycle_right q && nat_le q edit_opcode
is_editing (Fixed bank offset) = false

-- whether what is written on a channel goes out
abbrev pub goes_out : ℕ → Bool
goes_out n = not (n == lower_accumulator_channel || n == return_address_channel || n == superbank_channel)

-- RELINT, within an interrupt or not
abbrev pub relint : Bool → List ℕ
relint true = codes "Interrupts may come again once this one has ended."
relint false = codes "Interrupts may come from now on."

abbrev pub resume : Bool → List ℕ
resume true = codes "The interrupt has ended: Z takes back what ZRUPT kept, and the word in BRUPT is executed next."
resume false = codes "No interrupt was served: Z takes what ZRUPT keeps, and the word in BRUPT is executed next."

-- TC: RETURN, the word in Q that RETURN leads to, and a call
abbrev pub is_from_q : Fetched → Bool
is_from_q f = not f.waited && is_place return_address f.place

abbrev pub tc : Fetched → List ℕ
tc f =
    if f.word % 2 ^ 12 == return_address then codes "It goes to Q: the word there, which leads back, is executed next."
    else (if is_from_q f then codes "It goes back to @."
    else codes "It goes to @; Q keeps the way back, $.")

-- the four ways of CCS
abbrev pub ccs : ℕ → List ℕ
ccs x =
    if x == 0 then codes "@ is +0: A is >, and one word is skipped."
    else (if x == minus_zero then codes "@ is -0: A is >, and three words are skipped."
    else (if is_minus_wide x then codes "@ is [, below 0: A takes its size less one, >, and two words are skipped."
    else codes "@ is [, above 0: A takes one less, >, and the next word follows."))

abbrev pub das : Linear → List ℕ
das place =
    if is_place accumulator place then codes "A and L, < and (, are doubled: A is >, and L is )."
    else codes "A and L, < and (, are added to @ and the word behind it, [ and {: these are ] and }; A is >, and L is )."

abbrev pub ad : Linear → List ℕ
ad place =
    if is_place accumulator place then codes "A, <, is doubled: it is >."
    else codes "A, <, and @, [, are added: A is >."

-- TS by what A holds: to A, to Z, and elsewhere
abbrev pub ts_plain : Linear → List ℕ
ts_plain place =
    if is_place accumulator place then codes "A, <, does not overflow: the next word follows."
    else (if is_place program_counter place then codes "It goes to where A leads, <."
    else (if is_editing place then codes "@ takes A, <, and edits it: ]."
    else codes "@ takes A: ]."))

abbrev pub ts_overflowing : Linear → List ℕ
ts_overflowing place =
    if is_place accumulator place then codes "A, <, overflows: the next word is skipped."
    else (if is_place program_counter place then codes "It goes to where A leads, <, without the overflow; A is >."
    else codes "@ takes A, <, without the overflow: ]. A is >, and the next word is skipped.")

abbrev pub ts : Linear → ℕ → List ℕ
ts place a = if has_overflow (over a) then ts_overflowing place else ts_plain place

-- MASK: of 16 bits where A or Q is the operand
abbrev pub mask : Linear → List ℕ
mask place =
    if is_whole place then codes "A, <, keeps the bits that @, [, has too: >."
    else codes "A, ^, keeps the bits that @, |, has too: >."

abbrev pub write : ℕ → List ℕ
write n = if goes_out n then codes "A goes out on channel #: !." else codes "Channel # takes A: !. Nothing goes out."

-- with a channel; that of Q has 16 bits
abbrev pub is_q : ℕ → Bool
is_q n = n == return_address_channel

abbrev pub rand : ℕ → List ℕ
rand n =
    if is_q n then codes "A, <, keeps the bits that channel # has too: >."
    else codes "A, ^, keeps the bits that channel # has too: >."

abbrev pub wand : ℕ → List ℕ
wand n =
    if goes_out n then codes "A, ^, keeps the bits that channel # has too: >. The channel takes this, and it goes out: !."
    else (if is_q n then codes "A, <, keeps the bits that channel # has too: >. The channel takes this: !. Nothing goes out."
    else codes "A, ^, keeps the bits that channel # has too: >. The channel takes this: !. Nothing goes out.")

abbrev pub ror : ℕ → List ℕ
ror n =
    if is_q n then codes "A, <, takes the bits of channel # besides its own: >."
    else codes "A, ^, takes the bits of channel # besides its own: >."

abbrev pub wor : ℕ → List ℕ
wor n =
    if goes_out n then codes "A, ^, takes the bits of channel # besides its own: >. The channel takes this, and it goes out: !."
    else (if is_q n then codes "A, <, takes the bits of channel # besides its own: >. The channel takes this: !. Nothing goes out."
    else codes "A, ^, takes the bits of channel # besides its own: >. The channel takes this: !. Nothing goes out.")

abbrev pub rxor : ℕ → List ℕ
rxor n =
    if is_q n then codes "A becomes the bits in which it, <, and channel # differ: >."
    else codes "A becomes the bits in which it, ^, and channel # differ: >."

abbrev pub bzf : ℕ → List ℕ
bzf a = if is_zero a then codes "A, <, is 0: it goes to @." else codes "A, <, is not 0: the next word follows."

abbrev pub bzmf : ℕ → List ℕ
bzmf a =
    if is_zero a || is_minus_wide a then codes "A, <, is not above 0: it goes to @."
    else codes "A, <, is above 0: the next word follows."

abbrev pub dv : Values → List ℕ
dv before =
    if quotient_fits (correct before.a) (correct before.l) (correct before.first)
    then codes "A and L, ^ and (, together are divided by @, |: A takes the quotient, >, and L what is left over, )."
    else codes "A and L, ^ and (, together are too much to be divided by @, |: A is >, and L is )."

abbrev pub dim : ℕ → List ℕ
dim x = if is_zero x then codes "@, [, is 0, and stays so." else codes "@, which was [, moves towards 0 by one: ]."

-- ## The sentence of each instruction

abbrev pub executed : Bool → Fetched → Places → Values → Instruction → List ℕ
executed inside f places before Relint = relint inside
executed inside f places before Inhint = codes "Interrupts have to wait from now on."
executed inside f places before Extend = codes "The next instruction is one of those that need EXTEND."
executed inside f places before Resume = resume inside
executed inside f places before Tc = tc f
executed inside f places before Ccs = ccs before.first
executed inside f places before Tcf = codes "It goes to @."
executed inside f places before Das = das places.first
executed inside f places before Lxch = codes "L and @ change places: L is ), and @ is ]."
executed inside f places before Incr = codes "@, which was [, goes up by one: ]."
executed inside f places before Ads = codes "A, <, and @, [, are added: A is >, and @ is ]."
executed inside f places before Ca = codes "A takes what @ holds: >."
executed inside f places before Cs = codes "A takes what @ holds, [, with its sign turned: >."
executed inside f places before Index = codes "What @ holds, [, is added to the next word before that is executed."
executed inside f places before Dxch
    = codes "A and @ change places, and so do L and the word behind it: A is >, L is ), @ is ], and the word behind it is }."
executed inside f places before Ts = ts places.first before.a
executed inside f places before Xch = codes "A and @ change places: A is >, and @ is ]."
executed inside f places before Ad = ad places.first
executed inside f places before Mask = mask places.first
executed inside f places before Read = codes "A takes channel #: >."
executed inside f places before Write = write places.channel
executed inside f places before Rand = rand places.channel
executed inside f places before Wand = wand places.channel
executed inside f places before Ror = ror places.channel
executed inside f places before Wor = wor places.channel
executed inside f places before Rxor = rxor places.channel
executed inside f places before Edrupt = codes "Nothing happens."
executed inside f places before Dv = dv before
executed inside f places before Bzf = bzf before.a
executed inside f places before Msu = codes "The angle that @ holds is taken from that in A: the difference is >."
executed inside f places before Qxch = codes "Q and @ change places: Q takes [, and @ is ]."
executed inside f places before Aug = codes "@, which was [, moves away from 0 by one: ]."
executed inside f places before Dim = dim before.first
executed inside f places before Dca = codes "A and L take what @ and the word behind it hold: > and )."
executed inside f places before Dcs = codes "A and L take what @ and the word behind it hold, [ and {, with their signs turned: > and )."
executed inside f places before Su = codes "@, [, is taken from A, <: A is >."
executed inside f places before Bzmf = bzmf before.a
executed inside f places before Mp = codes "A, ^, times @, |: A takes the upper half of the product, >, and L the lower, )."

-- whether what a word of 15 bits does not hold of A, or of the operand, is left out
abbrev pub overflows : ℕ → Bool
overflows x = has_overflow (over x)

abbrev pub either_overflows : Values → Bool
either_overflows before = overflows before.a || overflows before.first

abbrev pub leaves_out : Places → Values → Instruction → Bool
leaves_out places before Mask = not (is_whole places.first) && either_overflows before
leaves_out places before Mp = either_overflows before
leaves_out places before Dv = either_overflows before
leaves_out places before Msu = either_overflows before
leaves_out places before Write = not (is_q places.channel) && overflows before.a
leaves_out places before Rand = not (is_q places.channel) && overflows before.a
leaves_out places before Wand = not (is_q places.channel) && overflows before.a
leaves_out places before Ror = not (is_q places.channel) && overflows before.a
leaves_out places before Wor = not (is_q places.channel) && overflows before.a
leaves_out places before Rxor = not (is_q places.channel) && overflows before.a
leaves_out places before _ = false

abbrev pub left_out : Bool → List ℕ
left_out false = []
left_out true = codes " What overflows is left out."

-- ## Inputs

abbrev pub pulse : Sequence → ℕ → List ℕ
pulse Pinc x = codes "The pulse @ counts up by one: ]."
pulse Minc x = codes "The pulse @ counts down by one: ]."
pulse Dinc x = if is_zero x then codes "The pulse @ finds 0: ]." else codes "The pulse @ counts towards 0 by one: ]."
pulse Pcdu x = codes "The pulse @ turns an angle up by one: %."
pulse Mcdu x = codes "The pulse @ turns an angle down by one: %."
pulse Shinc x = codes "The pulse @ shifts the word up, and a 0 in: %."
pulse Shanc x = codes "The pulse @ shifts the word up, and a 1 in: %."

abbrev pub taken : Input → Values → List ℕ
taken (Count counter sequence) before = pulse sequence before.first
taken (Word n w) before = codes "A word comes in on channel #: !."
taken (Interrupt k) before = codes "A signal comes in."

-- what an overflow gives to another counter, and what an input asks for
abbrev pub carried : Option Counter → Bool → List ℕ
carried None carries = []
carried (Some other) false = []
carried (Some other) true = codes " It overflows, and so gives &: }."

abbrev pub carries : State → Input → List ℕ
carries s (Count counter sequence) = carried (carries_into counter) (is_overflow (step_of sequence (count_of s counter)).carry)
carries s (Word n w) = []
carries s (Interrupt k) = []

abbrev pub asks : Option ℕ → List ℕ
asks None = []
asks (Some k) = codes " It asks for ~."

-- ## The sentence of a step

abbrev pub entered : List ℕ
entered = (codes "The interrupt ~ is entered: ZRUPT keeps where to go on, and BRUPT the word that is put off. What it changes of A, L and "
    ++ codes "Q the handler has to put back.")

abbrev pub sentence : State → Places → Values → NextStep → List ℕ
sentence s places before (Takes input) = taken input before ++ carries s input ++ asks (interrupt_asked s input)
sentence s places before (Enters k) = entered
sentence s places before (Executes f) =
    let instruction = (code_of f.extra f.word).instruction in
    executed s.inside f places before instruction ++ left_out (leaves_out places before instruction)
