-- Steps that execute a few instructions, on states whose cells are held by lists.
use Rattle.std.proofs.Common.{◌≡◌, ℕ, ◌+◌, ◌%◌, Bool, true, false, List, ◌∷◌, Option, Some, None, ap, ◌∙◌}
use Rattle.words.specs.Numbers.{extend, correct, sum}
use Rattle.rope.specs.Places.{Placed}
use Rattle.feed.specs.CountsTaken.{counts_after}
use Rattle.feed.specs.declared.input.Counter.TheVariants.{Time1}
use Rattle.feed.specs.declared.input.Sequence.TheVariants.{Pinc}
use Rattle.feed.specs.declared.input.Input.TheVariants.{Count, Word}
use Rattle.space.specs.Cells.{put, get}
use Rattle.space.specs.declared.place.Linear.{Linear}
use Rattle.space.specs.declared.place.Linear.TheVariants.{Fixed}
use Rattle.cpu.specs.declared.instruction.Instruction.{Instruction}
use Rattle.cpu.specs.declared.instruction.Instruction.TheVariants.{Extend, Tcf, Ca, Ad, Write}
use Rattle.cpu.specs.declared.output.Output.{Output}
use Rattle.cpu.specs.Codes.{Code}
use Rattle.cpu.specs.State.{State}
use Rattle.cpu.specs.Effects.{value_at, after, ca, ad, tcf, write, edits, changes, change}
use Rattle.cpu.specs.Effects.Change.{AtPlace, OnChannel}
use Rattle.words.specs.declared.counters.CounterStep.{CounterStep}
use Rattle.words.specs.declared.counters.Carry.TheVariants.{No}
use Rattle.words.specs.Counters.{pinc}
use Rattle.std.specs.FinSet as set
use Rattle.cpu.specs.Inputs.{take, counted, received, asked, asked_after, carried, carries_into, stepped}
use Rattle.cpu.specs.Next.{execute_code, executed, fetched, output_on, written_channel}
use Rattle.cpu.proofs.Holding.{holding, get_held, put_held, put_channel_held, get-holding, put-holding, put_channel-holding, word_placed}
use Rattle.cpu.proofs.Held.{Held, state, rope, place_held, place_in-held, value_at-held, z_held}

abbrev pub with_cells : Held → List (ℕ × ℕ) → Held
with_cells h cells = record h { cells = cells }

abbrev pub stored : Held → ℕ → ℕ → Held
stored h p x = with_cells h (put_held h.cells p x)

abbrev pub sent : Held → ℕ → ℕ → Held
sent h n x = with_cells h (put_channel_held h.cells n x)

-- Z moves on
abbrev pub fetch : Held → Held
fetch h = stored h 5 ((z_held h + 1) % 0o10000)

-- an instruction takes cycles, and leaves this extracode
abbrev pub ended : Held → Bool → ℕ → Held
ended h extra cycles = record h { extra = extra; cycles = h.cycles + cycles }

pub put-state : (h : Held) (p x : ℕ) → change (state h) (AtPlace p x) ≡ state (stored h p x)
put-state h p x = λ i. record (state h) { cells = put-holding h.cells p x i }

pub put_channel-state : (h : Held) (n x : ℕ) → change (state h) (OnChannel n x) ≡ state (sent h n x)
put_channel-state h n x = λ i. record (state h) { cells = put_channel-holding h.cells n x i }

pub fetched-state : (h : Held) → fetched (state h) ≡ state (fetch h)
unfolding fetched
fetched-state h =
    (λ i. record (state h) { cells = put (holding h.cells) 5 ((get-holding h.cells 5 i + 1) % 0o10000) })
    ∙ put-state h 5 ((z_held h + 1) % 0o10000)

abbrev code : Instruction → ℕ → Code
code instruction operand = record { instruction = instruction; operand = operand }

-- what executing gives after the fetch
abbrev execute_fetched : List Placed → Code → State → State × Option Output
execute_fetched ps c s = let t = executed (rope ps) s c in (t, output_on t (written_channel c))

-- EXTEND
pub extends : (ps : List Placed) (h : Held) → execute_code (rope ps) (state h) (code Extend 0) ≡ (state (ended (fetch h) true 1), None)
unfolding executed after
extends ps h = ap (execute_fetched ps (code Extend 0)) (fetched-state h)

-- TCF
pub jumps_to : (ps : List Placed) (h : Held) (k : ℕ)
    → execute_code (rope ps) (state h) (code Tcf k) ≡ (state (ended (stored (fetch h) 5 k) false 1), None)
unfolding executed after tcf
jumps_to ps h k =
    ap (execute_fetched ps (code Tcf k)) (fetched-state h)
    ∙ ap (λ (s : State). (record s { extra = false; cycles = h.cycles + 1 }, None)) (put-state (fetch h) 5 k)

-- CA of a word in fixed memory
abbrev loaded : List Placed → Held → ℕ → ℕ → Held
loaded ps h bank offset = stored (fetch h) 0 (extend (word_placed ps bank offset))

load : List Placed → Linear → State → State
load ps l s = changes s (AtPlace 0 (value_at (rope ps) s l) ∷ edits l (value_at (rope ps) s l))

load-fixed : (ps : List Placed) (h : Held) (bank offset : ℕ)
    → load ps (Fixed bank offset) (state (fetch h)) ≡ state (loaded ps h bank offset)
unfolding load edits
load-fixed ps h bank offset =
    ap (λ x. change (state (fetch h)) (AtPlace 0 x)) (value_at-held ps (fetch h) (Fixed bank offset))
    ∙ put-state (fetch h) 0 (extend (word_placed ps bank offset))

pub loads : (ps : List Placed) (h : Held) (k bank offset : ℕ) → place_held (fetch h) k ≡ Fixed bank offset
    → execute_code (rope ps) (state h) (code Ca k) ≡ (state (ended (loaded ps h bank offset) false 2), None)
unfolding executed after ca load
loads ps h k bank offset e =
    ap (execute_fetched ps (code Ca k)) (fetched-state h)
    ∙ ap (λ (s : State). (record s { extra = false; cycles = h.cycles + 2 }, None))
    (ap (λ l. load ps l (state (fetch h))) (place_in-held (fetch h) k ∙ e) ∙ load-fixed ps h bank offset)

-- AD of a word in fixed memory
abbrev added : List Placed → Held → ℕ → ℕ → Held
added ps h bank offset = stored (fetch h) 0 (sum (get_held (fetch h).cells 0) (extend (word_placed ps bank offset)))

add : List Placed → Linear → State → State
add ps l s = changes s (AtPlace 0 (sum (get s.cells 0) (value_at (rope ps) s l)) ∷ edits l (value_at (rope ps) s l))

add-fixed : (ps : List Placed) (h : Held) (bank offset : ℕ) → add ps (Fixed bank offset) (state (fetch h)) ≡ state (added ps h bank offset)
unfolding add edits
add-fixed ps h bank offset =
    (λ i. change (state (fetch h)) (AtPlace 0 (sum (get-holding (fetch h).cells 0 i) (value_at-held ps (fetch h) (Fixed bank offset) i))))
    ∙ put-state (fetch h) 0 (sum (get_held (fetch h).cells 0) (extend (word_placed ps bank offset)))

pub adds : (ps : List Placed) (h : Held) (k bank offset : ℕ) → place_held (fetch h) k ≡ Fixed bank offset
    → execute_code (rope ps) (state h) (code Ad k) ≡ (state (ended (added ps h bank offset) false 2), None)
unfolding executed after ad add
adds ps h k bank offset e =
    ap (execute_fetched ps (code Ad k)) (fetched-state h)
    ∙ ap (λ (s : State). (record s { extra = false; cycles = h.cycles + 2 }, None))
    (ap (λ l. add ps l (state (fetch h))) (place_in-held (fetch h) k ∙ e) ∙ add-fixed ps h bank offset)

-- WRITE
abbrev written : Held → ℕ → Held
written h n = ended (sent (fetch h) n (get_held (fetch h).cells 0)) false 2

pub writes : (ps : List Placed) (h : Held) (n : ℕ)
    → execute_code (rope ps) (state h) (code Write n)
    ≡ (state (written h n), output_on (state (written h n)) (Some n))
unfolding executed after write
writes ps h n =
    ap (execute_fetched ps (code Write n)) (fetched-state h)
    ∙ ap (λ (s : State). let t : State = record s { extra = false; cycles = h.cycles + 2 } in (t, output_on t (Some n)))
    (ap (λ x. change (state (fetch h)) (OnChannel n x)) (get-holding (fetch h).cells 0)
    ∙ put_channel-state (fetch h) n (get_held (fetch h).cells 0))

-- an input is taken, from a series or from none
abbrev taken : Held → Option ℕ → ℕ → Held
taken h series cycles = record h { taken = h.taken + 1; counts = counts_after h.counts series; cycles = h.cycles + cycles }

-- PINC of TIME1, which doesn't overflow
abbrev pub no_carry : ℕ → CounterStep
no_carry w = record { word = w; carry = No }

after_pinc : Held → CounterStep → State
after_pinc h step = asked (carried (stepped (state h) Time1 step) (carries_into Time1) step.carry) (asked_after Time1 step)

pub counts : (h : Held) (series : Option ℕ) (w : ℕ) → pinc (correct (get_held h.cells 0o25)) ≡ no_carry w
    → take (state h) (Count Time1 Pinc, series) ≡ state (taken (stored h 0o25 (extend w)) series 1)
unfolding take counted after_pinc
counts h series w e =
    ap (λ x. after_pinc (taken h series 1) (pinc (correct x))) (get-holding h.cells 0o25)
    ∙ ap (after_pinc (taken h series 1)) e
    ∙ put-state (taken h series 1) 0o25 (extend w)

-- a word on the first keyboard's channel
abbrev asking : Held → ℕ → Held
asking h k = record h { requests = set.insert h.requests k }

pub receives : (h : Held) (w : ℕ) → take (state h) (Word 0o15 w, None) ≡ state (asking (taken (sent h 0o15 (extend w)) None 0) 5)
unfolding take received
receives h w = ap (λ (s : State). record s { requests = set.insert s.requests 5 }) (put_channel-state (taken h None 0) 0o15 (extend w))
