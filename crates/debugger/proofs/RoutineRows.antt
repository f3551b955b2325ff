-- Routines, and steps to where they return to, by the definitions alone.
use Rattle.std.proofs.Common.{◌≡◌, ℕ, ◌+◌, ◌%◌, Bool, true, false, ◌&&◌, List, [], ◌∷◌, ◌++◌, Option, Some, None, map, ap, ◌∙◌, refl}
use Rattle.std.proofs.Common.{if◌then◌else◌}
use Rattle.std.specs.FinSet as set
use Rattle.std.specs.Prelude.{codes}
use Rattle.std.specs.Fmt.{digits}
use Rattle.words.specs.Numerals.{octal_text}
use Rattle.space.specs.declared.place.Linear.{Linear}
use Rattle.space.specs.declared.place.Linear.TheVariants.{Erasable, Fixed}
use Rattle.space.specs.Places.{place, window}
use Rattle.yayul.specs.Listing.{place_text}
use Rattle.trace.specs.TraceLines.{symbol_at}
use Rattle.cpu.specs.ChannelLines.{channel_lines}
use Rattle.cpu.specs.Codes.{code_of, basic_rows, extracode_rows}
use Rattle.cpu.specs.State.{State}
use Rattle.cpu.specs.Effects.{place_in}
use Rattle.cpu.specs.declared.next_step.Fetched.{Fetched}
use Rattle.cpu.specs.declared.next_step.NextStep.TheVariants.{Executes}
use Rattle.cpu.proofs.Holding.{get-holding}
use Rattle.cpu.proofs.Held.{Held, state, place_held, place_in-held}
use Rattle.cpu.proofs.FiveRun.{five}
use Rattle.commands.specs.declared.command.Breakpoint.{Breakpoint}
use Rattle.commands.specs.declared.command.Breakpoint.TheVariants.{Returned, Outside, Cycles}
use Rattle.debugger.specs.History.{History, history}
use Rattle.debugger.specs.Growth.{grow, lowest_hit}
use Rattle.debugger.specs.Replies.{Desk, at_line}
use Rattle.debugger.specs.Transcript.{first_desk}
use Rattle.debugger.specs.ExtendedReplies.{further}
use Rattle.debugger.specs.CallsTold.{call_lines}
use Rattle.debugger.specs.Routines.{without, with_call, innermost, goes_to}
use Rattle.debugger.specs.declared.routines.Call.{Call}
use Rattle.calls.specs.Calls.{is_tc, leads_on, entered_by}
use Rattle.debugger.proofs.Scripts.{ended}
use Rattle.debugger.proofs.FiveRows.{history-five}

-- which words are TC: not RELINT, INHINT, EXTEND and TCF, and none under extracode
abbrev fetched : Bool → ℕ → Fetched
fetched extra word = record { place = Fixed 2 0; word = word; extra = extra; waited = false; added = None }

words : map (λ word. is_tc (fetched false word)) (0o4010 ∷ 0o101 ∷ 2 ∷ 3 ∷ 4 ∷ 6 ∷ 0o14010 ∷ [])
    ≡ true ∷ true ∷ true ∷ false ∷ false ∷ false ∷ false ∷ []
unfolding code_of basic_rows
words = refl

under_extracode : is_tc (fetched true 0o4010) ≡ false
unfolding code_of extracode_rows
under_extracode = refl

-- to another place of fixed memory, and not by a word in Q or in erasable memory
leads : leads_on (Fixed 2 0o10) (Fixed 3 0o10) ∷ leads_on (Fixed 2 0o10) (Fixed 2 0o10) ∷ leads_on (Fixed 2 0o10) (Erasable 2)
    ∷ leads_on (Erasable 2) (Fixed 2 0o10) ∷ [] ≡ true ∷ false ∷ false ∷ false ∷ []
leads = refl

-- TC whose word waits, as after RESUME, stood in the place before the one where Z leads, here 4001: to itself, to 4002 and 4005,
-- and by Q
abbrev waiting_cells : List (ℕ × ℕ)
waiting_cells = (5, 0o4002) ∷ []

abbrev held_there : Held
held_there = record { cells = waiting_cells; extra = false; requests = set.empty; taken = 0; counts = []; cycles = 0 }

abbrev waiting : ℕ → State
waiting word = record (state held_there) { waiting_word = Some word }

abbrev as_waited : ℕ → Fetched
as_waited word = record { place = Fixed 2 2; word = word; extra = false; waited = true; added = None }

abbrev by_waiting : ℕ → Option Linear
by_waiting word = entered_by (waiting word) (Executes (as_waited word))

abbrev between : ℕ → Linear → Linear → Linear → Option Linear
between word from to back = if is_tc (as_waited word) && leads_on from to then Some back else None

leads_there : (word k : ℕ) → place_in (waiting word) k ≡ place_held held_there k
unfolding place_in
leads_there word k = place_in-held held_there k

from_before : (word : ℕ) → by_waiting word ≡ between word (place_held held_there 0o4001) (place_held held_there (word % 0o10000))
    (place_held held_there 0o4002)
from_before word =
    ap (λ z. between word (place_in (waiting word) ((z + 0o7777) % 0o10000)) (place_in (waiting word) (word % 0o10000))
    (place_in (waiting word) z)) (get-holding waiting_cells 5)
    ∙ (λ i. between word (leads_there word 0o4001 i) (leads_there word (word % 0o10000) i) (leads_there word 0o4002 i))

waited : by_waiting 0o4001 ∷ by_waiting 0o4002 ∷ by_waiting 0o4005 ∷ by_waiting 2 ∷ []
    ≡ None ∷ Some (Fixed 2 2) ∷ Some (Fixed 2 2) ∷ None ∷ []
unfolding code_of basic_rows place window
waited = (λ i. from_before 0o4001 i ∷ from_before 0o4002 i ∷ from_before 0o4005 i ∷ from_before 2 i ∷ []) ∙ refl

-- a routine that returns is over with all that it entered; one that is entered again is in progress once, by the later call
abbrev call : ℕ → ℕ → Call
call step offset = record { step = step; from = Fixed 2 (offset + 1); routine = Fixed 3 offset; back = Fixed 2 offset }

left : without (Fixed 2 0o20) (call 1 0o10 ∷ call 2 0o20 ∷ call 3 0o30 ∷ []) ≡ call 1 0o10 ∷ []
left = refl

stayed : without (Fixed 2 0o30) (call 1 0o10 ∷ call 2 0o20 ∷ []) ≡ call 1 0o10 ∷ call 2 0o20 ∷ []
stayed = refl

entered : with_call (Some (call 3 0o30)) (call 1 0o10 ∷ call 2 0o20 ∷ []) ≡ call 1 0o10 ∷ call 2 0o20 ∷ call 3 0o30 ∷ []
entered = refl

entered_again : with_call (Some (call 3 0o10)) (call 1 0o10 ∷ call 2 0o20 ∷ []) ≡ call 3 0o10 ∷ []
entered_again = refl

inner : innermost (call 1 0o10 ∷ call 2 0o20 ∷ []) ≡ Some (Fixed 2 0o20)
inner = refl

none : innermost [] ≡ None
none = refl

-- their lines, the innermost first
told : call_lines [] (call 1 0o10 ∷ call 123 0o20 ∷ [])
    ≡ ended (codes "CALL 123 02,4021 TO 03,6020" ∷ codes "CALL 1 02,4011 TO 03,6010" ∷ [])
unfolding digits octal_text place_text window symbol_at
told = refl

-- where so many steps were made, and one of them is looked at
abbrev at_step : ℕ → ℕ → Desk
at_step steps position = record (first_desk five [] []) { steps = steps; position = position }

-- what is told on the way to an end, by so many steps at most
abbrev to : History → ℕ → ℕ → ℕ → Breakpoint → List ℕ
to h k steps position end = (goes_to (further h) (at_step steps position) k end).text

-- over steps that stand, with the cycles that they took where the end was come to; one step where no routine is entered
on_what_stands : to (history five) 9 8 0 (Returned (Fixed 2 2) false) ++ to (history five) 9 8 2 (Returned (Fixed 2 2) false)
    ++ to (history five) 4 8 2 (Returned (Fixed 2 2) false) ++ to (history five) 9 8 3 (Cycles 0) ++ to (history five) 0 8 3 (Cycles 0)
    ++ to (history five) 9 8 3 Outside
    ≡ ended (codes "TOOK 4" ∷ codes "AT 2 4 02,4002" ∷ codes "TOOK 8" ∷ codes "AT 7 12 02,4002" ∷ codes "AT 6 10 02,4001" ∷ codes "TOOK 2"
    ∷ codes "AT 4 7 02,4004" ∷ codes "AT 3 5 02,4003" ∷ codes "TOOK 2" ∷ codes "AT 4 7 02,4004" ∷ [])
unfolding grow lowest_hit at_line digits octal_text place channel_lines place_text window
on_what_stands =
    ap (λ h. to h 9 8 0 (Returned (Fixed 2 2) false) ++ to h 9 8 2 (Returned (Fixed 2 2) false) ++ to h 4 8 2 (Returned (Fixed 2 2) false)
    ++ to h 9 8 3 (Cycles 0) ++ to h 0 8 3 (Cycles 0) ++ to h 9 8 3 Outside) history-five ∙ refl

-- and then over new steps, whose lines are written
on_new_steps : to (history five) 9 3 2 (Returned (Fixed 2 2) false) ++ to (history five) 2 3 2 (Returned (Fixed 2 2) false)
    ++ to (history five) 1 3 3 (Cycles 0)
    ≡ ended (codes "7 CH 010 00012" ∷ codes "TOOK 8" ∷ codes "AT 7 12 02,4002" ∷ codes "7 CH 010 00012" ∷ codes "AT 4 7 02,4004"
    ∷ codes "7 CH 010 00012" ∷ codes "TOOK 2" ∷ codes "AT 4 7 02,4004" ∷ [])
unfolding grow lowest_hit at_line digits octal_text place channel_lines place_text window
on_new_steps =
    ap (λ h. to h 9 3 2 (Returned (Fixed 2 2) false) ++ to h 2 3 2 (Returned (Fixed 2 2) false) ++ to h 1 3 3 (Cycles 0)) history-five
    ∙ refl
