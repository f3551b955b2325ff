-- A session that adds inputs to a run that goes on.
use Rattle.std.proofs.Common.{◌≡◌, ℕ, Bool, true, false, List, [], ◌∷◌, ◌++◌, map, is_some, ap, refl, ◌∙◌}
use Rattle.std.specs.List.{range_with_len}
use Rattle.std.specs.Prelude.{codes, replicate}
use Rattle.std.specs.Fmt.{digits}
use Rattle.agc_text.specs.Fields.{runs}
use Rattle.agc_text.specs.Lines.{lines}
use Rattle.feed.specs.Merged.{inserted, is_before, due}
use Rattle.feed.specs.Names.{counters, sequences}
use Rattle.feed.specs.Statements.{parsed}
use Rattle.feed.specs.declared.entry.Entry.{Entry}
use Rattle.words.specs.Numerals.{octal_text}
use Rattle.space.specs.Places.{place}
use Rattle.space.specs.declared.place.Linear.TheVariants.{Fixed}
use Rattle.cpu.proofs.ClockRun.{loop, loop_words, clock, added, after_0, twelve_and, two, start-held, goes-twelve, goes-fourteen}
use Rattle.commands.specs.Commands.{parsed_line, forms}
use Rattle.commands.specs.declared.command.Breakpoint.{Breakpoint}
use Rattle.commands.specs.declared.command.Breakpoint.TheVariants.{Place, Executed, Changed}
use Rattle.commands.specs.declared.subject.Subject.TheVariants as subject
use Rattle.debugger.specs.Additions.{with_added}
use Rattle.cpu.specs.ChannelLines.{channel_lines}
use Rattle.debugger.specs.History.{History, history}
use Rattle.debugger.specs.Growth.{grow, lowest_hit, hit_at}
use Rattle.debugger.specs.Replies.{Desk, answer, reply, at_line}
use Rattle.debugger.specs.Transcript.{transcript, first_desk, command_lines}
use Rattle.debugger.proofs.ListedHistories.{listed, history-listed}
use Rattle.debugger.proofs.Scripts.{ended, replies-line}

-- the run over the feed's inputs, and over one pulse more
abbrev before : History
before = listed loop_words (clock []) after_0 (twelve_and [])

history-before : history (loop []) ≡ before
history-before = history-listed loop_words (clock []) after_0 (twelve_and []) start-held goes-twelve

abbrev then : History
then = listed loop_words (clock (added ∷ [])) after_0 (twelve_and two)

history-then : history (loop (added ∷ [])) ≡ then
history-then = history-listed loop_words (clock (added ∷ [])) after_0 (twelve_and two) start-held goes-fourteen

abbrev desk : List Entry → ℕ → ℕ → Desk
desk more steps position =
    record { scenario = loop more; steps = steps; position = position; breakpoints = []; quiet = false; answers = []; additions = [] }

added_inputs : transcript [] (first_desk (loop []) [] [])
    (ended (codes "run 12" ∷ codes "add 11 TIME1 PINC" ∷ codes "add 12 TIME1 PINC" ∷ codes "run 2" ∷ codes "mem 25" ∷ codes "goto 12"
    ∷ codes "mem 25" ∷ []))
    ≡ ended (codes "AT 12 11 4000" ∷ codes "E42 TOO EARLY" ∷ codes "ADDED" ∷ codes "AT 14 13 4000" ∷ codes "MEM 00005"
    ∷ codes "AT 12 11 4000" ∷ codes "MEM 00004" ∷ [])
unfolding transcript parsed_line forms runs command_lines lines answer reply grow lowest_hit at_line digits octal_text place parsed counters
    sequences channel_lines with_added inserted is_before
added_inputs =
    replies-line [] before (desk [] 0 0) (codes "run 12")
    (codes "add 11 TIME1 PINC" ∷ codes "add 12 TIME1 PINC" ∷ codes "run 2" ∷ codes "mem 25" ∷ codes "goto 12" ∷ codes "mem 25" ∷ [])
    history-before
    ∙ ap (λ t. ended (codes "AT 12 11 4000" ∷ []) ++ t) (
    replies-line [] before (desk [] 12 12) (codes "add 11 TIME1 PINC")
    (codes "add 12 TIME1 PINC" ∷ codes "run 2" ∷ codes "mem 25" ∷ codes "goto 12" ∷ codes "mem 25" ∷ []) history-before
    ∙ ap (λ t. ended (codes "E42 TOO EARLY" ∷ []) ++ t) (
    replies-line [] before (desk [] 12 12) (codes "add 12 TIME1 PINC")
    (codes "run 2" ∷ codes "mem 25" ∷ codes "goto 12" ∷ codes "mem 25" ∷ []) history-before
    ∙ ap (λ t. ended (codes "ADDED" ∷ []) ++ t) (
    replies-line [] then (desk (added ∷ []) 12 12) (codes "run 2") (codes "mem 25" ∷ codes "goto 12" ∷ codes "mem 25" ∷ []) history-then
    ∙ ap (λ t. ended (codes "AT 14 13 4000" ∷ []) ++ t) (
    replies-line [] then (desk (added ∷ []) 14 14) (codes "mem 25") (codes "goto 12" ∷ codes "mem 25" ∷ []) history-then
    ∙ ap (λ t. ended (codes "MEM 00005" ∷ []) ++ t) (
    replies-line [] then (desk (added ∷ []) 14 14) (codes "goto 12") (codes "mem 25" ∷ []) history-then
    ∙ ap (λ t. ended (codes "AT 12 11 4000" ∷ []) ++ t) (
    replies-line [] then (desk (added ∷ []) 14 12) (codes "mem 25") ([]) history-then))))))

-- after which of the first steps a breakpoint holds: Z leads to the same place after each, but some of them take an input
abbrev holds_after : History → Breakpoint → List Bool
holds_after h breakpoint = map (λ t. is_some (hit_at h (breakpoint ∷ []) t)) (range_with_len 0 13)

next_at_the_loop : holds_after (history (loop [])) (Place (Fixed 2 0))
    ≡ true ∷ true ∷ true ∷ true ∷ true ∷ true ∷ true ∷ true ∷ true ∷ true ∷ true ∷ true ∷ true ∷ []
unfolding lowest_hit place
next_at_the_loop = ap (λ h. holds_after h (Place (Fixed 2 0))) history-before ∙ refl

executed_in_the_loop : holds_after (history (loop [])) (Executed (Fixed 2 0))
    ≡ false ∷ true ∷ true ∷ true ∷ false ∷ true ∷ false ∷ false ∷ true ∷ true ∷ false ∷ true ∷ false ∷ []
unfolding lowest_hit place due
executed_in_the_loop = ap (λ h. holds_after h (Executed (Fixed 2 0))) history-before ∙ refl

-- a pulse changes the counter, and a key the word of its channel; the jump leaves Z what it is
counted_in_the_loop : holds_after (history (loop [])) (Changed (subject.Place 0o25))
    ≡ false ∷ false ∷ false ∷ false ∷ true ∷ false ∷ true ∷ false ∷ false ∷ false ∷ true ∷ false ∷ true ∷ []
unfolding lowest_hit place due
counted_in_the_loop = ap (λ h. holds_after h (Changed (subject.Place 0o25))) history-before ∙ refl

key_in_the_loop : holds_after (history (loop [])) (Changed (subject.Channel 0o15))
    ≡ false ∷ false ∷ false ∷ false ∷ false ∷ false ∷ false ∷ true ∷ false ∷ false ∷ false ∷ false ∷ false ∷ []
unfolding lowest_hit place due
key_in_the_loop = ap (λ h. holds_after h (Changed (subject.Channel 0o15))) history-before ∙ refl

same_in_the_loop : holds_after (history (loop [])) (Changed (subject.Place 5)) ≡ replicate 13 false
unfolding lowest_hit place due
same_in_the_loop = ap (λ h. holds_after h (Changed (subject.Place 5))) history-before ∙ refl
