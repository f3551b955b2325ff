-- How long interrupts waited, and for how long none could come, as text.
use Rattle.std.specs.Prelude.{ℕ, zero, suc, ◌+◌, ◌-◌, ◌/◌, ◌%◌, ◌^◌, ◌==◌, min, nat_lt, List, [], ◌++◌, Option, None, Some, length, get_or}
use Rattle.std.specs.Prelude.{codes, decimal, if◌then◌else◌}
use Rattle.std.specs.List.{flat_map, range_with_len}
use Rattle.rope.specs.Places.{bank_words, Words}
use Rattle.space.specs.Cells.{erasable_count}
use Rattle.space.specs.declared.place.Linear.{Linear}
use Rattle.space.specs.declared.place.Linear.TheVariants.{Fixed}
use Rattle.symbols.specs.Values.{SymbolTable}
use Rattle.yayul.specs.Listing.{blanks, place_text}
use Rattle.cpu.specs.State.{Scenario}
use Rattle.trace.specs.TraceLines.{interrupt_name, symbol_at}
use Rattle.access.specs.AccessText.{account_line}
use Rattle.cover.specs.Tallies.{account_count}
use Rattle.delays.specs.declared.mark.Begun.{Begun}
use Rattle.delays.specs.declared.mark.Best.{Best}
use Rattle.delays.specs.declared.mark.Mark.{Mark}
use Rattle.delays.specs.declared.mark.Stretch.{Stretch}
use Rattle.delays.specs.Causes.{cause_name, causes}
use Rattle.delays.specs.Routines.{call_ended}
use Rattle.delays.specs.Spans.{asked, closed, mark, span_ended, span_rows, spents, start_row, wait_ended, wait_rows}
use Rattle.delays.specs.Stretches.{best_of, better, cycles_of, no_best}
use Rattle.delays.specs.Tallies.{Delayed, mark_in}

-- what is told: of how many steps, the cycles of each cause, the moment after all steps, since when each interrupt is asked for then, the
-- span that goes on then, and of each row of a table how many stretches there were, and the longest
pub record Figures : Type 0 where
  pub steps : ℕ
  pub spent : List ℕ
  pub now : Mark
  pub waits : ℕ → Option Mark
  pub closed : Option Begun
  pub waited : ℕ → Best
  pub spans : ℕ → Best
  pub called : ℕ → Best

-- since when interrupt k is asked for after n steps
abbrev pub waits_of : Scenario → ℕ → ℕ → Option Mark
waits_of scenario n k = if nat_lt k wait_rows then asked scenario k n else None

-- of the first n steps of a run, and of what is kept
abbrev pub figures_of : Scenario → ℕ → Figures
figures_of scenario n =
    record {
      steps = n;
      spent = spents scenario n;
      now = mark scenario n;
      waits = waits_of scenario n;
      closed = closed scenario n;
      waited
          = best_of (wait_ended scenario) n;
      spans = best_of (span_ended scenario) n;
      called = best_of (call_ended scenario) n;
    }

abbrev pub figures_in : Delayed → Figures
figures_in d = record {
  steps = d.steps;
  spent = d.spent;
  now = mark_in d d.cycles;
  waits = λ row. get_or d.waits row None;
  closed
      = d.closed;
  waited = λ row. get_or d.waited row no_best;
  spans = λ row. get_or d.spans row no_best;
  called = λ row. get_or d.called row
      no_best;
}

-- a text right in 8 places, and a blank
abbrev pub cell : List ℕ → List ℕ
cell text = (blanks (8 - length text) ++ text) ++ codes " "

-- the cycles of a cause; nothing where there are none
unfoldable pub cause_row : List ℕ → ℕ → ℕ → List ℕ
cause_row word cycles cause = if cycles == 0 then [] else word ++ cell (decimal cycles) ++ cause_name cause ++ codes "\n"

-- those of a stretch
abbrev pub share : Stretch → ℕ → ℕ
share s cause = get_or s.to.spent cause 0 - get_or s.from.spent cause 0

abbrev pub share_row : Stretch → ℕ → List ℕ
share_row s cause = cause_row (codes "  OF  ") (share s cause) cause

abbrev pub share_rows : Stretch → List ℕ
share_rows s = flat_map (share_row s) (range_with_len 0 causes)

-- those of all steps
abbrev pub spent_row : List ℕ → ℕ → List ℕ
spent_row spent cause = cause_row (codes "SPENT ") (get_or spent cause 0) cause

abbrev pub spent_rows : List ℕ → List ℕ
spent_rows spent = flat_map (spent_row spent) (range_with_len 0 causes)

-- the first rows
unfoldable pub heading : ℕ → List ℕ → List ℕ
heading steps spent =
    codes "GREATEST OF THIS FEED IN " ++ decimal steps ++ codes " STEPS\n" ++ spent_rows spent
    ++ codes "      GREATEST     MEAN    LEAST    COUNT     STEP\n"

-- the columns of some stretches: the cycles of the longest, their mean and the least, how many they are, and the step that ended the
-- longest
unfoldable pub columns : Best → List ℕ
columns b =
    cell (decimal (cycles_of b.longest)) ++ cell (decimal (b.total / b.count)) ++ cell (decimal b.least) ++ cell (decimal b.count)
    ++ cell (decimal b.longest.step)

-- a row of some stretches, and below it what the longest had of each cause; nothing where there are none
unfoldable pub best_row : List ℕ → Best → List ℕ → List ℕ → List ℕ
best_row word b name to = if b.count == 0 then [] else word ++ columns b ++ name ++ to ++ share_rows b.longest

abbrev pub wait_row : Best → ℕ → List ℕ
wait_row b k = best_row (codes "WAIT  ") b (interrupt_name k ++ codes "\n") []

-- where the first step of a span is, and the last
abbrev pub span_name : SymbolTable → Words → ℕ → List ℕ
span_name symbols words row = if nat_lt row start_row then account_line symbols words row else codes "START\n"

abbrev pub to_row : SymbolTable → Words → ℕ → List ℕ
to_row symbols words row = codes "  TO                                               " ++ span_name symbols words row

abbrev pub span_row : SymbolTable → Words → Best → ℕ → List ℕ
span_row symbols words b row = best_row (codes "SPAN  ") b (span_name symbols words row) (to_row symbols words b.longest.end)

-- ## What is open after the last step
-- a wait, so long as it is then, with the step that asked; and a span, with its first step
abbrev pub open_wait : Mark → Option Mark → Best
open_wait now None = no_best
open_wait now (Some since) = better no_best (record { from = since; to = now; step = since.step; end = 0 })

abbrev pub open_span : Mark → Option Begun → Best
open_span now None = no_best
open_span now (Some begun) = better no_best (record { from = begun.mark; to = now; step = min (begun.mark.step + 1) (2 ^ 64 - 1); end = 0 })

abbrev pub open_wait_row : Mark → Option Mark → ℕ → List ℕ
open_wait_row now since k = best_row (codes "OPEN  ") (open_wait now since) (codes "WAIT " ++ interrupt_name k ++ codes "\n") []

abbrev pub begun_row : Option Begun → ℕ
begun_row None = start_row
begun_row (Some begun) = begun.by

abbrev pub open_span_row : SymbolTable → Words → Mark → Option Begun → List ℕ
open_span_row symbols words now begun = best_row (codes "OPEN  ") (open_span now begun)
    (codes "SPAN " ++ span_name symbols words (begun_row begun)) []

abbrev pub open_row : SymbolTable → Words → Figures → ℕ → List ℕ
open_row symbols words f row = if nat_lt row wait_rows then open_wait_row f.now (f.waits row) row else open_span_row symbols words f.now
    f.closed

-- a routine: its place, and the first symbol that stands for it
abbrev pub name_after : Option (List ℕ) → List ℕ
name_after None = []
name_after (Some name) = codes " " ++ name

abbrev pub place_row : SymbolTable → Linear → List ℕ
place_row symbols place = place_text place ++ name_after (symbol_at symbols place) ++ codes "\n"

abbrev pub first_fixed_row : ℕ
first_fixed_row = 3 + erasable_count

abbrev pub routine_row : SymbolTable → ℕ → List ℕ
routine_row symbols number = place_row symbols (Fixed (number / bank_words) (number % bank_words))

abbrev pub routine_name : SymbolTable → Words → ℕ → List ℕ
routine_name symbols words row = if nat_lt row first_fixed_row then account_line symbols words row else routine_row symbols
    (row - first_fixed_row)

abbrev pub call_row : SymbolTable → Words → Best → ℕ → List ℕ
call_row symbols words b row = best_row (codes "CALL  ") b (routine_name symbols words row) []

-- the text part by part: the first rows, those of what is open, a row of each interrupt, one of each place at which spans begin, and one of
-- each routine
abbrev pub first_wait : ℕ
first_wait = wait_rows + 2

abbrev pub first_span : ℕ
first_span = first_wait + wait_rows

abbrev pub first_call : ℕ
first_call = first_span + span_rows

abbrev pub parts : ℕ
parts = first_call + account_count

unfoldable pub part_text : SymbolTable → Words → Figures → ℕ → List ℕ
part_text symbols words f part =
    if part == 0 then heading f.steps f.spent
    else (if nat_lt part first_wait then open_row symbols words f (part - 1)
    else (if nat_lt part first_span then wait_row (f.waited (part - first_wait)) (part - first_wait)
    else (if nat_lt part first_call then span_row symbols words (f.spans (part - first_span)) (part - first_span)
    else call_row symbols words (f.called (part - first_call)) (part - first_call))))

-- the first parts, and all
unfoldable pub parts_to : SymbolTable → Words → Figures → ℕ → List ℕ
parts_to symbols words f n = flat_map (part_text symbols words f) (range_with_len 0 n)

abbrev pub parts_text : SymbolTable → Words → Figures → List ℕ
parts_text symbols words f = parts_to symbols words f parts

-- what is told of the first n steps of a run
abbrev pub delays_text : SymbolTable → Scenario → ℕ → List ℕ
delays_text symbols scenario n = parts_text symbols scenario.rope (figures_of scenario n)
