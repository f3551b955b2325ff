-- The words that differ between two states.
use Rattle.std.specs.Prelude.{ℕ, ◌+◌, ◌==◌, nat_lt, not, List, ◌++◌, length, filter, codes, if◌then◌else◌}
use Rattle.std.specs.List.{flat_map, range_with_len}
use Rattle.words.specs.Numbers.{correct}
use Rattle.words.specs.Numerals.{octal_text}
use Rattle.space.specs.Cells.{Cells, get, at, accumulator, lower_accumulator, return_address, erasable_bank, fixed_bank, program_counter}
use Rattle.space.specs.Cells.{both_banks, channel_count, changed_places}
use Rattle.space.specs.declared.place.Linear.TheVariants.{Erasable}
use Rattle.yayul.specs.Listing.{place_text}
use Rattle.cpu.specs.State.{Scenario}
use Rattle.cpu.specs.Run.{run}
use Rattle.debugger.specs.AllRegisters.{word_in}
use Rattle.debugger.specs.Channels.{channel_word, channel_line, count_line}
use Rattle.debugger.specs.Replies.{line}
use Rattle.replay.specs.View.{SessionView, HasShown}

-- the line of an erasable place: of a register as `regs all` has it, of any other as `mem` has one of many
abbrev pub erasable_line : Cells → ℕ → List ℕ
erasable_line cells p =
    if p == accumulator then line (codes "A " ++ octal_text 6 (get cells p))
    else if p == lower_accumulator then line (codes "L " ++ word_in cells p)
    else if p == return_address then line (codes "Q " ++ octal_text 6 (get cells p))
    else if p == erasable_bank then line (codes "EB " ++ octal_text 1 (at cells p))
    else if p == fixed_bank then line (codes "FB " ++ octal_text 2 (at cells p))
    else if p == program_counter then line (codes "Z " ++ octal_text 4 (correct (get cells p)))
    else if p == both_banks then line (codes "BB " ++ word_in cells p)
    else line (codes "MEM " ++ place_text (Erasable p) ++ codes " " ++ word_in cells p)

-- the channels whose words differ
abbrev pub channels_changed : (ℕ → ℕ) → (ℕ → ℕ) → List ℕ
channels_changed old new = filter (λ c. not (old c == new c)) (range_with_len 0 channel_count)

-- the erasable places that read differently, and then these channels, each with what it holds in the second state; and how many there are
unfoldable pub differences_text : Cells → Cells → List ℕ
differences_text old new =
    let places = changed_places old new in
    let channels = channels_changed (channel_word old) (channel_word new) in
    flat_map (erasable_line new) places ++ flat_map (channel_line new) channels ++ count_line (length places + length channels)

-- what differs from a step, at a position of so many steps; nothing is told of a step that was not made yet
abbrev pub differs_text : Scenario → ℕ → ℕ → ℕ → List ℕ
differs_text scenario n position t =
    if nat_lt n t then line (codes "E41 NOT YET")
    else differences_text (run scenario t).cells (run scenario position).cells

-- what is left of a session that has shown a position, and then a step: so many steps were executed as these two looks take, of which
-- the first takes none where the position is shown already
pub record HasCompared (old : SessionView) (position t : ℕ) (new : SessionView) : Type 0 where
  pub between : SessionView
  pub first : HasShown old position between
  pub second : HasShown between t new
