-- The state of the computer, and what it runs.
use Rattle.std.specs.Prelude.{ℕ, Bool, true, false, List, replicate, Option, None}
use Rattle.std.specs.Ordering.{nat_cmp}
use Rattle.std.specs.FinSet as set
use Rattle.rope.specs.Places.{Words}
use Rattle.feed.specs.declared.entry.Entry.{Entry}
use Rattle.feed.specs.Feed.{most_series}
use Rattle.feed.specs.CountsTaken.{CountsTaken}
use Rattle.space.specs.Cells.{Cells, zero_cells, put, program_counter}

-- what runs: the words of fixed memory, and the inputs in their order, each with the cycle from which on it is due and the
-- series that it is from
pub record Scenario : Type 0 where
  pub rope : Words
  pub inputs : List Entry

-- a processor: what it runs, and how many steps it has made
pub record Processing : Type 0 where
  pub scenario : Scenario
  pub meter : ℕ

-- a state: the cells, whether extracode is in force, whether interrupts are inhibited and whether one is being served,
-- the sum and the word that wait for the next instruction, the interrupts asked for, the inputs taken and how many of them
-- are from each series, and the cycles
pub record State : Type 0 where
  pub cells : Cells
  pub extra : Bool
  pub inhibit : Bool
  pub inside : Bool
  pub waiting_sum : Option ℕ
  pub waiting_word : Option ℕ
  pub requests : set.FinSet nat_cmp
  pub taken : ℕ
  pub counts : List ℕ
  pub cycles : ℕ

-- A state fits what runs: so many inputs as it took stand, and its counts tell for each series how many of them are the
-- series' own.
abbrev pub FitsRun : Scenario → State → Type 0
FitsRun scenario s = CountsTaken scenario.inputs s.taken s.counts

-- the first address of bank 2, where a run starts
abbrev pub first_address : ℕ
first_address = 0o4000

-- ZRUPT and BRUPT, which keep the address and the word of the instruction that an interrupt puts off
abbrev pub interrupted_address : ℕ
interrupted_address = 0o15

abbrev pub interrupted_word : ℕ
interrupted_word = 0o17

-- the state in which a run starts: each word is 0, and interrupts are inhibited
unfoldable pub start : State
start =
    record {
      cells = put zero_cells program_counter first_address;
      extra = false;
      inhibit = true;
      inside = false;
      waiting_sum = None;
      waiting_word = None;
      requests = set.empty;
      taken = 0;
      counts = replicate most_series 0;
      cycles = 0;
    }
