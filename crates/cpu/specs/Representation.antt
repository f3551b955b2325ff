-- How a machine holds its state.
use Rattle.std.specs.Prelude.{ℕ, ◌-◌, ◌<◌, ◌^◌, ◌≡◌, slice_index, Bool, false, List, Option, None, refl, filter, find, slice_index_or}
use Rattle.std.specs.List.{range_with_len}
use Rattle.std.specs.Ordering.{nat_cmp}
use Rattle.std.specs.FinMap as map
use Rattle.std.specs.FinSet as set
use Rattle.std.specs.Coded.{Coded, code_by, coded×, coded_ℕ, coded_bool, coded_option, coded_list}
use Rattle.space.specs.Cells.{Cells}
use Rattle.rope.specs.Places.{Words}
use Rattle.feed.specs.declared.entry.Entry.{Entry}
use Rattle.feed.specs.contracts.entry.Entry as entry
use Rattle.cpu.specs.State.{State, Processing}

-- the code by which states are told apart
abbrev pub state_code : Coded State
state_code =
    code_by (Cells × (Bool × (Bool × (Bool × (Option ℕ × (Option ℕ × (set.FinSet nat_cmp × (ℕ × (List ℕ × ℕ)))))))))
    (coded× (map.code coded_ℕ coded_ℕ) (coded× coded_bool
    (coded× coded_bool (coded× coded_bool (coded× (coded_option coded_ℕ)
    (coded× (coded_option coded_ℕ) (coded× (set.code coded_ℕ) (coded× coded_ℕ (coded× (coded_list coded_ℕ) coded_ℕ)))))))))
    (λ s. (s.cells, (s.extra, (s.inhibit, (s.inside, (s.waiting_sum, (s.waiting_word, (s.requests, (s.taken, (s.counts, s.cycles))))))))))
    (λ p. record {
      cells = p.0;
      extra = p.1.0;
      inhibit = p.1.1.0;
      inside = p.1.1.1.0;
      waiting_sum = p.1.1.1.1.0;
      waiting_word
          = p.1.1.1.1.1.0;
      requests = p.1.1.1.1.1.1.0;
      taken = p.1.1.1.1.1.1.1.0;
      counts = p.1.1.1.1.1.1.1.1.0;
      cycles
          = p.1.1.1.1.1.1.1.1.1;
    })
    (λ _. refl)

-- the code by which processors are told apart
abbrev pub processing_code : Coded Processing
processing_code =
    code_by (Words × (List Entry × ℕ)) (coded× (map.code coded_ℕ coded_ℕ) (coded× (coded_list entry.the_row.coded) coded_ℕ))
    (λ p. (p.scenario.rope, (p.scenario.inputs, p.meter)))
    (λ p. record { scenario = record { rope = p.0; inputs = p.1.0 }; meter = p.1.1 })
    (λ _. refl)

-- A state in which a machine can count one input more.
pub record HasRoom (s : State) : Type 0 where
  pub taken : s.taken < 2 ^ 63
  pub counts : (j : ℕ) → slice_index s.counts j < 10 ^ 9

-- how many interrupts there are
abbrev pub request_count : ℕ
request_count = 10

-- the interrupts asked for: those whose flag is set, the first being interrupt 1
unfoldable pub requests_of : List Bool → set.FinSet nat_cmp
requests_of flags = set.from_list (filter (λ k. slice_index_or flags (k - 1) false) (range_with_len 1 request_count))

-- where a mark is not set, nothing is asked for, and nothing waits
pub record IsMarked (flags : List Bool) (asks : Bool) (sum word : Option ℕ) (waits : Bool) : Type 0 where
  pub unasked : asks ≡ false → find (λ k. set.contains (requests_of flags) k) (range_with_len 1 request_count) ≡ None
  pub no_sum : waits ≡ false → sum ≡ None
  pub no_word : waits ≡ false → word ≡ None

-- how many cells there are: those of the erasable places, and those of the channels
abbrev pub cell_count : ℕ
cell_count = 0o5000

-- the cells that are marked
unfoldable pub marked_cells : List Bool → set.FinSet nat_cmp
marked_cells members = set.from_list (filter (λ c. slice_index_or members c false) (range_with_len 0 cell_count))
