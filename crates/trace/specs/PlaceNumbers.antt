-- How the first symbol that stands for a place is found by one look. Private contracts alone cite this.
use Rattle.std.specs.Prelude.{◌≡◌, ℕ, ◌+◌, ◌*◌, ◌<◌, List, length, drop, find, slice_get, slice_index, Option, None, Some}
use Rattle.space.specs.Cells.{erasable_count}
use Rattle.space.specs.declared.place.Linear.{Linear}
use Rattle.space.specs.declared.place.Linear.TheVariants as linear
use Rattle.rope.specs.Places.{bank_words}
use Rattle.symbols.specs.declared.values.Value.{Value}
use Rattle.symbols.specs.declared.values.Value.TheVariants.{Num, Erasable, Fixed}
use Rattle.symbols.specs.Values.{SymbolTable}
use Rattle.trace.specs.TraceLines.{stands_for}

-- the number of a place: erasable memory, and then the banks
abbrev pub place_number : Linear → ℕ
place_number (linear.Erasable p) = p
place_number (linear.Fixed bank offset) = erasable_count + (bank_words * bank + offset)

-- how many there are: FB and the superbank bit lead to the banks 0 to 047
abbrev pub place_count : ℕ
place_count = erasable_count + bank_words * 0o50

-- whether there is such a place
abbrev pub IsPlace : Linear → Type 0
IsPlace (linear.Erasable p) = p < erasable_count
IsPlace (linear.Fixed bank offset) = (bank < 0o50) × (offset < bank_words)

-- the place that a symbol stands for
abbrev pub place_shown : Value → Option Linear
place_shown (Num n) = None
place_shown (Erasable p) = Some (linear.Erasable p)
place_shown (Fixed bank offset) = Some (linear.Fixed bank offset)

-- the first symbol, from one on, that stands for each place is that at the position which is kept for it, if any
pub record AreFirst (symbols : SymbolTable) (from : ℕ) (positions : List ℕ) : Type 0 where
  pub len : length positions ≡ place_count
  pub first : (place : Linear) → IsPlace place → slice_get symbols (slice_index positions (place_number place))
      ≡ find (λ e. stands_for place e.1) (drop from symbols)
