-- What the steps of a chain bring into it, each once, with the steps that do.
use Rattle.std.specs.Prelude.{ℕ, ◌+◌, ◌==◌, ◌&&◌, nat_lt, Bool, true, false, List, [], ◌∷◌, ◌++◌, length, get_or, set, if◌then◌else◌}
use Rattle.feed.specs.Counters.{counter_place, is_same}
use Rattle.feed.specs.declared.input.Input.{Input}
use Rattle.feed.specs.declared.input.Input.TheVariants.{Count, Word, Interrupt}
use Rattle.origins.specs.Tallies.{no_steps, with_step}
use Rattle.origins.specs.declared.origin.Origin.{Origin}
use Rattle.origins.specs.declared.origin.Origin.TheVariants.{Taken, Fixed}
use Rattle.origins.specs.declared.origin.OriginLine.{OriginLine}

-- two inputs are one, at whatever cycles they come: a word on a channel is another where the word is
abbrev pub same_input : Input → Input → Bool
same_input (Count counter sequence) (Count other like) = counter_place counter == counter_place other && is_same sequence like
same_input (Count counter sequence) (Word n w) = false
same_input (Count counter sequence) (Interrupt k) = false
same_input (Word n w) (Count counter sequence) = false
same_input (Word n w) (Word m v) = n == m && w == v
same_input (Word n w) (Interrupt k) = false
same_input (Interrupt k) (Count counter sequence) = false
same_input (Interrupt k) (Word n w) = false
same_input (Interrupt k) (Interrupt j) = k == j

abbrev pub same_origin : Origin → Origin → Bool
same_origin (Taken input) (Taken other) = same_input input other
same_origin (Taken input) (Fixed bank offset) = false
same_origin (Fixed bank offset) (Taken input) = false
same_origin (Fixed bank offset) (Fixed b o) = bank == b && offset == o

-- where the line of an origin stands, or how many lines there are, where it does not
abbrev pub place_of : Origin → List OriginLine → ℕ
place_of origin [] = 0
place_of origin (l ∷ ls) = if same_origin l.origin origin then 0 else place_of origin ls + 1

-- the lines so far, and whether there were more than are told
pub record Table : Type 0 where
  pub lines : List OriginLine
  pub more : Bool

abbrev pub most_lines : ℕ
most_lines = 1024

abbrev pub no_lines : Table
no_lines = record { lines = []; more = false }

-- the first line of an origin, by the number of its step, and a line with a step more
abbrev pub new_line : ℕ → Origin → OriginLine
new_line number origin = record { origin = origin; tally = with_step number no_steps }

abbrev pub line_more : ℕ → OriginLine → OriginLine
line_more number l = record l { tally = with_step number l.tally }

-- a step has an origin: its line has a step more, or is a new one where there is room
abbrev pub with_origin : ℕ → Origin → Table → Table
with_origin number origin t =
    let i = place_of origin t.lines in
    if nat_lt i (length t.lines) then record t { lines = set t.lines i (line_more number (get_or t.lines i (new_line number origin))) }
    else (if nat_lt (length t.lines) most_lines then record t { lines = t.lines ++ new_line number origin ∷ [] }
    else record t { more = true })
