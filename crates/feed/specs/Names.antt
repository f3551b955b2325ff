-- The names of counters and of their sequences.
use Rattle.std.specs.Prelude.{ℕ, List, [], ◌∷◌, map, codes}
use Rattle.feed.specs.Counters.{row_of, all_counters}
use Rattle.feed.specs.declared.input.Counter.{Counter}
use Rattle.feed.specs.declared.input.Sequence.{Sequence}
use Rattle.feed.specs.declared.input.Sequence.TheVariants.{Pinc, Minc, Dinc, Pcdu, Mcdu, Shinc, Shanc}

-- counters by their names
abbrev pub by_name : List Counter → List (List ℕ × Counter)
by_name some = map (λ counter. ((row_of counter).name, counter)) some

unfoldable pub counters : List (List ℕ × Counter)
counters = by_name all_counters

-- each sequence by its name
unfoldable pub sequences : List (List ℕ × Sequence)
sequences =
    (codes "PINC", Pinc)
    ∷ (codes "MINC", Minc)
    ∷ (codes "DINC", Dinc)
    ∷ (codes "PCDU", Pcdu)
    ∷ (codes "MCDU", Mcdu)
    ∷ (codes "SHINC", Shinc)
    ∷ (codes "SHANC", Shanc)
    ∷ []

-- what begins an input behind its cycle
abbrev pub input_names : List (List ℕ)
input_names = codes "CHAN" ∷ codes "RUPT" ∷ map (λ row. row.0) counters
