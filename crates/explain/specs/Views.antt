-- Tables as the code hands them out.
use Rattle.std.specs.Prelude.{ℕ, List, map}
use Rattle.std.specs.Borrow.{Bor}
use Rattle.explain.specs.declared.note_kinds.NoteKind.{NoteKind}

-- what each kind of notes of a table means, without where its texts lie in memory
abbrev pub meanings_in : List (Bor (List ℕ) × NoteKind) → List (List ℕ × List ℕ)
meanings_in table = map (λ e. (e.0.now, e.1.meaning.now)) table
