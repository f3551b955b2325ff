-- The rows of erasable places, written one after another.
use Rattle.std.proofs.Common.{◌≡◌, ℕ, ◌<◌, List, ◌++◌, Option, refl}
use Rattle.words.specs.Devices.{WritesBeginning}
use Rattle.json_text.specs.declared.notation.Notation.{Notation}
use Rattle.symbols.specs.Values.{SymbolTable}
use Rattle.space.specs.Cells.{erasable_count}
use Rattle.audit.proofs.PartTexts.{begins_parts, front}
use Rattle.cover.specs.CoverText.{erasable_row, erasable_rows}
use Rattle.cover.specs.Tallies.{Profile}

rows_are : (notation : Notation) (names : Option SymbolTable) (profile : Profile)
    → erasable_rows notation names profile ≡ front (erasable_row notation names profile) erasable_count
unfolding erasable_rows
rows_are notation names profile = refl

pub begins_erasable : (notation : Notation) (names : Option SymbolTable) (profile : Profile) (n : ℕ) (a b c : List ℕ) → n < erasable_count
    → b ≡ a ++ front (erasable_row notation names profile) n → WritesBeginning b c (erasable_row notation names profile n)
    → WritesBeginning a c (erasable_rows notation names profile)
begins_erasable notation names profile n a b c lt written next = rw (rows_are notation names profile)
    (begins_parts (erasable_row notation names profile) n erasable_count a b c lt written next)
