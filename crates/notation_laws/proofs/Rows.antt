-- Symbols that stand apart, and those that do not: what is written, and what is read of it.
use Rattle.std.proofs.Common.{◌≡◌, [], ◌∷◌, Some, None, refl}
use Rattle.std.specs.Prelude.{codes}
use Rattle.words.specs.Numerals.{octal_text}
use Rattle.space.specs.Places.{window}
use Rattle.symbols.specs.Values.{SymbolTable}
use Rattle.symbols.specs.declared.values.Value.TheVariants.{Num, Erasable, Fixed}
use Rattle.yayul.specs.Listing.{place_text}
use Rattle.commands.specs.Extended.{subject_alone}
use Rattle.commands.specs.declared.subject.Subject.TheVariants.{Place, Channel}
use Rattle.trace.specs.TraceLines.{cell_name, cell_shown, symbol_at}
use Rattle.notation_laws.specs.Named.{IsApart}

-- a number that has the name of its place, an erasable place and one of fixed memory
abbrev symbols : SymbolTable
symbols = (codes "ARUPT", Num 0o10) ∷ (codes "SUM", Erasable 0o101) ∷ (codes "LOOP", Fixed 2 5) ∷ []

each_apart : (IsApart (codes "ARUPT", Num 0o10)) × (IsApart (codes "SUM", Erasable 0o101)) × (IsApart (codes "LOOP", Fixed 2 5))
unfolding window
each_apart = ((refl, refl), (tt, refl), (tt, refl))

-- cells that are read as they are written: a register, a symbol, a place as listed, a counter, a channel, and others of the first places
cells : (subject_alone symbols (cell_name symbols 2 ∷ []) ≡ Some (Place 2))
    × (subject_alone symbols (cell_name symbols 0o101 ∷ []) ≡ Some (Place 0o101))
    × (subject_alone symbols (cell_name symbols 0o1402 ∷ []) ≡ Some (Place 0o1402))
    × (subject_alone symbols (cell_name symbols 0o26 ∷ []) ≡ Some (Place 0o26))
    × (subject_alone symbols (cell_name symbols 0o4010 ∷ []) ≡ Some (Channel 0o10))
    × (subject_alone symbols (cell_name symbols 0o10 ∷ []) ≡ Some (Place 0o10))
    × (subject_alone symbols (cell_name symbols 0o20 ∷ []) ≡ Some (Place 0o20))
unfolding window symbol_at place_text octal_text
cells = (refl, refl, refl, refl, refl, refl, refl)

-- no session reads a symbol and how far behind it without a blank between
unread : (cell_shown symbols 0o104 ≡ codes "SUM+3")
    × (subject_alone symbols (codes "SUM+3" ∷ []) ≡ None)
unfolding window symbol_at place_text octal_text
unread = (refl, refl)

-- a symbol by the name of another place is read where that place is written, and one whose name is a number is read as the number
abbrev misnamed : SymbolTable
misnamed = (codes "Q", Erasable 0o102) ∷ (codes "101", Erasable 0o103) ∷ []

misread : (subject_alone misnamed (cell_name misnamed 2 ∷ []) ≡ Some (Place 0o102))
    × (subject_alone misnamed (cell_name misnamed 0o103 ∷ []) ≡ Some (Place 0o101))
unfolding window symbol_at place_text octal_text
misread = (refl, refl)
