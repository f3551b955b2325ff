-- Cells by their names, worked out by hand.
use Rattle.std.proofs.Common.{◌≡◌, ℕ, List, [], ◌∷◌, ◌++◌, refl}
use Rattle.std.specs.Prelude.{codes}
use Rattle.std.specs.List.{flat_map}
use Rattle.words.specs.Numerals.{octal_text}
use Rattle.space.specs.Places.{window}
use Rattle.symbols.specs.Values.{SymbolTable}
use Rattle.symbols.specs.declared.values.Value.TheVariants.{Erasable}
use Rattle.yayul.specs.Listing.{place_text}
use Rattle.trace.specs.TraceLines.{cell_name, cell_shown, symbol_at}

abbrev symbols : SymbolTable
symbols = (codes "SUM", Erasable 0o1401) ∷ []

-- a register and a symbol by their names, other places as a listing has them, of the fixed banks and of a switched one, and a channel
cells : flat_map (λ c. codes " " ++ cell_name symbols c) (0 ∷ 0o17 ∷ 0o1377 ∷ 0o1400 ∷ 0o1401 ∷ 0o3777 ∷ 0o4010 ∷ [])
    ≡ codes " A BRUPT E2,1377 E3,1400 SUM E7,1777 CH010"
unfolding symbol_at place_text window octal_text
cells = refl

-- the words behind a symbol are called by it, 63 of them; those before the first symbol, and registers and counters, are not
cells_behind : flat_map (λ c. codes " " ++ cell_shown symbols c) (0o46 ∷ 0o1400 ∷ 0o1401 ∷ 0o1402 ∷ 0o1411 ∷ 0o1500 ∷ 0o1501 ∷ 0o4010 ∷ [])
    ≡ codes " E0,0046 E3,1400 SUM SUM+1 SUM+10 SUM+77 E3,1501 CH010"
unfolding symbol_at place_text window octal_text
cells_behind = refl
