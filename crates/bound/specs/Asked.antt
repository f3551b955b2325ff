-- What is asked for: a routine, the limits of loops, and the cells that keep Q.
use Rattle.std.specs.Prelude.{ℕ, false, List, [], ◌∷◌, ◌++◌, Option, Some, None, option_and_then}
use Rattle.agc_text.specs.Digits.{number_of}
use Rattle.commands.specs.NamedPlaces.{named_place}
use Rattle.space.specs.Places.{window}
use Rattle.space.specs.declared.place.Linear.{Linear}
use Rattle.space.specs.declared.place.Linear.TheVariants.{Erasable, Fixed}
use Rattle.symbols.specs.Values.{SymbolTable}
use Rattle.bound.specs.declared.charge.Limit.{Limit}
use Rattle.bound.specs.declared.site.Site.{Site}
use Rattle.bound.specs.Turns.{entry, site}

-- the first word of a routine: at a place of fixed memory, where nothing waits
abbrev pub site_of : Linear → Option Site
site_of (Erasable p) = None
site_of (Fixed bank offset) = Some (site bank (window (Fixed bank offset)) (entry false))

abbrev pub routine_named : SymbolTable → List ℕ → Option Site
routine_named symbols text = option_and_then site_of (named_place symbols text)

-- a limit: a place of fixed memory, and a number of at most nine digits
abbrev pub limit_of : Linear → ℕ → Option Limit
limit_of (Erasable p) most = None
limit_of (Fixed bank offset) most = Some (record { bank = bank; offset = offset; most = most })

abbrev pub limit_named : SymbolTable → List ℕ → List ℕ → Option Limit
limit_named symbols place number =
    option_and_then (λ p. option_and_then (λ most. limit_of p most) (number_of 10 9 number)) (named_place symbols place)

-- those of pairs of fields, after some
abbrev pub limits_named : SymbolTable → List Limit → List (List ℕ) → Option (List Limit)
limits_named symbols limits [] = Some limits
limits_named symbols limits (place ∷ []) = None
limits_named symbols limits (place ∷ number ∷ fields) =
    option_and_then (λ limit. limits_named symbols (limits ++ limit ∷ []) fields) (limit_named symbols place number)

-- the address at which a program reaches a cell
abbrev pub cell_of : Linear → Option ℕ
cell_of (Erasable p) = Some (window (Erasable p))
cell_of (Fixed bank offset) = None

abbrev pub cell_named : SymbolTable → List ℕ → Option ℕ
cell_named symbols field = option_and_then cell_of (named_place symbols field)

-- those of fields, after some
abbrev pub kept_named : SymbolTable → List ℕ → List (List ℕ) → Option (List ℕ)
kept_named symbols kept [] = Some kept
kept_named symbols kept (field ∷ fields) =
    option_and_then (λ cell. kept_named symbols (kept ++ cell ∷ []) fields) (cell_named symbols field)
