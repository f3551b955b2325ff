-- What a run is asked for: all cells, or one.
use Rattle.std.specs.Prelude.{ℕ, zero, suc, ◌+◌, nat_lt, List, [], ◌∷◌, Option, Some, None, option_and_then, if◌then◌else◌}
use Rattle.std.specs.Option.{option_map, option_or}
use Rattle.agc_text.specs.Fields.{runs, texts}
use Rattle.agc_text.specs.Tables.{same_name, value_in}
use Rattle.symbols.specs.Values.{SymbolTable}
use Rattle.symbols.specs.declared.values.Value.{Value}
use Rattle.symbols.specs.declared.values.Value.TheVariants.{Num, Erasable, Fixed}
use Rattle.commands.specs.Commands.{erasable_number}
use Rattle.commands.specs.NamedPlaces.{begins_with_plus, named_place, words_on}
use Rattle.commands.specs.Subjects.{channel_named}
use Rattle.cpu.specs.Links.{cell_of_channel}
use Rattle.trace.specs.TraceLines.{cell_name}
use Rattle.access.specs.declared.view.View.{View}
use Rattle.access.specs.declared.view.View.TheVariants.{All, One}

-- the first cell, of those below n, that is shown so
unfoldable pub first_shown : SymbolTable → List ℕ → ℕ → Option ℕ
first_shown symbols text zero = None
first_shown symbols text (suc n) = option_or (first_shown symbols text n) (if same_name (cell_name symbols n) text then Some n else None)

-- the place of a symbol of erasable memory; else the first cell that is shown so
abbrev pub cell_of : Value → Option ℕ
cell_of (Erasable p) = Some p
cell_of (Num n) = None
cell_of (Fixed bank offset) = None

abbrev pub cell_by : Option Value → Option ℕ → Option ℕ
cell_by None shown = shown
cell_by (Some value) shown = option_or (cell_of value) shown

abbrev pub cell_shown : SymbolTable → List ℕ → Option ℕ
cell_shown symbols text = cell_by (value_in symbols text) (first_shown symbols text 0o5000)

-- else as a session takes it: an erasable place, by its number too, or a channel, as CH15; and the place so many words behind an erasable
-- one, as VEL +1
abbrev pub erasable_named : SymbolTable → List ℕ → Option ℕ
erasable_named symbols field = option_and_then erasable_number (named_place symbols field)

abbrev pub channel_asked : SymbolTable → List ℕ → Option ℕ
channel_asked symbols field = option_map cell_of_channel (channel_named symbols field)

abbrev pub cell_of_field : SymbolTable → List ℕ → Option ℕ
cell_of_field symbols field = option_or (erasable_named symbols field) (channel_asked symbols field)

abbrev pub further : ℕ → ℕ → Option ℕ
further k p = if nat_lt (p + k) 0o4000 then Some (p + k) else None

abbrev pub cell_moved : SymbolTable → List ℕ → List ℕ → Option ℕ
cell_moved symbols field moved =
    if begins_with_plus moved then option_and_then (λ k. option_and_then (further k) (erasable_named symbols field)) (words_on moved)
    else None

abbrev pub cell_in_fields : SymbolTable → List (List ℕ) → Option ℕ
cell_in_fields symbols [] = None
cell_in_fields symbols (field ∷ []) = cell_of_field symbols field
cell_in_fields symbols (field ∷ moved ∷ []) = cell_moved symbols field moved
cell_in_fields symbols (field ∷ moved ∷ next ∷ more) = None

abbrev pub cell_asked : SymbolTable → List ℕ → Option ℕ
cell_asked symbols text = option_or (cell_shown symbols text) (cell_in_fields symbols (texts (runs text)))

-- all cells where none is asked for
abbrev pub view_asked : SymbolTable → Option (List ℕ) → Option View
view_asked symbols None = Some All
view_asked symbols (Some text) = option_map One (cell_asked symbols text)
