-- What can be asked about where its word came from.
use Rattle.std.specs.Prelude.{ℕ, List, nat_lt, ◌&&◌, length, take, drop, Option, None, is_some, codes, if◌then◌else◌, option_and_then}
use Rattle.std.specs.Option.{option_map}
use Rattle.agc_text.specs.Tables.{same_name, value_in}
use Rattle.symbols.specs.Values.{SymbolTable}
use Rattle.commands.specs.Commands.{channel_in, erasable_number}
use Rattle.commands.specs.NamedPlaces.{place_first}
use Rattle.commands.specs.declared.subject.Subject.{Subject}
use Rattle.commands.specs.declared.subject.Subject.TheVariants.{Place, Channel}

-- an erasable place that some fields begin with
abbrev pub erasable_first : SymbolTable → List (List ℕ) → Option ℕ
erasable_first symbols fields = option_and_then erasable_number (place_first symbols fields)

-- a channel, as `CH` and its number in octal
abbrev pub channel_by : List ℕ → Option ℕ
channel_by field = if nat_lt 2 (length field) && same_name (take 2 field) (codes "CH") then channel_in (drop 2 field) else None

-- the same, where no symbol has the name
abbrev pub channel_named : SymbolTable → List ℕ → Option ℕ
channel_named symbols field = if is_some (value_in symbols field) then None else channel_by field

-- each of them as a subject
abbrev pub place_subject : SymbolTable → List (List ℕ) → Option Subject
place_subject symbols fields = option_map (λ p. Place p) (erasable_first symbols fields)

abbrev pub channel_subject : SymbolTable → List ℕ → Option Subject
channel_subject symbols field = option_map (λ c. Channel c) (channel_named symbols field)
