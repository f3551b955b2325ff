-- The kinds of notes, as `run --notes` names them, and which notes of a run are others than those that it may have.
use Rattle.std.specs.Prelude.{ℕ, ◌+◌, ◌/◌, ◌%◌, ◌==◌, ◌&&◌, ◌||◌, nat_lt, Bool, false, not, List}
use Rattle.std.specs.Prelude.{[], ◌∷◌, replicate, set, Option, None, Some}
use Rattle.std.specs.Prelude.{codes, if◌then◌else◌}
use Rattle.std.specs.List.{list_any}
use Rattle.agc_text.specs.Fields.{runs, texts}
use Rattle.agc_text.specs.Tables.{same_name}
use Rattle.space.specs.declared.place.Linear.{Linear}
use Rattle.space.specs.Places.{same_place}
use Rattle.commands.specs.NamedPlaces.{unnamed_place}
use Rattle.expect.specs.declared.claim.Allowed.{Allowed}
use Rattle.expect.specs.declared.claim.Spot.{Spot}

-- the number of a kind, a power of two
abbrev pub later_kind_in : List ℕ → Option ℕ
later_kind_in text =
    if same_name text (codes "SHARED") then Some 1024
    else (if same_name text (codes "INSIDE") then Some 2048
    else (if same_name text (codes "WAITING") then Some 4096
    else (if same_name text (codes "UNREAD") then Some 8192
    else None)))

abbrev pub kind_in : List ℕ → Option ℕ
kind_in text =
    if same_name text (codes "QUOTIENT") then Some 1
    else (if same_name text (codes "SKIP") then Some 2
    else (if same_name text (codes "NOWORD") then Some 4
    else (if same_name text (codes "ERASABLE") then Some 8
    else (if same_name text (codes "NOHANDLER") then Some 16
    else (if same_name text (codes "OTHERBANK") then Some 32
    else (if same_name text (codes "FIXEDBANK") then Some 64
    else (if same_name text (codes "NOTKEPT") then Some 128
    else (if same_name text (codes "MINUSZERO") then Some 256
    else (if same_name text (codes "OVERWRITTEN") then Some 512
    else later_kind_in text)))))))))

-- some kinds have the sum of their numbers
abbrev pub has_kind : ℕ → ℕ → Bool
has_kind kinds kind = (kinds / kind) % 2 == 1

abbrev pub with_kind : ℕ → ℕ → ℕ
with_kind kinds kind = if has_kind kinds kind then kinds else kinds + kind

-- the notes that a run may have: none; those of one kind more, anywhere; one of a kind at a place more, where fewer are listed than a line
-- may list
abbrev pub most_spots : ℕ
most_spots = 8

abbrev pub nothing_allowed : Allowed
nothing_allowed = record { kinds = 0; count = 0; spots = replicate most_spots None }

abbrev pub and_kind : Allowed → ℕ → Allowed
and_kind a kind = record { kinds = with_kind a.kinds kind; count = a.count; spots = a.spots }

abbrev pub and_spot : Allowed → Spot → Option Allowed
and_spot a spot =
    if nat_lt a.count most_spots then Some (record { kinds = a.kinds; count = a.count + 1; spots = set a.spots a.count (Some spot) })
    else None

-- whether a note of a kind at a place is one of them
abbrev pub is_spot : ℕ → Linear → Option Spot → Bool
is_spot kind place None = false
is_spot kind place (Some spot) = spot.kind == kind && same_place spot.place place

abbrev pub is_listed_at : Allowed → ℕ → Option Linear → Bool
is_listed_at a kind None = false
is_listed_at a kind (Some place) = list_any (is_spot kind place) a.spots

abbrev pub is_allowed : Allowed → Option ℕ → Option Linear → Bool
is_allowed a None place = false
is_allowed a (Some kind) place = has_kind a.kinds kind || is_listed_at a kind place

-- the kind that the line of a note names, behind NOTE; and the place behind that, where one stands there
abbrev pub kind_named : List (List ℕ) → Option ℕ
kind_named [] = None
kind_named (note ∷ []) = None
kind_named (note ∷ kind ∷ more) = kind_in kind

abbrev pub place_noted : List (List ℕ) → Option Linear
place_noted [] = None
place_noted (note ∷ []) = None
place_noted (note ∷ kind ∷ []) = None
place_noted (note ∷ kind ∷ place ∷ more) = unnamed_place place

-- whether a line is not a note that a run may have
abbrev pub is_other : Allowed → List ℕ → Bool
is_other a line = not (is_allowed a (kind_named (texts (runs line))) (place_noted (texts (runs line))))

-- the first of some lines that is not
unfoldable pub first_other : Allowed → List (List ℕ) → Option (List ℕ)
first_other a [] = None
first_other a (line ∷ more) = if is_other a line then Some line else first_other a more
