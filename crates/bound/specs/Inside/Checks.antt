-- A bound is checked: a number for each word of a routine, and one for each limit.
use Rattle.std.specs.Prelude.{◌≡◌, ℕ, ◌+◌, ◌-◌, ◌*◌, Bool, true, false, not, ◌==◌, ◌&&◌, nat_le, nat_lt, if◌then◌else◌, List}
use Rattle.std.specs.Prelude.{[], ◌∷◌, Option, Some, None, find}
use Rattle.std.specs.List.{list_all}
use Rattle.rope.specs.Places.{Words}
use Rattle.bound.specs.declared.charge.Charge.{Charge}
use Rattle.bound.specs.declared.charge.Limit.{Limit}
use Rattle.bound.specs.declared.checking.Count.{Count}
use Rattle.bound.specs.declared.checking.Row.{Row}
use Rattle.bound.specs.declared.site.Mode.{Mode}
use Rattle.bound.specs.declared.site.Site.{Site}
use Rattle.bound.specs.declared.turn.Leg.{Leg}
use Rattle.bound.specs.declared.turn.Turn.{Turn}
use Rattle.bound.specs.declared.turn.Turn.TheVariants.{Back, Through, One, Two, Four, Stop}
use Rattle.bound.specs.Bounds.{IsBound, stands_at}
use Rattle.bound.specs.Counting.{is_counted, stands_at_entry, stands_at_head}
use Rattle.bound.specs.Turns.{turn}

abbrev pub same_bool : Bool → Bool → Bool
same_bool true b = b
same_bool false b = not b

-- whether two ways to come to a word are one, and whether two words are
abbrev pub same_mode : Mode → Mode → Bool
same_mode m n =
    same_bool m.extra n.extra && same_bool m.indexed n.indexed && same_bool m.held n.held && same_bool m.banked n.banked

abbrev pub same : Site → Site → Bool
same p q = p.bank == q.bank && p.address == q.address && same_mode p.mode q.mode

-- the number of a word in a table
abbrev pub number_by : Option Row → Option ℕ
number_by None = None
number_by (Some row) = Some row.number

abbrev pub number_at : List Row → Site → Option ℕ
number_at rows p = number_by (find (λ row. same row.site p) rows)

-- what it costs to stand at a word: the weight of the first limit of its place
abbrev pub weight_at : List Charge → Site → ℕ
weight_at [] p = 0
weight_at (c ∷ cs) p = if stands_at c.limit p then c.weight else weight_at cs p

-- what it costs to stand at each place of a limit as often as it allows
abbrev pub allowed : List Charge → ℕ
allowed [] = 0
allowed (c ∷ cs) = c.limit.most * c.weight + allowed cs

abbrev pub leg_holds_by : ℕ → ℕ → Option ℕ → Bool
leg_holds_by room cycles None = false
leg_holds_by room cycles (Some n) = nat_le (n + cycles) room

-- whether so much has room for a way on, of which some cycles more are counted
abbrev pub leg_holds : List Row → ℕ → ℕ → Leg → Bool
leg_holds rows room more l = leg_holds_by room (l.cycles + more) (number_at rows l.to)

abbrev pub call_holds : List Row → ℕ → Option ℕ → Leg → Bool
call_holds rows room None l = false
call_holds rows room (Some m) l = leg_holds rows room m l

-- whether it has room for where an instruction leads; of routines that are called bounds are known
abbrev pub turn_holds : List Row → List Row → ℕ → ℕ → Turn → Bool
turn_holds known rows base room (Back n) = nat_le (n + base) room
turn_holds known rows base room (Through t l) = call_holds rows room (number_at known t) l
turn_holds known rows base room (One a) = leg_holds rows room 0 a
turn_holds known rows base room (Two a b) = leg_holds rows room 0 a && leg_holds rows room 0 b
turn_holds known rows base room (Four a b c d) = (leg_holds rows room 0 a && leg_holds rows room 0 b)
    && (leg_holds rows room 0 c && leg_holds rows room 0 d)
turn_holds known rows base room (Stop why) = false

-- what it costs to stand at a word as the head of a counted loop: the weight of the first loop whose head it is
abbrev pub gain_at : List Count → Site → ℕ
gain_at [] p = 0
gain_at (c ∷ cs) p = if stands_at_head c.counted p then c.weight else gain_at cs p

-- what is left of room at a word once each counted loop that it enters has its rounds paid
abbrev pub room_after : List Count → Site → ℕ → Option ℕ
room_after [] p room = Some room
room_after (c ∷ cs) p room =
    if stands_at_entry c.counted p then
    (if nat_lt room ((c.counted.from + 1) * c.weight) then None else room_after cs p (room - (c.counted.from + 1) * c.weight))
    else room_after cs p room

abbrev pub turn_holds_by : List Row → List Row → ℕ → Option ℕ → Turn → Bool
turn_holds_by known rows base None turn = false
turn_holds_by known rows base (Some room) turn = turn_holds known rows base room turn

-- whether the number of a word, with what it costs to stand there, has room for where it leads
abbrev pub row_holds : Words → List ℕ → List Charge → List Count → List Row → List Row → ℕ → Row → Bool
row_holds words kept charges counts known rows base row =
    turn_holds_by known rows base (room_after counts row.site (row.number + weight_at charges row.site + gain_at counts row.site))
    (turn words kept row.site)

unfoldable pub all_hold : Words → List ℕ → List Charge → List Count → List Row → List Row → ℕ → Bool
all_hold words kept charges counts known rows base = list_all (row_holds words kept charges counts known rows base) rows

-- whether the loops that are counted are counted ones of a routine
abbrev pub all_count : Words → List ℕ → List Row → Site → List Count → Bool
all_count words kept rows routine counts = list_all (λ count. is_counted words kept rows routine count.counted) counts

-- each number of a table is a bound of the routine that begins at its word
abbrev pub AreBounds : Words → List ℕ → List Limit → List Row → Type 0
AreBounds words kept limits known = (p : Site) (most : ℕ) → number_at known p ≡ Some most → IsBound words kept limits p most
