-- What a line of a test claims, by its fields; or at which field, from 0 on, what is asked for.
use Rattle.std.specs.Prelude.{ℕ, ◌+◌, ◌^◌, ◌==◌, ◌&&◌, nat_lt, Bool, List, [], ◌∷◌, Option, None, Some, Result, Ok, Err, codes}
use Rattle.std.specs.Prelude.{if◌then◌else◌}
use Rattle.agc_text.specs.Tables.{same_name}
use Rattle.symbols.specs.Values.{SymbolTable}
use Rattle.space.specs.declared.place.Linear.{Linear}
use Rattle.commands.specs.Commands.{channel_in, count_in, erasable_number}
use Rattle.commands.specs.NamedPlaces.{begins_with_plus, named_place}
use Rattle.expect.specs.Fields.{moved_in, relation_in, value_in}
use Rattle.expect.specs.Kinds.{and_kind, and_spot, kind_in, nothing_allowed}
use Rattle.expect.specs.declared.claim.Allowed.{Allowed}
use Rattle.expect.specs.declared.claim.Claim.{Claim}
use Rattle.expect.specs.declared.claim.Claim.TheVariants.{Puts, PutsNoMore, Always, Never, AtEnd, At, Calls, CallsWithin}
use Rattle.expect.specs.declared.claim.Claim.TheVariants.{Notes, Check, Covered}
use Rattle.expect.specs.declared.claim.Condition.{Condition}
use Rattle.expect.specs.declared.claim.Relation.{Relation}
use Rattle.expect.specs.declared.notes.Listing.{Listing}
use Rattle.expect.specs.declared.notes.Pending.{Pending}
use Rattle.expect.specs.declared.notes.Pending.TheVariants as pending
use Rattle.expect.specs.declared.refusal.Asked.{Asked}
use Rattle.expect.specs.declared.refusal.Asked.TheVariants as asked
use Rattle.expect.specs.declared.refusal.Wrong.{Wrong}

-- what is read of some fields
abbrev pub Reading : Type 0 → Type 0
Reading X = Result X Wrong

-- at a field something is asked for
abbrev pub asks : {X : Type 0} → ℕ → Asked → Reading X
asks at what = Err (record { field = at; asked = what })

-- nothing more may stand
abbrev pub ended_at : {X : Type 0} → ℕ → X → List (List ℕ) → Reading X
ended_at at x [] = Ok x
ended_at at x (field ∷ more) = asks at asked.End

-- ## Conditions: a place, a relation and a word
abbrev pub with_word : ℕ → Relation → ℕ → Option ℕ → List (List ℕ) → Reading Condition
with_word place relation at None more = asks at asked.Word
with_word place relation at (Some word) more = ended_at (at + 1) (record { place = place; relation = relation; word = word }) more

abbrev pub compared_at : ℕ → Relation → ℕ → List (List ℕ) → Reading Condition
compared_at place relation at [] = asks at asked.Word
compared_at place relation at (field ∷ more) = with_word place relation at (value_in field) more

abbrev pub with_relation : ℕ → ℕ → Option Relation → List (List ℕ) → Reading Condition
with_relation place at None more = asks at asked.Relation
with_relation place at (Some relation) more = compared_at place relation (at + 1) more

abbrev pub related_at : ℕ → ℕ → List (List ℕ) → Reading Condition
related_at place at [] = asks at asked.Relation
related_at place at (field ∷ more) = with_relation place at (relation_in field) more

-- the same of the erasable place that stands at a field, before which another field is next
abbrev pub with_cell : ℕ → ℕ → Option ℕ → List (List ℕ) → Reading Condition
with_cell at next None more = asks at asked.Cell
with_cell at next (Some place) more = related_at place next more

-- a place, moved on by the field after it
abbrev pub with_moved : ℕ → Option Linear → List (List ℕ) → Reading Condition
with_moved at None more = asks (at + 1) asked.Offset
with_moved at (Some place) more = with_cell at (at + 2) (erasable_number place) more

-- a place, moved on where the field after it begins with a plus sign
abbrev pub moved_at : ℕ → Linear → List (List ℕ) → Reading Condition
moved_at at place [] = with_cell at (at + 1) (erasable_number place) []
moved_at at place (field ∷ more) =
    if begins_with_plus field then with_moved at (moved_in place field) more
    else with_cell at (at + 1) (erasable_number place) (field ∷ more)

abbrev pub with_named : ℕ → Option Linear → List (List ℕ) → Reading Condition
with_named at None more = asks at asked.Cell
with_named at (Some place) more = moved_at at place more

abbrev pub condition_at : SymbolTable → ℕ → List (List ℕ) → Reading Condition
condition_at symbols at [] = asks at asked.Cell
condition_at symbols at (field ∷ more) = with_named at (named_place symbols field) more

-- a claim that a condition makes
abbrev pub claiming : (Condition → Claim) → Reading Condition → Reading (List Claim)
claiming claim (Ok condition) = Ok (claim condition ∷ [])
claiming claim (Err wrong) = Err wrong

-- ## Words on a channel
-- a number of cycles that no run has
abbrev pub most_cycles : ℕ
most_cycles = 2 ^ 63

-- the most words of a line
abbrev pub most_words : ℕ
most_words = 1000

-- one word more
abbrev pub and_word : Claim → Reading (List Claim) → Reading (List Claim)
and_word claim (Ok more) = Ok (claim ∷ more)
and_word claim (Err wrong) = Err wrong

-- a claim alone
abbrev pub alone : Reading Claim → Reading (List Claim)
alone (Ok claim) = Ok (claim ∷ [])
alone (Err wrong) = Err wrong

-- no more words than so many, and no more fields
abbrev pub nothing_more : ℕ → ℕ → ℕ → List (List ℕ) → Reading Claim
nothing_more channel before at more = ended_at at (PutsNoMore channel before) more

-- NOTHING after some words
abbrev pub nothing_at : ℕ → ℕ → ℕ → List (List ℕ) → Reading Claim
nothing_at channel before at [] = asks at asked.Nothing
nothing_at channel before at (field ∷ more) =
    if same_name field (codes "NOTHING") then nothing_more channel before (at + 1) more else asks at asked.Nothing

-- a word on a channel, after so many before it
abbrev pub puts : ℕ → ℕ → ℕ → ℕ → Option ℕ → Reading Claim
puts channel within at before None = asks (at + before) asked.Put
puts channel within at before (Some word) = Ok (Puts (record { channel = channel; before = before; word = word; within = within }))

abbrev pub word_of_line : ℕ → ℕ → ℕ → ℕ → List ℕ → Reading Claim
word_of_line channel within at before field = if before == most_words then asks (at + before) asked.FewerWords else puts channel within at
    before (value_in field)

-- a word before those after it
abbrev pub word_then : Reading Claim → Reading (List Claim) → Reading (List Claim)
word_then (Ok claim) more = and_word claim more
word_then (Err wrong) more = Err wrong

-- whether THEN follows some words
abbrev pub is_then : ℕ → List ℕ → Bool
is_then before field = same_name field (codes "THEN") && nat_lt 0 before

-- words in their order, of which the first has a number among the fields, each within so many cycles, after so many words before them; and
-- then THEN NOTHING, or no more
unfoldable pub words_at : ℕ → ℕ → ℕ → ℕ → List (List ℕ) → Reading (List Claim)
words_at channel within at before [] = Ok []
words_at channel within at before (field ∷ more) =
    if is_then before field then alone (nothing_at channel before (at + before + 1) more)
    else word_then (word_of_line channel within at before field) (words_at channel within at (before + 1) more)

-- one word at least
abbrev pub some_words_at : ℕ → ℕ → ℕ → List (List ℕ) → Reading (List Claim)
some_words_at channel within at [] = asks at asked.Put
some_words_at channel within at (field ∷ more) = words_at channel within at 0 (field ∷ more)

-- CYCLES, and words that come within so many of them
abbrev pub unit_at : ℕ → ℕ → ℕ → List (List ℕ) → Reading (List Claim)
unit_at channel within at [] = asks at asked.Unit
unit_at channel within at (field ∷ more) = if same_name field (codes "CYCLES") then some_words_at channel within (at + 1) more else asks at
    asked.Unit

abbrev pub with_cycles : ℕ → ℕ → Option ℕ → List (List ℕ) → Reading (List Claim)
with_cycles channel at None more = asks at asked.Cycles
with_cycles channel at (Some within) more = unit_at channel within (at + 1) more

abbrev pub cycles_at : ℕ → ℕ → List (List ℕ) → Reading (List Claim)
cycles_at channel at [] = asks at asked.Cycles
cycles_at channel at (field ∷ more) = with_cycles channel at (count_in field) more

-- what follows a channel: NOTHING; or WITHIN, a number and CYCLES, and words; or words, for which no cycle is too late
abbrev pub puts_at : ℕ → ℕ → List (List ℕ) → Reading (List Claim)
puts_at channel at [] = asks at asked.Put
puts_at channel at (field ∷ more) =
    if same_name field (codes "NOTHING") then alone (nothing_more channel 0 (at + 1) more)
    else (if same_name field (codes "WITHIN") then cycles_at channel (at + 1) more
    else some_words_at channel most_cycles at (field ∷ more))

abbrev pub with_channel : ℕ → Option ℕ → List (List ℕ) → Reading (List Claim)
with_channel at None more = asks at asked.Channel
with_channel at (Some channel) more = puts_at channel (at + 1) more

abbrev pub channel_at : ℕ → List (List ℕ) → Reading (List Claim)
channel_at at [] = asks at asked.Channel
channel_at at (field ∷ more) = with_channel at (channel_in field) more

-- ## Calls of a routine: how often, or WITHIN, a number and CYCLES
abbrev pub with_calls : Linear → ℕ → Option ℕ → List (List ℕ) → Reading Claim
with_calls place at None more = asks at asked.Calls
with_calls place at (Some times) more = ended_at (at + 1) (Calls place times) more

abbrev pub limit_unit_at : Linear → ℕ → ℕ → List (List ℕ) → Reading Claim
limit_unit_at place most at [] = asks at asked.Unit
limit_unit_at place most at (field ∷ more) =
    if same_name field (codes "CYCLES") then ended_at (at + 1) (CallsWithin place most) more else asks at asked.Unit

abbrev pub with_limit : Linear → ℕ → Option ℕ → List (List ℕ) → Reading Claim
with_limit place at None more = asks at asked.Cycles
with_limit place at (Some most) more = limit_unit_at place most (at + 1) more

abbrev pub limit_at : Linear → ℕ → List (List ℕ) → Reading Claim
limit_at place at [] = asks at asked.Cycles
limit_at place at (field ∷ more) = with_limit place at (count_in field) more

abbrev pub called_at : Linear → ℕ → List (List ℕ) → Reading Claim
called_at place at [] = asks at asked.Calls
called_at place at (field ∷ more) =
    if same_name field (codes "WITHIN") then limit_at place (at + 1) more else with_calls place at (count_in field) more

abbrev pub with_routine : ℕ → Option Linear → List (List ℕ) → Reading Claim
with_routine at None more = asks at asked.Routine
with_routine at (Some place) more = called_at place (at + 1) more

abbrev pub calls_at : SymbolTable → ℕ → List (List ℕ) → Reading Claim
calls_at symbols at [] = asks at asked.Routine
calls_at symbols at (field ∷ more) = with_routine at (named_place symbols field) more

-- ## Notes: NONE, or those that there may be: of a kind, anywhere or AT a place
-- the last field of a line that lists notes
abbrev pub last_kind : ℕ
last_kind = 60

-- what is read of a line: the notes that there may be, and what is read behind them and not listed yet
abbrev pub so_far : Allowed → Pending → Listing
so_far a p = record { allowed = a; pending = p }

-- its kind, 1 where there is none
abbrev pub pending_kind : Pending → ℕ
pending_kind pending.Nothing = 1
pending_kind (pending.Kind kind) = kind
pending_kind (pending.Place kind) = kind
pending_kind (pending.At spot) = spot.kind

-- a kind
abbrev pub opened : ℕ → Allowed → Option ℕ → Reading Listing
opened at a None = asks at asked.Kind
opened at a (Some kind) = Ok (so_far a (pending.Kind kind))

-- a kind at a place, which is listed where there is room
abbrev pub with_room : ℕ → Option Allowed → Reading Allowed
with_room at None = asks at asked.FewerPlaces
with_room at (Some a) = Ok a

-- a kind after one at a place
abbrev pub opened_after : ℕ → Reading Allowed → Option ℕ → Reading Listing
opened_after at (Ok a) kind = opened at a kind
opened_after at (Err wrong) kind = Err wrong

-- the place of a kind
abbrev pub placed : ℕ → Allowed → ℕ → Option Linear → Reading Listing
placed at a kind None = asks at asked.Routine
placed at a kind (Some place) = Ok (so_far a (pending.At (record { kind = kind; place = place })))

-- the place that is moved on
abbrev pub closed : Reading Allowed → Reading Listing
closed (Ok a) = Ok (so_far a pending.Nothing)
closed (Err wrong) = Err wrong

abbrev pub moved : ℕ → Allowed → ℕ → Option Linear → Reading Listing
moved at a kind None = asks at asked.Offset
moved at a kind (Some place) = closed (with_room at (and_spot a (record { kind = kind; place = place })))

-- a field more
abbrev pub listed_next : SymbolTable → ℕ → Allowed → Pending → List ℕ → Reading Listing
listed_next symbols at a pending.Nothing field = opened at a (kind_in field)
listed_next symbols at a (pending.Kind kind) field =
    if same_name field (codes "AT") then Ok (so_far a (pending.Place kind)) else opened at (and_kind a kind) (kind_in field)
listed_next symbols at a (pending.Place kind) field = placed at a kind (named_place symbols field)
listed_next symbols at a (pending.At spot) field =
    if begins_with_plus field then moved at a spot.kind (moved_in spot.place field)
    else opened_after at (with_room at (and_spot a spot)) (kind_in field)

-- the end of a line
abbrev pub listed_all : ℕ → Allowed → Pending → Reading Allowed
listed_all at a pending.Nothing = Ok a
listed_all at a (pending.Kind kind) = Ok (and_kind a kind)
listed_all at a (pending.Place kind) = asks at asked.Routine
listed_all at a (pending.At spot) = with_room at (and_spot a spot)

abbrev pub claiming_notes : Reading Allowed → Reading Claim
claiming_notes (Ok a) = Ok (Notes a)
claiming_notes (Err wrong) = Err wrong

-- what some fields list, of which the first has a number
abbrev pub going_on : Reading Listing → (Listing → Reading Claim) → Reading Claim
going_on (Ok l) more = more l
going_on (Err wrong) more = Err wrong

unfoldable pub kinds_at : SymbolTable → ℕ → Listing → List (List ℕ) → Reading Claim
kinds_at symbols at l [] = claiming_notes (listed_all at l.allowed l.pending)
kinds_at symbols at l (field ∷ more) =
    if nat_lt last_kind at then asks at asked.End
    else going_on (listed_next symbols at l.allowed l.pending field) (λ next. kinds_at symbols (at + 1) next more)

abbrev pub notes_at : SymbolTable → ℕ → List (List ℕ) → Reading Claim
notes_at symbols at [] = asks at asked.Notes
notes_at symbols at (field ∷ more) =
    if same_name field (codes "NONE") then ended_at (at + 1) (Notes nothing_allowed) more
    else kinds_at symbols at (so_far nothing_allowed pending.Nothing) (field ∷ more)

-- ## Instructions that are executed: how many at least
abbrev pub with_least : ℕ → Option ℕ → List (List ℕ) → Reading Claim
with_least at None more = asks at asked.Least
with_least at (Some least) more = ended_at (at + 1) (Covered least) more

abbrev pub covered_at : ℕ → List (List ℕ) → Reading Claim
covered_at at [] = asks at asked.Least
covered_at at (field ∷ more) = with_least at (count_in field) more

-- ## Any line of a test
-- what follows AT: END, or a place
abbrev pub with_moved_place : SymbolTable → ℕ → Option Linear → List (List ℕ) → Reading (List Claim)
with_moved_place symbols at None more = asks (at + 1) asked.Offset
with_moved_place symbols at (Some place) more = claiming (At place) (condition_at symbols (at + 2) more)

-- a place, moved on where the field after it begins with a plus sign
abbrev pub moved_place_at : SymbolTable → ℕ → Linear → List (List ℕ) → Reading (List Claim)
moved_place_at symbols at place [] = claiming (At place) (condition_at symbols (at + 1) [])
moved_place_at symbols at place (field ∷ more) =
    if begins_with_plus field then with_moved_place symbols at (moved_in place field) more
    else claiming (At place) (condition_at symbols (at + 1) (field ∷ more))

abbrev pub with_place : SymbolTable → ℕ → Option Linear → List (List ℕ) → Reading (List Claim)
with_place symbols at None more = asks at asked.Place
with_place symbols at (Some place) more = moved_place_at symbols at place more

abbrev pub place_at : SymbolTable → ℕ → List (List ℕ) → Reading (List Claim)
place_at symbols at [] = asks at asked.Place
place_at symbols at (field ∷ more) =
    if same_name field (codes "END") then claiming AtEnd (condition_at symbols (at + 1) more)
    else with_place symbols at (named_place symbols field) more

-- what a line claims
abbrev pub claims_of : SymbolTable → List (List ℕ) → Reading (List Claim)
claims_of symbols [] = asks 0 asked.Claim
claims_of symbols (name ∷ more) =
    if same_name name (codes "CHANNEL") then channel_at 1 more
    else (if same_name name (codes "ALWAYS") then claiming Always (condition_at symbols 1 more)
    else (if same_name name (codes "NEVER") then claiming Never (condition_at symbols 1 more)
    else (if same_name name (codes "AT") then place_at symbols 1 more
    else (if same_name name (codes "CALLS") then alone (calls_at symbols 1 more)
    else (if same_name name (codes "NOTES") then alone (notes_at symbols 1 more)
    else (if same_name name (codes "CHECK") then alone (ended_at 1 Check more)
    else (if same_name name (codes "COVERED") then alone (covered_at 1 more)
    else asks 0 asked.Claim)))))))
