-- Loops that are counted by CCS, as the words of a routine tell.
use Rattle.std.specs.Prelude.{ℕ, ◌+◌, ◌%◌, Bool, true, false, not, ◌==◌, ◌&&◌, ◌||◌, nat_lt, nat_le, if◌then◌else◌, List}
use Rattle.std.specs.Prelude.{Option, Some, None, codes}
use Rattle.std.specs.List.{list_all}
use Rattle.agc_text.specs.Tables.{same_name}
use Rattle.rope.specs.Places.{Words, word_at}
use Rattle.cpu.specs.Codes.{Code, code_of, row_of}
use Rattle.cpu.specs.Operands.{address_of}
use Rattle.bound.specs.declared.checking.Row.{Row}
use Rattle.bound.specs.declared.counted.Counted.{Counted}
use Rattle.bound.specs.declared.kind.Kind.{Kind}
use Rattle.bound.specs.declared.kind.Kind.TheVariants as kind
use Rattle.bound.specs.declared.site.Mode.{Mode}
use Rattle.bound.specs.declared.site.Site.{Site}
use Rattle.bound.specs.declared.turn.Turn.{Turn}
use Rattle.bound.specs.declared.turn.Turn.TheVariants.{Back, Through, One, Two, Four, Stop}
use Rattle.bound.specs.Turns.{kind_of, second, target, turn}

-- the first address of a cell that neither the machine nor the input of a counter writes by itself; the first of erasable memory that EB
-- switches; and the first of fixed memory
abbrev pub first_quiet : ℕ
first_quiet = 0o61

abbrev pub first_switched : ℕ
first_switched = 0o1400

-- where a word stands of a loop: at its head, the word before that, its last, the word before that, or at one of it
abbrev pub stands_at_head : Counted → Site → Bool
stands_at_head c p = p.bank == c.bank && p.address == c.head

abbrev pub stands_at_entry : Counted → Site → Bool
stands_at_entry c p = p.bank == c.bank && p.address + 1 == c.head

abbrev pub stands_at_last : Counted → Site → Bool
stands_at_last c p = p.bank == c.bank && p.address == c.last

abbrev pub stands_at_count : Counted → Site → Bool
stands_at_count c p = p.bank == c.bank && p.address + 1 == c.last

abbrev pub stands_in : Counted → Site → Bool
stands_in c p = p.bank == c.bank && nat_le c.head p.address && nat_le p.address c.last

-- whether its addresses and its constant are those of a loop that counts down: the constant is no number below 0, and nothing but
-- instructions writes the cell
abbrev pub counts_down : Counted → Bool
counts_down c =
    nat_le (c.head + 2) c.last && nat_lt c.from 0o40000 && nat_le first_quiet c.cell && nat_lt c.cell 0o2000
    && (nat_lt c.cell first_switched || nat_le first_quiet (c.cell % 0o400))

-- whether a way on from one word to another enters the loop at its head alone, from the word before it or its last, and comes to its last
-- from the word before that; TS that skips, at the head, is not looked at, since what A holds there is a number without overflow
abbrev pub enters_at : Counted → Site → Site → Bool
enters_at c p q =
    if stands_at_head c q then stands_at_entry c p || stands_at_last c p
    else (if stands_at_last c q then stands_at_count c p
    else not (stands_in c q) || (stands_in c p && not (stands_at_last c p)))

abbrev pub skips : Counted → Site → Site → Bool
skips c p q = stands_at_head c p && not (q.address == p.address + 1)

abbrev pub enters : Counted → Site → Site → Bool
enters c p q = skips c p q || enters_at c p q

-- whether all ways on do; a loop calls no routine
abbrev pub keeps_to : Counted → Site → Turn → Bool
keeps_to c p (Back n) = true
keeps_to c p (Through t l) = not (stands_in c p) && not (stands_at_entry c p) && enters c p l.to
keeps_to c p (One a) = enters c p a.to
keeps_to c p (Two a b) = enters c p a.to && enters c p b.to
keeps_to c p (Four a b d e) = (enters c p a.to && enters c p b.to) && (enters c p d.to && enters c p e.to)
keeps_to c p (Stop why) = true

-- the word at a site, and the instruction that it is
abbrev pub word_of : Words → Site → ℕ
word_of words p = word_at words p.bank (p.address % 0o2000)

abbrev pub instruction_at : Words → Site → Code
instruction_at words p = code_of p.mode.extra (word_of words p)

-- whether nothing waits: no extracode, no sum of INDEX
abbrev pub is_plain : Mode → Bool
is_plain m = not m.extra && not m.indexed

abbrev pub names : Option ℕ → ℕ → Bool
names None k = false
names (Some a) k = a == k

-- whether an instruction of a name stands at a site, where nothing waits, and names an address
abbrev pub does : Words → Site → List ℕ → ℕ → Bool
does words p name k =
    is_plain p.mode && same_name (row_of (instruction_at words p).instruction).name name
    && names (address_of (instruction_at words p)) k

-- the constant that CA loads at a site, where nothing waits
abbrev pub word_at_place : Words → Option Site → Option ℕ
word_at_place words None = None
word_at_place words (Some q) = Some (word_of words q)

abbrev pub constant_at : Words → Site → Option ℕ
constant_at words p =
    if is_plain p.mode && same_name (row_of (instruction_at words p).instruction).name (codes "CA")
    then word_at_place words (target p (address_of (instruction_at words p))) else None

abbrev pub loads : Words → Site → ℕ → Bool
loads words p n = names (constant_at words p) n

-- whether a write at an address may write EB; whether it may change a cell, or which cell its address is
abbrev pub switches : ℕ → Bool
switches k = (nat_lt k 0o10 || nat_le first_switched k) && (k % 0o400 == 3 || k % 0o400 == 6)

abbrev pub meets : ℕ → ℕ → Bool
meets k cell =
    k == cell || ((nat_le first_switched k || nat_le first_switched cell) && k % 0o400 == cell % 0o400)
    || (nat_le first_switched cell && switches k)

-- the same of an instruction that names the address: INDEX may add anything to it
abbrev pub touches : Site → Option ℕ → ℕ → Bool
touches p None cell = false
touches p (Some k) cell = p.mode.indexed || meets k cell

-- whether an instruction may write a cell, by its kind and the address that it names
abbrev pub may_write_by : Site → Kind → Option ℕ → ℕ → Bool
may_write_by p kind.Stores address cell = touches p address cell
may_write_by p kind.Changes address cell = touches p address cell
may_write_by p kind.Exchanges address cell = touches p address cell
may_write_by p kind.ChangesTwo address cell = touches p address cell || touches p (second address) cell
may_write_by p _ address cell = false

abbrev pub may_write : Words → Site → ℕ → Bool
may_write words p cell =
    may_write_by p (kind_of (instruction_at words p).instruction) (address_of (instruction_at words p)) cell

-- whether a word is the instruction that stands at its place in the loop: CA of the constant before TS of the cell, the head, and CCS of
-- the cell before TCF of the head, the last
abbrev pub shaped : Words → Counted → Site → Bool
shaped words c p =
    (not (stands_at_entry c p) || loads words p c.from) && (not (stands_at_head c p) || does words p (codes "TS") c.cell)
    && (not (stands_at_count c p) || does words p (codes "CCS") c.cell) && (not (stands_at_last c p) || does words p (codes "TCF") c.head)

-- whether it leaves the cell as it is, unless it stands outside of the loop or is its head
abbrev pub is_quiet : Words → Counted → Site → Bool
is_quiet words c p = not (stands_in c p) || stands_at_head c p || not (may_write words p c.cell)

-- whether a word of a routine is as a counted loop has it
abbrev pub fits : Words → List ℕ → Counted → Site → Bool
fits words kept c p = shaped words c p && is_quiet words c p && keeps_to c p (turn words kept p)

unfoldable pub all_fit : Words → List ℕ → Counted → List Row → Bool
all_fit words kept c rows = list_all (λ row. fits words kept c row.site) rows

-- whether a loop is a counted one of a routine whose words are those of a table
abbrev pub is_counted : Words → List ℕ → List Row → Site → Counted → Bool
is_counted words kept rows routine c = (counts_down c && not (stands_in c routine)) && all_fit words kept c rows
