-- Where the instructions of fixed memory lead, as far as their words tell, and what is reached from some spots.
use Rattle.std.specs.Prelude.{◌≡◌, ℕ, ◌+◌, ◌/◌, ◌*◌, ◌%◌, ◌⊎◌, Bool, true, false, not, ◌==◌, ◌&&◌, nat_lt, if◌then◌else◌, List, [], ◌∷◌}
use Rattle.std.specs.Prelude.{◌++◌, map, Option, Some, None}
use Rattle.std.specs.List.{range_with_len}
use Rattle.space.specs.Cells.{program_counter, return_address}
use Rattle.rope.specs.Places.{Words, word_at}
use Rattle.cpu.specs.declared.instruction.Instruction.{Instruction}
use Rattle.cpu.specs.declared.instruction.Instruction.TheVariants.{Extend, Resume, Tc, Ccs, Tcf, Index, Ts, Bzf, Bzmf, Dca, Dcs}
use Rattle.cpu.specs.Codes.{Code, code_of}
use Rattle.cpu.specs.Operands.{address_of}
use Rattle.cpu.specs.State.{first_address}
use Rattle.reach.specs.declared.kind.Kind.{Kind}
use Rattle.reach.specs.declared.kind.Kind.TheVariants.{Calls, Jumps, Branches, Skips, Stores, Indexes, Extends, Resumes, TakesTwo, Passes}
use Rattle.reach.specs.declared.spot.How.{How}
use Rattle.reach.specs.declared.spot.How.TheVariants.{Executes, Reads}
use Rattle.reach.specs.declared.spot.Spot.{Spot}

-- the first address of fixed memory, and the first that leads to it whatever the bank registers hold
abbrev pub first_fixed : ℕ
first_fixed = 0o2000

abbrev pub first_unbanked : ℕ
first_unbanked = 0o4000

-- how an instruction leads on
abbrev pub kind_of : Instruction → Kind
kind_of Tc = Calls
kind_of Tcf = Jumps
kind_of Bzf = Branches
kind_of Bzmf = Branches
kind_of Ccs = Skips
kind_of Ts = Stores
kind_of Index = Indexes
kind_of Extend = Extends
kind_of Resume = Resumes
kind_of Dca = TakesTwo
kind_of Dcs = TakesTwo
kind_of _ = Passes

-- a word of fixed memory, by the address and the bank, and how it is come to
abbrev pub spot : ℕ → ℕ → How → Spot
spot bank address how = record { bank = bank; address = address; how = how }

-- it is executed, without extracode, and no sum of INDEX waits
abbrev pub plain : How
plain = Executes false false

-- the offset in its bank of an address of fixed memory
abbrev pub offset_at : ℕ → ℕ
offset_at address = address % 0o2000

-- the word at a spot
abbrev pub word_of : Words → Spot → ℕ
word_of words p = word_at words p.bank (offset_at p.address)

-- The spot to which an address leads in an instruction at p: none in erasable memory; below 4000 one of the bank of p, and none where p is
-- itself executed at an address from 4000 on, since FB may then hold any bank.
abbrev pub at_address : Spot → ℕ → How → List Spot
at_address p address how =
    if nat_lt address first_fixed then []
    else (if nat_lt address first_unbanked then (if nat_lt p.address first_unbanked then spot p.bank address how ∷ [] else [])
    else spot (address / 0o2000) address how ∷ [])

-- the spot so many addresses further
abbrev pub further : Spot → ℕ → How → List Spot
further p n how = at_address p ((p.address + n) % 0o10000) how

-- the spot to which an operand leads, where there is one
abbrev pub named : Spot → Option ℕ → How → List Spot
named p None how = []
named p (Some address) how = at_address p address how

-- where a jump leads; with a sum of INDEX that may be anywhere
abbrev pub target : Spot → Bool → Option ℕ → List Spot
target p true address = []
target p false address = named p address plain

-- whether an operand is this register
abbrev pub is_register : ℕ → Option ℕ → Bool
is_register r None = false
is_register r (Some address) = r == address

-- what follows an operand, of two places of which it is the first
abbrev pub second : Option ℕ → Option ℕ
second None = None
second (Some address) = Some ((address + 1) % 0o10000)

-- Where an instruction leads and what it reads, by its kind and the address that it names, under extracode or not, with a sum of INDEX or
-- without. TC leads to its target and to the word after it, where the routine returns that it calls; RETURN, which is TC Q, and TS Z lead
-- where no word tells.
abbrev pub leads_by : Spot → Bool → Bool → Kind → Option ℕ → List Spot
leads_by p extra indexed Calls address = target p indexed address ++ (if is_register return_address address then [] else further p 1 plain)
leads_by p extra indexed Jumps address = target p indexed address
leads_by p extra indexed Branches address = target p indexed address ++ further p 1 plain
leads_by p extra indexed Skips address = further p 1 plain ++ further p 2 plain ++ further p 3 plain ++ further p 4 plain
leads_by p extra indexed Stores address = if not indexed && is_register program_counter address then [] else further p 1 plain
    ++ further p 2 plain
leads_by p extra indexed Indexes address = further p 1 (Executes extra true) ++ named p address Reads
leads_by p extra indexed Extends address = further p 1 (Executes true false)
leads_by p extra indexed Resumes address = []
leads_by p extra indexed TakesTwo address = further p 1 plain ++ named p address Reads ++ named p (second address) Reads
leads_by p extra indexed Passes address = further p 1 plain ++ named p address Reads

-- the same of a word
abbrev pub leads_of : Spot → Bool → Bool → Code → List Spot
leads_of p extra indexed code = leads_by p extra indexed (kind_of code.instruction) (address_of code)

-- where the word at a spot leads; one that is read leads nowhere
abbrev pub leads_from : Words → Spot → How → List Spot
leads_from words p (Executes extra indexed) = leads_of p extra indexed (code_of extra (word_of words p))
leads_from words p Reads = []

unfoldable pub leads : Words → Spot → List Spot
leads words p = leads_from words p p.how

-- a spot stands in a list
abbrev pub Among : Spot → List Spot → Type 0
Among q [] = ⊥
Among q (p ∷ ps) = (q ≡ p) ⊎ Among q ps

-- what is reached from some spots: the least set that has them, and with each spot those to which it leads
pub data Reached (words : Words) (roots : List Spot) : Spot → Type 0 where
  Root : (q : Spot) → Among q roots → Reached words roots q
  Way : (p q : Spot) → Reached words roots p → Among q (leads words p) → Reached words roots q

-- where a run starts, and where interrupt k is entered, for k from 1 to 10
abbrev pub vector : ℕ → Spot
vector k = spot 2 (first_address + 4 * k) plain

unfoldable pub vectors : List Spot
vectors = map vector (range_with_len 0 11)
