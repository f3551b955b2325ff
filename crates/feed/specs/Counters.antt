-- Counters: all that there is to say of each.
use Rattle.std.specs.Prelude.{ℕ, Bool, true, false, List, [], ◌∷◌, codes}
use Rattle.std.specs.List.{list_any}
use Rattle.feed.specs.declared.counter.Asks.{Asks}
use Rattle.feed.specs.declared.counter.Asks.TheVariants.{Nothing, CarryInto, OnOverflow, AtZero, OnOneShiftedOut}
use Rattle.feed.specs.declared.input.Counter.{Counter}
use Rattle.feed.specs.declared.input.Counter.TheVariants.{Time1, Time2, Time3, Time4, Time5, Time6, CduX, CduY, CduZ, OptY, OptX, PipaX}
use Rattle.feed.specs.declared.input.Counter.TheVariants.{PipaY, PipaZ, Inlink}
use Rattle.feed.specs.declared.input.Sequence.{Sequence}
use Rattle.feed.specs.declared.input.Sequence.TheVariants.{Pinc, Minc, Dinc, Pcdu, Mcdu, Shinc, Shanc}

-- a counter's name, the erasable place that it counts in, the sequences that it takes, and what it asks for after a step
pub record Row : Type 0 where
  pub name : List ℕ
  pub place : ℕ
  pub takes : List Sequence
  pub asks : Asks

abbrev pub row : List ℕ → ℕ → List Sequence → Asks → Row
row name place takes asks = record { name = name; place = place; takes = takes; asks = asks }

-- each counter's row
abbrev pub row_of : Counter → Row
row_of Time1 = row (codes "TIME1") 0o25 (Pinc ∷ []) (CarryInto Time2)
row_of Time2 = row (codes "TIME2") 0o24 (Pinc ∷ []) Nothing
row_of Time3 = row (codes "TIME3") 0o26 (Pinc ∷ []) (OnOverflow 3)
row_of Time4 = row (codes "TIME4") 0o27 (Pinc ∷ []) (OnOverflow 4)
row_of Time5 = row (codes "TIME5") 0o30 (Pinc ∷ []) (OnOverflow 2)
row_of Time6 = row (codes "TIME6") 0o31 (Dinc ∷ []) (AtZero 1)
row_of CduX = row (codes "CDUX") 0o32 (Pcdu ∷ Mcdu ∷ []) Nothing
row_of CduY = row (codes "CDUY") 0o33 (Pcdu ∷ Mcdu ∷ []) Nothing
row_of CduZ = row (codes "CDUZ") 0o34 (Pcdu ∷ Mcdu ∷ []) Nothing
row_of OptY = row (codes "OPTY") 0o35 (Pcdu ∷ Mcdu ∷ []) Nothing
row_of OptX = row (codes "OPTX") 0o36 (Pcdu ∷ Mcdu ∷ []) Nothing
row_of PipaX = row (codes "PIPAX") 0o37 (Pinc ∷ Minc ∷ []) Nothing
row_of PipaY = row (codes "PIPAY") 0o40 (Pinc ∷ Minc ∷ []) Nothing
row_of PipaZ = row (codes "PIPAZ") 0o41 (Pinc ∷ Minc ∷ []) Nothing
row_of Inlink = row (codes "INLINK") 0o45 (Shinc ∷ Shanc ∷ []) (OnOneShiftedOut 7)

-- all counters
abbrev pub all_counters : List Counter
all_counters = Time1 ∷ Time2 ∷ Time3 ∷ Time4 ∷ Time5 ∷ Time6 ∷ CduX ∷ CduY ∷ CduZ ∷ OptY ∷ OptX ∷ PipaX ∷ PipaY ∷ PipaZ ∷ Inlink ∷ []

-- the erasable place of a counter
abbrev pub counter_place : Counter → ℕ
counter_place counter = (row_of counter).place

-- two sequences are the same
abbrev pub is_same : Sequence → Sequence → Bool
is_same Pinc Pinc = true
is_same Minc Minc = true
is_same Dinc Dinc = true
is_same Pcdu Pcdu = true
is_same Mcdu Mcdu = true
is_same Shinc Shinc = true
is_same Shanc Shanc = true
is_same _ _ = false

-- whether a counter takes a sequence
abbrev pub takes : Counter → Sequence → Bool
takes counter sequence = list_any (is_same sequence) (row_of counter).takes
