-- What instructions read, worked out by hand: addresses lead to erasable places of the same number.
use Rattle.std.proofs.Common.{◌≡◌, ℕ, true, false, [], ◌∷◌, refl}
use Rattle.space.specs.declared.place.Linear.{Linear}
use Rattle.space.specs.declared.place.Linear.TheVariants.{Erasable, Fixed}
use Rattle.feed.specs.declared.input.Counter.TheVariants.{Time1}
use Rattle.feed.specs.declared.input.Sequence.TheVariants.{Pinc}
use Rattle.feed.specs.declared.input.Input.TheVariants.{Count, Word}
use Rattle.cpu.specs.declared.spot.Spot.TheVariants.{Cell, InRope}
use Rattle.cpu.specs.declared.instruction.Instruction.TheVariants.{Resume, Tc, Das, Ca, Index, Dxch, Ts, Xch, Write, Wor, Qxch, Dca}
use Rattle.cpu.specs.Reads.{fetch_reads, input_reads, reads_of}

abbrev lead : ℕ → Linear
lead k = Erasable k

-- DCA 102 has the code's operand 103: it reads 102, and then 103
dca : reads_of lead Dca 0o103 ≡ Cell 0o102 ∷ Cell 0o103 ∷ []
dca = refl

-- INDEX 101 reads 101; INDEX 7, where 0 is read, nothing
index : reads_of lead Index 0o101 ≡ Cell 0o101 ∷ []
index = refl

index_of_zero : reads_of lead Index 7 ≡ []
index_of_zero = refl

-- XCH 6 reads A, and FB and EB, which are BB
xch_of_both_banks : reads_of lead Xch 6 ≡ Cell 0 ∷ Cell 4 ∷ Cell 3 ∷ []
xch_of_both_banks = refl

-- DAS 102 and DXCH 102 read A, L, 102 and 103; QXCH 104 reads Q and 104
das : reads_of lead Das 0o103 ≡ Cell 0 ∷ Cell 1 ∷ Cell 0o102 ∷ Cell 0o103 ∷ []
das = refl

dxch : reads_of lead Dxch 0o103 ≡ Cell 0 ∷ Cell 1 ∷ Cell 0o102 ∷ Cell 0o103 ∷ []
dxch = refl

qxch : reads_of lead Qxch 0o104 ≡ Cell 2 ∷ Cell 0o104 ∷ []
qxch = refl

-- TS reads A alone, TC nothing; WRITE 11 reads A, WOR 11 the channel too, and of channel 2, which is Q, Q
ts : reads_of lead Ts 0o100 ≡ Cell 0 ∷ []
ts = refl

tc : reads_of lead Tc 0o100 ≡ []
tc = refl

write : reads_of lead Write 0o11 ≡ Cell 0 ∷ []
write = refl

wor : reads_of lead Wor 0o11 ≡ Cell 0 ∷ Cell 0o4011 ∷ []
wor = refl

wor_of_q : reads_of lead Wor 2 ≡ Cell 0 ∷ Cell 2 ∷ []
wor_of_q = refl

-- a constant is read in fixed memory
constant : reads_of (λ k. Fixed 2 0o117) Ca 0o4117 ≡ InRope 2 0o117 ∷ []
constant = refl

-- RESUME reads ZRUPT and BRUPT; a word at Q, as of RETURN, is read there, one of fixed memory is not told
resume : reads_of lead Resume 0 ≡ Cell 0o15 ∷ Cell 0o17 ∷ []
resume = refl

returned : fetch_reads false (Erasable 2) ≡ Cell 2 ∷ []
returned = refl

fetched : fetch_reads false (Fixed 2 0o100) ≡ []
fetched = refl

-- a pulse of TIME1 reads 25, and where that overflows 24, which is TIME2; a word on a channel reads nothing
pulse : input_reads (Count Time1 Pinc) false ≡ Cell 0o25 ∷ []
pulse = refl

carried : input_reads (Count Time1 Pinc) true ≡ Cell 0o25 ∷ Cell 0o24 ∷ []
carried = refl

key : input_reads (Word 0o15 0o21) false ≡ []
key = refl
