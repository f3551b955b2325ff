-- What words lead to, worked out by hand.
use Rattle.std.proofs.Common.{◌≡◌, [], ◌∷◌, refl, None, true, false}
use Rattle.space.specs.declared.place.Linear.TheVariants as linear
use Rattle.symbols.specs.declared.values.Value.TheVariants as value
use Rattle.cpu.specs.declared.instruction.Instruction.TheVariants.{Lxch}
use Rattle.cpu.specs.Codes.{basic_rows, code_of, extracode_rows}
use Rattle.names.specs.NamedLines.{place_told}
use Rattle.xref.specs.declared.use_of.Use.TheVariants as use_of
use Rattle.names.specs.Instructions.{use_by}
use Rattle.names.specs.Uses.{mentions_of, place_of}

-- TC 4100 goes on in bank 2, whatever the word's bank is
tc : mentions_of 0o12 0o345 (code_of false 0o4100) ≡ record { bank = 0o12; offset = 0o345; place = linear.Fixed 2 0o100; used = use_of.Jump } ∷ []
unfolding code_of basic_rows place_told
tc = refl

-- TS 100 writes an erasable place
ts : mentions_of 2 1 (code_of false 0o54100) ≡ record { bank = 2; offset = 1; place = linear.Erasable 0o100; used = use_of.Write } ∷ []
unfolding code_of basic_rows place_told
ts = refl

-- CA 2345 reads the word's own bank, and from bank 2 that which FB selects
ca : mentions_of 0o12 1 (code_of false 0o32345) ≡ record { bank = 0o12; offset = 1; place = linear.Fixed 0o12 0o345; used = use_of.Read } ∷ []
unfolding code_of basic_rows place_told
ca = refl

ca_of_fb : mentions_of 2 1 (code_of false 0o32345) ≡ []
unfolding code_of basic_rows place_told
ca_of_fb = refl

-- CA 1400 reads what EB selects
ca_of_eb : mentions_of 0o12 1 (code_of false 0o31400) ≡ []
unfolding code_of basic_rows place_told
ca_of_eb = refl

-- DCA 4100 under EXTEND, whose word holds the address plus one, and WRITE 11, which names no place
dca : mentions_of 2 1 (code_of true 0o34101) ≡ record { bank = 2; offset = 1; place = linear.Fixed 2 0o100; used = use_of.Read } ∷ []
unfolding code_of extracode_rows place_told
dca = refl

write' : mentions_of 2 1 (code_of true 0o1011) ≡ []
unfolding code_of extracode_rows place_told
write' = refl

lxch : use_by Lxch ≡ use_of.Change
lxch = refl

-- a number may be a channel
number' : place_of (value.Num 0o100) ≡ None
number' = refl
