-- Where words lead, worked by hand from the instructions' own rules.
use Rattle.std.proofs.Common.{◌≡◌, ℕ, List, [], ◌∷◌, false, true, refl}
use Rattle.space.specs.declared.place.Linear.{Linear}
use Rattle.space.specs.Places.{place}
use Rattle.cpu.specs.declared.instruction.Instruction.TheVariants.{Ca, Dxch, Resume, Tc, Xch}
use Rattle.cpu.specs.Codes.{basic_rows, code_of, extracode_rows}
use Rattle.reach.specs.declared.spot.How.TheVariants.{Executes, Reads}
use Rattle.reach.specs.declared.spot.Spot.{Spot}
use Rattle.reach.specs.Ways.{leads_of, plain, spot}
use Rattle.reach.specs.Runs.{opens}

-- at 4001, which is bank 2
abbrev here : Spot
here = spot 2 0o4001 plain

-- at 2345 in bank 12
abbrev banked : Spot
banked = spot 0o12 0o2345 plain

-- a word of bank 2, 12 or 3 that is executed
abbrev to : ℕ → ℕ → Spot
to bank address = spot bank address plain

abbrev reads : ℕ → ℕ → Spot
reads bank address = spot bank address Reads

leads_basic : Spot → ℕ → List Spot
leads_basic p word = leads_of p false false (code_of false word)

leads_extra : Spot → ℕ → List Spot
leads_extra p word = leads_of p true false (code_of true word)

leads_indexed : Spot → ℕ → List Spot
leads_indexed p word = leads_of p false true (code_of false word)

-- TC 4100: its target, and the next word, where a routine returns
tc : leads_basic here 0o4100 ≡ to 2 0o4100 ∷ to 2 0o4002 ∷ []
unfolding leads_basic code_of basic_rows
tc = refl

-- RETURN, which is TC Q
return' : leads_basic here 0o2 ≡ []
unfolding leads_basic code_of basic_rows
return' = refl

-- TC 2100 from bank 12 goes to that bank, and from bank 2 where FB says
tc_in_bank : leads_basic banked 0o2100 ≡ to 0o12 0o2100 ∷ to 0o12 0o2346 ∷ []
unfolding leads_basic code_of basic_rows
tc_in_bank = refl

tc_to_bank : leads_basic here 0o2100 ≡ to 2 0o4002 ∷ []
unfolding leads_basic code_of basic_rows
tc_to_bank = refl

-- TCF 6100: its target alone, in bank 3
tcf : leads_basic banked 0o16100 ≡ to 3 0o6100 ∷ []
unfolding leads_basic code_of basic_rows
tcf = refl

-- CCS 0061: the next four words
ccs : leads_basic here 0o10061 ≡ to 2 0o4002 ∷ to 2 0o4003 ∷ to 2 0o4004 ∷ to 2 0o4005 ∷ []
unfolding leads_basic code_of basic_rows
ccs = refl

-- TS 0061: the next two; TS Z, which is TCAA: none
ts : leads_basic here 0o54061 ≡ to 2 0o4002 ∷ to 2 0o4003 ∷ []
unfolding leads_basic code_of basic_rows
ts = refl

ts_z : leads_basic here 0o54005 ≡ []
unfolding leads_basic code_of basic_rows
ts_z = refl

-- RESUME
resume : leads_basic here 0o50017 ≡ []
unfolding leads_basic code_of basic_rows
resume = refl

-- EXTEND, and INDEX 0061: the next word, as an extracode, and with a sum
extend : leads_basic here 0o6 ≡ spot 2 0o4002 (Executes true false) ∷ []
unfolding leads_basic code_of basic_rows
extend = refl

index : leads_basic here 0o50061 ≡ spot 2 0o4002 (Executes false true) ∷ []
unfolding leads_basic code_of basic_rows
index = refl

-- under EXTEND INDEX 4010 stays an extracode, and reads its operand
index_extra : leads_extra here 0o54010 ≡ spot 2 0o4002 (Executes true true) ∷ reads 2 0o4010 ∷ []
unfolding leads_extra code_of extracode_rows
index_extra = refl

-- BZF 4100 and BZMF 2100
bzf : leads_extra here 0o14100 ≡ to 2 0o4100 ∷ to 2 0o4002 ∷ []
unfolding leads_extra code_of extracode_rows
bzf = refl

bzmf : leads_extra banked 0o62100 ≡ to 0o12 0o2100 ∷ to 0o12 0o2346 ∷ []
unfolding leads_extra code_of extracode_rows
bzmf = refl

-- CA 4010 reads one word, and DCA 4010, whose operand is 4011, two
ca : leads_basic here 0o34010 ≡ to 2 0o4002 ∷ reads 2 0o4010 ∷ []
unfolding leads_basic code_of basic_rows
ca = refl

dca : leads_extra here 0o34011 ≡ to 2 0o4002 ∷ reads 2 0o4010 ∷ reads 2 0o4011 ∷ []
unfolding leads_extra code_of extracode_rows
dca = refl

-- after INDEX TC 4100 may lead anywhere, and comes back; TCF 4100 may lead anywhere; CA 4010 goes on, and reads at least that word
tc_indexed : leads_indexed here 0o4100 ≡ to 2 0o4002 ∷ []
unfolding leads_indexed code_of basic_rows
tc_indexed = refl

tcf_indexed : leads_indexed here 0o14100 ≡ []
unfolding leads_indexed code_of basic_rows
tcf_indexed = refl

-- the last word of bank 12, of bank 2 and of bank 3: Z goes on at 4000, at 6000 and at 0, which is erasable
bank_end : leads_basic (spot 0o12 0o3777 plain) 0o3 ≡ to 2 0o4000 ∷ []
unfolding leads_basic code_of basic_rows
bank_end = refl

two_end : leads_basic (spot 2 0o5777 plain) 0o3 ≡ to 3 0o6000 ∷ []
unfolding leads_basic code_of basic_rows
two_end = refl

three_end : leads_basic (spot 3 0o7777 plain) 0o3 ≡ []
unfolding leads_basic code_of basic_rows
three_end = refl

-- where EB is 3 and FB 12
lead : ℕ → Linear
lead k = place k 3 0o12 false

-- XCH FB leads elsewhere in a bank that it selects, and not in bank 2; DXCH Z, whose operand is 6, leads elsewhere from anywhere; so do
-- RESUME and RETURN
xch_fb : opens lead banked false Xch 4 ≡ true
unfolding lead place
xch_fb = refl

xch_fb_here : opens lead here false Xch 4 ≡ false
unfolding lead place
xch_fb_here = refl

dxch_z : opens lead here false Dxch 6 ≡ true
unfolding lead place
dxch_z = refl

opens_resume : opens lead here false Resume 0 ≡ true
opens_resume = refl

opens_return : opens lead here false Tc 2 ≡ true
opens_return = refl

-- TC 4100 leads where its word tells, but not after INDEX; CA does
opens_tc : opens lead here false Tc 0o4100 ≡ false
opens_tc = refl

opens_tc_indexed : opens lead here true Tc 0o4100 ≡ true
opens_tc_indexed = refl

opens_ca : opens lead here true Ca 0o4010 ≡ false
unfolding lead place
opens_ca = refl
