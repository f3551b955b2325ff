-- Sentences worked out by hand.
use Rattle.std.proofs.Common.{◌≡◌, ℕ, List, [], ◌∷◌, ◌++◌, true, false, Some, None, map, refl}
use Rattle.std.specs.Prelude.{◌-◌, ◌^◌, codes}
use Rattle.std.specs.Fmt.{digits}
use Rattle.words.specs.Numerals.{octal_text}
use Rattle.space.specs.declared.place.Linear.TheVariants.{Erasable, Fixed}
use Rattle.feed.specs.declared.input.Counter.TheVariants.{Time2}
use Rattle.feed.specs.declared.input.Sequence.TheVariants.{Pinc, Dinc, Pcdu}
use Rattle.cpu.specs.declared.next_step.Fetched.{Fetched}
use Rattle.cpu.specs.declared.instruction.Instruction.TheVariants.{Mp, Rand}
use Rattle.say.specs.declared.places.Places.{Places}
use Rattle.say.specs.declared.values.Values.{Values}
use Rattle.say.specs.Told as told
use Rattle.say.specs.Told.{leads}
use Rattle.say.specs.Sentences.{ad, asks, bzf, bzmf, carried, ccs, dv, leaves_out, pulse, relint, tc, ts, write}
use Rattle.say.specs.Said.{filled, piece, shown}

-- ## Numbers

numbers : map shown (5 ∷ 0o177772 ∷ 0 ∷ 0o177777 ∷ []) ≡ codes "00005 (5)" ∷ codes "77772 (-5)" ∷ codes "00000 (0)" ∷ codes "77777 (-0)" ∷ []
unfolding shown octal_text digits
numbers = refl

-- the greatest number, and one more, which overflows; 20000 and -20000
overflows : map shown (0o37777 ∷ 0o40000 ∷ 0o47040 ∷ 0o130737 ∷ [])
    ≡ codes "37777 (16383)" ∷ codes "040000 (16384, overflow)" ∷ codes "047040 (20000, overflow)" ∷ codes "130737 (-20000, overflow)" ∷ []
unfolding shown octal_text digits
overflows = refl

-- ## Sentences

abbrev values : ℕ → ℕ → Values
values a x = record { a = a; l = 0o12; q = 0o4003; first = x; second = 3; channel = 0o17 }

abbrev sum : told.Called
sum = record { operand = codes "SUM"; other = codes "TIME2 PINC"; interrupt = codes "T3RUPT" }

abbrev tells : ℕ → ℕ → ℕ → ℕ → List ℕ → List ℕ
tells a x b y text = filled sum 0o10 (values a x) (values b y) text

abbrev fixed : List ℕ → List ℕ
fixed text = tells 7 8 0o17 8 text

-- 7 and 8, and 7 doubled
added : tells 7 8 0o17 8 (ad (Fixed 2 7)) ∷ tells 7 7 0o16 0o16 (ad (Erasable 0)) ∷ []
    ≡ codes "A, 00007 (7), and SUM, 00010 (8), are added: A is 00017 (15)." ∷ codes "A, 00007 (7), is doubled: it is 00016 (14)." ∷ []
unfolding filled piece shown octal_text digits
added = refl

-- the four ways of CCS: of 2, +0, -2 and -0
counts : tells 0 2 1 2 (ccs 2) ∷ tells 5 0 0 0 (ccs 0) ∷ tells 0 0o177775 1 0o177775 (ccs 0o177775)
    ∷ tells 5 0o177777 0 0o177777 (ccs 0o177777) ∷ []
    ≡ codes "SUM is 00002 (2), above 0: A takes one less, 00001 (1), and the next word follows."
    ∷ codes "SUM is +0: A is 00000 (0), and one word is skipped."
    ∷ codes "SUM is 77775 (-2), below 0: A takes its size less one, 00001 (1), and two words are skipped."
    ∷ codes "SUM is -0: A is 00000 (0), and three words are skipped." ∷ []
unfolding filled piece shown octal_text digits
counts = refl

-- TS of 5, of 20000, which is 16384 and 3616, and to A and Z
kept : tells 5 0 5 5 (ts (Erasable 0o100) 5) ∷ tells 0o47040 0 1 0o7040 (ts (Erasable 0o100) 0o47040)
    ∷ tells 5 5 5 5 (ts (Erasable 0) 5) ∷ tells 0o4100 5 0o4100 0o4100 (ts (Erasable 5) 0o4100) ∷ []
    ≡ codes "SUM takes A: 00005 (5)."
    ∷ codes "SUM takes A, 047040 (20000, overflow), without the overflow: 07040 (3616). A is 00001 (1), and the next word is skipped."
    ∷ codes "A, 00005 (5), does not overflow: the next word follows."
    ∷ codes "It goes to where A leads, 04100 (2112)." ∷ []
unfolding filled piece shown octal_text digits
kept = refl

-- the second of four editing places, and the places beside them
edited : tells 5 0 5 2 (ts (Erasable 0o21) 5) ≡ codes "SUM takes A, 00005 (5), and edits it: 00002 (2)."
unfolding filled piece shown octal_text digits
edited = refl

not_edited : ts (Erasable 0o17) 5 ≡ ts (Erasable 0o24) 5
not_edited = refl

-- branches at 0, -0, -1 and 1
at_zero : tells 0 0 0 0 (bzf 0) ∷ tells 0o177777 0 0o177777 0 (bzf 0o177777) ∷ tells 1 0 1 0 (bzf 1) ∷ []
    ≡ codes "A, 00000 (0), is 0: it goes to SUM." ∷ codes "A, 77777 (-0), is 0: it goes to SUM."
    ∷ codes "A, 00001 (1), is not 0: the next word follows." ∷ []
unfolding filled piece shown octal_text digits
at_zero = refl

not_above : tells 0o177776 0 0o177776 0 (bzmf 0o177776) ∷ tells 1 0 1 0 (bzmf 1) ∷ []
    ≡ codes "A, 77776 (-1), is not above 0: it goes to SUM." ∷ codes "A, 00001 (1), is above 0: the next word follows." ∷ []
unfolding filled piece shown octal_text digits
not_above = refl

-- 10 by 3 is 3, and 1 is left; by 0 it is too much
divided : filled sum 0 (values 0 3) (record (values 3 3) { l = 1 }) (dv (values 0 3))
    ≡ (codes "A and L, 00000 (0) and 00012 (10), together are divided by SUM, 00003 (3): A takes the quotient, 00003 (3), and L what is "
    ++ codes "left over, 00001 (1).")
unfolding filled piece shown octal_text digits
divided = refl

too_much : tells 0 0 0o37777 0 (dv (values 0 0))
    ≡ (codes "A and L, 00000 (0) and 00012 (10), together are too much to be divided by SUM, 00000 (0): A is 37777 (16383), and L is 00012 "
    ++ codes "(10).")
unfolding filled piece shown octal_text digits
too_much = refl

-- TC to a routine, RETURN, the word in Q that this leads to, and a word that waited while Z led to Q
abbrev fetched : ℕ → ℕ → Fetched
fetched p word = record { place = Erasable p; word = word; extra = false; waited = false; added = None }

called : fixed (tc (fetched 0o100 0o4012)) ≡ codes "It goes to SUM; Q keeps the way back, 4003."
unfolding filled piece shown octal_text digits
called = refl

returns : tc (fetched 0o100 2) ≡ codes "It goes to Q: the word there, which leads back, is executed next."
returns = refl

back : fixed (tc (fetched 2 0o4003)) ≡ codes "It goes back to SUM."
unfolding filled piece shown octal_text digits
back = refl

-- channels: 010 goes out, 7 does not
out : fixed (write 0o10) ≡ codes "A goes out on channel 010: 00017 (15)."
unfolding filled piece shown octal_text digits
out = refl

superbank : write 7 ≡ codes "Channel # takes A: !. Nothing goes out."
superbank = refl

-- a product of 20000, as 3616, and bits of Q, of which none is left out
abbrev anywhere : ℕ → Places
anywhere n = record { first = Fixed 2 7; second = Fixed 2 8; channel = n }

left : leaves_out (anywhere 0o10) (values 0o47040 5) Mp ≡ true
left = refl

fits : leaves_out (anywhere 0o10) (values 0o37777 5) Mp ≡ false
fits = refl

all_of_q : leaves_out (anywhere 2) (values 0o47040 5) Rand ≡ false
all_of_q = refl

without : tells 0o47040 5 1 5 (codes "A is <, and ^ without its overflow.")
    ≡ codes "A is 047040 (20000, overflow), and 07040 (3616) without its overflow."
unfolding filled piece shown octal_text digits
without = refl

-- interrupts
allowed : relint false ≡ codes "Interrupts may come from now on."
allowed = refl

-- ## Inputs

-- TIME1's overflow goes to TIME2, and an angle is told by its bits alone
up : tells 0 5 0 6 (pulse Pinc 5) ≡ codes "The pulse SUM counts up by one: 00006 (6)."
unfolding filled piece shown octal_text digits
up = refl

carried_on : fixed (carried (Some Time2) true) ≡ codes " It overflows, and so gives TIME2 PINC: 00003 (3)."
unfolding filled piece shown octal_text digits
carried_on = refl

not_carried : carried (Some Time2) false ≡ []
not_carried = refl

angle : tells 0 0 0 0o177777 (pulse Pcdu 0) ≡ codes "The pulse SUM turns an angle up by one: 77777."
unfolding filled piece shown octal_text digits
angle = refl

at_rest : pulse Dinc 0o177777 ≡ codes "The pulse @ finds 0: ]."
at_rest = refl

asked : fixed (asks (Some 3)) ≡ codes " It asks for T3RUPT."
unfolding filled piece shown octal_text digits
asked = refl

-- ## INDEX

-- 4012 and 2, and 4012 and -2, make 4014 and 4010
further : leads 0o4012 2 0o4014 ≡ true
further = refl

nearer : leads 0o4012 (2 ^ 16 - 1 - 2) 0o4010 ≡ true
nearer = refl

elsewhere : leads 0o4012 2 0o4015 ≡ false
elsewhere = refl
