-- Where an address leads is told only where no register but FB decides it, and that selects the word's own bank.
use Rattle.std.proofs.Common.{◌≡◌, ℕ, Bool, true, false, Some, None, refl, arith}
use Rattle.std.specs.Prelude.{nat_lt, if◌then◌else◌}
use Rattle.space.specs.Places.{place, selected_bank}
use Rattle.space.specs.declared.place.Linear.{Linear}
use Rattle.space.specs.declared.place.Linear.TheVariants.{Erasable, Fixed}
use Rattle.names.specs.Laws.{LeadsThere}
use Rattle.names.specs.NamedLines.{needs_no_fb, place_told}

same : (p there : Linear) → Some p ≡ Some there → p ≡ there
same p there told = grind arith

no_place : (p there : Linear) → None ≡ Some there → p ≡ there
no_place p there told = grind arith

-- one of two places, as a test has it
either : (b : Bool) (p q there : Linear) → (if b then Some p else Some q) ≡ Some there → (if b then p else q) ≡ there
either true p q there told = same p there told
either false p q there told = same q there told

not_erasable : (p bank offset : ℕ) (A : Type 0) → Erasable p ≡ Fixed bank offset → A
not_erasable p bank offset A leads = absurd (grind arith)

same_bank : (b o bank offset : ℕ) → Fixed b o ≡ Fixed bank offset → b ≡ bank
same_bank b o bank offset leads = grind arith

in_2 : (o fb : ℕ) (sup : Bool) (bank offset : ℕ) → Fixed 2 o ≡ Fixed bank offset → needs_no_fb bank ≡ false → selected_bank fb sup ≡ bank
in_2 o fb sup bank offset leads needs = let is : 2 ≡ bank = same_bank 2 o bank offset leads in let none : true
    ≡ false = rw (← is) at needs in grind
    arith

in_3 : (o fb : ℕ) (sup : Bool) (bank offset : ℕ) → Fixed 3 o ≡ Fixed bank offset → needs_no_fb bank ≡ false → selected_bank fb sup ≡ bank
in_3 o fb sup bank offset leads needs = let is : 3 ≡ bank = same_bank 3 o bank offset leads in let none : true
    ≡ false = rw (← is) at needs in grind
    arith

-- a word that needs FB is fetched in the bank that FB selects
own_by : (b1 b2 b3 b4 : Bool) (counter eb fb : ℕ) (sup : Bool) (bank offset : ℕ) → nat_lt counter 0o1400 ≡ b1 → nat_lt counter 0o2000 ≡ b2
    → nat_lt counter 0o4000 ≡ b3
    → nat_lt counter 0o6000 ≡ b4 → place counter eb fb sup ≡ Fixed bank offset → needs_no_fb bank ≡ false → selected_bank fb sup ≡ bank
unfolding place
own_by true b2 b3 b4 counter eb fb sup bank offset e1 e2 e3 e4 leads needs = not_erasable _ bank offset _ (rw e1 at leads)
own_by false true b3 b4 counter eb fb sup bank offset e1 e2 e3 e4 leads needs = not_erasable _ bank offset _ (rw (e1, e2) at leads)
own_by false false true b4 counter eb fb sup bank offset e1 e2 e3 e4 leads needs = same_bank _ _ bank offset (rw (e1, e2, e3) at leads)
own_by false false false true counter eb fb sup bank offset e1 e2 e3 e4 leads needs = in_2 _ fb sup bank offset
    (rw (e1, e2, e3, e4) at leads) needs
own_by false false false false counter eb fb sup bank offset e1 e2 e3 e4 leads needs = in_3 _ fb sup bank offset
    (rw (e1, e2, e3, e4) at leads) needs

-- a place that is told is the one to which the address leads
told_by : (b1 b2 b3 n : Bool) (bank address eb fb : ℕ) (sup : Bool) (there : Linear) → nat_lt address 0o1400 ≡ b1
    → nat_lt address 0o2000 ≡ b2 → nat_lt address 0o4000 ≡ b3
    → needs_no_fb bank ≡ n → (needs_no_fb bank ≡ false → selected_bank fb sup ≡ bank) → place_told bank address ≡ Some there
    → place address eb fb sup ≡ there
unfolding place place_told
told_by true b2 b3 n bank address eb fb sup there e1 e2 e3 e own told = rw e1 (same _ there (rw e1 at told))
told_by false true b3 n bank address eb fb sup there e1 e2 e3 e own told = no_place _ there (rw (e1, e2) at told)
told_by false false true true bank address eb fb sup there e1 e2 e3 e own told = no_place _ there (rw (e1, e2, e3, e) at told)
told_by false false true false bank address eb fb sup there e1 e2 e3 e own told = rw (e1, e2, e3, own e)
    (same _ there (rw (e1, e2, e3, e) at told))
told_by false false false n bank address eb fb sup there e1 e2 e3 e own told = rw (e1, e2, e3)
    (either (nat_lt address 0o6000) _ _ there (rw (e1, e2, e3) at told))

pub leads_there : (bank address : ℕ) (there : Linear) → LeadsThere bank address there
leads_there bank address there counter offset eb fb sup leads told =
    told_by (nat_lt address 0o1400) (nat_lt address 0o2000) (nat_lt address 0o4000) (needs_no_fb bank) bank address eb fb sup there refl
    refl refl refl
    (own_by (nat_lt counter 0o1400) (nat_lt counter 0o2000) (nat_lt counter 0o4000) (nat_lt counter 0o6000) counter eb fb sup bank offset
    refl refl refl refl leads) told
