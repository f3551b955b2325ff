-- What a note says holds of a step, and of each step in which it holds a note says so.
use Rattle.std.proofs.Common.{◌≡◌, ℕ, zero, suc, ◌+◌, ◌<◌, ◌≤◌, ◌==◌, nat_le, true, false, refl, inl, inr, arith}
use Rattle.std.proofs.lemmas.Bool.{cases_Bool, leb-true, le-leb}
use Rattle.std.proofs.lemmas.Bool.Decides.{eqb_tells, nat_tests}
use Rattle.space.specs.declared.place.Linear.TheVariants.{Erasable, Fixed}
use Rattle.cpu.specs.declared.account.Account.{Account}
use Rattle.cpu.specs.declared.account.Account.TheVariants.{Input, Entry, Waiting, Place}
use Rattle.cpu.specs.Profiles.{same_account}
use Rattle.cpu.specs.Run.{run}
use Rattle.cpu.specs.State.{Scenario}
use Rattle.yayul.specs.Named.{Named}
use Rattle.notes.specs.declared.kind.Kind.{Kind}
use Rattle.notes.specs.Notes.{happens}
use Rattle.notes.specs.Past.{seen}
use Rattle.notes.specs.RunNotes.{FirstStep, NotesAreExact, SomeStep, here, happens_at, times, told}

-- none of some steps
none_of_steps : (named : Named) (scenario : Scenario) (kind : Kind) (a : Account) (n : ℕ) → times named scenario kind a n ≡ 0 → (t : ℕ)
    → t < n → happens_at named scenario kind a (seen scenario t) ≡ false
unfolding times
none_of_steps named scenario kind a zero e t lt = absurd (omega (arith, lt))
none_of_steps named scenario kind a (suc n) e t lt =
    elim (cases_Bool (happens_at named scenario kind a (seen scenario n))) [
      | inl hit ↦
          let more : times named scenario kind a n + 1 ≡ 0 = rw hit at e in
          absurd (omega (arith, more))
      | inr miss ↦
          let before : times named scenario kind a n + 0 ≡ 0 = rw miss at e in
          elim (eqb_tells t n) [
            | inl last ↦ rw last.1 miss
            | inr apart ↦ none_of_steps named scenario kind a n (omega (arith, before)) t (omega (arith, lt, apart.1))
          ]
    ]

-- and the other way round
never : (named : Named) (scenario : Scenario) (kind : Kind) (a : Account) (n : ℕ)
    → ((t : ℕ) → t < n → happens_at named scenario kind a (seen scenario t) ≡ false) → times named scenario kind a n ≡ 0
unfolding times
never named scenario kind a zero none = refl
never named scenario kind a (suc n) none =
    let before = never named scenario kind a n (λ t lt. none t (omega (arith, lt))) in
    rw (none n (omega arith), before) refl

-- what happens is counted
some : (named : Named) (scenario : Scenario) (kind : Kind) (a : Account) (n t : ℕ) → t < n
    → happens_at named scenario kind a (seen scenario t) ≡ true → 1 ≤ times named scenario kind a n
unfolding times
some named scenario kind a zero t lt hit = absurd (omega (arith, lt))
some named scenario kind a (suc n) t lt hit =
    elim (eqb_tells t n) [
      | inl last ↦ let here : happens_at named scenario kind a (seen scenario n) ≡ true = rw last.1 at hit in rw here (omega arith)
      | inr apart ↦ let before = some named scenario kind a n t (omega (arith, lt, apart.1)) hit in omega (arith, before)
    ]

-- what is counted happens
found : (named : Named) (scenario : Scenario) (kind : Kind) (a : Account) (n : ℕ) → 1 ≤ times named scenario kind a n
    → SomeStep named scenario kind a n
unfolding times
found named scenario kind a zero h = absurd (omega (arith, h))
found named scenario kind a (suc n) h =
    elim (cases_Bool (happens_at named scenario kind a (seen scenario n))) [
      | inl hit ↦ record { step = n; within = omega arith; happens = hit }
      | inr miss ↦
          let before : 1 ≤ times named scenario kind a n + 0 = rw miss at h in
          let one = found named scenario kind a n (omega (arith, before)) in
          record { step = one.step; within = omega (arith, one.within); happens = one.happens }
    ]

same_number : (n : ℕ) → (n == n) ≡ true
same_number n = grind (arith, nat_tests)

one_account : (a : Account) → same_account a a ≡ true
one_account Input = refl
one_account Entry = refl
one_account Waiting = refl
one_account (Place (Erasable p)) = same_number p
one_account (Place (Fixed bank offset)) = rw (same_number bank, same_number offset) refl

happens_here : (named : Named) (scenario : Scenario) (kind : Kind) (t : ℕ) → happens named scenario kind (seen scenario t) ≡ true
    → happens_at named scenario kind (here scenario (run scenario t)) (seen scenario t) ≡ true
happens_here named scenario kind t hit = rw (hit, one_account (here scenario (run scenario t))) refl

-- what is told happens for the first time
first_told : (named : Named) (scenario : Scenario) (kind : Kind) (n t : ℕ) → t < n → (nat_le 1 (told named scenario n t kind) ≡ true)
    → FirstStep named scenario kind t
unfolding told
first_told named scenario kind n t lt e =
    elim (cases_Bool (happens named scenario kind (seen scenario t))) [
      | inl hit ↦
          elim (eqb_tells (times named scenario kind (here scenario (run scenario t)) t) 0) [
            | inl none ↦ record { happens = hit; first = none_of_steps named scenario kind (here scenario (run scenario t)) t none.1 }
            | inr more ↦
                let test : (times named scenario kind (here scenario (run scenario t)) t == 0) ≡ false = grind (arith, nat_tests, more.1) in
                let wrong : false ≡ true = rw (hit, test) at e in cc
          ]
      | inr miss ↦ let wrong : false ≡ true = rw miss at e in cc
    ]

told_first : (named : Named) (scenario : Scenario) (kind : Kind) (n t : ℕ) → t < n → FirstStep named scenario kind t
    → nat_le 1 (told named scenario n t kind) ≡ true
unfolding told
told_first named scenario kind n t lt first =
    let a = here scenario (run scenario t) in
    let none : times named scenario kind a t ≡ 0 = never named scenario kind a t first.first in
    let one : 1 ≤ times named scenario kind a n = some named scenario kind a n t lt (happens_here named scenario kind t first.happens) in
    rw (first.happens, none) (le-leb 1 (times named scenario kind a n) one)

pub are_exact : NotesAreExact
are_exact = λ named scenario kind n.
    record {
      counted = λ a. (
        λ e. found named scenario kind a n (leb-true 1 (times named scenario kind a n) e),
        λ s. le-leb 1
            (times named scenario kind a n) (some named scenario kind a n s.step s.within s.happens),
      );
      told = λ t lt. (first_told named scenario kind n t lt, told_first named scenario kind n t lt);
    }
