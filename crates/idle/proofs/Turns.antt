-- A run that is made until the program idles, step by step.
use Rattle.std.proofs.Common.{◌≡◌, ℕ, zero, suc, ◌+◌, ◌-◌, ◌*◌, ◌<◌, ◌≤◌, ◌^◌, Bool, true, false, Option}
use Rattle.std.proofs.Common.{Some, None, length, refl, sym, ap, ◌∙◌}
use Rattle.std.proofs.Common.{arith, add-one, length-append, if◌then◌else◌, inl, inr}
use Rattle.std.proofs.lemmas.Bool.{cases_Bool}
use Rattle.std.specs.Option.{option_or, option_to_list}
use Rattle.std.specs.Prelude.{nat_le, unwrap_or}
use Rattle.cpu.specs.Next.{next}
use Rattle.cpu.specs.Run.{run, out, outs}
use Rattle.cpu.specs.State.{Scenario, State}
use Rattle.cpu.proofs.RunLaws.{out-add-one, outs-zero, outs-add-one}
use Rattle.idle.specs.Idling.{checkpoint, first_idle, idles, is_again, renewed, steps_until_idle}
use Rattle.idle.specs.declared.checkpoint.Checkpoint.{Checkpoint}

-- how many words were put out
pub none_put : (scenario : Scenario) → 0 ≡ length (outs scenario 0)
none_put scenario = sym (ap length (outs-zero scenario))

pub puts_more : (scenario now : Scenario) (n : ℕ) (s : State) (k j : ℕ) → now ≡ scenario → s ≡ run scenario n → k ≡ length (outs scenario n)
    → j ≡ length (option_to_list (next now s).1) → k + j ≡ length (outs scenario (n + 1))
puts_more scenario now n s k j same at before this =
    let put : j ≡ length (option_to_list (out scenario (n + 1))) = rw (out-add-one scenario n) (rw (same, at) at this) in
    let all : length (outs scenario (n + 1)) ≡ length (outs scenario n) + length (option_to_list (out scenario (n + 1))) =
    ap length (outs-add-one scenario n) ∙ length-append (outs scenario n) (option_to_list (out scenario (n + 1))) in
    omega (arith, all, put, before)

-- a checkpoint that is renewed is of this step
few_of : (scenario : Scenario) (step k most : ℕ) (s : State) (c : Checkpoint) → c.step ≤ most → step ≤ most
    → (renewed scenario step s k c).step ≤ most
few_of scenario step k most s c before this =
    elim (cases_Bool (nat_le (2 * c.step) step)) [
      | inl new ↦ rw new this
      | inr old ↦ rw old before
    ]

pub checkpoint_few : (scenario : Scenario) (n : ℕ) → (checkpoint scenario n).step ≤ n
unfolding checkpoint
checkpoint_few scenario zero = omega arith
checkpoint_few scenario (suc n) =
    few_of scenario (suc n) (length (outs scenario (suc n))) (suc n) (run scenario (suc n)) (checkpoint scenario n)
    (omega (arith, checkpoint_few scenario n)) (omega arith)

pub few_step : (scenario : Scenario) (n : ℕ) (c : Checkpoint) → c ≡ checkpoint scenario n → n ≤ 2 ^ 40 → c.step ≤ 2 ^ 62
few_step scenario n c is few = rw is (omega (arith, few, checkpoint_few scenario n))

pub checkpoint_more : (scenario now : Scenario) (n : ℕ) (s : State) (k : ℕ) (c d : Checkpoint) → now ≡ scenario → s ≡ run scenario (n + 1)
    → k ≡ length (outs scenario (n + 1)) → c ≡ checkpoint scenario n → d ≡ renewed now (n + 1) s k c → d ≡ checkpoint scenario (n + 1)
unfolding checkpoint
checkpoint_more scenario now n s k c d same at put kept made =
    let here : d ≡ renewed scenario (n + 1) (run scenario (n + 1)) (length (outs scenario (n + 1))) (checkpoint scenario n) = rw
    (same, at, put, kept) at made in
    rw (add-one n) (rw (add-one n) at here)

-- whether the program idles after a step
pub idles_is : (scenario : Scenario) (n : ℕ) (s : State) (k : ℕ) (c : Checkpoint) (b : Bool) → s ≡ run scenario (n + 1)
    → k ≡ length (outs scenario (n + 1)) → c ≡ checkpoint scenario n → b ≡ is_again c s k → b ≡ idles scenario (n + 1)
idles_is scenario n s k c b at put kept is =
    let here : b ≡ is_again (checkpoint scenario n) (run scenario (n + 1)) (length (outs scenario (n + 1))) = rw (at, put, kept) at is in
    rw (add-one n) (rw (add-one n) at here)

-- the first such step
pub none_first : (scenario : Scenario) → first_idle scenario 0 ≡ None
unfolding first_idle
none_first scenario = refl

pub none_more : (scenario : Scenario) (n : ℕ) → first_idle scenario n ≡ None → idles scenario (n + 1) ≡ false
    → first_idle scenario (n + 1) ≡ None
unfolding first_idle
none_more scenario n none busy =
    let not_here : idles scenario (suc n) ≡ false = rw (add-one n) at busy in
    rw (add-one n) (ap (λ (o : Option ℕ). option_or o (if idles scenario (suc n) then Some (suc n) else None)) none
    ∙ ap (λ b. if b then Some (suc n) else None) not_here)

found_later : (scenario : Scenario) (n k m : ℕ) → m ≡ suc (n + k) → first_idle scenario n ≡ None → idles scenario (suc n) ≡ true
    → first_idle scenario m ≡ Some (suc n)
unfolding first_idle
found_later scenario n zero m e none found =
    let last : m ≡ suc n = omega (arith, e) in
    rw last (ap (λ (o : Option ℕ). option_or o (if idles scenario (suc n) then Some (suc n) else None)) none
    ∙ ap (λ b. if b then Some (suc n) else None) found)
found_later scenario n (suc k) m e none found =
    let last : m ≡ suc (suc (n + k)) = omega (arith, e) in
    rw last (ap (λ (o : Option ℕ). option_or o (if idles scenario (suc (suc (n + k))) then Some (suc (suc (n + k))) else None))
    (found_later scenario n k (suc (n + k)) refl none found))

pub idle_at : (scenario : Scenario) (n most : ℕ) → n < most → first_idle scenario n ≡ None → idles scenario (n + 1) ≡ true
    → n + 1 ≡ steps_until_idle scenario most
idle_at scenario n most within none found =
    let here : idles scenario (suc n) ≡ true = rw (add-one n) at found in
    let is : first_idle scenario most ≡ Some (suc n) = found_later scenario n (most - suc n) most (omega (arith, within)) none here in
    add-one n ∙ sym (ap (λ (o : Option ℕ). unwrap_or o most) is)

pub never_idle : (scenario : Scenario) (n most : ℕ) → n ≡ most → first_idle scenario n ≡ None → most ≡ steps_until_idle scenario most
never_idle scenario n most end none =
    let is : first_idle scenario most ≡ None = rw end at none in
    sym (ap (λ (o : Option ℕ). unwrap_or o most) is)
