-- Profiles add up.
use Rattle.std.proofs.Common.{◌≡◌, ◌≤◌, ◌<◌, ℕ, zero, suc, ◌+◌, ◌*◌, Bool, true, false, cond, List, [], ◌∷◌, refl, ap, arith}
use Rattle.cpu.specs.State.{Scenario, start}
use Rattle.cpu.specs.Next.{next}
use Rattle.cpu.specs.Run.{run}
use Rattle.cpu.specs.declared.account.Account.{Account}
use Rattle.cpu.specs.Profiles.{account_of, same_account, step_cycles, cycles_at, count_at, sum_over, times_in, ProfileAddsUp}
use Rattle.cpu.proofs.RunLaws.{rise-next}

-- a sum of sums
sum_of : (f g : Account → ℕ) (list : List Account) → sum_over (λ a. f a + g a) list ≡ sum_over f list + sum_over g list
sum_of f g [] = refl
sum_of f g (a ∷ list) = let rest = sum_of f g list in omega (arith, rest)

one_more : (b : Bool) (x t m : ℕ) → m ≡ t * x → cond b x 0 + m ≡ (cond b 1 0 + t) * x
one_more true x t m e = grind (arith)
one_more false x t m e = grind (arith)

-- what is put down to one account adds up to as many times as it stands
put_down : (b : Account) (x : ℕ) (list : List Account) → sum_over (λ a. cond (same_account a b) x 0) list ≡ times_in b list * x
put_down b x [] = omega arith
put_down b x (a ∷ list) = one_more (same_account a b) x (times_in b list) (sum_over (λ a. cond (same_account a b) x 0) list)
    (put_down b x list)

zeros : (list : List Account) → sum_over (λ a. 0) list ≡ 0
zeros [] = refl
zeros (a ∷ list) = let rest = zeros list in omega (arith, rest)

cycles_add_up : (scenario : Scenario) (accounts : List Account) (n : ℕ)
    → ((t : ℕ) → t < n → times_in (account_of scenario (run scenario t)) accounts ≡ 1)
    → sum_over (λ a. cycles_at scenario a n) accounts ≡ (run scenario n).cycles
unfolding cycles_at run start
cycles_add_up scenario accounts zero once = zeros accounts
cycles_add_up scenario accounts (suc n) once =
    let s = run scenario n in
    let x = step_cycles scenario s in
    let before = cycles_add_up scenario accounts n (λ t lt. once t (omega arith)) in
    let parts = sum_of (λ a. cycles_at scenario a n) (λ a. cond (same_account a (account_of scenario s)) x 0) accounts in
    let down = put_down (account_of scenario s) x accounts in
    let single = ap (λ k. k * x) (once n (omega arith)) in
    let rise : s.cycles ≤ (next scenario s).0.cycles = rise-next scenario s in
    omega (arith, before, parts, down, single, rise)

counts_add_up : (scenario : Scenario) (accounts : List Account) (n : ℕ)
    → ((t : ℕ) → t < n → times_in (account_of scenario (run scenario t)) accounts ≡ 1)
    → sum_over (λ a. count_at scenario a n) accounts ≡ n
unfolding count_at
counts_add_up scenario accounts zero once = zeros accounts
counts_add_up scenario accounts (suc n) once =
    let s = run scenario n in
    let before = counts_add_up scenario accounts n (λ t lt. once t (omega arith)) in
    let parts = sum_of (λ a. count_at scenario a n) (λ a. cond (same_account a (account_of scenario s)) 1 0) accounts in
    let down = put_down (account_of scenario s) 1 accounts in
    let single = ap (λ k. k * 1) (once n (omega arith)) in
    omega (arith, before, parts, down, single)

pub profile_adds_up : (scenario : Scenario) (n : ℕ) (accounts : List Account) → ProfileAddsUp scenario n accounts
profile_adds_up scenario n accounts = λ once. record {
  cycles = cycles_add_up scenario accounts n once;
  steps = counts_add_up scenario accounts n once;
}
