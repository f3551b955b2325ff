-- The figures of a run, step by step.
use Rattle.std.proofs.Common.{◌≡◌, ℕ, zero, suc, ◌+◌, ◌-◌, ◌<◌, ◌≤◌, ◌^◌, Bool, true, false, List, length, replicate, get_or, set, refl}
use Rattle.std.proofs.Common.{sym, ap, ◌∙◌, inl, inr, arith, add-one, subst, if◌then◌else◌}
use Rattle.std.proofs.lemmas.Bool.{cases_Bool}
use Rattle.std.proofs.lemmas.Bool.Decides.{eqb_tells}
use Rattle.std.proofs.lemmas.List.{get_or-set_same, get_or-set_other, length-replicate, length-set}
use Rattle.words.proofs.Replicated.{get_replicated}
use Rattle.cpu.specs.declared.account.Account.{Account}
use Rattle.cpu.specs.Profiles.{account_of, count_at, cycles_at, same_account, step_cycles}
use Rattle.cpu.specs.Next.{next}
use Rattle.cpu.specs.Run.{run}
use Rattle.space.specs.declared.place.Linear.TheVariants.{Erasable, Fixed}
use Rattle.cpu.specs.declared.account.Account.TheVariants.{Input, Entry, Waiting, Place}
use Rattle.cpu.specs.State.{State, Scenario}
use Rattle.cpu.proofs.Profiling.{profile_adds_up}
use Rattle.cpu.proofs.RunLaws.{cycles-run, rise-next}
use Rattle.cover.specs.declared.tally.Figures.{Figures}
use Rattle.cover.specs.Tallies.{AllAddUp, all_accounts, ShownAddUp, shown_accounts, AreSmall, Counts, IsAccount, is_account, account_count}
use Rattle.cover.specs.Tallies.{account_number, figures_at, no_figures, one_step_more, profile_of, put_down}
use Rattle.cover.proofs.Accounts.{is_one, once, one_is, other_account, same_is_one}
use Rattle.cover.proofs.ShownAccounts.{shown_once}

no_figures_in : (n k : ℕ) → get_or (replicate n no_figures) k no_figures ≡ no_figures
no_figures_in n k = get_replicated no_figures n k

-- before the first step
pub none_counted : (scenario : Scenario) (figures : List Figures) → figures ≡ replicate account_count no_figures → Counts scenario 0 figures
unfolding count_at cycles_at
none_counted scenario figures e = record {
  each = ap length e ∙ length-replicate account_count no_figures;
  profile = λ a known. rw (e, is_one a known) (no_figures_in account_count (account_number a));
  known = λ t lt. absurd (omega (arith, lt));
}

-- no account has more than the run
pub few_counts : (scenario : Scenario) (a : Account) (n : ℕ) → count_at scenario a n ≤ n
unfolding count_at
few_counts scenario a zero = omega arith
few_counts scenario a (suc n) =
    let before = few_counts scenario a n in
    elim (cases_Bool (same_account a (account_of scenario (run scenario n)))) [
      | inl same ↦ rw same (omega (arith, before))
      | inr apart ↦ rw apart (omega (arith, before))
    ]

pub few_cycles_at : (scenario : Scenario) (a : Account) (n : ℕ) → cycles_at scenario a n ≤ (run scenario n).cycles
unfolding cycles_at run
few_cycles_at scenario a zero = omega arith
few_cycles_at scenario a (suc n) =
    let s = run scenario n in
    let before = few_cycles_at scenario a n in
    let rise = rise-next scenario s in
    elim (cases_Bool (same_account a (account_of scenario s))) [
      | inl same ↦ rw same (omega (arith, before, rise))
      | inr apart ↦ rw apart (omega (arith, before, rise))
    ]

and_nothing : (k : ℕ) → k + 0 ≡ k
and_nothing k = omega arith

-- a step more of an account, and of any other
more_at : (scenario : Scenario) (n : ℕ) (a : Account) → same_account a (account_of scenario (run scenario n)) ≡ true
    → profile_of scenario (n + 1) a ≡ one_step_more (profile_of scenario n a) (step_cycles scenario (run scenario n))
unfolding count_at cycles_at
more_at scenario n a same = rw (add-one n, same) refl

as_before_at : (scenario : Scenario) (n : ℕ) (a : Account) → same_account a (account_of scenario (run scenario n)) ≡ false
    → profile_of scenario (n + 1) a ≡ profile_of scenario n a
unfolding count_at cycles_at
as_before_at scenario n a apart = rw (add-one n, apart, and_nothing (count_at scenario a n), and_nothing (cycles_at scenario a n)) refl

pub number_within : (a : Account) → IsAccount a → account_number a < account_count
number_within Input known = omega arith
number_within Entry known = omega arith
number_within Waiting known = omega arith
number_within (Place (Erasable p)) known = omega (arith, known)
number_within (Place (Fixed bank offset)) known = omega (arith, known.0, known.1)

-- a step more is counted at its account, and at no other
held_at : (figures : List Figures) (a : Account) → IsAccount a → figures_at figures a ≡ get_or figures (account_number a) no_figures
held_at figures a known = rw (is_one a known) refl

counted_at : (scenario : Scenario) (n : ℕ) (old : List Figures) (a : Account) → Counts scenario n old → IsAccount a
    → IsAccount (account_of scenario (run scenario n))
    → figures_at (put_down old (account_of scenario (run scenario n)) (step_cycles scenario (run scenario n))) a
    ≡ profile_of scenario (n + 1) a
counted_at scenario n old a before known here =
    let b = account_of scenario (run scenario n) in
    let cycles = step_cycles scenario (run scenario n) in
    let more = one_step_more (figures_at old b) cycles in
    held_at (put_down old b cycles) a known
    ∙ elim (cases_Bool (same_account a b)) [
      | inl same ↦
          let one : a ≡ b = same_is_one a b same in
          ap (λ x. get_or (set old (account_number b) more) (account_number x) no_figures) one
          ∙ get_or-set_same old (account_number b) more no_figures (omega (arith, before.each, number_within b here))
          ∙ ap (λ f. one_step_more f cycles) (before.profile b here)
          ∙ ap (λ x. one_step_more (profile_of scenario n x) cycles) (sym one) ∙ sym (more_at scenario n a same)
      | inr apart ↦
          get_or-set_other old (account_number b) (account_number a) more no_figures (other_account a b known here apart)
          ∙ sym (held_at old a known) ∙ before.profile a known ∙ sym (as_before_at scenario n a apart)
    ]

known_more : (scenario : Scenario) (n : ℕ) → ((t : ℕ) → t < n → IsAccount (account_of scenario (run scenario t)))
    → IsAccount (account_of scenario (run scenario n))
    → (t : ℕ) → t < n + 1 → IsAccount (account_of scenario (run scenario t))
known_more scenario n before here t lt =
    elim (eqb_tells t n) [
      | inl last ↦ rw last.1 here
      | inr apart ↦ before t (omega (arith, lt, apart.1))
    ]

pub counts_more : (scenario now : Scenario) (n : ℕ) (s : State) (old new : List Figures) → now ≡ scenario → s ≡ run scenario n
    → Counts scenario n old
    → IsAccount (account_of now s) → new ≡ put_down old (account_of now s) (step_cycles now s) → Counts scenario (n + 1) new
counts_more scenario now n s old new same at before here e =
    let known : IsAccount (account_of scenario (run scenario n)) = rw (same, at) at here in
    let is : new ≡ put_down old (account_of scenario (run scenario n)) (step_cycles scenario (run scenario n)) = rw (same, at) at e in
    record {
      each = ap length e ∙ length-set old _ _ ∙ before.each;
      profile = λ a there. rw is (counted_at scenario n old a before there known);
      known = known_more scenario n before.known known;
    }

-- all of them
pub adds_up : (scenario : Scenario) (n : ℕ) (figures : List Figures) → Counts scenario n figures → AllAddUp scenario n
adds_up scenario n figures counts = profile_adds_up scenario n all_accounts
    (λ t lt. once (account_of scenario (run scenario t)) (counts.known t lt))

pub shown_add_up : (scenario : Scenario) (n : ℕ) (figures : List Figures) → Counts scenario n figures → ShownAddUp scenario n
shown_add_up scenario n figures counts =
    profile_adds_up scenario n (shown_accounts scenario.rope)
    (λ t lt. shown_once scenario.rope (account_of scenario (run scenario t)) (counts.known t lt))

-- the figures of each account are small
pub small : (scenario : Scenario) (n : ℕ) (figures : List Figures) → n < 2 ^ 40 → Counts scenario n figures → (a : Account) → IsAccount a
    → AreSmall (figures_at figures a)
small scenario n figures few counts a known =
    let count : (figures_at figures a).count ≡ count_at scenario a n = ap (λ f. f.count) (counts.profile a known) in
    let cycles : (figures_at figures a).cycles ≡ cycles_at scenario a n = ap (λ f. f.cycles) (counts.profile a known) in
    (omega (arith, few, count, few_counts scenario a n), omega (arith, few, cycles, few_cycles_at scenario a n, cycles-run scenario n))

-- those at a number are, and a step is counted there
pub small_here : (scenario : Scenario) (n : ℕ) (figures : List Figures) (a : Account) (number : ℕ) → n < 2 ^ 40 → Counts scenario n figures
    → IsAccount a → is_account a ≡ true → number ≡ account_number a → AreSmall (get_or figures number no_figures)
small_here scenario n figures a number few counts known there e =
    rw e (subst (λ (b : Bool). AreSmall (if b then get_or figures (account_number a) no_figures else no_figures)) there
    (small scenario n figures few counts a known))

pub counts_here : (scenario : Scenario) (n : ℕ) (s t : State) (a : Account) (number cycles : ℕ) (old new : List Figures)
    → s ≡ run scenario n → t ≡ (next scenario s).0 → a ≡ account_of scenario s → IsAccount a → is_account a ≡ true
    → number ≡ account_number a → cycles ≡ t.cycles - s.cycles → Counts scenario n old
    → new ≡ set old number (one_step_more (get_or old number no_figures) cycles) → Counts scenario (n + 1) new
counts_here scenario n s t a number cycles old new at made account known there numbered took before e =
    let took = took ∙ ap (λ (u : State). u.cycles - s.cycles) made in
    let held : get_or old number no_figures ≡ figures_at old a =
    ap (λ (k : ℕ). get_or old k no_figures) numbered
    ∙ sym (ap (λ (b : Bool). if b then get_or old (account_number a) no_figures else no_figures) there) in
    counts_more scenario scenario n s old new refl at before (subst IsAccount account known)
    (e ∙ ap (λ (f : Figures). set old number (one_step_more f cycles)) held
    ∙ ap (λ (k : ℕ). set old k (one_step_more (figures_at old a) cycles)) numbered ∙ ap (put_down old a) took
    ∙ ap (λ (b : Account). put_down old b (step_cycles scenario s)) account)

-- what is no account has no figures
no_other : (scenario : Scenario) (n : ℕ) (a : Account) → is_account a ≡ false
    → ((t : ℕ) → t < n → IsAccount (account_of scenario (run scenario t))) → profile_of scenario n a ≡ no_figures
unfolding count_at cycles_at
no_other scenario zero a e known = refl
no_other scenario (suc n) a e known =
    let here = known n (omega arith) in
    elim (cases_Bool (same_account a (account_of scenario (run scenario n)))) [
      | inl same ↦
          let one : a ≡ account_of scenario (run scenario n) = same_is_one a (account_of scenario (run scenario n)) same in
          let is : is_account a ≡ true = ap is_account one ∙ is_one (account_of scenario (run scenario n)) here in
          absurd (let both : true ≡ false = sym is ∙ e in cc)
      | inr apart ↦
          rw (apart, and_nothing (count_at scenario a n), and_nothing (cycles_at scenario a n))
          (no_other scenario n a e (λ t lt. known t (omega (arith, lt))))
    ]

-- the figures are the run's profile
profile_at : (scenario : Scenario) (n : ℕ) (figures : List Figures) → Counts scenario n figures → (a : Account)
    → figures_at figures a ≡ profile_of scenario n a
profile_at scenario n figures counts a =
    elim (cases_Bool (is_account a)) [
      | inl there ↦ counts.profile a (one_is a there)
      | inr none ↦ rw none (sym (no_other scenario n a none counts.known))
    ]

pub profile_is : (scenario : Scenario) (n : ℕ) (figures : List Figures) → Counts scenario n figures
    → figures_at figures ≡ profile_of scenario n
profile_is scenario n figures counts = λ i a. profile_at scenario n figures counts a i
