-- The figures of eight steps of a small program, worked by hand: CA FIVE at 4000, AD FIVE, EXTEND, WRITE 10, TCF 4000, and again CA FIVE,
-- AD FIVE and EXTEND, of 2, 2, 1, 2, 1, 2, 2 and 1 cycles.
use Rattle.std.proofs.Common.{◌≡◌, ℕ, suc, ◌+◌, ◌-◌, Bool, List, [], ◌∷◌, map, refl, ap, ◌∙◌, if◌then◌else◌}
use Rattle.rope.specs.Places.{Placed}
use Rattle.space.specs.Cells.{kept}
use Rattle.space.specs.Places.{place}
use Rattle.space.specs.declared.place.Linear.TheVariants.{Erasable, Fixed}
use Rattle.feed.specs.Merged.{due}
use Rattle.cpu.specs.declared.account.Account.{Account}
use Rattle.cpu.specs.declared.account.Account.TheVariants.{Input, Place}
use Rattle.cpu.specs.Next.{entry}
use Rattle.cpu.specs.Effects.{place_in}
use Rattle.cpu.specs.Profiles.{account_of, count_at, cycles_at, same_account, step_cycles}
use Rattle.cpu.specs.Run.{run}
use Rattle.cpu.specs.State.{State}
use Rattle.cpu.proofs.Holding.{get-holding}
use Rattle.cpu.proofs.Held.{Held, state, scenario, place_held, place_in-held, z_held}
use Rattle.cpu.proofs.HeldRuns.{Agrees, Move, states, run-agrees}
use Rattle.cpu.proofs.FiveRun.{five, five_words, after_0, moves, goes, start-held}

-- the account of a step in a state whose cells are held by lists, where no input is due
abbrev account_held : Held → Account
account_held h = Place (place_held h (z_held h))

account_is : (ps : List Placed) (h : Held) → account_of (scenario ps []) (state h) ≡ account_held h
unfolding due entry
account_is ps h = ap (λ k. Place (place_in (state h) k)) (get-holding h.cells 5) ∙ ap (λ p. Place p) (place_in-held h (z_held h))

-- those of some steps, and their cycles
accounts_are : (h : Held) (more : List Move) (f : ℕ → State) → Agrees (states h more) f
    → Agrees (account_held h ∷ map (λ (m : Move). account_held m.0) more) (λ k. account_of five (f k))
accounts_are h [] f e = (ap (account_of five) e.0 ∙ account_is five_words h, tt)
accounts_are h (m ∷ more) f e = (ap (account_of five) e.0 ∙ account_is five_words h, accounts_are m.0 more (λ k. f (suc k)) e.1)

cycles_are : (h : Held) (more : List Move) (f : ℕ → State) → Agrees (states h more) f
    → Agrees (h.cycles ∷ map (λ (m : Move). m.0.cycles) more) (λ k. (f k).cycles)
cycles_are h [] f e = (ap (λ s. s.cycles) e.0, tt)
cycles_are h (m ∷ more) f e = (ap (λ s. s.cycles) e.0, cycles_are m.0 more (λ k. f (suc k)) e.1)

abbrev word_at : ℕ → Account
word_at offset = Place (Fixed 2 offset)

accounts : Agrees (word_at 0 ∷ word_at 1 ∷ word_at 2 ∷ word_at 3 ∷ word_at 4 ∷ word_at 0 ∷ word_at 1 ∷ word_at 2 ∷ word_at 3 ∷ [])
    (λ k. account_of five (run five k))
unfolding place kept
accounts = accounts_are after_0 moves (run five) (run-agrees five after_0 moves start-held goes)

cycles : Agrees (0 ∷ 2 ∷ 4 ∷ 5 ∷ 7 ∷ 8 ∷ 10 ∷ 12 ∷ 13 ∷ []) (λ k. (run five k).cycles)
cycles = cycles_are after_0 moves (run five) (run-agrees five after_0 moves start-held goes)

-- what a step adds to the figures of an account
abbrev one_if : Bool → ℕ → ℕ
one_if b k = if b then k else 0

count_more : (a x : Account) (n c : ℕ) → account_of five (run five n) ≡ x → count_at five a n ≡ c
    → count_at five a (suc n) ≡ c + one_if (same_account a x) 1
unfolding count_at
count_more a x n c e before = ap (λ k. k + one_if (same_account a (account_of five (run five n))) 1) before
    ∙ ap (λ y. c + one_if (same_account a y) 1) e

step_takes : (n b c : ℕ) → (run five n).cycles ≡ b → (run five (suc n)).cycles ≡ c → step_cycles five (run five n) ≡ c - b
unfolding run
step_takes n b c before after = ap (λ k. k - (run five n).cycles) after ∙ ap (λ k. c - k) before

cycles_more : (a x : Account) (n c k : ℕ) → account_of five (run five n) ≡ x → step_cycles five (run five n) ≡ k → cycles_at five a n ≡ c
    → cycles_at five a (suc n) ≡ c + one_if (same_account a x) k
unfolding cycles_at
cycles_more a x n c k e takes before =
    ap (λ m. m + one_if (same_account a (account_of five (run five n))) (step_cycles five (run five n))) before
    ∙ ap (λ y. c + one_if (same_account a y) (step_cycles five (run five n))) e ∙ ap (λ m. c + one_if (same_account a x) m) takes

none_at_start : (a : Account) → count_at five a 0 ≡ 0
unfolding count_at
none_at_start a = refl

no_cycles_at_start : (a : Account) → cycles_at five a 0 ≡ 0
unfolding cycles_at
no_cycles_at_start a = refl

eight_counts : (a : Account) → count_at five a 8
    ≡ (((((((0 + one_if (same_account a (word_at 0)) 1) + one_if (same_account a (word_at 1)) 1) + one_if (same_account a (word_at 2)) 1)
    + one_if (same_account a (word_at 3)) 1) + one_if (same_account a (word_at 4)) 1) + one_if (same_account a (word_at 0)) 1)
    + one_if (same_account a (word_at 1)) 1) + one_if (same_account a (word_at 2)) 1
eight_counts a =
    let e = accounts in
    count_more a _ 7 _ e.1.1.1.1.1.1.1.0 (count_more a _ 6 _ e.1.1.1.1.1.1.0
    (count_more a _ 5 _ e.1.1.1.1.1.0 (count_more a _ 4 _ e.1.1.1.1.0
    (count_more a _ 3 _ e.1.1.1.0 (count_more a _ 2 _ e.1.1.0 (count_more a _ 1 _ e.1.0 (count_more a _ 0 _ e.0 (none_at_start a))))))))

eight_cycles : (a : Account) → cycles_at five a 8
    ≡ (((((((0 + one_if (same_account a (word_at 0)) 2) + one_if (same_account a (word_at 1)) 2) + one_if (same_account a (word_at 2)) 1)
    + one_if (same_account a (word_at 3)) 2) + one_if (same_account a (word_at 4)) 1) + one_if (same_account a (word_at 0)) 2)
    + one_if (same_account a (word_at 1)) 2) + one_if (same_account a (word_at 2)) 1
eight_cycles a =
    let e = accounts in
    let c = cycles in
    cycles_more a _ 7 _ _ e.1.1.1.1.1.1.1.0 (step_takes 7 _ _ c.1.1.1.1.1.1.1.0 c.1.1.1.1.1.1.1.1.0)
    (cycles_more a _ 6 _ _ e.1.1.1.1.1.1.0 (step_takes 6 _ _ c.1.1.1.1.1.1.0 c.1.1.1.1.1.1.1.0)
    (cycles_more a _ 5 _ _ e.1.1.1.1.1.0 (step_takes 5 _ _ c.1.1.1.1.1.0 c.1.1.1.1.1.1.0)
    (cycles_more a _ 4 _ _ e.1.1.1.1.0 (step_takes 4 _ _ c.1.1.1.1.0 c.1.1.1.1.1.0)
    (cycles_more a _ 3 _ _ e.1.1.1.0 (step_takes 3 _ _ c.1.1.1.0 c.1.1.1.1.0)
    (cycles_more a _ 2 _ _ e.1.1.0 (step_takes 2 _ _ c.1.1.0 c.1.1.1.0)
    (cycles_more a _ 1 _ _ e.1.0 (step_takes 1 _ _ c.1.0 c.1.1.0)
    (cycles_more a _ 0 _ _ e.0 (step_takes 0 _ _ c.0 c.1.0) (no_cycles_at_start a))))))))

-- CA FIVE, EXTEND, WRITE 10 and TCF 4000; no input, and no word in erasable memory
figures_of_ca : (count_at five (word_at 0) 8 ≡ 2) × (cycles_at five (word_at 0) 8 ≡ 4)
figures_of_ca = (eight_counts (word_at 0), eight_cycles (word_at 0))

figures_of_extend : (count_at five (word_at 2) 8 ≡ 2) × (cycles_at five (word_at 2) 8 ≡ 2)
figures_of_extend = (eight_counts (word_at 2), eight_cycles (word_at 2))

figures_of_write : (count_at five (word_at 3) 8 ≡ 1) × (cycles_at five (word_at 3) 8 ≡ 2)
figures_of_write = (eight_counts (word_at 3), eight_cycles (word_at 3))

figures_of_tcf : (count_at five (word_at 4) 8 ≡ 1) × (cycles_at five (word_at 4) 8 ≡ 1)
figures_of_tcf = (eight_counts (word_at 4), eight_cycles (word_at 4))

figures_of_inputs : (count_at five Input 8 ≡ 0) × (cycles_at five Input 8 ≡ 0)
figures_of_inputs = (eight_counts Input, eight_cycles Input)

figures_of_erasable : (count_at five (Place (Erasable 0)) 8 ≡ 0) × (cycles_at five (Place (Erasable 0)) 8 ≡ 0)
figures_of_erasable = (eight_counts (Place (Erasable 0)), eight_cycles (Place (Erasable 0)))
