-- Claims that are watched, step by step.
use Rattle.std.proofs.Common.{◌≡◌, ℕ, zero, suc, ◌+◌, ◌<◌, ◌≤◌, ◌^◌, ◌-◌, List, [], ◌∷◌, ◌++◌, map, take, drop, length, None}
use Rattle.std.proofs.Common.{refl, ap, ◌∙◌, inl, inr, arith, add-one, append-nil, take_all}
use Rattle.std.proofs.lemmas.List.{drop_all, length-map}
use Rattle.std.proofs.lemmas.Bool.{cases_Bool}
use Rattle.cpu.specs.Next.{next}
use Rattle.cpu.specs.Run.{run, out}
use Rattle.cpu.specs.State.{Scenario, State}
use Rattle.cpu.proofs.RunLaws.{out-add-one, run-add-one}
use Rattle.expect.specs.Claims.{broken, call_at, counts, seen}
use Rattle.expect.specs.Watches.{AreFew, ended, judged, noted, started, unseen, watched}
use Rattle.expect.specs.declared.claim.Claim.{Claim}
use Rattle.expect.specs.declared.claim.Stated.{Stated}
use Rattle.expect.specs.declared.watch.Watch.{Watch}

-- the start
one_started : (scenario : Scenario) (stated : Stated) → started scenario (run scenario 0) (unseen stated) ≡ watched scenario 0 stated
unfolding seen broken call_at
one_started scenario stated = refl

at_run : (scenario : Scenario) (claims : List Stated)
    → map (started scenario (run scenario 0)) (map unseen claims) ≡ map (watched scenario 0) claims
at_run scenario [] = refl
at_run scenario (c ∷ cs) =
    ap (λ w. w ∷ map (started scenario (run scenario 0)) (map unseen cs)) (one_started scenario c)
    ∙ ap (λ ws. watched scenario 0 c ∷ ws) (at_run scenario cs)

pub all_started : (scenario : Scenario) (s : State) (old new : List Watch) (claims : List Stated) → s ≡ run scenario 0
    → old ≡ map unseen claims
    → new ≡ map (started scenario s) old → new ≡ map (watched scenario 0) claims
all_started scenario s old new claims at before made =
    let at_start : new ≡ map (started scenario (run scenario 0)) (map unseen claims) = rw (before, at) at made in
    at_start ∙ at_run scenario claims

-- a step more
more : (scenario : Scenario) (n : ℕ) (stated : Stated) →
    noted scenario (run scenario (suc n)) (out scenario (suc n)) (suc n) (watched scenario n stated) ≡ watched scenario (suc n) stated
unfolding seen broken call_at
more scenario n stated = refl

all_more : (scenario : Scenario) (n : ℕ) (claims : List Stated) →
    map (noted scenario (run scenario (suc n)) (out scenario (suc n)) (suc n)) (map (watched scenario n) claims)
    ≡ map (watched scenario (suc n)) claims
all_more scenario n [] = refl
all_more scenario n (c ∷ cs) =
    ap (λ w. w ∷ map (noted scenario (run scenario (suc n)) (out scenario (suc n)) (suc n)) (map (watched scenario n) cs))
    (more scenario n c)
    ∙ ap (λ ws. watched scenario (suc n) c ∷ ws) (all_more scenario n cs)

pub watches_more : (scenario now : Scenario) (n : ℕ) (s : State) (old new : List Watch) (claims : List Stated) → now ≡ scenario
    → s ≡ run scenario n
    → old ≡ map (watched scenario n) claims → new ≡ map (noted now (next now s).0 (next now s).1 (n + 1)) old
    → new ≡ map (watched scenario (n + 1)) claims
watches_more scenario now n s old new claims same at before made =
    let at_n : new ≡ map (noted scenario (next scenario (run scenario n)).0 (next scenario (run scenario n)).1 (n + 1))
    (map (watched scenario n) claims) = rw (same, at, before) at made in
    let by_run : new ≡ map (noted scenario (run scenario (n + 1)) (out scenario (n + 1)) (n + 1)) (map (watched scenario n) claims) = rw
    (run-add-one scenario n, out-add-one scenario n) at_n in
    let steps : map (noted scenario (run scenario (n + 1)) (out scenario (n + 1)) (n + 1)) (map (watched scenario n) claims)
    ≡ map (watched scenario (n + 1)) claims =
    rw (add-one n) (all_more scenario n claims) in
    by_run ∙ steps

-- a list that is put back in the place of another of its length
pub put_back : (f : Watch → Watch) (items given new : List Watch) (len : ℕ) → given ≡ items → length given ≡ len → new ≡ map f given
    → take len (new ++ drop (length new) items) ≡ new
put_back f items given new len same long made =
    let as_long : length new ≡ length items = ap length made ∙ length-map given f ∙ ap length same in
    let is_len : length new ≡ len = ap length made ∙ length-map given f ∙ long in
    let none : drop (length new) items ≡ [] = drop_all (length new) items (omega (arith, as_long)) in
    let whole : new ++ drop (length new) items ≡ new = ap (λ (t : List Watch). new ++ t) none ∙ append-nil new in
    ap (take len) whole ∙ take_all len new (omega (arith, is_len))

-- the end
all_ended : (scenario : Scenario) (n : ℕ) (claims : List Stated)
    → map (ended (run scenario n) n) (map (watched scenario n) claims) ≡ map (judged scenario n) claims
all_ended scenario n [] = refl
all_ended scenario n (c ∷ cs) = ap (λ ws. judged scenario n c ∷ ws) (all_ended scenario n cs)

pub watches_end : (scenario : Scenario) (n k : ℕ) (s : State) (old new : List Watch) (claims : List Stated) → k ≡ n → s ≡ run scenario k
    → old ≡ map (watched scenario k) claims → new ≡ map (ended s n) old → new ≡ map (judged scenario n) claims
watches_end scenario n k s old new claims same at before made =
    let at_n : new ≡ map (ended (run scenario n) n) (map (watched scenario n) claims) = rw (before, at, same) at made in
    at_n ∙ all_ended scenario n claims

-- what is counted of n steps is no more than n
few_seen : (scenario : Scenario) (claim : Claim) (n : ℕ) → seen scenario claim n ≤ n + 1
unfolding seen
few_seen scenario claim zero =
    elim (cases_Bool (counts scenario claim (run scenario 0) None)) [
      | inl counted ↦ rw counted (omega arith)
      | inr passed ↦ rw passed (omega arith)
    ]
few_seen scenario claim (suc n) =
    let before = few_seen scenario claim n in
    elim (cases_Bool (counts scenario claim (run scenario (suc n)) (out scenario (suc n)))) [
      | inl counted ↦ rw counted (omega (arith, before))
      | inr passed ↦ rw passed (omega (arith, before))
    ]

all_few : (scenario : Scenario) (n : ℕ) (claims : List Stated) → n < 2 ^ 62 → AreFew (map (watched scenario n) claims)
all_few scenario n [] few k d lt = absurd (omega (arith, lt))
all_few scenario n (c ∷ cs) few zero d lt = omega (arith, few, few_seen scenario c.claim n)
all_few scenario n (c ∷ cs) few (suc k) d lt = all_few scenario n cs few k d (omega (arith, lt))

pub few_watches : (scenario : Scenario) (n : ℕ) (watches : List Watch) (claims : List Stated) → n < 2 ^ 62
    → watches ≡ map (watched scenario n) claims → AreFew watches
few_watches scenario n watches claims few is = rw is (all_few scenario n claims few)
