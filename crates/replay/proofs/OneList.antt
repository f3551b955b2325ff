-- The images of a run at a step are one list.
use Rattle.std.proofs.Common.{◌≡◌, ℕ, suc, ◌<◌, ◌↔◌, inl, inr, List, [], ◌∷◌, refl, sym, ◌∙◌, ap, arith}
use Rattle.std.specs.List.{Contains}
use Rattle.std.proofs.lemmas.List.Elements.{All-head, All-tail}
use Rattle.cpu.specs.State.{State, Scenario}
use Rattle.cpu.specs.Run.{run}
use Rattle.replay.specs.Images.{Image, IsRising, steps}
use Rattle.replay.specs.View.{AreOfRun, AreImages}
use Rattle.replay.proofs.StepLemmas.{contains_first, contains_rest, contains_cases, contains_none}
use Rattle.replay.proofs.ImageLemmas.{All-step}

-- a rising list: its first step is below all others, and the rest is rising
rest_above : (x : Image) (xs : List Image) → IsRising (x ∷ xs) → (c : ℕ) → Contains (steps xs) c → x.0 < c
rest_above x xs rising c h = All-step (λ s. x.0 < s) xs (λ k d below. rising 0 (suc k) d (omega arith) (omega arith)) c h

rest_rising : (x : Image) (xs : List Image) → IsRising (x ∷ xs) → IsRising xs
rest_rising x xs rising i j d less below = rising (suc i) (suc j) d (omega arith) (omega arith)

-- two of them with the same steps begin with the same step
one_first : (x y : Image) (xs ys : List Image) → IsRising (x ∷ xs) → IsRising (y ∷ ys)
    → ((c : ℕ) → Contains (steps (x ∷ xs)) c ↔ Contains (steps (y ∷ ys)) c) → x.0 ≡ y.0
one_first x y xs ys rx ry same = elim (contains_cases y.0 (steps ys) x.0 ((same x.0).0 (contains_first x.0 (steps xs)))) [
  | inl is ↦ sym is
  | inr late ↦ elim (contains_cases x.0 (steps xs) y.0 ((same y.0).1 (contains_first y.0 (steps ys)))) [
    | inl is ↦ is
    | inr late_too ↦ absurd (omega (arith, rest_above y ys ry x.0 late, rest_above x xs rx y.0 late_too))
  ]
]

-- and go on with the same steps
one_rest : (x y : Image) (xs ys : List Image) → x.0 ≡ y.0 → IsRising (x ∷ xs)
    → ((c : ℕ) → Contains (steps (x ∷ xs)) c → Contains (steps (y ∷ ys)) c) → (c : ℕ) → Contains (steps xs) c → Contains (steps ys) c
one_rest x y xs ys is rx same c h = elim (contains_cases y.0 (steps ys) c (same c (contains_rest x.0 (steps xs) c h))) [
  | inl now ↦ absurd (omega (arith, rest_above x xs rx c h, is, now))
  | inr late ↦ late
]

one_list : (scenario : Scenario) (xs ys : List Image) → IsRising xs → IsRising ys → AreOfRun scenario xs → AreOfRun scenario ys
    → ((c : ℕ) → Contains (steps xs) c ↔ Contains (steps ys) c) → xs ≡ ys
one_list scenario [] [] rx ry ox oy same = refl
one_list scenario [] (y ∷ ys) rx ry ox oy same = absurd (contains_none y.0 ((same y.0).1 (contains_first y.0 (steps ys))))
one_list scenario (x ∷ xs) [] rx ry ox oy same = absurd (contains_none x.0 ((same x.0).0 (contains_first x.0 (steps xs))))
one_list scenario (x ∷ xs) (y ∷ ys) rx ry ox oy same =
    let step : x.0 ≡ y.0 = one_first x y xs ys rx ry same in
    let of_x : x.1 ≡ run scenario x.0 = All-head (λ (i : Image). i.1 ≡ run scenario i.0) x xs ox in
    let of_y : y.1 ≡ run scenario y.0 = All-head (λ (i : Image). i.1 ≡ run scenario i.0) y ys oy in
    let state : x.1 ≡ y.1 = of_x ∙ ap (run scenario) step ∙ sym of_y in
    let first : x ≡ y = ap (λ (s : ℕ). let i : Image = (s, x.1) in i) step ∙ ap (λ (m : State). let i : Image = (y.0, m) in i) state in
    let rest : xs ≡ ys = one_list scenario xs ys (rest_rising x xs rx) (rest_rising y ys ry)
    (All-tail (λ (i : Image). i.1 ≡ run scenario i.0) x xs ox) (All-tail (λ (i : Image). i.1 ≡ run scenario i.0) y ys oy)
    (λ c. (one_rest x y xs ys step rx (λ d. (same d).0) c, one_rest y x ys xs (sym step) ry (λ d. (same d).1) c)) in
    ap (λ (i : Image). i ∷ xs) first ∙ ap (λ (is : List Image). y ∷ is) rest

pub images_are_one : (scenario : Scenario) (n : ℕ) (xs ys : List Image) → AreImages scenario n xs → AreImages scenario n ys → xs ≡ ys
images_are_one scenario n xs ys ix iy = one_list scenario xs ys ix.rising iy.rising ix.of_run iy.of_run
    (λ c. (λ h. (iy.staying c).1 ((ix.staying c).0 h), λ h. (ix.staying c).1 ((iy.staying c).0 h)))
