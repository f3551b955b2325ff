-- The last outputs with their steps, by the steps that are made once more.
use Rattle.std.proofs.Common.{◌≡◌, ℕ, zero, suc, ◌+◌, ◌-◌, ◌*◌, ◌<◌, ◌≤◌, List, [], ◌∷◌, ◌++◌, length, drop, map, Option, Some, None, refl}
use Rattle.std.proofs.Common.{sym, ap, ◌∙◌, subst, append_assoc, append-nil, length-append, arith}
use Rattle.std.specs.Option.{option_to_list}
use Rattle.std.proofs.lemmas.List.{map-append}
use Rattle.std.specs.Prelude.{codes, decimal}
use Rattle.std.specs.List.{flat_map}
use Rattle.std.proofs.lemmas.List.Concat.{flat_map-append}
use Rattle.cpu.specs.State.{Scenario, State}
use Rattle.cpu.specs.Next.{next}
use Rattle.cpu.specs.Run.{run, out, outs}
use Rattle.cpu.specs.declared.output.Output.{Output}
use Rattle.replay.specs.Found.{found_by, last_found, or_other}
use Rattle.replay.specs.Retraced.{texts_after}
use Rattle.debugger.specs.Replies.{last_of, line}
use Rattle.debugger.specs.SteppedTail.{EachPutsOut, HaveTheirSteps, numbered, outputs_by_step, stepped_line, stepped_text, stepped_tail}
use Rattle.debugger.specs.SteppedTail.{step_text, output_found}

-- what a search finds, and what is written of a step
abbrev pub puts_out : Scenario → State → Option ℕ
puts_out scenario s = output_found (next scenario s).1

abbrev pub step_line : Scenario → ℕ → State → List ℕ
step_line scenario number s = step_text number (next scenario s).1

-- ## The last step that puts out
-- before the step that is found there is one output fewer; where none is found there is none
abbrev pub LeavesOne : Scenario → List (ℕ × Output) → Option (ℕ × ℕ) → Type 0
LeavesOne scenario entries None = length entries ≡ 0
LeavesOne scenario entries (Some found) = length entries ≡ length (outputs_by_step scenario found.0) + 1

leaves_by : (scenario : Scenario) (t : ℕ) (o : Option Output) (other : Option (ℕ × ℕ))
    → LeavesOne scenario (outputs_by_step scenario t) other
    → LeavesOne scenario (outputs_by_step scenario t ++ numbered (suc t) o) (or_other t (output_found o) other)
leaves_by scenario t None other h = subst (λ (xs : List (ℕ × Output)). LeavesOne scenario xs other)
    (sym (append-nil (outputs_by_step scenario t))) h
leaves_by scenario t (Some output) other h = length-append (outputs_by_step scenario t) ((suc t, output) ∷ [])

pub leaves_one : (scenario : Scenario) (p : ℕ) → LeavesOne scenario (outputs_by_step scenario p) (last_found (found_by puts_out scenario) p)
unfolding outputs_by_step out
leaves_one scenario zero = refl
leaves_one scenario (suc t) = leaves_by scenario t (next scenario (run scenario t)).1 (last_found (found_by puts_out scenario) t)
    (leaves_one scenario t)

pub one_before : (scenario : Scenario) (p : ℕ) (found : ℕ × ℕ) → Some found ≡ last_found (found_by puts_out scenario) p
    → length (outputs_by_step scenario p) ≡ length (outputs_by_step scenario found.0) + 1
one_before scenario p found is = subst (λ (r : Option (ℕ × ℕ)). LeavesOne scenario (outputs_by_step scenario p) r) (sym is)
    (leaves_one scenario p)

pub none_before : (scenario : Scenario) (p : ℕ) → None ≡ last_found (found_by puts_out scenario) p → length (outputs_by_step scenario p) ≡ 0
none_before scenario p is = subst (λ (r : Option (ℕ × ℕ)). LeavesOne scenario (outputs_by_step scenario p) r) (sym is)
    (leaves_one scenario p)

-- what one more search costs
pub cost_one : (first at sought n m t count : ℕ) → at ≤ first + 2 * count * n → sought + 2 * t < at + 2 * m → m ≡ n
    → sought ≤ first + 2 * (count + 1) * n
cost_one first at sought n m t count so_far search same = omega (arith, so_far, search, same)

-- ## The outputs of some steps
outputs_after : Scenario → ℕ → ℕ → List (ℕ × Output)
outputs_after scenario low zero = []
outputs_after scenario low (suc m) = outputs_after scenario low m ++ numbered (suc (low + m)) (out scenario (suc (low + m)))

both : (scenario : Scenario) (low m : ℕ) → outputs_by_step scenario (low + m) ≡ outputs_by_step scenario low ++ outputs_after scenario low m
unfolding outputs_by_step outputs_after
both scenario low zero = let here : low + 0 ≡ low = omega arith in rw here (sym (append-nil (outputs_by_step scenario low)))
both scenario low (suc m) =
    let next : low + suc m ≡ suc (low + m) = omega arith in
    rw (next, both scenario low m) (append_assoc (outputs_by_step scenario low) (outputs_after scenario low m)
    (numbered (suc (low + m)) (out scenario (suc (low + m)))))

text_of : (number : ℕ) (o : Option Output) → step_text number o ≡ flat_map stepped_line (numbered number o)
text_of number None = refl
text_of number (Some output) = sym (append-nil (stepped_line (number, output)))

texts : (scenario : Scenario) (low m : ℕ) → texts_after (step_line scenario) scenario low m
    ≡ flat_map stepped_line (outputs_after scenario low m)
unfolding outputs_after out
texts scenario low zero = refl
texts scenario low (suc m) =
    let next : low + m + 1 ≡ suc (low + m) = omega arith in
    rw (next, texts scenario low m, text_of (suc (low + m)) (out scenario (suc (low + m))))
    (sym (flat_map-append stepped_line (outputs_after scenario low m) (numbered (suc (low + m)) (out scenario (suc (low + m))))))

drop_first : {X : Type 0} (xs ys : List X) → drop (length xs) (xs ++ ys) ≡ ys
drop_first [] ys = refl
drop_first (x ∷ xs) ys = drop_first xs ys

-- the last outputs, where so many stand before them
last_are : (scenario : Scenario) (n k low : ℕ) → low ≤ n → length (outputs_by_step scenario low) ≡ length (outputs_by_step scenario n) - k
    → last_of k (outputs_by_step scenario n) ≡ outputs_after scenario low (n - low)
last_are scenario n k low within is =
    let end : n ≡ low + (n - low) = omega (arith, within) in
    ap (λ i. drop i (outputs_by_step scenario n)) (sym is)
    ∙ ap (λ (xs : List (ℕ × Output)). drop (length (outputs_by_step scenario low)) xs)
    (ap (outputs_by_step scenario) end ∙ both scenario low (n - low))
    ∙ drop_first (outputs_by_step scenario low) (outputs_after scenario low (n - low))

count_is : (scenario : Scenario) (n low found : ℕ) → low ≤ n
    → length (outputs_by_step scenario low) + found ≡ length (outputs_by_step scenario n)
    → length (outputs_after scenario low (n - low)) ≡ found
count_is scenario n low found within is =
    let end : n ≡ low + (n - low) = omega (arith, within) in
    let all : length (outputs_by_step scenario n) ≡ length (outputs_by_step scenario low) + length (outputs_after scenario low (n - low)) =
    ap (λ (xs : List (ℕ × Output)). length xs) (ap (outputs_by_step scenario) end ∙ both scenario low (n - low))
    ∙ length-append (outputs_by_step scenario low) (outputs_after scenario low (n - low)) in
    omega (arith, all, is)

pub tail_is : (scenario : Scenario) (n k low found : ℕ) → low ≤ n
    → length (outputs_by_step scenario low) + found ≡ length (outputs_by_step scenario n)
    → length (outputs_by_step scenario low) ≡ length (outputs_by_step scenario n) - k
    → stepped_tail scenario n k ≡ texts_after (step_line scenario) scenario low (n - low) ++ line (codes "TAIL " ++ decimal found)
unfolding stepped_tail
tail_is scenario n k low found within told last =
    ap stepped_text (last_are scenario n k low within last)
    ∙ ap (λ (t : List ℕ). t ++ line (codes "TAIL " ++ decimal (length (outputs_after scenario low (n - low)))))
    (sym (texts scenario low (n - low)))
    ∙ ap (λ i. texts_after (step_line scenario) scenario low (n - low) ++ line (codes "TAIL " ++ decimal i))
    (count_is scenario n low found within told)

-- ## Each output is that of its step
outputs_of : (number : ℕ) (o : Option Output) → map (λ (e : ℕ × Output). e.1) (numbered number o) ≡ option_to_list o
outputs_of number None = refl
outputs_of number (Some output) = refl

outputs_are : (scenario : Scenario) (n : ℕ) → map (λ (e : ℕ × Output). e.1) (outputs_by_step scenario n) ≡ outs scenario n
unfolding outputs_by_step outs
outputs_are scenario zero = refl
outputs_are scenario (suc n) =
    map-append (λ (e : ℕ × Output). e.1) (outputs_by_step scenario n) (numbered (suc n) (out scenario (suc n)))
    ∙ ap (λ (xs : List Output). xs ++ map (λ (e : ℕ × Output). e.1) (numbered (suc n) (out scenario (suc n)))) (outputs_are scenario n)
    ∙ ap (λ (xs : List Output). outs scenario n ++ xs) (outputs_of (suc n) (out scenario (suc n)))

each_of_both : (scenario : Scenario) (xs ys : List (ℕ × Output)) → EachPutsOut scenario xs → EachPutsOut scenario ys
    → EachPutsOut scenario (xs ++ ys)
each_of_both scenario [] ys some more = more
each_of_both scenario (x ∷ xs) ys some more = (some.0, each_of_both scenario xs ys some.1 more)

each_numbered : (scenario : Scenario) (number : ℕ) (o : Option Output) → out scenario number ≡ o → EachPutsOut scenario (numbered number o)
each_numbered scenario number None is = tt
each_numbered scenario number (Some output) is = (is, tt)

each_is : (scenario : Scenario) (n : ℕ) → EachPutsOut scenario (outputs_by_step scenario n)
unfolding outputs_by_step
each_is scenario zero = tt
each_is scenario (suc n) = each_of_both scenario (outputs_by_step scenario n) (numbered (suc n) (out scenario (suc n))) (each_is scenario n)
    (each_numbered scenario (suc n) (out scenario (suc n)) refl)

pub outputs_have_their_steps : (scenario : Scenario) (n : ℕ) → HaveTheirSteps scenario n
outputs_have_their_steps scenario n = record { outputs = outputs_are scenario n; steps = each_is scenario n }
