-- What an observer has counted that counts outputs.
use Rattle.std.proofs.Common.{◌≡◌, ℕ, zero, suc, ◌+◌, ◌^◌, ◌<◌, ◌≤◌, Option, Some, None, List, [], ◌∷◌, ◌++◌, append-nil, length, map, refl}
use Rattle.std.proofs.Common.{sym, ap, ◌∙◌, arith, length-append, Bool, false, Result, Ok, Err}
use Rattle.std.specs.Prelude.{IsOkAnd}
use Rattle.std.specs.List.{All, flat_map}
use Rattle.std.specs.Option.{option_to_list}
use Rattle.cpu.specs.State.{State, Scenario}
use Rattle.cpu.proofs.RunLaws.{outs-zero}
use Rattle.cpu.specs.Run.{outs, out}
use Rattle.cpu.specs.declared.output.Output.{Output}
use Rattle.replay.specs.declared.calls.Call.{Call}
use Rattle.replay.specs.declared.calls.Call.TheVariants.{Forward, Advance, Show, WithPresent, SeekBack, Add}
use Rattle.replay.specs.Calls.{Answer, Event, Hears, Saw, TimeTravel, outputs_of, event_outputs, added_by, event_inputs}
use Rattle.replay.specs.Calls.Answer.{Went, Advanced, Shown, ShownBeside, Sought, Added, Refused}
use Rattle.replay.specs.Stops.{is_by_watcher}
use Rattle.replay.specs.Watched.{WatchedSteps}
use Rattle.replay.specs.View.{SessionView}
use Rattle.workshop.specs.Inputs.{prepared, scenario_of}
use Rattle.workshop.specs.Debugging.{opened, Travels}
use Rattle.engine_tests.specs.declared.counting.OutputCount.{OutputCount}
use Rattle.engine_tests.specs.Counting.{CountsOn, AddsNothing, outputs_with}

-- a step puts out one word at most
at-most-one : (o : Option Output) → length (option_to_list o) ≤ 1
at-most-one None = omega arith
at-most-one (Some x) = omega arith

-- no more is put out than steps are made
few-outputs : (scenario : Scenario) (n : ℕ) → length (outs scenario n) ≤ n
unfolding outs
few-outputs scenario zero = omega arith
few-outputs scenario (suc n) = simp length-append (omega (arith, few-outputs scenario n, at-most-one (out scenario (suc n))))

-- what it makes of a step that it watches, and of an answer
abbrev CountsStep : OutputCount → Option Output → State → Bool → OutputCount → Type 0
CountsStep old output machine ended new = CountsOn old.count (option_to_list output) new.count

abbrev CountsAnswer : OutputCount → Event → OutputCount → Type 0
CountsAnswer old told new = CountsOn old.count (outputs_with told.1) new.count

-- what is counted from step to step is counted of all
counts-steps : (ss : List (Option Output × State)) (ended : Bool) (old new : OutputCount) → WatchedSteps CountsStep old ss ended new
    → CountsOn old.count (flat_map (λ s. option_to_list s.0) ss) new.count
counts-steps [] ended old new h few = omega (arith, ap (λ o. o.count) h.1)
counts-steps (s ∷ []) ended old new h few =
    let all : length (option_to_list s.0 ++ []) ≡ length (option_to_list s.0) = ap length (append-nil (option_to_list s.0)) in
    omega (arith, all, h (omega (arith, all, few)))
counts-steps (s ∷ t ∷ ss) ended old new h few =
    let rest = flat_map (λ (x : Option Output × State). option_to_list x.0) (t ∷ ss) in
    let all : length (option_to_list s.0 ++ rest) ≡ length (option_to_list s.0) + length rest = simp length-append refl in
    let first = h.1 (omega (arith, all, few)) in
    omega (arith, first, all, counts-steps (t ∷ ss) ended h.0 new h.2 (omega (arith, first, all, few)))

-- what is counted of a call
counts-call : (e : Event) (old new : OutputCount) → Hears CountsStep CountsAnswer old e new → CountsOn old.count (outputs_of e.1) new.count
counts-call (call, Went output) old new h = h
counts-call (call, Advanced steps stop) old new (between, watched, told) = λ few.
    let first = counts-steps steps (is_by_watcher stop) old between watched few in
    omega (arith, first, told (omega (arith, first, few)))
counts-call (call, Shown state) old new h = h
counts-call (call, ShownBeside state present scenario) old new h = h
counts-call (call, Sought found) old new h = h
counts-call (call, Added) old new h = h
counts-call (call, Refused refusal) old new h = h

-- what is counted from call to call is counted of all
counts-all : (es : List Event) (old new : OutputCount) → Saw (Hears CountsStep CountsAnswer) old es new
    → old.count + length (event_outputs es) < 2 ^ 64 → new.count ≡ old.count + length (event_outputs es)
counts-all [] old new same few = omega (arith, ap (λ o. o.count) same)
counts-all (e ∷ es) old new saw few =
    let all : length (outputs_of e.1 ++ event_outputs es) ≡ length (outputs_of e.1) + length (event_outputs es) = simp length-append refl in
    let first = counts-call e old saw.0 saw.1 (omega (arith, all, few)) in
    omega (arith, first, all, counts-all es saw.0 new saw.2 (omega (arith, first, all, few)))

adds-none : (call : Call) (answer : Answer) → AddsNothing call → added_by call answer ≡ []
adds-none (Add cycle input) answer h = absurd h
adds-none Forward answer h = refl
adds-none (Advance k) answer h = refl
adds-none (Show t) answer h = refl
adds-none (WithPresent t) answer h = refl
adds-none (SeekBack p) answer h = refl

-- calls that add no input have added none
none-added : (es : List Event) → All AddsNothing (map (λ e. e.0) es) → event_inputs es ≡ []
none-added [] all = refl
none-added (e ∷ es) all = rw (adds-none e.0 e.1 (all 0 e.0 (omega arith)), none-added es (λ k d l. all (suc k) d (omega arith))) refl

-- what runs is the same
same-scenario : (a b : Scenario) → a.rope ≡ b.rope → a.inputs ≡ b.inputs → a ≡ b
same-scenario a b rope inputs = ap (λ r. record { rope = r; inputs = a.inputs }) rope
    ∙ ap (λ i. record { rope = b.rope; inputs = i }) inputs

-- what follows in what is Ok
ok_and : {T E : Type 0} (r : Result T E) (P Q : T → Type 0) → IsOkAnd r P → ((x : T) → P x → Q x) → IsOkAnd r Q
ok_and (Ok x) P Q p then = then x p
ok_and (Err e) P Q p then = p

-- what the theorem says of an observer that counts outputs
travelled : (old session : SessionView) (returns : State → Bool → Type 0) (calls : List Call) (events : List Event) (new : OutputCount)
    (n : ℕ) → n < 2 ^ 64 → old.n ≡ 0 → All AddsNothing calls
    → Saw (Hears CountsStep CountsAnswer) (record { count = 0 }) events new → TimeTravel false returns old calls events session
    → n ≡ session.n → new.count ≡ length (outs old.scenario n)
travelled old session returns calls events new n small start none saw t at =
    let added : event_inputs events ≡ [] = none-added events (rw t.told none) in
    let inputs : session.scenario.inputs ≡ old.scenario.inputs = rw added at t.inputs in
    let same : session.scenario ≡ old.scenario = same-scenario _ _ t.rope inputs in
    let told : outs old.scenario n ≡ event_outputs events =
    ap (outs old.scenario) at ∙ sym (ap (λ s. outs s session.n) same) ∙ t.outputs
    ∙ ap (λ m. outs old.scenario m ++ event_outputs events) start ∙ ap (λ o. o ++ event_outputs events) (outs-zero old.scenario) in
    let few : length (event_outputs events) ≤ n = rw (sym told) (few-outputs old.scenario n) in
    let counts : new.count ≡ 0 + length (event_outputs events) = counts-all events (record { count = 0 }) new saw
    (omega (arith, few, small)) in
    let whole : length (event_outputs events) ≡ length (outs old.scenario n) = ap length (sym told) in
    omega (arith, counts, whole)

pub counted : (source feed : List ℕ) (returns : State → Bool → Type 0) (calls : List Call) (new : OutputCount) (n : ℕ) → n < 2 ^ 64
    → All AddsNothing calls
    → IsOkAnd (prepared source feed) (λ l. Travels l (Hears CountsStep CountsAnswer) returns calls (record { count = 0 }) new n)
    → IsOkAnd (prepared source feed) (λ l. new.count ≡ length (outs (scenario_of l) n))
counted source feed returns calls new n small none travels =
    ok_and (prepared source feed) _ _ travels (λ l t. travelled (opened l) t.session returns calls t.events new n small refl none t.saw
    t.travel t.steps)
