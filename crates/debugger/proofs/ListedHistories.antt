-- Histories whose first steps are listed.
use Rattle.std.proofs.Common.{◌≡◌, ℕ, zero, suc, ◌==◌, true, false, not, List, [], ◌∷◌, map, Option, Some, None, ap, refl, ◌∙◌}
use Rattle.words.specs.Numbers.{correct}
use Rattle.rope.specs.Places.{Placed}
use Rattle.feed.specs.declared.entry.Entry.{Entry}
use Rattle.feed.specs.declared.input.Input.{Input}
use Rattle.feed.specs.Merged.{due}
use Rattle.space.specs.Cells.{erasable_bank, fixed_bank}
use Rattle.space.specs.declared.place.Linear.{Linear}
use Rattle.cpu.specs.Effects.{place_in, next_address}
use Rattle.cpu.specs.Next.{entry, next}
use Rattle.cpu.specs.Profiles.{account_by}
use Rattle.cpu.specs.State.{State, start}
use Rattle.cpu.specs.declared.output.Output.{Output}
use Rattle.cpu.specs.Run.{run, out, outs}
use Rattle.cpu.proofs.Holding.{word_placed, held, get_held, channel_held, superbank_held, at-holding, get-holding, get_channel-holding}
use Rattle.cpu.proofs.Holding.{superbank-holding}
use Rattle.cpu.proofs.Held.{Held, state, scenario, rope, word_at-rope, place_held, place_in-held, z_held, word_held, instruction_word-held}
use Rattle.cpu.proofs.HeldRuns.{Move, Goes, Agrees, states, told, sent, run-agrees, out-agrees, outs-agree}
use Rattle.commands.specs.declared.subject.Subject.{Subject}
use Rattle.commands.specs.declared.subject.Subject.TheVariants.{Place, Channel}
use Rattle.debugger.specs.History.{Sight, StepSight, History, history, sight, no_step, word_of, differs, place_executed, step_from, step_to}
use Rattle.debugger.specs.declared.manner.Manner.TheVariants as manner

-- what is seen of a state whose cells are listed
abbrev seen : List Placed → Held → Sight
seen ps h =
    record {
      cycles = h.cycles;
      reading = get_held h.cells;
      channel = channel_held h.cells;
      eb = held h.cells erasable_bank;
      fb = held h.cells fixed_bank;
      sup = superbank_held h.cells;
      extra = h.extra;
      inhibit = true;
      inside = false;
      place = place_held h (z_held h);
      instruction = word_held ps h;
    }

place-held : (h : Held) → place_in (state h) (next_address (state h)) ≡ place_held h (z_held h)
place-held h = ap (place_in (state h)) (get-holding h.cells 5) ∙ place_in-held h (z_held h)

sight-held : (ps : List Placed) (h : Held) → sight (rope ps) (state h) ≡ seen ps h
sight-held ps h =
    λ i. record {
      cycles = h.cycles;
      reading = λ p. get-holding h.cells p i;
      channel = λ n. get_channel-holding h.cells n i;
      eb = at-holding h.cells erasable_bank i;
      fb = at-holding h.cells fixed_bank i;
      sup = superbank-holding h.cells i;
      extra = h.extra;
      inhibit = true;
      inside = false;
      place = place-held h i;
      instruction = instruction_word-held ps h i;
    }

-- what is seen of the states of moves
abbrev sights : List Placed → Held → List Move → List Sight
sights ps h moves = seen ps h ∷ map (λ (m : Move). seen ps m.0) moves

agree-sights : (ps : List Placed) (h : Held) (moves : List Move) (f : ℕ → State) → Agrees (states h moves) f
    → Agrees (sights ps h moves) (λ k. sight (rope ps) (f k))
agree-sights ps h [] f a = (ap (sight (rope ps)) a.0 ∙ sight-held ps h, tt)
agree-sights ps h (m ∷ more) f a = (ap (sight (rope ps)) a.0 ∙ sight-held ps h, agree-sights ps m.0 more (λ k. f (suc k)) a.1)

-- a word that is held
abbrev held_word : Held → Subject → ℕ
held_word h (Place p) = correct (get_held h.cells p)
held_word h (Channel c) = correct (channel_held h.cells c)

word-held : (h : Held) (s : Subject) → word_of (state h) s ≡ held_word h s
word-held h (Place p) = ap correct (get-holding h.cells p)
word-held h (Channel c) = ap correct (get_channel-holding h.cells c)

-- what is seen of the step from such a state to another: no word waits there, and no interrupt is entered
abbrev executed_by : Held → Option (Input × Option ℕ) → Option Linear
executed_by h (Some given) = None
executed_by h None = Some (place_held h (z_held h))

abbrev step_seen : List Entry → Held → Held → StepSight
step_seen inputs h to = record {
  executed = executed_by h (due inputs h.taken h.cycles);
  changed = λ s. not
      (held_word h s == held_word to s);
}

executed-held : (h : Held) (given : Option (Input × Option ℕ)) → place_executed (account_by (state h) given None) ≡ executed_by h given
executed-held h (Some given) = refl
executed-held h None = ap (λ (p : Linear). Some p) (place-held h)

differs-held : (h to : Held) (after : State) → after ≡ state to → (s : Subject)
    → differs (state h) after s ≡ not (held_word h s == held_word to s)
differs-held h to after there s = λ i. not (word-held h s i == (ap (λ (m : State). word_of m s) there ∙ word-held to s) i)

step-held : (ps : List Placed) (inputs : List Entry) (h to : Held) → (next (scenario ps inputs) (state h)).0 ≡ state to
    → step_from (scenario ps inputs) (state h) ≡ step_seen inputs h to
unfolding entry
step-held ps inputs h to there =
    λ i. record {
      executed = executed-held h (due inputs h.taken h.cycles) i;
      changed = λ s. differs-held h to (next (scenario ps inputs) (state h)).0 there s i;
    }

-- what is seen of the steps of moves
abbrev steps_seen : List Entry → Held → List Move → List StepSight
steps_seen inputs h [] = []
steps_seen inputs h (m ∷ more) = step_seen inputs h m.0 ∷ steps_seen inputs m.0 more

agree-steps : (ps : List Placed) (inputs : List Entry) (h : Held) (moves : List Move) (f : ℕ → State) → Goes (scenario ps inputs) h moves
    → Agrees (states h moves) f
    → Agrees (steps_seen inputs h moves) (λ k. step_from (scenario ps inputs) (f k))
agree-steps ps inputs h [] f g a = tt
agree-steps ps inputs h (m ∷ more) f g a = (
  ap (step_from (scenario ps inputs)) a.0 ∙ step-held ps inputs h m.0 (ap (λ (r : State × Option Output). r.0) g.0),
  agree-steps ps inputs m.0 more (λ k. f (suc k)) g.1 a.1,
)

-- a function whose first values are listed
abbrev first_or : {X : Type 0} → List X → (ℕ → X) → ℕ → X
first_or [] f k = f k
first_or (x ∷ xs) f zero = x
first_or (x ∷ xs) f (suc k) = first_or xs (λ j. f (suc j)) k

same-first : {X : Type 0} (xs : List X) (f : ℕ → X) → Agrees xs f → (k : ℕ) → f k ≡ first_or xs f k
same-first [] f a k = refl
same-first (x ∷ xs) f a zero = a.0
same-first (x ∷ xs) f a (suc k) = same-first xs (λ j. f (suc j)) a.1 k

-- the history of some words over inputs, of which the first steps are listed
abbrev pub listed : List Placed → List Entry → Held → List Move → History
listed ps inputs h moves =
    record {
      fixed = word_placed ps;
      after = first_or (sights ps h moves) (λ k. sight (rope ps) (run (scenario ps inputs) k));
      step = first_or (no_step ∷ steps_seen inputs h moves) (step_to (scenario ps inputs));
      output = first_or (None ∷ told moves) (out (scenario ps inputs));
      outputs = first_or (sent [] moves) (outs (scenario ps inputs));
      manner = manner.Plain;
    }

pub history-listed : (ps : List Placed) (inputs : List Entry) (h : Held) (moves : List Move) → start ≡ state h
    → Goes (scenario ps inputs) h moves
    → history (scenario ps inputs) ≡ listed ps inputs h moves
unfolding history
history-listed ps inputs h moves e g =
    let a = agree-sights ps h moves (run (scenario ps inputs)) (run-agrees (scenario ps inputs) h moves e g) in
    let d : Agrees (no_step ∷ steps_seen inputs h moves) (step_to (scenario ps inputs))
    = (refl, agree-steps ps inputs h moves (run (scenario ps inputs)) g (run-agrees (scenario ps inputs) h moves e g)) in
    let b = out-agrees (scenario ps inputs) h moves e g in
    let c = outs-agree (scenario ps inputs) h moves e g in
    λ i. record {
      fixed = λ bank offset. word_at-rope ps bank offset i;
      after = λ k. same-first (sights ps h moves) (λ j. sight (rope ps) (run (scenario ps inputs) j)) a k i;
      step = λ k. same-first (no_step ∷ steps_seen inputs h moves) (step_to (scenario ps inputs)) d k i;
      output = λ k. same-first (None ∷ told moves) (out (scenario ps inputs)) b k i;
      outputs = λ k. same-first (sent [] moves) (outs (scenario ps inputs)) c k i;
      manner = manner.Plain;
    }
