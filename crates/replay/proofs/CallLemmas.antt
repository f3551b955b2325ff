-- Calls, one after the other.
use Rattle.std.proofs.Common.{◌≡◌, ℕ, zero, suc, ◌+◌, ◌≤◌, Bool, Option, List, [], ◌∷◌, ◌++◌, map, append-nil, append_assoc, length, refl}
use Rattle.std.proofs.Common.{sym, ◌∙◌, ap, arith}
use Rattle.std.specs.Option.{option_to_list}
use Rattle.cpu.specs.State.{State, Scenario}
use Rattle.cpu.specs.FeedInput.{Input}
use Rattle.cpu.specs.FeedEntry.{Entry}
use Rattle.cpu.specs.Additions.{AreAlikeUpTo}
use Rattle.std.specs.List.{flat_map}
use Rattle.std.proofs.lemmas.Grind.{flat_map-append}
use Rattle.cpu.specs.Run.{run, out, outs}
use Rattle.replay.specs.Watched.{Watched, WatchedSteps, steps_after}
use Rattle.replay.specs.Stops.{is_by_watcher, HasStopped}
use Rattle.replay.proofs.WatchedLemmas.{length_steps_after, watched_steps}
use Rattle.cpu.proofs.RunLaws.{outs-add-one}
use Rattle.cpu.specs.declared.output.Output.{Output}
use Rattle.replay.specs.declared.calls.Call.{Call}
use Rattle.replay.specs.declared.calls.Call.TheVariants.{Forward, Advance, Show, WithPresent, SeekBack, Add}
use Rattle.replay.specs.declared.stop.Stop.{Stop}
use Rattle.replay.specs.View.{SessionView, Stands, HasAdvanced, HasAdded}
use Rattle.replay.specs.Calls.{Answer, Event, Answers, Saw, Leads, TimeTravel, HasGone, HasGoneOn, AddsAll, steps_of, outputs_of, added_by}
use Rattle.replay.specs.Calls.{event_steps, event_outputs, event_inputs}
use Rattle.replay.specs.Calls.Answer.{Went, Advanced, Shown, ShownBeside, Sought, Added, Refused}

-- the same run
alike_same : (scenario other : Scenario) (n : ℕ) → other ≡ scenario → AreAlikeUpTo scenario other n
alike_same scenario other n e t few = rw e (record { state = refl; output = refl; outputs = refl })

alike_then : (a b c : Scenario) (n m : ℕ) → n ≤ m → AreAlikeUpTo a b n → AreAlikeUpTo b c m → AreAlikeUpTo a c n
alike_then a b c n m less p q t few =
    let x = p t few in
    let y = q t (omega arith) in
    record { state = y.state ∙ x.state; output = y.output ∙ x.output; outputs = y.outputs ∙ x.outputs }

AddsAll-append : (is js : List (ℕ × Input)) (old mid new : List Entry) → AddsAll is old mid → AddsAll js mid new
    → AddsAll (is ++ js) old new
AddsAll-append [] js old mid new e h = rw e at h
AddsAll-append (i ∷ is) js old mid new a h = (a.0, a.1, AddsAll-append is js a.0 mid new a.2 h)

-- what a call leaves of the run, with the steps, the outputs and the inputs that it answers
record Keeps (old : SessionView) (steps : ℕ) (outputs : List Output) (added : List (ℕ × Input)) (new : SessionView) : Type 0 where
  rope : new.scenario.rope ≡ old.scenario.rope
  inputs : AddsAll added old.scenario.inputs new.scenario.inputs
  alike : AreAlikeUpTo old.scenario new.scenario old.n
  steps_are : new.n ≡ old.n + steps
  outputs_are : outs new.scenario new.n ≡ outs old.scenario old.n ++ outputs

keeps_run : (old new : SessionView) → new.scenario ≡ old.scenario → new.n ≡ old.n → Keeps old 0 [] [] new
keeps_run old new same n_is = record {
  rope = ap (λ (q : Scenario). q.rope) same;
  inputs = ap (λ (q : Scenario). q.inputs) same;
  alike = alike_same old.scenario new.scenario old.n same;
  steps_are = omega (arith, n_is);
  outputs_are = rw (same, n_is) (sym (append-nil (outs old.scenario old.n)));
}

keeps_same : (old new : SessionView) → new ≡ record old { shown = new.shown; meter = new.meter } → Keeps old 0 [] [] new
keeps_same old new same = keeps_run old new (ap (λ (q : SessionView). q.scenario) same) (ap (λ (q : SessionView). q.n) same)

keeps_refused : (old new : SessionView) → new ≡ old → Keeps old 0 [] [] new
keeps_refused old new same = keeps_run old new (ap (λ (q : SessionView). q.scenario) same) (ap (λ (q : SessionView). q.n) same)

keeps_went : (old : SessionView) (output : Option Output) (new : SessionView) → HasGone old output new
    → Keeps old 1 (option_to_list output) [] new
keeps_went old output new h = record {
  rope = ap (λ (q : Scenario). q.rope) h.scenario;
  inputs = ap (λ (q : Scenario). q.inputs) h.scenario;
  alike = alike_same old.scenario new.scenario old.n h.scenario;
  steps_are = h.step;
  outputs_are = rw (h.scenario, h.output, h.step) (outs-add-one old.scenario old.n);
}

-- what many steps put out
abbrev put_out : List (Option Output × State) → List Output
put_out steps = flat_map (λ s. option_to_list s.0) steps

outs_over : (scenario : Scenario) (low m : ℕ) → outs scenario (low + m) ≡ outs scenario low ++ put_out (steps_after scenario low m)
outs_over scenario low zero =
    let e : low + 0 ≡ low = omega arith in
    rw e (sym (append-nil (outs scenario low)))
outs_over scenario low (suc m) =
    let e : low + suc m ≡ low + m + 1 = omega arith in
    let o = out scenario (low + m + 1) in
    let before = steps_after scenario low m in
    let last : Option Output × State = (o, run scenario (low + m + 1)) in
    let one : put_out (last ∷ []) ≡ option_to_list o = append-nil (option_to_list o) in
    ap (outs scenario) e ∙ outs-add-one scenario (low + m) ∙ ap (λ (xs : List Output). xs ++ option_to_list o) (outs_over scenario low m)
    ∙ append_assoc (outs scenario low) (put_out before) (option_to_list o)
    ∙ ap (λ (xs : List Output). outs scenario low ++ xs)
    (ap (λ (ys : List Output). put_out before ++ ys) (sym one)
    ∙ sym (flat_map-append (λ (s : Option Output × State). option_to_list s.0) before (last ∷ [])))

keeps_gone_on : (m : Bool) (old : SessionView) (k : ℕ) (steps : List (Option Output × State)) (stop : Stop) (new : SessionView)
    → HasGoneOn m old k steps stop new → Keeps old (length steps) (put_out steps) [] new
keeps_gone_on m old k steps stop new h = record {
  rope = ap (λ (q : Scenario). q.rope) h.advanced.scenario;
  inputs = ap (λ (q : Scenario). q.inputs) h.advanced.scenario;
  alike = alike_same old.scenario new.scenario old.n h.advanced.scenario;
  steps_are = h.on;
  outputs_are = ap (λ (q : Scenario). outs q new.n) h.advanced.scenario ∙ ap (outs old.scenario) h.on
      ∙ outs_over old.scenario old.n (length steps)
      ∙ ap (λ (ss : List (Option Output × State)). outs old.scenario old.n ++ put_out ss) (sym h.steps_are);
}

keeps_added : (old : SessionView) (cycle : ℕ) (input : Input) (new : SessionView) → HasAdded old cycle input new
    → Keeps old 0 [] ((cycle, input) ∷ []) new
keeps_added old cycle input new h =
    let n_is = ap (λ (q : SessionView). q.n) h.same in
    record {
      rope = h.rope;
      inputs = (new.scenario.inputs, h.inputs, refl);
      alike = h.alike;
      steps_are = omega (arith, n_is);
      outputs_are = rw n_is ((h.alike old.n (omega arith)).outputs ∙ sym (append-nil (outs old.scenario old.n)));
    }

keeps_answer : (m : Bool) (r : State → Bool → Type 0) (old : SessionView) (call : Call) (answer : Answer) (new : SessionView)
    → Answers m r old call answer new → Keeps old (steps_of answer) (outputs_of answer) (added_by call answer) new
keeps_answer m r old Forward (Went output) new h = keeps_went old output new h
keeps_answer m r old Forward (Advanced steps stop) new h = elim h [ ]
keeps_answer m r old Forward (Shown state) new h = elim h [ ]
keeps_answer m r old Forward (ShownBeside state present scenario) new h = elim h [ ]
keeps_answer m r old Forward (Sought found) new h = elim h [ ]
keeps_answer m r old Forward Added new h = elim h [ ]
keeps_answer m r old Forward (Refused refusal) new h = keeps_refused old new h.1
keeps_answer m r old (Advance k) (Went output) new h = elim h [ ]
keeps_answer m r old (Advance k) (Advanced steps stop) new h = keeps_gone_on m old k steps stop new h
keeps_answer m r old (Advance k) (Shown state) new h = elim h [ ]
keeps_answer m r old (Advance k) (ShownBeside state present scenario) new h = elim h [ ]
keeps_answer m r old (Advance k) (Sought found) new h = elim h [ ]
keeps_answer m r old (Advance k) Added new h = elim h [ ]
keeps_answer m r old (Advance k) (Refused refusal) new h = keeps_refused old new h.1
keeps_answer m r old (Show t) (Went output) new h = elim h [ ]
keeps_answer m r old (Show t) (Advanced steps stop) new h = elim h [ ]
keeps_answer m r old (Show t) (Shown state) new h = keeps_same old new h.2.same
keeps_answer m r old (Show t) (ShownBeside state present scenario) new h = elim h [ ]
keeps_answer m r old (Show t) (Sought found) new h = elim h [ ]
keeps_answer m r old (Show t) Added new h = elim h [ ]
keeps_answer m r old (Show t) (Refused refusal) new h = keeps_refused old new h.1
keeps_answer m r old (WithPresent t) (Went output) new h = elim h [ ]
keeps_answer m r old (WithPresent t) (Advanced steps stop) new h = elim h [ ]
keeps_answer m r old (WithPresent t) (Shown state) new h = elim h [ ]
keeps_answer m r old (WithPresent t) (ShownBeside state present scenario) new h = keeps_same old new h.4.same
keeps_answer m r old (WithPresent t) (Sought found) new h = elim h [ ]
keeps_answer m r old (WithPresent t) Added new h = elim h [ ]
keeps_answer m r old (WithPresent t) (Refused refusal) new h = keeps_refused old new h.1
keeps_answer m r old (SeekBack p) (Went output) new h = elim h [ ]
keeps_answer m r old (SeekBack p) (Advanced steps stop) new h = elim h [ ]
keeps_answer m r old (SeekBack p) (Shown state) new h = elim h [ ]
keeps_answer m r old (SeekBack p) (ShownBeside state present scenario) new h = elim h [ ]
keeps_answer m r old (SeekBack p) (Sought found) new h = keeps_same old new h.1.same
keeps_answer m r old (SeekBack p) Added new h = elim h [ ]
keeps_answer m r old (SeekBack p) (Refused refusal) new h = keeps_refused old new h.1
keeps_answer m r old (Add cycle input) (Went output) new h = elim h [ ]
keeps_answer m r old (Add cycle input) (Advanced steps stop) new h = elim h [ ]
keeps_answer m r old (Add cycle input) (Shown state) new h = elim h [ ]
keeps_answer m r old (Add cycle input) (ShownBeside state present scenario) new h = elim h [ ]
keeps_answer m r old (Add cycle input) (Sought found) new h = elim h [ ]
keeps_answer m r old (Add cycle input) Added new h = keeps_added old cycle input new h.2
keeps_answer m r old (Add cycle input) (Refused refusal) new h = keeps_refused old new h.1

keeps_then : (old mid new : SessionView) (i j : ℕ) (xs ys : List Output) (is js : List (ℕ × Input)) → Keeps old i xs is mid
    → Keeps mid j ys js new → Keeps old (i + j) (xs ++ ys) (is ++ js) new
keeps_then old mid new i j xs ys is js a b = record {
  rope = b.rope ∙ a.rope;
  inputs = AddsAll-append is js old.scenario.inputs mid.scenario.inputs new.scenario.inputs a.inputs b.inputs;
  alike = alike_then old.scenario mid.scenario new.scenario old.n mid.n (omega (arith, a.steps_are)) a.alike b.alike;
  steps_are = omega (arith, a.steps_are, b.steps_are);
  outputs_are = b.outputs_are ∙ ap (λ (zs : List Output). zs ++ ys) a.outputs_are ∙ append_assoc (outs old.scenario old.n) xs ys;
}

keeps_told : (m : Bool) (r : State → Bool → Type 0) (old : SessionView) (es : List Event) (new : SessionView) → Leads m r old es new
    → Keeps old (event_steps es) (event_outputs es) (event_inputs es) new
keeps_told m r old [] new h = keeps_refused old new h
keeps_told m r old (e ∷ es) new h =
    keeps_then old h.0 new (steps_of e.1) (event_steps es) (outputs_of e.1) (event_outputs es) (added_by e.0 e.1) (event_inputs es)
    (keeps_answer m r old e.0 e.1 h.0 h.1) (keeps_told m r h.0 es new h.2)

-- many steps that were watched
pub gone_on : {O : Type 0} (watches : O → Option Output → State → Bool → O → Type 0) (m : Bool) (old : SessionView) (k : ℕ) (stop : Stop)
    (new : SessionView) (before after : O)
    → Watched watches old.scenario old.n new.n (is_by_watcher stop) before after → HasStopped m old.n k new.n stop → HasAdvanced old new
    → (steps : List (Option Output × State)) × WatchedSteps watches before steps (is_by_watcher stop) after
    × HasGoneOn m old k steps stop new
gone_on watches m old k stop new before after (i, reached, watched) stopped advanced =
    let count : length (steps_after old.scenario old.n i) ≡ i = length_steps_after old.scenario old.n i in (
      steps_after old.scenario old.n i,
      watched_steps watches old.scenario old.n i (is_by_watcher stop) before after watched,
      record {
        on = omega (arith, reached, count);
        steps_are = ap (λ (j : ℕ). steps_after old.scenario old.n j) (sym count);
        stopped
            = stopped;
        advanced = advanced;
      },
    )

-- one call more
pub Leads-push : (m : Bool) (r : State → Bool → Type 0) (old : SessionView) (es : List Event) (mid : SessionView) (e : Event)
    (new : SessionView) → Leads m r old es mid → Answers m r mid e.0 e.1 new → Leads m r old (es ++ e ∷ []) new
Leads-push m r old [] mid e new h answers = (new, rw h at answers, refl)
Leads-push m r old (x ∷ xs) mid e new h answers = (h.0, h.1, Leads-push m r h.0 xs mid e new h.2 answers)

pub Saw-push : {O : Type 0} (sees : O → Event → O → Type 0) (old : O) (es : List Event) (mid : O) (e : Event) (new : O)
    → Saw sees old es mid → sees mid e new → Saw sees old (es ++ e ∷ []) new
Saw-push sees old [] mid e new h saw = (new, rw h at saw, refl)
Saw-push sees old (x ∷ xs) mid e new h saw = (h.0, h.1, Saw-push sees h.0 xs mid e new h.2 saw)

-- the theorem, of calls that lead to a session that stands
pub travels : (m : Bool) (r : State → Bool → Type 0) (old : SessionView) (calls : List Call) (es : List Event) (new : SessionView)
    → map (λ e. e.0) es ≡ calls → Leads m r old es new → Stands new → TimeTravel m r old calls es new
travels m r old calls es new told leads stands =
    let kept = keeps_told m r old es new leads in
    record {
      told = told;
      rope = kept.rope;
      inputs = kept.inputs;
      alike = kept.alike;
      steps = kept.steps_are;
      present = stands.present;
      outputs = kept.outputs_are;
      few = stands.few;
      each = leads;
    }
