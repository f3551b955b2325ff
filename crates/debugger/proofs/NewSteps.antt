-- New steps, one after another, whatever answers are still to come.
use Rattle.std.proofs.Common.{◌≡◌, ◌≢◌, ℕ, suc, ◌+◌, ◌-◌, ◌==◌, Bool, true, false, List, [], ◌∷◌, ◌++◌, length, drop, Option, Some, None}
use Rattle.std.proofs.Common.{MatchOption, min, ap, refl, sym, ◌∙◌, arith, append_assoc, append-nil, length-append, length-drop}
use Rattle.std.specs.Option.{option_to_list}
use Rattle.std.proofs.Math.Seq.{drop-drop}
use Rattle.std.proofs.lemmas.List.{drop-append-le}
use Rattle.std.proofs.lemmas.Bool.Decides.{nat_tests}
use Rattle.words.specs.Devices.{WritesBeginning}
use Rattle.words.proofs.Texts.{append-then, beginning-after, first_begins, beginning-along}
use Rattle.cpu.specs.declared.output.Output.{Output}
use Rattle.cpu.specs.State.{Scenario}
use Rattle.cpu.specs.Run.{out, outs}
use Rattle.cpu.proofs.RunLaws.{outs-add-one}
use Rattle.replay.specs.Memory.{step_limit}
use Rattle.commands.specs.declared.command.Breakpoint.{Breakpoint}
use Rattle.debugger.specs.History.{History}
use Rattle.debugger.specs.Growth.{Growth, grow, grown, with_line, output_line, unless_hit, hit_at}
use Rattle.debugger.specs.Replies.{last_of, tail_length}
use Rattle.debugger.specs.Tallies.{Tally, most_counted, tally_of, with_output}
use Rattle.debugger.specs.Sessions.{AllGranted}
use Rattle.debugger.specs.Executions.{Grown, GrowthBroken}
use Rattle.debugger.specs.declared.ending.Ending.TheVariants.{Reached, Hit, NoMemory, Limit}

below_limit : (n : ℕ) → n ≢ step_limit → (n == step_limit) ≡ false
below_limit n h = grind (arith, nat_tests)

step : (h : History) (breakpoints : List Breakpoint) (left now : ℕ) (rest : List Bool) → now ≢ step_limit
    → grow h breakpoints (suc left) now (false ∷ rest)
    ≡ with_line (output_line (h.output (now + 1)))
    (unless_hit (hit_at h breakpoints (now + 1)) (now + 1) rest (grow h breakpoints left (now + 1) rest))
unfolding grow
step h breakpoints left now rest below = rw (below_limit now below) refl

refused : (h : History) (breakpoints : List Breakpoint) (left now : ℕ) (rest : List Bool) → now ≢ step_limit
    → grow h breakpoints (suc left) now (true ∷ rest) ≡ grown now rest NoMemory
unfolding grow
refused h breakpoints left now rest below = rw (below_limit now below) refl

limited : (h : History) (breakpoints : List Breakpoint) (left now : ℕ) (rest : List Bool) → now ≡ step_limit
    → grow h breakpoints (suc left) now rest ≡ grown now rest Limit
unfolding grow
limited h breakpoints left now rest there = rw there refl

with_lines : (s t : List ℕ) (g : Growth) → with_line s (with_line t g) ≡ with_line (s ++ t) g
with_lines s t g = ap (λ (x : List ℕ). record g { text = x }) (sym (append_assoc s t g.text))

pub granted-append : (xs ys : List Bool) → AllGranted xs → AllGranted ys → AllGranted (xs ++ ys)
granted-append [] ys h k = k
granted-append (x ∷ xs) ys h k = (h.0, granted-append xs ys h.1 k)

-- steps so far: the answers of their calls, the lines written, and what is left to do
pub record Growing (may_refuse : Bool) (h : History) (breakpoints : List Breakpoint) (more n : ℕ) (old : List ℕ) (left now : ℕ)
    (new : List ℕ) : Type 0 where
  pub answers : List Bool
  pub granted : may_refuse ≡ false → AllGranted answers
  pub text : List ℕ
  pub goes_on : (rest : List Bool) → grow h breakpoints more n (answers ++ rest) ≡ with_line text (grow h breakpoints left now rest)
  pub written : new ≡ old ++ text

module _ {may_refuse : Bool} {h : History} {breakpoints : List Breakpoint} {more n : ℕ} {old : List ℕ} where
  pub growing-none : Growing may_refuse h breakpoints more n old more n old
  growing-none = record { answers = []; granted = λ _. tt; text = []; goes_on = λ rest. refl; written = sym (append-nil old) }

  -- a step was granted
  went : {left now : ℕ} {new : List ℕ} (g : Growing may_refuse h breakpoints more n old (suc left) now new) → now ≢ step_limit
      → (found : Option ℕ) → hit_at h breakpoints (now + 1) ≡ found → (rest : List Bool)
      → grow h breakpoints more n ((g.answers ++ false ∷ []) ++ rest)
      ≡ with_line (g.text ++ output_line (h.output (now + 1)))
      (unless_hit found (now + 1) rest (grow h breakpoints left (now + 1) rest))
  went {left} {now} g below found is rest =
      let line = output_line (h.output (now + 1)) in
      let further = grow h breakpoints left (now + 1) rest in
      ap (grow h breakpoints more n) (append_assoc g.answers (false ∷ []) rest)
      ∙ g.goes_on (false ∷ rest)
      ∙ ap (with_line g.text) (step h breakpoints left now rest below
      ∙ ap (λ (o : Option ℕ). with_line line (unless_hit o (now + 1) rest further)) is)
      ∙ with_lines g.text line (unless_hit found (now + 1) rest further)

  granted-one : {left now : ℕ} {new : List ℕ} (g : Growing may_refuse h breakpoints more n old left now new) → may_refuse ≡ false
      → AllGranted (g.answers ++ false ∷ [])
  granted-one g m = granted-append g.answers (false ∷ []) (g.granted m) (refl, tt)

  -- one step more, and no breakpoint holds
  pub growing-step : {left now : ℕ} {new : List ℕ} (left' now' : ℕ) (new' : List ℕ)
      → Growing may_refuse h breakpoints more n old left now new → left ≡ suc left' → now' ≡ now + 1 → now ≢ step_limit
      → hit_at h breakpoints (now + 1) ≡ None → new' ≡ new ++ output_line (h.output (now + 1))
      → Growing may_refuse h breakpoints more n old left' now' new'
  growing-step {left} {now} {new} left' now' new' g e f below none w =
      let at : Growing may_refuse h breakpoints more n old (suc left') now new = rw e at g in
      rw f (record {
        answers = at.answers ++ false ∷ [];
        granted = granted-one at;
        text = at.text ++ output_line (h.output (now + 1));
        goes_on = went at below None none;
        written = append-then old new new' at.text (output_line (h.output (now + 1))) at.written w;
      })

  -- all steps are made
  pub grown-reached : {left now : ℕ} {new : List ℕ} → Growing may_refuse h breakpoints more n old left now new → left ≡ 0
      → Grown may_refuse false h breakpoints more n Reached now old new
  unfolding grow
  grown-reached {left} {now} {new} g e =
      let at : Growing may_refuse h breakpoints more n old 0 now new = rw e at g in
      record {
        answers = at.answers;
        granted = at.granted;
        text = at.text;
        goes_on = λ rest. at.goes_on rest
            ∙ ap (λ (t : List ℕ). record (grown now rest Reached) { text = t }) (append-nil at.text);
        written = at.written;
      }

  -- the limit is reached
  pub grown-limit : {left now : ℕ} {new : List ℕ} (left' : ℕ) → Growing may_refuse h breakpoints more n old left now new → left ≡ suc left'
      → now ≡ step_limit → Grown may_refuse false h breakpoints more n Limit now old new
  grown-limit {left} {now} {new} left' g e there =
      let at : Growing may_refuse h breakpoints more n old (suc left') now new = rw e at g in
      record {
        answers = at.answers;
        granted = at.granted;
        text = at.text;
        goes_on = λ rest. at.goes_on rest ∙ ap (with_line at.text) (limited h breakpoints left' now rest there)
            ∙ ap (λ (t : List ℕ). record (grown now rest Limit) { text = t }) (append-nil at.text);
        written = at.written;
      }

  -- memory runs out
  pub grown-refused : {left now : ℕ} {new : List ℕ} (left' : ℕ) → Growing may_refuse h breakpoints more n old left now new
      → left ≡ suc left' → now ≢ step_limit → (may_refuse ≡ false → ⊥) → Grown may_refuse false h breakpoints more n NoMemory now old new
  grown-refused {left} {now} {new} left' g e below may =
      let at : Growing may_refuse h breakpoints more n old (suc left') now new = rw e at g in
      record {
        answers = at.answers ++ true ∷ [];
        granted = λ m. absurd (may m);
        text = at.text;
        goes_on = λ rest. ap (grow h breakpoints more n) (append_assoc at.answers (true ∷ []) rest) ∙ at.goes_on (true ∷ rest)
            ∙ ap (with_line at.text) (refused h breakpoints left' now rest below)
            ∙ ap (λ (t : List ℕ). record (grown now rest NoMemory) { text = t }) (append-nil at.text);
        written = at.written;
      }

  -- a breakpoint ends them
  pub grown-hit : {left now : ℕ} {new : List ℕ} (left' now' i : ℕ) (new' : List ℕ)
      → Growing may_refuse h breakpoints more n old left now new → left ≡ suc left' → now' ≡ now + 1 → now ≢ step_limit
      → hit_at h breakpoints (now + 1) ≡ Some i → new' ≡ new ++ output_line (h.output (now + 1))
      → Grown may_refuse false h breakpoints more n (Hit i) now' old new'
  grown-hit {left} {now} {new} left' now' i new' g e f below hit w =
      let at : Growing may_refuse h breakpoints more n old (suc left') now new = rw e at g in
      let line = output_line (h.output (now + 1)) in
      rw f (record {
        answers = at.answers ++ false ∷ [];
        granted = granted-one at;
        text = at.text ++ line;
        goes_on = λ rest. went at below (Some i) hit rest
            ∙ ap (λ (t : List ℕ). record (grown (now + 1) rest (Hit i)) { text = t }) (append-nil (at.text ++ line));
        written = append-then old new new' at.text line at.written w;
      })

  -- a line could not be written whole
  pub growth-broken : {left now : ℕ} {new : List ℕ} (left' : ℕ) (new' : List ℕ) → Growing may_refuse h breakpoints more n old left now new
      → left ≡ suc left' → now ≢ step_limit
      → WritesBeginning new new' (output_line (h.output (now + 1))) → GrowthBroken may_refuse false h breakpoints more n old new'
  growth-broken {left} {now} {new} left' new' g e below w =
      let at : Growing may_refuse h breakpoints more n old (suc left') now new = rw e at g in
      let line = output_line (h.output (now + 1)) in
      let further = unless_hit (hit_at h breakpoints (now + 1)) (now + 1) [] (grow h breakpoints left' (now + 1) []) in
      let whole : (grow h breakpoints more n (at.answers ++ false ∷ [])).text ≡ (at.text ++ line) ++ further.text =
      ap (λ (xs : List Bool). (grow h breakpoints more n xs).text) (sym (append-nil (at.answers ++ false ∷ [])))
      ∙ ap (λ (x : Growth). x.text) (went at below (hit_at h breakpoints (now + 1)) refl []) in
      record {
        answers = at.answers ++ false ∷ [];
        granted = granted-one at;
        part = rw whole (beginning-along old new' (at.text ++ line) ((at.text ++ line) ++ further.text)
            (beginning-after old new new' at.text line at.written w) (first_begins (at.text ++ line) further.text));
      }

-- the last items of a list and one more
pub last_of-more : {X : Type 0} → (k : ℕ) (xs : List X) (x : X) → last_of k (last_of k xs ++ x ∷ []) ≡ last_of k (xs ++ x ∷ [])
last_of-more k xs x =
    let zs = xs ++ x ∷ [] in
    let d = length xs - k in
    let inner : drop d xs ++ x ∷ [] ≡ drop d zs = sym (drop-append-le d xs (x ∷ []) (omega arith)) in
    let lz : length zs ≡ length xs + 1 = length-append xs (x ∷ []) in
    let li : length (drop d xs ++ x ∷ []) ≡ length xs - d + 1 = length-append (drop d xs) (x ∷ [])
    ∙ ap (λ (n : ℕ). n + 1) (length-drop d xs) in
    ap (λ (n : ℕ). drop (n - k) (drop d xs ++ x ∷ [])) li ∙ ap (drop (length xs - d + 1 - k)) inner ∙ drop-drop (length xs - d + 1 - k) d zs
    ∙ ap (λ (n : ℕ). drop n zs) (let e : d + (length xs - d + 1 - k) ≡ length zs - k = omega arith in e)

-- what is kept of some outputs and one more
tally-more : (outputs : List Output) (o : Output) → with_output (tally_of outputs) o ≡ tally_of (outputs ++ o ∷ [])
tally-more outputs o =
    let counts : min (min (length outputs) most_counted + 1) most_counted ≡ min (length (outputs ++ o ∷ [])) most_counted =
    (let more = length-append outputs (o ∷ []) in omega (arith, more)) in
    λ i. record { last = last_of-more tail_length outputs o i; count = counts i }

-- the same after one step more
pub tail-more : (scenario : Scenario) (n : ℕ) (o : Option Output) (old new : Tally) → old ≡ tally_of (outs scenario n)
    → o ≡ out scenario (n + 1)
    → MatchOption o (new ≡ old) (λ x. new ≡ with_output old x) → new ≡ tally_of (outs scenario (n + 1))
tail-more scenario n None old new r e m = m ∙ r
    ∙ ap tally_of (sym (append-nil (outs scenario n)) ∙ ap (λ (o : Option Output). outs scenario n ++ option_to_list o) e
    ∙ sym (outs-add-one scenario n))
tail-more scenario n (Some x) old new r e m =
    m ∙ ap (λ (t : Tally). with_output t x) r ∙ tally-more (outs scenario n) x
    ∙ ap tally_of (ap (λ (o : Option Output). outs scenario n ++ option_to_list o) e ∙ sym (outs-add-one scenario n))
