-- Steps that were tested, and the steps of a history at which breakpoints hold.
use Rattle.std.proofs.Common.{◌≡◌, ℕ, map, get_or, zero, suc, ◌+◌, ◌<◌, ◌≤◌, ◌||◌, Bool, true, false, cond, not, List, [], ◌∷◌, length}
use Rattle.std.proofs.Common.{Option, Some, None, IfSome, is_some, refl, sym, ap, ◌∙◌, arith, add-one}
use Rattle.std.specs.Prelude.{nat_lt}
use Rattle.std.specs.Option.{option_map}
use Rattle.std.specs.List.{list_any, position, position_or_len}
use Rattle.std.proofs.lemmas.List.{get_or-map}
use Rattle.space.specs.declared.place.Linear.{Linear}
use Rattle.cpu.specs.State.{State, Scenario, start}
use Rattle.cpu.specs.Next.{next}
use Rattle.cpu.specs.Run.{run}
use Rattle.cpu.proofs.RunLaws.{run-zero, run-add-one}
use Rattle.commands.specs.declared.command.Breakpoint.{Breakpoint}
use Rattle.commands.specs.declared.command.Breakpoint.TheVariants.{Place, Word, Channel, Bits, Cycles, Returned, Outside, Executed, Changed}
use Rattle.replay.specs.LastHit.{last_hit, first_hit}
use Rattle.replay.specs.Found.{or_other, last_found, first_found, found_by}
use Rattle.debugger.specs.History.{Sight, StepSight, history, sight, no_step, step_from, step_to}
use Rattle.debugger.specs.declared.noted.Noted.{Noted}
use Rattle.debugger.specs.Growth.{is_executed, holds, lowest_hit, hit_at}
use Rattle.debugger.specs.Stopping.{asks, looked, hit_by, watched_word, is_other, HoldsAlike}

-- a breakpoint that does not ask what the step did holds whatever it did
pub unasked : (b : Breakpoint) → asks b ≡ false → (one other : StepSight) (seen : Sight) → holds one seen b ≡ holds other seen b
unasked (Place place) n one other seen = refl
unasked (Word p w) n one other seen = refl
unasked (Channel c w) n one other seen = refl
unasked (Bits c w mask) n one other seen = refl
unasked (Cycles cycles) n one other seen = refl
unasked (Returned place inside) n one other seen = refl
unasked Outside n one other seen = refl
unasked (Executed place) n one other seen = absurd (let bad : true ≡ false = n in cc)
unasked (Changed subject) n one other seen = absurd (let bad : true ≡ false = n in cc)

either_parts : (b c : Bool) → (b || c) ≡ false → (b ≡ false) × (c ≡ false)
either_parts false c e = (refl, e)
either_parts true c e = absurd (cc)

-- the first that passes one test is the first that passes another, where they answer alike
same_first : {X : Type 0} (apart p q : X → Bool) (xs : List X) → ((x : X) → apart x ≡ false → p x ≡ q x) → list_any apart xs ≡ false
    → position_or_len p xs ≡ position_or_len q xs
same_first apart p q [] alike none = refl
same_first apart p q (x ∷ xs) alike none =
    let both = either_parts (apart x) (list_any apart xs) none in
    let here = alike x both.0 in
    let later = same_first apart p q xs alike both.1 in
    λ i. cond (not (here i)) (1 + later i) 0

same_position : {X : Type 0} (apart p q : X → Bool) (xs : List X) → ((x : X) → apart x ≡ false → p x ≡ q x) → list_any apart xs ≡ false
    → position p xs ≡ position q xs
same_position apart p q xs alike none =
    let same = same_first apart p q xs alike none in
    λ i. cond (nat_lt (same i) (length xs)) (Some (same i)) None

-- where none asks what a step did, the same hold
unlooked : (breakpoints : List Breakpoint) → list_any asks breakpoints ≡ false → (one other : StepSight) (seen : Sight)
    → lowest_hit breakpoints one seen ≡ lowest_hit breakpoints other seen
unfolding lowest_hit
unlooked breakpoints none one other seen =
    ap (option_map (λ (k : ℕ). k + 1)) (same_position asks (holds one seen) (holds other seen) breakpoints
    (λ b n. unasked b n one other seen) none)

by_looking : (looks : Bool) (breakpoints : List Breakpoint) (scenario : Scenario) (s : State) (seen : Sight)
    → looks ≡ list_any asks breakpoints → lowest_hit breakpoints (looked looks scenario s) seen
    ≡ lowest_hit breakpoints (step_from scenario s) seen
by_looking false breakpoints scenario s seen is = unlooked breakpoints (sym is) (looked false scenario s) (step_from scenario s) seen
by_looking true breakpoints scenario s seen is = refl

step_to_more : (scenario : Scenario) (t : ℕ) → step_to scenario (t + 1) ≡ step_from scenario (run scenario t)
step_to_more scenario t = rw add-one refl

-- what is found of the step after t steps is what holds at the next
pub found_at : (scenario : Scenario) (breakpoints : List Breakpoint) (looks : Bool) (t : ℕ) → looks ≡ list_any asks breakpoints
    → hit_by breakpoints looks scenario (run scenario t) ≡ hit_at (history scenario) breakpoints (t + 1)
unfolding history
found_at scenario breakpoints looks t is =
    by_looking looks breakpoints scenario (run scenario t) (sight scenario.rope (next scenario (run scenario t)).0) is
    ∙ rw (step_to_more scenario t, run-add-one scenario t) refl

-- where each step is looked at, what holds after it is found
pub looked_at : (scenario : Scenario) (breakpoints : List Breakpoint) (t : ℕ)
    → hit_by breakpoints true scenario (run scenario t) ≡ hit_at (history scenario) breakpoints (t + 1)
unfolding history
looked_at scenario breakpoints t = rw (step_to_more scenario t, run-add-one scenario t) refl

-- a search among steps is one among those that they lead to
other_is : (b : Option ℕ) (t : ℕ) (last : Option (ℕ × ℕ)) (earlier : Option ℕ) → option_map (λ (r : ℕ × ℕ). r.0 + 1) last ≡ earlier
    → option_map (λ (r : ℕ × ℕ). r.0 + 1) (or_other t b last) ≡ cond (is_some b) (Some (t + 1)) earlier
other_is (Some x) t last earlier is = refl
other_is None t last earlier is = is

pub first_led : (find hit : ℕ → Option ℕ) → ((t : ℕ) → find t ≡ hit (t + 1)) → (from count : ℕ)
    → option_map (λ (r : ℕ × ℕ). r.0 + 1) (first_found find from count) ≡ first_hit (λ t. is_some (hit t)) (from + 1) count
first_led find hit same from zero = refl
first_led find hit same from (suc count) = rw (← same from)
    (other_is (find from) from (first_found find (from + 1) count) (first_hit (λ t. is_some (hit t)) (from + 1 + 1) count)
    (first_led find hit same (from + 1) count))

-- of the steps before the one after p, with the start
with_start : Option ℕ → Option ℕ → Option ℕ
with_start None start = start
with_start (Some t) start = Some t

start_hit : Bool → Option ℕ
start_hit holds = cond holds (Some 0) None

led_by : (b : Option ℕ) (t : ℕ) (last : Option (ℕ × ℕ)) (start earlier : Option ℕ)
    → earlier ≡ with_start (option_map (λ (r : ℕ × ℕ). r.0 + 1) last) start
    → cond (is_some b) (Some (t + 1)) earlier ≡ with_start (option_map (λ (r : ℕ × ℕ). r.0 + 1) (or_other t b last)) start
unfolding with_start
led_by (Some x) t last start earlier is = refl
led_by None t last start earlier is = is

last_led : (find hit : ℕ → Option ℕ) → ((t : ℕ) → find t ≡ hit (t + 1)) → (p : ℕ)
    → last_hit (λ t. is_some (hit t)) (p + 1) ≡ with_start (option_map (λ (r : ℕ × ℕ). r.0 + 1) (last_found find p))
    (start_hit (is_some (hit 0)))
unfolding with_start start_hit
last_led find hit same zero = refl
last_led find hit same (suc p) =
    let e : suc p + 1 ≡ suc (p + 1) = omega arith in
    rw e (rw (← same p) (led_by (find p) p (last_found find p) (start_hit (is_some (hit 0))) (last_hit (λ t. is_some (hit t)) (p + 1))
    (last_led find hit same p)))

pub last_led_by : (find hit : ℕ → Option ℕ) → ((t : ℕ) → find t ≡ hit (t + 1)) → (p : ℕ) (r : ℕ × ℕ) → Some r ≡ last_found find p
    → Some (r.0 + 1) ≡ last_hit (λ t. is_some (hit t)) (p + 1)
unfolding with_start
last_led_by find hit same p r is =
    let all : last_hit (λ t. is_some (hit t)) (p + 1) ≡ Some (r.0 + 1) = last_led find hit same p ∙ rw (← is) refl in
    sym all

start_is : (b : Option ℕ) → option_map (λ (r : ℕ × ℕ). r.0) (option_map (λ i. (0, i)) b) ≡ start_hit (is_some b)
unfolding start_hit
start_is None = refl
start_is (Some i) = refl

pub last_led_none : (find hit : ℕ → Option ℕ) → ((t : ℕ) → find t ≡ hit (t + 1)) → (p : ℕ) (start : Option (ℕ × ℕ))
    → None ≡ last_found find p → start ≡ option_map (λ i. (0, i)) (hit 0)
    → option_map (λ (r : ℕ × ℕ). r.0) start ≡ last_hit (λ t. is_some (hit t)) (p + 1)
unfolding with_start start_hit
last_led_none find hit same p start is there =
    let first : option_map (λ (r : ℕ × ℕ). r.0) start
    ≡ start_hit (is_some (hit 0)) = ap (option_map (λ (r : ℕ × ℕ). r.0)) there ∙ start_is (hit 0) in
    let all : last_hit (λ t. is_some (hit t)) (p + 1) ≡ start_hit (is_some (hit 0)) = last_led find hit same p ∙ rw (← is) refl in
    first ∙ sym all

-- what is found stands
other_found : (find : ℕ → Option ℕ) (t : ℕ) (b : Option ℕ) (last : Option (ℕ × ℕ)) → b ≡ find t → IfSome last (λ r. Some r.1 ≡ find r.0)
    → IfSome (or_other t b last) (λ r. Some r.1 ≡ find r.0)
other_found find t (Some x) last is h = is
other_found find t None last is h = h

pub last_is_found : (find : ℕ → Option ℕ) (p : ℕ) → IfSome (last_found find p) (λ r. Some r.1 ≡ find r.0)
last_is_found find zero = tt
last_is_found find (suc p) = other_found find p (find p) (last_found find p) refl (last_is_found find p)

pub first_is_found : (find : ℕ → Option ℕ) (from count : ℕ) → IfSome (first_found find from count) (λ r. Some r.1 ≡ find r.0)
first_is_found find from zero = tt
first_is_found find from (suc count) = other_found find from (find from) (first_found find (from + 1) count) refl
    (first_is_found find (from + 1) count)

-- the steps that they lead to
abbrev pub led : Option (ℕ × ℕ) → Option (ℕ × ℕ)
led r = option_map (λ (t : ℕ × ℕ). (t.0 + 1, t.1)) r

pub within_more : (r : Option (ℕ × ℕ)) (p q : ℕ) → p ≤ q → IfSome r (λ t. t.0 < p) → IfSome r (λ t. t.0 < q)
within_more None p q order h = tt
within_more (Some t) p q order h = omega (arith, order, h)

pub within_by : (r : Option (ℕ × ℕ)) (low p q : ℕ) → p ≤ q → IfSome r (λ t. (low ≤ t.0) × (t.0 < p)) → IfSome r (λ t. t.0 < q)
within_by None low p q order h = tt
within_by (Some t) low p q order h = omega (arith, order, h.1)

pub led_by_within : (r : Option (ℕ × ℕ)) (low p q : ℕ) → p ≤ q → IfSome r (λ t. (low ≤ t.0) × (t.0 < p)) → IfSome (led r) (λ t. t.0 ≤ q)
led_by_within None low p q order h = tt
led_by_within (Some t) low p q order h = omega (arith, order, h.1)

pub step_within : (r : Option (ℕ × ℕ)) (low p q : ℕ) → p ≤ q → IfSome r (λ t. (low ≤ t.0) × (t.0 < p))
    → IfSome (option_map (λ (t : ℕ × ℕ). t.0) (led r)) (λ t. t ≤ q)
step_within None low p q order h = tt
step_within (Some t) low p q order h = omega (arith, order, h.1)

pub led_within : (r : Option (ℕ × ℕ)) (p q : ℕ) → p ≤ q → IfSome r (λ t. t.0 < p) → IfSome (led r) (λ t. t.0 ≤ q)
led_within None p q order h = tt
led_within (Some t) p q order h = omega (arith, order, h)

pub step_led : (r : Option (ℕ × ℕ)) → option_map (λ (t : ℕ × ℕ). t.0) (led r) ≡ option_map (λ (t : ℕ × ℕ). t.0 + 1) r
step_led None = refl
step_led (Some t) = refl

pub led_found : (find hit : ℕ → Option ℕ) → ((t : ℕ) → find t ≡ hit (t + 1)) → (r : Option (ℕ × ℕ)) → IfSome r (λ t. Some t.1 ≡ find t.0)
    → IfSome (led r) (λ t. Some t.1 ≡ hit t.0)
led_found find hit same None h = tt
led_found find hit same (Some t) h = h ∙ same t.0

is_none : (r : Option (ℕ × ℕ)) → is_some r ≡ false → r ≡ None
is_none None e = refl
is_none (Some t) e = absurd (let bad : true ≡ false = e in cc)

some_led : (find hit : ℕ → Option ℕ) → ((t : ℕ) → find t ≡ hit (t + 1)) → (p : ℕ) (r : Option (ℕ × ℕ)) → r ≡ last_found find p
    → is_some r ≡ true → option_map (λ (t : ℕ × ℕ). t.0) (led r) ≡ last_hit (λ t. is_some (hit t)) (p + 1)
some_led find hit same p None is some = absurd (let bad : false ≡ true = some in cc)
some_led find hit same p (Some t) is some = last_led_by find hit same p t is

-- what the searches of a session come to, over what runs
pub next_led : (scenario : Scenario) (breakpoints : List Breakpoint) (looks : Bool) (from count : ℕ) (r : Option (ℕ × ℕ))
    → looks ≡ list_any asks breakpoints → r ≡ first_found (found_by (hit_by breakpoints looks) scenario) from count
    → (option_map (λ (t : ℕ × ℕ). t.0) (led r) ≡ first_hit (λ t. is_some (hit_at (history scenario) breakpoints t)) (from + 1) count)
    × IfSome (led r) (λ t. Some t.1 ≡ hit_at (history scenario) breakpoints t.0)
next_led scenario breakpoints looks from count r right is =
    let find = found_by (hit_by breakpoints looks) scenario in
    let hit = hit_at (history scenario) breakpoints in
    let same : (t : ℕ) → find t ≡ hit (t + 1) = λ t. found_at scenario breakpoints looks t right in
    rw is (
      step_led (first_found find from count)
          ∙ first_led find hit same from count,
      led_found find hit same (first_found find from count) (first_is_found find from count),
    )

pub last_led_to : (scenario : Scenario) (breakpoints : List Breakpoint) (looks : Bool) (p : ℕ) (r : Option (ℕ × ℕ))
    → looks ≡ list_any asks breakpoints → r ≡ last_found (found_by (hit_by breakpoints looks) scenario) p
    → (is_some r ≡ true → option_map (λ (t : ℕ × ℕ). t.0) (led r)
    ≡ last_hit (λ t. is_some (hit_at (history scenario) breakpoints t)) (p + 1))
    × IfSome (led r) (λ t. Some t.1 ≡ hit_at (history scenario) breakpoints t.0)
    × (is_some r ≡ false → (start : Option (ℕ × ℕ)) → start ≡ option_map (λ i. (0, i)) (hit_at (history scenario) breakpoints 0)
    → option_map (λ (t : ℕ × ℕ). t.0) start ≡ last_hit (λ t. is_some (hit_at (history scenario) breakpoints t)) (p + 1))
last_led_to scenario breakpoints looks p r right is =
    let find = found_by (hit_by breakpoints looks) scenario in
    let hit = hit_at (history scenario) breakpoints in
    let same : (t : ℕ) → find t ≡ hit (t + 1) = λ t. found_at scenario breakpoints looks t right in (
      λ some. some_led find hit same p r is some,
      rw is (led_found find hit same (last_found find p) (last_is_found find p)),
      λ none start there. last_led_none find hit same p start (sym (is_none r none) ∙ is) there,
    )

-- the same, of breakpoints that are some others, and of as many steps as are wanted
pub next_led_on : (scenario : Scenario) (bs own : List Breakpoint) (looks : Bool) (from count wanted : ℕ) (r : Option (ℕ × ℕ)) → bs ≡ own
    → looks ≡ list_any asks bs → count ≡ wanted → r ≡ first_found (found_by (hit_by bs looks) scenario) from count
    → (option_map (λ (t : ℕ × ℕ). t.0) (led r) ≡ first_hit (λ t. is_some (hit_at (history scenario) own t)) (from + 1) wanted)
    × IfSome (led r) (λ t. Some t.1 ≡ hit_at (history scenario) own t.0)
next_led_on scenario bs own looks from count wanted r same right enough is = rw (same, enough) at
    (next_led scenario bs looks from count r right is)

pub last_led_on : (scenario : Scenario) (bs own : List Breakpoint) (looks : Bool) (p q : ℕ) (r : Option (ℕ × ℕ)) → bs ≡ own
    → looks ≡ list_any asks bs → p + 1 ≡ q → r ≡ last_found (found_by (hit_by bs looks) scenario) p
    → (is_some r ≡ true → option_map (λ (t : ℕ × ℕ). t.0) (led r) ≡ last_hit (λ t. is_some (hit_at (history scenario) own t)) q)
    × IfSome (led r) (λ t. Some t.1 ≡ hit_at (history scenario) own t.0)
    × (is_some r ≡ false → (start : Option (ℕ × ℕ)) → start ≡ option_map (λ i. (0, i)) (hit_at (history scenario) own 0)
    → option_map (λ (t : ℕ × ℕ). t.0) start ≡ last_hit (λ t. is_some (hit_at (history scenario) own t)) q)
last_led_on scenario bs own looks p q r same right next is = rw (same, next) at (last_led_to scenario bs looks p r right is)

pub some_still : (r : Option (ℕ × ℕ)) (b : Bool) → is_some (led r) ≡ b → is_some r ≡ b
some_still None b e = e
some_still (Some t) b e = e

start_by : (h : ℕ → Option ℕ) (b : Option ℕ) → b ≡ h 0 → IfSome (option_map (λ (i : ℕ). (0, i)) b) (λ (t : ℕ × ℕ). Some t.1 ≡ h t.0)
start_by h None is = tt
start_by h (Some i) is = is

pub start_found : (h : ℕ → Option ℕ) (first : Option (ℕ × ℕ)) → first ≡ option_map (λ i. (0, i)) (h 0)
    → IfSome first (λ t. Some t.1 ≡ h t.0)
start_found h first is = rw is (start_by h (h 0) refl)

pub start_within : (start : Option (ℕ × ℕ)) (b : Option ℕ) (q : ℕ) → start ≡ option_map (λ i. (0, i)) b → IfSome start (λ t. t.0 ≤ q)
start_within start None q is = rw is tt
start_within start (Some i) q is = rw is (omega arith)

-- what holds at the start
pub at_the_start : (scenario : Scenario) (bs own : List Breakpoint) (m : State) (r : Option ℕ) → bs ≡ own → m ≡ start
    → r ≡ lowest_hit bs no_step (sight scenario.rope m) → r ≡ hit_at (history scenario) own 0
unfolding history
at_the_start scenario bs own m r same is found = found ∙ rw (same, is, run-zero scenario) refl

-- one breakpoint alone
alone_by : (b : Bool) → is_some (option_map (λ (k : ℕ). k + 1)
    (cond (nat_lt (cond (not b) (1 + 0) 0) 1) (Some (cond (not b) (1 + 0) 0)) None)) ≡ b
alone_by true = refl
alone_by false = refl

alone : (end : Breakpoint) (step : StepSight) (seen : Sight) → is_some (lowest_hit (end ∷ []) step seen) ≡ holds step seen end
unfolding lowest_hit
alone end step seen = alone_by (holds step seen end)

same_first_hit : (f g : ℕ → Bool) → ((t : ℕ) → f t ≡ g t) → (from count : ℕ) → first_hit f from count ≡ first_hit g from count
same_first_hit f g same from zero = refl
same_first_hit f g same from (suc count) = λ i. cond (same from i) (Some from) (same_first_hit f g same (from + 1) count i)

pub first_end : (scenario : Scenario) (end : Breakpoint) (from count : ℕ)
    → first_hit (λ t. is_some (hit_at (history scenario) (end ∷ []) t)) from count
    ≡ first_hit (λ t. holds ((history scenario).step t) ((history scenario).after t) end) from count
first_end scenario end from count = same_first_hit _ _ (λ t. alone end ((history scenario).step t) ((history scenario).after t)) from count

-- what is noted before a step tells of each breakpoint whether it holds after it
tells_by : (b : Breakpoint) (after s : State) (scenario : Scenario) (executed : Option Linear) (word : Option ℕ) (seen : Sight)
    → after ≡ (next scenario s).0 → executed ≡ (step_from scenario s).executed → word ≡ watched_word s b
    → holds (record { executed = executed; changed = is_other word after }) seen b ≡ holds (step_from scenario s) seen b
tells_by (Place place) after s scenario executed word seen there same is = refl
tells_by (Word p w) after s scenario executed word seen there same is = refl
tells_by (Channel c w) after s scenario executed word seen there same is = refl
tells_by (Bits c w mask) after s scenario executed word seen there same is = refl
tells_by (Cycles cycles) after s scenario executed word seen there same is = refl
tells_by (Returned place inside) after s scenario executed word seen there same is = refl
tells_by Outside after s scenario executed word seen there same is = refl
tells_by (Executed place) after s scenario executed word seen there same is = ap (λ e. is_executed e place) same
tells_by (Changed subject) after s scenario executed word seen there same is = rw (is, there) refl

pub noted_tells : (breakpoints : List Breakpoint) (scenario : Scenario) (s : State) (noted : Noted)
    → noted.executed ≡ (step_from scenario s).executed → noted.words.items ≡ map (watched_word s) breakpoints
    → HoldsAlike breakpoints (Some noted) (next scenario s).0 (step_from scenario s)
noted_tells breakpoints scenario s noted same is = λ index other seen below.
    tells_by (get_or breakpoints index other) (next scenario s).0 s scenario noted.executed (get_or noted.words.items index None) seen refl
    same
    (ap (λ (words : List (Option ℕ)). get_or words index None) is ∙ get_or-map (watched_word s) breakpoints index other None below)
