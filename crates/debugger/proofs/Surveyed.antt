-- What the steps of a bucket add one after another is what is told of them.
use Rattle.std.proofs.Common.{◌≡◌, ℕ, zero, suc, ◌+◌, ◌<◌, ◌≤◌, ◌^◌, Bool, true, false, cond, List, [], ◌∷◌, map, refl, sym, ap, ◌∙◌, arith}
use Rattle.std.proofs.Common.{get_or, set, length}
use Rattle.std.specs.Prelude.{◌==◌, nat_lt}
use Rattle.commands.specs.declared.subject.Subject.{Subject}
use Rattle.cpu.specs.State.{State, Scenario}
use Rattle.cpu.specs.Next.{next}
use Rattle.cpu.specs.Run.{run}
use Rattle.cpu.proofs.RunLaws.{run-add-one}
use Rattle.replay.specs.Walked.{Walked, WalkedFor}
use Rattle.debugger.specs.History.{word_of}
use Rattle.debugger.specs.Surveys.{rank, greater, begun_with, gone_on_with, watched, enters_interrupt, takes_input, puts_out, count_of}
use Rattle.debugger.specs.Surveys.{Bucket, bucket}
use Rattle.debugger.specs.Surveying.{seen_again, watch_seen, counted_if, no_steps, bucket_seen, seen_up_to}
use Rattle.debugger.specs.declared.watch.Watch.{Watch}
use Rattle.debugger.specs.declared.survey.Surveyor.{Surveyor}
use Rattle.std.proofs.lemmas.Bool.Decides.{nat_tests}
use Rattle.debugger.proofs.Filtered.{at_most_one}

-- ## Tests of numbers
less : (a b : ℕ) → nat_lt a b ≡ true → a < b
less a b e = grind (arith, nat_tests)

not_less : (a b : ℕ) → nat_lt a b ≡ false → b ≤ a
not_less a b e = grind (arith, nat_tests)

same : (a b : ℕ) → (a == b) ≡ true → a ≡ b
same a b e = grind (arith, nat_tests)

-- ## Words
-- the last word of what is watched stands between the others
abbrev IsOrdered : Watch → Type 0
IsOrdered watch = (rank watch.least ≤ rank watch.last) × (rank watch.last ≤ rank watch.greatest)

lesser_below : (v w : ℕ) (b : Bool) → nat_lt (rank w) (rank v) ≡ b → rank (cond b w v) ≤ rank w
lesser_below v w true e = omega arith
lesser_below v w false e = not_less (rank w) (rank v) e

greater_above : (v w : ℕ) (b : Bool) → nat_lt (rank v) (rank w) ≡ b → rank w ≤ rank (cond b w v)
greater_above v w true e = omega arith
greater_above v w false e = not_less (rank v) (rank w) e

ordered_on : (watch : Watch) (w : ℕ) → IsOrdered (gone_on_with watch w)
ordered_on watch w = (
  lesser_below watch.least w (nat_lt (rank w) (rank watch.least)) refl,
  greater_above watch.greatest w
      (nat_lt (rank watch.greatest) (rank w)) refl,
)

ordered : (scenario : Scenario) (subject : Subject) (low m : ℕ) → IsOrdered (watched scenario subject low m)
unfolding watched
ordered scenario subject low zero = (omega arith, omega arith)
ordered scenario subject low (suc m) = ordered_on (watched scenario subject low m) (word_of (run scenario (low + m + 2)) subject)

-- a word that is the last one already changes nothing
lesser_same : (v w : ℕ) (b : Bool) → nat_lt (rank w) (rank v) ≡ b → rank v ≤ rank w → cond b w v ≡ v
lesser_same v w true e h = absurd (omega (arith, less (rank w) (rank v) e, h))
lesser_same v w false e h = refl

greater_same : (v w : ℕ) (b : Bool) → nat_lt (rank v) (rank w) ≡ b → rank w ≤ rank v → cond b w v ≡ v
greater_same v w true e h = absurd (omega (arith, less (rank v) (rank w) e, h))
greater_same v w false e h = refl

last_again : (watch : Watch) → IsOrdered watch → gone_on_with watch watch.last ≡ watch
last_again watch h =
    ap (λ (v : ℕ). let it : Watch = record {
      subject = watch.subject;
      least = v;
      greatest = greater watch.greatest watch.last;
      last
          = watch.last;
    } in it) (lesser_same watch.least watch.last (nat_lt (rank watch.last) (rank watch.least)) refl h.0)
    ∙ ap (λ (v : ℕ). let it : Watch = record { subject = watch.subject; least = watch.least; greatest = v; last = watch.last } in it)
    (greater_same watch.greatest watch.last (nat_lt (rank watch.greatest) (rank watch.last)) refl h.1)

again_by : (watch : Watch) (w : ℕ) (b : Bool) → (w == watch.last) ≡ b → IsOrdered watch
    → cond b watch (gone_on_with watch w) ≡ gone_on_with watch w
again_by watch w true e h = let is : w ≡ watch.last = same w watch.last e in rw is (sym (last_again watch h))
again_by watch w false e h = refl

again : (watch : Watch) (w : ℕ) → IsOrdered watch → seen_again watch w ≡ gone_on_with watch w
again watch w h = again_by watch w (w == watch.last) refl h

fused : {X Y Z : Type 0} (f : Y → Z) (g : X → Y) (h : X → Z) → ((x : X) → f (g x) ≡ h x) → (xs : List X) → map f (map g xs) ≡ map h xs
fused f g h each [] = refl
fused f g h each (x ∷ xs) = ap (λ y. y ∷ map f (map g xs)) (each x) ∙ ap (λ ys. h x ∷ ys) (fused f g h each xs)

-- ## Counts
one_more : (count : ℕ) (b : Bool) → count < 2 ^ 50 → counted_if b count ≡ count + cond b 1 0
one_more count true h = omega (arith, h)
one_more count false h = omega (arith, h)

few : (does : State → Bool) (scenario : Scenario) (low m : ℕ) → count_of does scenario low m ≤ m
unfolding count_of
few does scenario low zero = omega arith
few does scenario low (suc m) = omega (arith, few does scenario low m, at_most_one (does (run scenario (low + m))))

count_first : (does : State → Bool) (scenario : Scenario) (low : ℕ)
    → counted_if (does (run scenario low)) 0 ≡ count_of does scenario low (suc zero)
unfolding count_of
count_first does scenario low =
    let here : low + 0 ≡ low = omega arith in
    one_more 0 (does (run scenario low)) (omega arith) ∙ ap (λ (t : ℕ). 0 + cond (does (run scenario t)) 1 0) (sym here)

count_next : (does : State → Bool) (scenario : Scenario) (low m : ℕ) → m < 2 ^ 45
    → counted_if (does (run scenario (low + m + 1))) (count_of does scenario low (suc m)) ≡ count_of does scenario low (suc (suc m))
unfolding count_of
count_next does scenario low m h =
    let here : low + m + 1 ≡ low + suc m = omega arith in
    one_more (count_of does scenario low (suc m)) (does (run scenario (low + m + 1))) (omega (arith, few does scenario low (suc m), h))
    ∙ ap (λ (t : ℕ). count_of does scenario low (suc m) + cond (does (run scenario t)) 1 0) here

-- ## Buckets
alike : (c d e f i j o p : ℕ) (ws vs : List Watch) → c ≡ d → e ≡ f → i ≡ j → o ≡ p → ws ≡ vs
    → (let it : Bucket = record { cycles = c; entries = e; inputs = i; outputs = o; watches = ws } in it)
    ≡ (let it : Bucket = record { cycles = d; entries = f; inputs = j; outputs = p; watches = vs } in it)
alike c d e f i j o p ws vs q r s t u = rw (q, r, s, t, u) refl

module _ (scenario : Scenario) (subjects : List Subject) (low : ℕ) where
  first_bucket : bucket_seen true scenario (run scenario low) (no_steps subjects) ≡ bucket scenario subjects low zero
  unfolding watched
  first_bucket =
      let after : (next scenario (run scenario low)).0 ≡ run scenario (low + 1) = sym (run-add-one scenario low) in
      let here : low + 1 ≡ low + 0 + 1 = omega arith in
      alike _ _ _ _ _ _ _ _ _ _
      (ap (λ (s : State). s.cycles) after ∙ ap (λ (t : ℕ). (run scenario t).cycles) here)
      (count_first (enters_interrupt scenario) scenario low) (count_first (takes_input scenario) scenario low)
      (count_first (puts_out scenario) scenario low)
      (fused (watch_seen true (next scenario (run scenario low)).0) (λ (subject : Subject). begun_with subject 0)
      (λ (subject : Subject). watched scenario subject low zero)
      (λ subject. ap (λ (s : State). begun_with subject (word_of s subject)) after) subjects)

  same_subject : (subject : Subject) (k : ℕ) → (watched scenario subject low k).subject ≡ subject
  unfolding watched
  same_subject subject zero = refl
  same_subject subject (suc k) = same_subject subject k

  next_bucket : (m : ℕ) → m < 2 ^ 45 → bucket_seen false scenario (run scenario (low + m + 1)) (bucket scenario subjects low m)
      ≡ bucket scenario subjects low (suc m)
  unfolding watched
  next_bucket m h =
      let t = low + m + 1 in
      let after : (next scenario (run scenario t)).0 ≡ run scenario (t + 1) = sym (run-add-one scenario t) in
      let end : t + 1 ≡ low + suc m + 1 = omega arith in
      let there : t + 1 ≡ low + m + 2 = omega arith in
      alike _ _ _ _ _ _ _ _ _ _
      (ap (λ (s : State). s.cycles) after ∙ ap (λ (u : ℕ). (run scenario u).cycles) end)
      (count_next (enters_interrupt scenario) scenario low m h) (count_next (takes_input scenario) scenario low m h)
      (count_next (puts_out scenario) scenario low m h)
      (fused (watch_seen false (next scenario (run scenario t)).0) (λ (subject : Subject). watched scenario subject low m)
      (λ (subject : Subject). watched scenario subject low (suc m))
      (λ subject. again (watched scenario subject low m)
      (word_of (next scenario (run scenario t)).0 (watched scenario subject low m).subject) (ordered scenario subject low m)
      ∙ ap (λ (x : Subject). gone_on_with (watched scenario subject low m) (word_of (next scenario (run scenario t)).0 x))
      (same_subject subject m)
      ∙ ap (λ (s : State). gone_on_with (watched scenario subject low m) (word_of s subject))
      (after ∙ ap (λ (u : ℕ). run scenario u) there)) subjects)

  abbrev Sees : Surveyor → Scenario → State → Bool → Surveyor → Type 0
  Sees old p state ended new = (ended ≡ false) × (new.is_first ≡ false) × (new.bucket ≡ bucket_seen old.is_first p state old.bucket)

  walked : (m : ℕ) (ended : Bool) (old new : Surveyor) → m < 2 ^ 45 → old.is_first ≡ true → old.bucket ≡ no_steps subjects
      → WalkedFor Sees scenario low (suc m) ended old new
      → (ended ≡ false) × (new.is_first ≡ false) × (new.bucket ≡ bucket scenario subjects low m)
  walked zero ended old new h first none (between, (e, alone), (still, later, is)) =
      let here : low + 0 ≡ low = omega arith in
      let begun : between.is_first ≡ true = ap (λ (s : Surveyor). s.is_first) alone ∙ first in
      let empty : between.bucket ≡ no_steps subjects = ap (λ (s : Surveyor). s.bucket) alone ∙ none in (
        still,
        later,
        is ∙ ap (λ (b : Bool). bucket_seen b scenario (run scenario (low + 0)) between.bucket) begun
            ∙ ap (λ (b : Bucket). bucket_seen true scenario (run scenario (low + 0)) b) empty
            ∙ ap (λ (t : ℕ). bucket_seen true scenario (run scenario t) (no_steps subjects)) here ∙ first_bucket,
      )
  walked (suc m) ended old new h first none (between, early, (still, later, is)) =
      let before = walked m false old between (omega (arith, h)) first none early in
      let here : low + suc m ≡ low + m + 1 = omega arith in (
        still,
        later,
        is ∙ ap (λ (b : Bool). bucket_seen b scenario (run scenario (low + suc m)) between.bucket) before.1
            ∙ ap (λ (b : Bucket). bucket_seen false scenario (run scenario (low + suc m)) b) before.2
            ∙ ap (λ (t : ℕ). bucket_seen false scenario (run scenario t) (bucket scenario subjects low m)) here
            ∙ next_bucket m (omega (arith, h)),
      )

  -- all steps of a bucket
  pub surveyed : (more high : ℕ) (ended : Bool) (old new : Surveyor) → high < 2 ^ 45 → high ≤ low + (more + 1)
      → (ended ≡ false → high ≡ low + (more + 1)) → old.is_first ≡ true → old.bucket ≡ no_steps subjects
      → Walked Sees scenario low high ended old new → (ended ≡ false) × (new.bucket ≡ bucket scenario subjects low more)
  surveyed more high ended old new h within all_made first none (zero, is, (e, alone)) = let end : high
      ≡ low + (more + 1) = all_made e in absurd
      (omega (arith, is, end))
  surveyed more high ended old new h within all_made first none (suc m, is, steps) =
      let it = walked m ended old new (omega (arith, h, is)) first none steps in
      let end : high ≡ low + (more + 1) = all_made it.0 in
      let reached : m ≡ more = omega (arith, is, end) in
      (it.0, it.2 ∙ ap (λ (k : ℕ). bucket scenario subjects low k) reached)

-- ## Words that are looked at one after another
there : {X : Type 0} (f : X → X) (i : ℕ) (xs : List X) (d : X) → get_or (seen_up_to f i xs) i d ≡ get_or xs i d
there f zero xs d = refl
there f (suc i) [] d = refl
there f (suc i) (x ∷ xs) d = there f i xs d

more : {X : Type 0} (f : X → X) (i : ℕ) (xs : List X) (d : X) → set (seen_up_to f i xs) i (f (get_or xs i d)) ≡ seen_up_to f (suc i) xs
more f zero [] d = refl
more f zero (x ∷ xs) d = refl
more f (suc i) [] d = refl
more f (suc i) (x ∷ xs) d = ap (λ ys. f x ∷ ys) (more f i xs d)

pub seen_more : {X : Type 0} (f : X → X) (i : ℕ) (xs now : List X) (d new : X) → now ≡ seen_up_to f i xs → new ≡ f (get_or now i d)
    → set now i new ≡ seen_up_to f (i + 1) xs
seen_more f i xs now d new so_far looked =
    let old : get_or now i d ≡ get_or xs i d = ap (λ (ys : List _). get_or ys i d) so_far ∙ there f i xs d in
    let step : suc i ≡ i + 1 = omega arith in
    ap (λ (y : _). set now i y) (looked ∙ ap f old) ∙ ap (λ (ys : List _). set ys i (f (get_or xs i d))) so_far ∙ more f i xs d
    ∙ ap (λ (n : ℕ). seen_up_to f n xs) step

all : {X : Type 0} (f : X → X) (i : ℕ) (xs : List X) → length xs ≤ i → seen_up_to f i xs ≡ map f xs
all f zero [] h = refl
all f zero (x ∷ xs) h = absurd (omega (arith, h))
all f (suc i) [] h = refl
all f (suc i) (x ∷ xs) h = ap (λ ys. f x ∷ ys) (all f i xs (omega (arith, h)))

pub seen_all : {X : Type 0} (f : X → X) (i : ℕ) (xs now : List X) → now ≡ seen_up_to f i xs → length xs ≤ i → now ≡ map f xs
seen_all f i xs now so_far end = so_far ∙ all f i xs end
