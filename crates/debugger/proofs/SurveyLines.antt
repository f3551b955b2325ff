-- The lines of buckets, one after another, and what it costs to come there.
use Rattle.std.proofs.Common.{◌≡◌, ℕ, zero, suc, ◌+◌, ◌-◌, ◌*◌, ◌<◌, ◌≤◌, true, false, List, ◌++◌, min, refl, sym, ap, ◌∙◌, arith, inl, inr}
use Rattle.std.specs.Prelude.{nat_lt}
use Rattle.std.proofs.lemmas.Bool.{cases_lt}
use Rattle.std.proofs.lemmas.Bool.Decides.{nat_tests}
use Rattle.std.proofs.lemmas.Nat.{div-add-mod', mod_below}
use Rattle.commands.specs.declared.subject.Subject.{Subject}
use Rattle.cpu.specs.State.{Scenario}
use Rattle.replay.specs.Retraced.{HasRetraced}
use Rattle.replay.specs.View.{SessionView}
use Rattle.debugger.specs.Channels.{count_line}
use Rattle.debugger.specs.Executions.{HasLooked}
use Rattle.debugger.specs.Surveys.{Bucket, bucket, bucket_line, bucket_lines, width_of}
use Rattle.debugger.specs.Surveying.{HasSurveyed}

is_less : (a b : ℕ) → a < b → nat_lt a b ≡ true
is_less a b h = grind (arith, nat_tests)

is_not_less : (a b : ℕ) → b ≤ a → nat_lt a b ≡ false
is_not_less a b h = grind (arith, nat_tests)

module _ (scenario : Scenario) (subjects : List Subject) (width last : ℕ) where
  -- one bucket more
  one : (k done low more : ℕ) → low < last → more ≡ min width (last - low - 1)
      → bucket_lines scenario subjects width last (suc k) done low
      ≡ bucket_line (low + more + 1) (bucket scenario subjects low more)
      ++ bucket_lines scenario subjects width last k (done + 1) (low + more + 1)
  unfolding bucket_lines
  one k done low more some is =
      let below : nat_lt low last ≡ true = is_less low last some in
      rw (is, below) refl

  pub buckets_more : (left done low more : ℕ) → 0 < left → low < last → more ≡ min width (last - low - 1)
      → bucket_lines scenario subjects width last left done low
      ≡ bucket_line (low + more + 1) (bucket scenario subjects low more)
      ++ bucket_lines scenario subjects width last (left - 1) (done + 1) (low + more + 1)
  buckets_more left done low more some below is =
      let e : left ≡ suc (left - 1) = omega (arith, some) in
      ap (λ (k : ℕ). bucket_lines scenario subjects width last k done low) e ∙ one (left - 1) done low more below is

  -- and its line as it was put together
  pub line_more : (seen : Scenario) (left done low more high : ℕ) (b : Bucket) (part : List ℕ) → seen ≡ scenario → 0 < left → low < last
      → more ≡ min width (last - low - 1) → high ≡ low + (more + 1)
      → b ≡ bucket seen subjects low more → part ≡ bucket_line high b
      → bucket_lines scenario subjects width last left done low
      ≡ part ++ bucket_lines scenario subjects width last (left - 1) (done + 1) high
  line_more seen left done low more high b part same some below is end held told =
      let there : low + more + 1 ≡ high = omega (arith, end) in
      buckets_more left done low more some below is
      ∙ ap (λ (h : ℕ). bucket_line h (bucket scenario subjects low more)
      ++ bucket_lines scenario subjects width last (left - 1) (done + 1) h) there
      ∙ ap (λ (text : List ℕ). text ++ bucket_lines scenario subjects width last (left - 1) (done + 1) high)
      (sym (told ∙ ap (bucket_line high) (held ∙ ap (λ (q : Scenario). bucket q subjects low more) same)))

  -- no more buckets
  pub buckets_short : (left done low : ℕ) → left ≡ 0 → bucket_lines scenario subjects width last left done low ≡ count_line done
  unfolding bucket_lines
  buckets_short left done low none = rw none refl

  pub buckets_all : (left done low : ℕ) → last ≤ low → bucket_lines scenario subjects width last left done low ≡ count_line done
  unfolding bucket_lines
  buckets_all zero done low all = refl
  buckets_all (suc k) done low all = let past : nat_lt low last ≡ false = is_not_less low last all in rw past refl

-- before the first bucket
pub surveyed_none : (s : SessionView) (from : ℕ) → HasSurveyed s from from s
surveyed_none s from = record {
  same = refl;
  least = omega arith;
  most = λ within. omega (arith, within);
  on = λ h. omega (arith, h);
  shown
      = λ h. absurd (omega (arith, h));
  begun = λ h. refl;
}

-- after one bucket more
joined : (old now new : SessionView) → now ≡ record old { shown = now.shown; meter = now.meter }
    → new ≡ record now { shown = new.shown; meter = new.meter } → new ≡ record old { shown = new.shown; meter = new.meter }
joined old now new first second = second ∙ ap (λ (v : SessionView). let it : SessionView = record v { shown = new.shown; meter = new.meter }
    in it) first

pub surveyed_more : (old now new : SessionView) (from low high size : ℕ) → from ≤ low → 0 < size → high ≡ low + size
    → HasSurveyed old from low now → HasRetraced now low size new → new.shown.0 ≡ high → HasSurveyed old from high new
surveyed_more old now new from low high size order some end before one there = elim (cases_lt from low) [
  | inl past ↦
      let at = before.shown past in
      let cost : new.meter ≤ now.meter + size = omega (arith, one.on (omega (arith, at)), at) in
      record {
        same = joined old now new before.same one.same;
        least = omega (arith, before.least, one.least);
        most = λ within. omega (arith, before.most within, cost, end, order);
        on = λ h. omega (arith, before.on h, cost, end, order);
        shown = λ h. there;
        begun = λ h. absurd (omega (arith, h, end, order, some));
      }
  | inr here ↦
      let same : low ≡ from = omega (arith, here, order) in
      let is = before.begun same in
      let meter = ap (λ (v : SessionView). v.meter) is in
      let steps = ap (λ (v : SessionView). v.n) is in
      let showed = ap (λ (v : SessionView). v.shown.0) is in
      record {
        same = joined old now new before.same one.same;
        least = omega (arith, before.least, one.least);
        most = λ within. omega (arith, one.most, meter, steps, end, same);
        on = λ h. omega (arith, one.on (omega (arith, h, showed, same)), meter, showed, end, same);
        shown = λ h. there;
        begun = λ h. absurd (omega (arith, h, end, order, some));
      }
]

-- after the last, and after a failure
pub surveyed_all : (old now : SessionView) (from low last : ℕ) → low - from ≤ last - from → from ≤ old.n → HasSurveyed old from low now
    → HasRetraced old from (last - from) now
surveyed_all old now from low last within below it = record {
  same = it.same;
  least = it.least;
  most = omega (arith, it.most below, within);
  on = λ h. omega (arith, it.on h, within);
}

-- at most twice the steps that there are
pub surveyed_looked : (old now : SessionView) (from low last : ℕ) → from ≤ low → low - from ≤ last - from → last ≤ old.n
    → HasSurveyed old from low now → HasLooked old now (2 * old.n)
surveyed_looked old now from low last above within below it = record {
  scenario = ap (λ (v : SessionView). v.scenario) it.same;
  steps = ap (λ (v : SessionView). v.n) it.same;
  cost = elim (cases_lt old.n from) [
    | inl past ↦
        let same : low ≡ from = omega (arith, past, below, within, above) in
        omega (arith, ap (λ (v : SessionView). v.meter) (it.begun same))
    | inr some ↦ omega (arith, it.most some, within, below, some)
  ];
}

-- ## No step is left out
module _ (scenario : Scenario) (subjects : List Subject) (width last : ℕ) where
  past : (k more done low : ℕ) → last ≤ low → bucket_lines scenario subjects width last (k + more) done low
      ≡ bucket_lines scenario subjects width last k done low
  past k more done low all = buckets_all scenario subjects width last (k + more) done low all
      ∙ sym (buckets_all scenario subjects width last k done low all)

  no_more : (k more done low : ℕ) → last ≤ low + k * (width + 1)
      → bucket_lines scenario subjects width last (k + more) done low ≡ bucket_lines scenario subjects width last k done low
  no_more zero more done low enough = past 0 more done low (omega (arith, enough))
  no_more (suc k) more done low enough = elim (cases_lt low last) [
    | inl some ↦
        let size = min width (last - low - 1) in
        let sum : suc k + more ≡ suc (k + more) = omega arith in
        let product : suc k * (width + 1) ≡ k * (width + 1) + (width + 1) = omega arith in
        ap (λ (n : ℕ). bucket_lines scenario subjects width last n done low) sum
        ∙ one scenario subjects width last (k + more) done low size some refl
        ∙ ap (λ (rest : List ℕ). bucket_line (low + size + 1) (bucket scenario subjects low size) ++ rest)
        (no_more k more (done + 1) (low + size + 1) (omega (arith, enough, product, some)))
        ∙ sym (one scenario subjects width last k done low size some refl)
    | inr all ↦ past (suc k) more done low (omega (arith, all))
  ]

enough_buckets : (steps buckets : ℕ) → 1 ≤ buckets → steps ≤ buckets * (width_of steps buckets + 1)
enough_buckets steps buckets some =
    let parts = div-add-mod' (steps - 1) buckets in
    let less = mod_below (steps - 1) buckets (omega (arith, some)) in
    omega (arith, parts, less)

pub no_step_left_out : (scenario : Scenario) (subjects : List Subject) (from last buckets more : ℕ) → 1 ≤ buckets
    → bucket_lines scenario subjects (width_of (last - from) buckets) last (buckets + more) 0 from
    ≡ bucket_lines scenario subjects (width_of (last - from) buckets) last buckets 0 from
no_step_left_out scenario subjects from last buckets more some =
    no_more scenario subjects (width_of (last - from) buckets) last buckets more 0 from
    (omega (arith, enough_buckets (last - from) buckets some))
