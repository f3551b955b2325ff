-- What is known of a word tells of each step that executes it.
use Rattle.std.proofs.Common.{◌≡◌, ℕ, ◌+◌, ◌-◌, ◌*◌, ◌/◌, ◌^◌, ◌<◌, ◌≤◌, ◌==◌, ◌&&◌, ◌||◌, Bool, true, false, not, nat_le, nat_lt, List}
use Rattle.std.proofs.Common.{length, get_or, set, replicate, Option, Some, None, refl, sym, ap, subst, arith, ◌∙◌, inl, inr, if◌then◌else◌, unwrap_or}
use Rattle.std.specs.Prelude.{codes, is_some}
use Rattle.std.proofs.lemmas.Bool.{cases_Bool, and_parts, eqb-true, eqb-false, leb-true, le-ltb, ltb-true}
use Rattle.std.proofs.lemmas.List.{get_or-set_other, get_or-set_same}
use Rattle.std.proofs.lemmas.Nat.{div-mul-add}
use Rattle.words.proofs.Replicated.{get_replicated}
use Rattle.space.specs.Cells.{at, erasable_bank}
use Rattle.space.specs.Places.{place}
use Rattle.space.specs.declared.place.Linear.{Linear}
use Rattle.space.specs.declared.place.Linear.TheVariants.{Erasable, Fixed}
use Rattle.rope.specs.Places.{Words, bank_words, place_number, stands}
use Rattle.yayul.specs.Named.{Named, named_at, named_words}
use Rattle.cpu.specs.Codes.{code_of}
use Rattle.cpu.specs.Effects.{place_in}
use Rattle.cpu.specs.Operands.{address_of}
use Rattle.cpu.specs.State.{State}
use Rattle.cpu.specs.declared.next_step.Fetched.{Fetched}
use Rattle.notes.specs.declared.known.KnownWord.{KnownWord}
use Rattle.notes.specs.declared.known.Way.{Way}
use Rattle.notes.specs.declared.known.Way.TheVariants as way
use Rattle.notes.specs.declared.past.Past.{Past}
use Rattle.notes.specs.Known.{Knows, KnowsWord, is_calm, is_judged, leads_away, nothing_known, way_of}
use Rattle.notes.specs.Notes.{counts_minus_zero, divides, is_at_word, is_ccs, is_named, is_plain, is_plain_code}
use Rattle.notes.specs.Notes.{leads_elsewhere, place_named, reaches_other, skips}
use Rattle.notes.specs.Past.{comes_by, entered_at, is_passed, reads_channel}
use Rattle.notes.proofs.Divisions.{neither, never_elsewhere, store_never_elsewhere}

all_four : (a b c d : Bool) → a ≡ true → b ≡ true → c ≡ true → d ≡ true → (a && (b && (c && d))) ≡ true
all_four a b c d w x y z = rw (w, x, y, z) refl

all_three : (a b c : Bool) → a ≡ true → b ≡ true → c ≡ true → (a && (b && c)) ≡ true
all_three a b c w x y = rw (w, x, y) refl

so_not : (b : Bool) → b ≡ false → not b ≡ true
so_not b e = rw e refl

not_so : (b : Bool) → not b ≡ true → b ≡ false
not_so true e = absurd (cc)
not_so false e = refl

neither_is : (a b : Bool) → a ≡ false → b ≡ false → (not a && not b) ≡ true
neither_is a b w x = rw (w, x) refl

first_so : (b x y : Bool) → b ≡ true → x ≡ true → (if b then x else y) ≡ true
first_so b x y w e = rw w e

second_so : (b x y : Bool) → b ≡ false → y ≡ true → (if b then x else y) ≡ true
second_so b x y w e = rw w e

passes : (p : Past) (b : Bool) (k : Option ℕ) → k ≡ None → is_passed p (if b then None else k) ≡ true
passes p true k none = refl
passes p false k none = rw none refl

-- an extracode that is calm neither reads a channel nor divides
reads_none : (f : Fetched) → nat_le 0o12000 f.word ≡ true → reads_channel f ≡ false
reads_none f high =
    let least : 0o12000 ≤ f.word = leb-true 0o12000 f.word high in
    let low : nat_lt f.word 0o7000 ≡ false = le-ltb f.word 0o7000 (omega (arith, least)) in
    elim (cases_Bool f.extra) [
      | inl extra ↦ rw (extra, low) refl
      | inr basic ↦ rw basic refl
    ]

divides_none : (rope : Words) (s : State) (f : Fetched) → f.extra ≡ true → nat_le 0o12000 f.word ≡ true → divides rope s f ≡ false
divides_none rope s f extra high =
    let least : 0o12000 ≤ f.word = leb-true 0o12000 f.word high in
    let outside : (nat_le 0o10000 f.word && nat_le f.word 0o11777) ≡ false =
    elim (cases_Bool (nat_le 0o10000 f.word && nat_le f.word 0o11777)) [
      | inl within ↦
          let parts = and_parts (nat_le 0o10000 f.word) (nat_le f.word 0o11777) within in
          absurd (omega (arith, least, leb-true f.word 0o11777 parts.1))
      | inr out ↦ out
    ] in
    let never : is_named f (codes "DV") ≡ false = rw extra (never_elsewhere f.word outside) in
    rw never refl

-- what is neither TS nor CCS
skips_none : (s : State) (f : Fetched) → f.extra ≡ false → (nat_le 0o54000 f.word && nat_le f.word 0o55777) ≡ false → skips s f ≡ false
skips_none s f basic outside =
    let never : is_named f (codes "TS") ≡ false = rw basic (store_never_elsewhere f.word outside) in
    rw never refl

counts_none : (rope : Words) (s : State) (f : Fetched) → f.extra ≡ false → (nat_le 0o10000 f.word && nat_lt f.word 0o12000) ≡ false
    → counts_minus_zero rope s f ≡ false
counts_none rope s f basic outside =
    let none : is_ccs f ≡ false = rw basic outside in
    rw none refl

calm_code : (rope : Words) (s : State) (f : Fetched) → is_calm f.extra f.word ≡ true → is_plain_code rope s f ≡ true
calm_code rope s f calm =
    elim (cases_Bool f.extra) [
      | inl extra ↦
          let high : nat_le 0o12000 f.word ≡ true = rw extra at calm in
          first_so f.extra _ _ extra
          (neither_is (reads_channel f) (divides rope s f) (reads_none f high) (divides_none rope s f extra high))
      | inr basic ↦
          let both : (not (f.word == 0o50017) && not (is_judged f.word)) ≡ true = rw basic at calm in
          let parts = and_parts (not (f.word == 0o50017)) (not (is_judged f.word)) both in
          let none = neither (nat_le 0o54000 f.word && nat_le f.word 0o55777) (nat_le 0o10000 f.word && nat_lt f.word 0o12000)
          (not_so (is_judged f.word) parts.1) in
          second_so f.extra _ _ basic
          (all_three _ _ _ parts.0 (so_not _ (skips_none s f basic none.0)) (so_not _ (counts_none rope s f basic none.1)))
    ]

passed_code : (bank offset : ℕ) (known : KnownWord) (rope : Words) (s : State) (p : Past) (f : Fetched) (calm : Bool) → known.calm ≡ calm
    → (known.calm ≡ true → is_calm f.extra f.word ≡ true) → (known.calm ≡ true → entered_at f.place ≡ None)
    → (known.calm ≡ false → is_passed p (comes_by s f) ≡ true) → (known.calm ≡ false → is_plain_code rope s f ≡ true)
    → (is_passed p (comes_by s f) ≡ true) × (is_plain_code rope s f ≡ true)
passed_code bank offset known rope s p f true is calm entry passed code =
    (passes p (s.inside || f.waited) (entered_at f.place) (entry is), calm_code rope s f (calm is))
passed_code bank offset known rope s p f false is calm entry passed code = (passed is, code is)

pub known_plain : (named : Named) (bank offset : ℕ) (known : KnownWord) (rope : Words) (s : State) (p : Past) (f : Fetched)
    → f.place ≡ Fixed bank offset → (known.word < 2 ^ 15 → KnowsWord named bank offset known) → known.word < 2 ^ 15
    → known.word ≡ f.word → known.extra ≡ f.extra → f.waited ≡ false
    → stands rope bank offset ≡ true → (known.calm ≡ false → is_passed p (comes_by s f) ≡ true)
    → (known.calm ≡ false → is_plain_code rope s f ≡ true) → is_plain rope s p f ≡ true
known_plain named bank offset known rope s p f there known_so small word extra waited held passed code =
    let knows = known_so small in
    let calm : known.calm ≡ true → is_calm f.extra f.word ≡ true = (λ is. rw (word, extra) at (knows.calm is)) in
    let entry : known.calm ≡ true → entered_at f.place ≡ None = (λ is. rw there (knows.entry is)) in
    let both = passed_code bank offset known rope s p f known.calm refl calm entry passed code in
    all_four (not f.waited) (is_at_word rope f.place) (is_passed p (comes_by s f)) (is_plain_code rope s f) (rw waited refl) (rw there held)
    both.0 both.1

-- by a bank register it is told whether an address leads elsewhere
way_is : (one other : Way) → Some one ≡ Some other → one ≡ other
way_is one other e = ap (λ o. unwrap_or o one) e

erasable_elsewhere : (eb n k : ℕ) → 0o1400 ≤ k → k < 0o2000 → (eb == n / 0o400) ≡ ((eb * 0o400 + (k - 0o1400)) / 0o400 == n / 0o400)
erasable_elsewhere eb n k from below = ap (λ b. b == n / 0o400) (sym (div-mul-add eb 0o400 (k - 0o1400) (omega (arith, from, below))))

pub leads_there : (s : State) (o : Option Linear) (a : Option ℕ) (w : Way) → way_of o a ≡ Some w → leads_away s w ≡ leads_elsewhere s o a
unfolding place_in place
leads_there s None a w e = ap (leads_away s) (sym (way_is way.Nowhere w e))
leads_there s (Some other) None w e = ap (leads_away s) (sym (way_is way.Nowhere w e))
leads_there s (Some (Erasable n)) (Some k) w e =
    elim (cases_Bool (nat_le 0o1400 k && nat_lt k 0o2000)) [
      | inl within ↦
          let parts = and_parts (nat_le 0o1400 k) (nat_lt k 0o2000) within in
          let from : 0o1400 ≤ k = leb-true 0o1400 k parts.0 in
          let below : k < 0o2000 = ltb-true k 0o2000 parts.1 in
          let first : nat_lt k 0o1400 ≡ false = le-ltb k 0o1400 from in
          let is : way.ByErasable (n / 0o400) ≡ w = way_is (way.ByErasable (n / 0o400)) w (rw within at e) in
          ap (leads_away s) (sym is)
          ∙ rw (first, parts.1) (ap not (erasable_elsewhere (at s.cells erasable_bank) n k from below))
      | inr out ↦ let wrong : None ≡ Some w = rw out at e in absurd (cc)
    ]
leads_there s (Some (Fixed bank n)) (Some k) w e =
    elim (cases_Bool (nat_le 0o2000 k && nat_lt k 0o4000)) [
      | inl within ↦
          let parts = and_parts (nat_le 0o2000 k) (nat_lt k 0o4000) within in
          let from : 0o2000 ≤ k = leb-true 0o2000 k parts.0 in
          let first : nat_lt k 0o1400 ≡ false = le-ltb k 0o1400 (omega (arith, from)) in
          let second : nat_lt k 0o2000 ≡ false = le-ltb k 0o2000 from in
          let is : way.ByFixed bank ≡ w = way_is (way.ByFixed bank) w (rw within at e) in
          ap (leads_away s) (sym is) ∙ rw (first, second, parts.1) refl
      | inr out ↦ let wrong : None ≡ Some w = rw out at e in absurd (cc)
    ]

of_source : (w : Bool) (a : Option ℕ) (l : Bool) → w ≡ false → a ≡ None → (not w && not (is_some a) && l) ≡ l
of_source w a l waited added = rw (waited, added) refl

pub known_reaches : (named : Named) (bank offset : ℕ) (known : KnownWord) (s : State) (f : Fetched)
    → f.place ≡ Fixed bank offset → (known.word < 2 ^ 15 → KnowsWord named bank offset known) → known.word < 2 ^ 15
    → known.word ≡ f.word → known.extra ≡ f.extra → f.waited ≡ false → f.added ≡ None → leads_away s known.way ≡ reaches_other named s f
known_reaches named bank offset known s f there known_so small word extra waited added =
    let knows = known_so small in
    let leads = leads_there s (named_at named bank offset) (address_of (code_of known.extra known.word)) known.way knows.way in
    let same : leads_elsewhere s (named_at named bank offset) (address_of (code_of known.extra known.word))
    ≡ leads_elsewhere s (place_named named f.place) (address_of (code_of f.extra f.word)) =
    (λ i. leads_elsewhere s (place_named named (sym there i)) (address_of (code_of (extra i) (word i)))) in
    leads ∙ same ∙ sym (of_source f.waited f.added _ waited added)

-- what is known of a word by its place
abbrev KnowsThere : Named → ℕ → ℕ → KnownWord → Type 0
KnowsThere named bank offset k = k.word < 2 ^ 15 → KnowsWord named bank offset k

pub known_at : (named : Named) (words : List KnownWord) (bank offset : ℕ) (k : KnownWord) → Knows named words → offset < bank_words
    → k ≡ get_or words (place_number bank offset) nothing_known → k.word < 2 ^ 15 → KnowsWord named bank offset k
known_at named words bank offset k known low is =
    subst (KnowsThere named bank offset) (sym is) (known bank offset low)

-- nothing is known first
pub nothing_is_known : (named : Named) (words : List KnownWord) → words ≡ replicate named_words nothing_known → Knows named words
nothing_is_known named words is = λ bank offset lt small.
    let number : ℕ = place_number bank offset in
    let e : get_or words number nothing_known ≡ nothing_known =
    ap (λ ws. get_or ws number nothing_known) is ∙ get_replicated nothing_known named_words number in
    let none : (get_or words number nothing_known).word ≡ 0o177777 = ap (λ (k : KnownWord). k.word) e in
    absurd (omega (arith, none, small))

-- what is known of a word is kept at its place
pub kept_is_known : (named : Named) (words new : List KnownWord) (here there number : ℕ) (known : KnownWord) → Knows named words
    → new ≡ set words number known → number ≡ place_number here there → there < bank_words → number < length words
    → KnowsWord named here there known → Knows named new
kept_is_known named words new here there number known before is at low within knows = λ bank offset lt.
    elim (cases_Bool (place_number bank offset == number)) [
      | inl same ↦
          let e : place_number bank offset ≡ number = eqb-true (place_number bank offset) number same in
          let b : here ≡ bank = omega (arith, e, at, lt, low) in
          let o : there ≡ offset = omega (arith, e, at, lt, low) in
          let held : get_or new (place_number bank offset) nothing_known ≡ known =
          ap (λ n. get_or new n nothing_known) e ∙ ap (λ ws. get_or ws number nothing_known) is
          ∙ get_or-set_same words number known nothing_known within in
          let told : KnowsWord named bank offset known =
          subst (λ x. KnowsWord named bank x known) o (subst (λ x. KnowsWord named x there known) b knows) in
          subst (KnowsThere named bank offset) (sym held) (λ _. told)
      | inr other ↦
          let held : get_or new (place_number bank offset) nothing_known ≡ get_or words (place_number bank offset) nothing_known =
          ap (λ ws. get_or ws (place_number bank offset) nothing_known) is
          ∙ get_or-set_other words number (place_number bank offset) known nothing_known
          (eqb-false (place_number bank offset) number other) in
          subst (KnowsThere named bank offset) (sym held) (before bank offset lt)
    ]
