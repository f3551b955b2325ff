-- What is known of each address, word by word.
use Rattle.std.proofs.Common.{◌≡◌, ◌≢◌, ℕ, ◌+◌, ◌<◌, ◌≤◌, ◌==◌, ◌&&◌, Bool, true, false, nat_lt, List, length, get_or, set}
use Rattle.std.proofs.Common.{replicate, Option, Some}
use Rattle.std.proofs.Common.{zero, suc, None, if◌then◌else◌, refl, sym, ◌∙◌, add-one, arith, ⊎_elim}
use Rattle.std.proofs.lemmas.List.{get_or-set_same, get_or-set_other, get_or-replicate}
use Rattle.std.proofs.lemmas.Bool.{cases_eq}
use Rattle.std.proofs.lemmas.Bool.Decides.{nat_tests}
use Rattle.rope.specs.Places.{fixed_places}
use Rattle.align.specs.declared.evidence.Evidence.{Evidence}
use Rattle.align.specs.Evidences.{IsKnown, evidence_before, kept_word, no_evidence, with_word}
use Rattle.align.specs.Pairings.{Entries, Pairing, at, is_entry, name_alike}

evidence_there : (operands : Entries) (p : Pairing) (address n : ℕ) → is_entry (at operands n) address ≡ true
    → evidence_before operands p address (n + 1) ≡ with_word p n (at p.to_new n) (evidence_before operands p address n)
unfolding evidence_before
evidence_there operands p address n there = rw (add-one n, there) refl

evidence_passed : (operands : Entries) (p : Pairing) (address n : ℕ) → is_entry (at operands n) address ≡ false
    → evidence_before operands p address (n + 1) ≡ evidence_before operands p address n
unfolding evidence_before
evidence_passed operands p address n none = rw (add-one n, none) refl

same : (a b : ℕ) → a ≡ b → (b == a) ≡ true
same a b e = grind (arith, nat_tests)

another : (a b : ℕ) → a ≢ b → (b == a) ≡ false
another a b other = grind (arith, nat_tests)

-- one word more that names no address
pub known_passed : (operands : Entries) (p : Pairing) (n : ℕ) (known : List Evidence) → at operands n ≡ None → IsKnown operands p n known
    → IsKnown operands p (n + 1) known
known_passed operands p n known none before a within =
    before a within ∙ sym (evidence_passed operands p a n (rw none refl))

-- one that names an address of fixed memory
pub known_beyond : (operands : Entries) (p : Pairing) (n address : ℕ) (known : List Evidence) → at operands n ≡ Some address
    → 0o2000 ≤ address → IsKnown operands p n known → IsKnown operands p (n + 1) known
known_beyond operands p n address known there beyond before a within =
    before a within
    ∙ sym (evidence_passed operands p a n (rw there (another a address (λ (e : a ≡ address). omega (arith, within, beyond, e)))))

-- one that names an address of erasable memory
pub known_more : (operands : Entries) (p : Pairing) (n address : ℕ) (known : List Evidence) (e : Evidence) → at operands n ≡ Some address
    → address < length known → address < 0o2000 → e ≡ with_word p n (at p.to_new n) (get_or known address no_evidence)
    → IsKnown operands p n known → IsKnown operands p (n + 1) (set known address e)
known_more operands p n address known e there within below new before a small =
    ⊎_elim
    (λ (here : a ≡ address). rw here
    (get_or-set_same known address e no_evidence within
    ∙ (rw (before address below) at new)
    ∙ sym (evidence_there operands p address n (rw there (same address address refl)))))
    (λ (other : a ≢ address). get_or-set_other known address a e no_evidence other
    ∙ before a small
    ∙ sym (evidence_passed operands p a n (rw there (another a address other))))
    (cases_eq a address)

-- as many words are known at most as there are
few_by : (b : Bool) (kept e : Evidence) (n : ℕ) → kept.words ≤ n + 1 → e.words ≤ n → (if b then kept else e).words ≤ n + 1
few_by true kept e n h i = h
few_by false kept e n h i = omega (arith, i)

with_word_few : (p : Pairing) (n : ℕ) (o : Option ℕ) (e : Evidence) → e.words ≤ n → (with_word p n o e).words ≤ n + 1
with_word_few p n None e h = omega (arith, h)
with_word_few p n (Some j) e h =
    few_by (nat_lt j fixed_places && name_alike p n j) (kept_word p n j e) e n (omega (arith, h)) h

evidence_by : (b : Bool) (more e : Evidence) (n : ℕ) → more.words ≤ n + 1 → e.words ≤ n → (if b then more else e).words ≤ n + 1
evidence_by true more e n h i = h
evidence_by false more e n h i = omega (arith, i)

pub evidence_few : (operands : Entries) (p : Pairing) (address n : ℕ) → (evidence_before operands p address n).words ≤ n
unfolding evidence_before
evidence_few operands p address zero = omega arith
evidence_few operands p address (suc n) =
    rw (add-one n) at (evidence_by (is_entry (at operands n) address) (with_word p n (at p.to_new n) (evidence_before operands p address n))
    (evidence_before operands p address n) n
    (with_word_few p n (at p.to_new n) (evidence_before operands p address n) (evidence_few operands p address n))
    (evidence_few operands p address n))

-- what a list has of an address tells of as many words at most
pub known_few : (operands : Entries) (p : Pairing) (n address : ℕ) (known : List Evidence) → IsKnown operands p n known → address < 0o2000
    → (get_or known address no_evidence).words ≤ n
known_few operands p n address known before below = rw (before address below) (evidence_few operands p address n)

-- nothing is known before the first word
pub known_start : (operands : Entries) (p : Pairing) → IsKnown operands p 0 (replicate 0o2000 no_evidence)
unfolding evidence_before
known_start operands p a within = get_or-replicate 0o2000 a no_evidence no_evidence within

pub ruleset known_steps = (known_passed, known_beyond, known_more, known_few)
