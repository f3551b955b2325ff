-- The words of a request that waited, put in place of its zeros.
use Rattle.std.proofs.Common.{◌≡◌, ◌≢◌, ℕ, ◌+◌, ◌<◌, ◌≤◌, Bool, true, false, List, [], ◌∷◌, ◌++◌, length, replicate, Option, Result, Ok}
use Rattle.std.proofs.Common.{Err, cond, ◌⊎◌, inl, inr, refl, ap, sym, subst, ◌∙◌, arith, append_assoc}
use Rattle.std.proofs.lemmas.Bool.{cases_Bool, cases_eq, or_parts}
use Rattle.std.proofs.lemmas.Bool.Decides.{nat_tests}
use Rattle.std.proofs.lemmas.Grind.{flat_map-append}
use Rattle.std.proofs.lemmas.List.Folds.{list_any-append}
use Rattle.std.proofs.lemmas.List.Elements.{All-head, All-tail, filter-append}
use Rattle.std.specs.List.{filter, list_any, flat_map}
use Rattle.std.specs.Result.{result_unwrap_or}
use Rattle.rope.specs.Places.{Words, Placed, banks, bank_words, no_words, with_word, with_words, stands}
use Rattle.rope.proofs.PlaceLaws.{with_word-again, with_word-swap, with_words-append}
use Rattle.yayul.specs.Layout.{Request, width, stands_at}
use Rattle.yayul.specs.Words.{request_words, request_faults}
use Rattle.yayul.specs.Program.{placed, placed_from, least}
use Rattle.yayul.specs.Language.{Constant, Content, Fault}
use Rattle.yayul.specs.Language.{FaultKind, Value}
use Rattle.yayul.specs.Inside.Answers.{least_kind}
use Rattle.yayul.specs.Inside.Sound.{AreApart, AreFrom, AreRising, AreWithin}
use Rattle.yayul.specs.Inside.Waiting.{is_waiting, standing_words, standing_rope, standing_faults, lesser_on, Holds}
use Rattle.yayul.proofs.Apart.{few_words}
use Rattle.yayul.proofs.AlikeWaiting.{AreOff, off-filter, none_waits, first_waits, WaitAlike, alike-first, filter-alike, places}
use Rattle.yayul.proofs.AlikeWaiting.{words-waiting, words-settled, places-alike, faults-alike, faults-append, faults-settled}
use Rattle.yayul.proofs.AlikeWaiting.{faults-waiting, faults-off}
use Rattle.yayul.proofs.RequestFault.{told_among}
use Rattle.yayul.proofs.WordsWhileWaiting.{standing-width, stands-held, width-words}
use Rattle.yayul.proofs.TakenPlaces.{length-zeros, meets_not}

-- ## Words past others
-- words at other places than one
abbrev AreElsewhere : ℕ → ℕ → List Placed → Type 0
AreElsewhere bank offset [] = Unit {0}
AreElsewhere bank offset (p ∷ ps) = ((p.offset < bank_words) × ((p.bank ≢ bank) ⊎ (p.offset ≢ offset))) × AreElsewhere bank offset ps

elsewhere-append : (bank offset : ℕ) (ps qs : List Placed) → AreElsewhere bank offset ps → AreElsewhere bank offset qs
    → AreElsewhere bank offset (ps ++ qs)
elsewhere-append bank offset [] qs a b = b
elsewhere-append bank offset (p ∷ ps) qs a b = (a.0, elsewhere-append bank offset ps qs a.1 b)

-- a word may be put before words at other places
past : (ps : List Placed) (words : Words) (bank offset word : ℕ) → offset < bank_words → AreElsewhere bank offset ps
    → with_word (with_words words ps) bank offset word ≡ with_words (with_word words bank offset word) ps
past [] words bank offset word within elsewhere = refl
past (p ∷ ps) words bank offset word within elsewhere =
    past ps (with_word words p.bank p.offset p.word) bank offset word within elsewhere.1
    ∙ ap (λ ws. with_words ws ps) (sym (with_word-swap words bank offset word p.bank p.offset p.word within elsewhere.0.0 elsewhere.0.1))

-- the same of some words from a place on
abbrev AreElsewhereFrom : ℕ → ℕ → ℕ → List Placed → Type 0
AreElsewhereFrom bank offset count ps = (k : ℕ) → offset ≤ k → k < offset + count → AreElsewhere bank k ps

all_past : (ws : List ℕ) (ps : List Placed) (words : Words) (bank offset : ℕ) → offset + length ws ≤ bank_words
    → AreElsewhereFrom bank offset (length ws) ps
    → with_words (with_words words ps) (placed_from bank offset ws) ≡ with_words (with_words words (placed_from bank offset ws)) ps
all_past [] ps words bank offset room elsewhere = refl
all_past (w ∷ ws) ps words bank offset room elsewhere =
    let first : AreElsewhere bank offset ps = elsewhere offset (omega arith) (omega arith) in
    ap (λ before. with_words before (placed_from bank (offset + 1) ws)) (past ps words bank offset w (omega arith) first)
    ∙ all_past ws ps (with_word words bank offset w) bank (offset + 1) (omega arith)
    (λ k from below. elsewhere k (omega arith) (omega arith))

-- later offsets of a bank
later_offsets : (ws : List ℕ) (bank offset from : ℕ) → offset + 1 ≤ from → from + length ws ≤ bank_words
    → AreElsewhere bank offset (placed_from bank from ws)
later_offsets [] bank offset from lt room = tt
later_offsets (w ∷ ws) bank offset from lt room
    = ((omega arith, inr (λ same. omega (arith, same))), later_offsets ws bank offset (from + 1) (omega arith) (omega arith))

-- words in place of as many others
replaced : (old ws : List ℕ) (words : Words) (bank offset : ℕ) → length old ≡ length ws → offset + length ws ≤ bank_words
    → with_words (with_words words (placed_from bank offset old)) (placed_from bank offset ws)
    ≡ with_words words (placed_from bank offset ws)
replaced [] [] words bank offset same room = refl
replaced [] (w ∷ ws) words bank offset same room = absurd (omega (arith, same))
replaced (v ∷ old) [] words bank offset same room = absurd (omega (arith, same))
replaced (v ∷ old) (w ∷ ws) words bank offset same room =
    ap (λ before. with_words before (placed_from bank (offset + 1) ws))
    (past (placed_from bank (offset + 1) old) (with_word words bank offset v) bank offset w (omega arith)
    (later_offsets old bank offset (offset + 1) (omega arith) (omega (arith, same))))
    ∙ ap (λ before. with_words (with_words before (placed_from bank (offset + 1) old)) (placed_from bank (offset + 1) ws))
    (with_word-again words bank offset v w)
    ∙ replaced old ws (with_word words bank offset w) bank (offset + 1) (omega (arith, same)) (omega arith)

-- ## One request among others
-- the first that passes a test, with those before it and after it
record IsSplit (test : Request → Bool) (rs : List Request) (r : Request) (rest : List Request) : Type 0 where
  front : List Request
  back : List Request
  is : rs ≡ front ++ r ∷ back
  none : filter test front ≡ []
  others : filter test back ≡ rest

split : (test : Request → Bool) (rs : List Request) (r : Request) (rest : List Request) → r ∷ rest ≡ filter test rs → IsSplit test rs r rest
split test [] r rest e = absurd (cc)
split test (q ∷ qs) r rest e =
    elim (cases_Bool (test q)) [
      | inl passes ↦
          let is : r ∷ rest ≡ q ∷ filter test qs = rw passes at e in
          let same : r ≡ q = cc in
          let others : rest ≡ filter test qs = cc in
          record { front = []; back = qs; is = ap (λ (x : Request). x ∷ qs) (sym same); none = refl; others = sym others }
      | inr fails ↦
          let later : IsSplit test qs r rest = split test qs r rest (rw fails at e) in
          record {
            front = q ∷ later.front;
            back = later.back;
            is = ap (λ xs. q ∷ xs) later.is;
            none = rw fails later.none;
            others
                = later.others;
          }
    ]

from-off : (line : ℕ) (qs : List Request) → AreFrom (line + 1) qs → AreOff line qs
from-off line [] from = tt
from-off line (q ∷ qs) from = ((λ same. omega (arith, same, from.0)), from-off line qs from.1)

from-middle : (line : ℕ) (front back : List Request) (r : Request) → AreFrom line (front ++ r ∷ back) → line ≤ r.line
from-middle line [] back r from = from.0
from-middle line (f ∷ front) back r from = from-middle line front back r from.1

-- the others are of other lines
rising-front : (front back : List Request) (r : Request) → AreRising (front ++ r ∷ back) → AreOff r.line front
rising-front [] back r rising = tt
rising-front (f ∷ front) back r rising =
    let later : f.line + 1 ≤ r.line = from-middle (f.line + 1) front back r rising.0 in
    ((λ same. omega (arith, same, later)), rising-front front back r rising.1)

rising-back : (front back : List Request) (r : Request) → AreRising (front ++ r ∷ back) → AreOff r.line back
rising-back [] back r rising = from-off r.line back rising.0
rising-back (f ∷ front) back r rising = rising-back front back r rising.1

-- a place of fixed memory for each word
abbrev IsWithin : Request → Type 0
IsWithin r = (r.bank < banks) × (r.offset + width r.content ≤ bank_words)

within-middle : (front back : List Request) (r : Request) → AreWithin (front ++ r ∷ back) → IsWithin r × AreWithin back
within-middle [] back r within = (All-head IsWithin r back within, All-tail IsWithin r back within)
within-middle (f ∷ front) back r within = within-middle front back r (All-tail IsWithin f (front ++ r ∷ back) within)

-- none of some requests asks for a place of this one
abbrev AreClear : Request → List Request → Type 0
AreClear r [] = Unit {0}
AreClear r (q ∷ qs) = ((stands_at q.bank q.offset r ≡ false) × (1 < width q.content → stands_at q.bank (q.offset + 1) r ≡ false))
    × AreClear r qs

not_met : (test : Request → Bool) (before after : List Request) (r : Request) → list_any test (before ++ r ∷ after) ≡ false → test r ≡ false
not_met test before after r none =
    (or_parts (test r) (list_any test after) (or_parts (list_any test before) (list_any test (r ∷ after))
    (sym (list_any-append test before (r ∷ after)) ∙ none)).1).0

clear : (before after : List Request) (r : Request) (qs : List Request) → AreApart (before ++ r ∷ after) qs → AreClear r qs
clear before after r [] apart = tt
clear before after r (q ∷ qs) apart =
    let none = meets_not (before ++ r ∷ after) q apart.0 in
    let later : AreApart (before ++ r ∷ (after ++ q ∷ [])) qs = subst (λ others. AreApart others qs)
    (append_assoc before (r ∷ after) (q ∷ [])) apart.1 in (
      (
        not_met (stands_at q.bank q.offset) before after r none.0,
        λ two. not_met (stands_at q.bank (q.offset + 1)) before after r
            (none.1 two),
      ),
      clear before (after ++ q ∷ []) r qs later,
    )

apart-back : (before front back : List Request) (r : Request) → AreApart before (front ++ r ∷ back) → AreClear r back
apart-back before [] back r apart = clear before [] r back apart.1
apart-back before (f ∷ front) back r apart = apart-back (before ++ f ∷ []) front back r apart.1

other_place : (bank offset k : ℕ) (r : Request) → stands_at bank offset r ≡ false → r.offset ≤ k → k < r.offset + width r.content
    → (bank ≢ r.bank) ⊎ (offset ≢ k)
other_place bank offset k r none from below =
    elim (cases_eq bank r.bank) [ inl same ↦ inr (λ at. grind (arith, nat_tests)) | inr other ↦ inl other ]

-- the words of one stand elsewhere
elsewhere-words : (ws : List ℕ) (q r : Request) (k : ℕ) → length ws ≡ width q.content → q.offset + width q.content ≤ bank_words
    → (stands_at q.bank q.offset r ≡ false) × (1 < width q.content → stands_at q.bank (q.offset + 1) r ≡ false)
    → r.offset ≤ k → k < r.offset + width r.content → AreElsewhere r.bank k (placed_from q.bank q.offset ws)
elsewhere-words [] q r k wide room none from below = tt
elsewhere-words (w ∷ []) q r k wide room none from below = ((omega (arith, wide), other_place q.bank q.offset k r none.0 from below), tt)
elsewhere-words (w ∷ v ∷ []) q r k wide room none from below =
    let two : 1 < width q.content = omega (arith, wide) in (
      (omega (arith, wide), other_place q.bank q.offset k r none.0 from below),
      ((omega (arith, wide), other_place q.bank (q.offset + 1) k r (none.1 two) from below), tt),
    )
elsewhere-words (w ∷ v ∷ u ∷ ws) q r k wide room none from below = absurd (omega (arith, wide, few_words q.content))

module _ (table : List (List ℕ × Value)) where
  elsewhere-all : (waiting : List Request) (qs : List Request) (r : Request) → AreWithin qs → AreClear r qs
      → AreElsewhereFrom r.bank r.offset (width r.content) (flat_map (places table waiting) qs)
  elsewhere-all waiting [] r within none = λ k from below. tt
  elsewhere-all waiting (q ∷ qs) r within none = λ k from below.
      elsewhere-append r.bank k (places table waiting q) (flat_map (places table waiting) qs)
      (elsewhere-words (standing_words table waiting q) q r k (standing-width table waiting q) (All-head IsWithin q qs within).1 none.0 from
      below)
      (elsewhere-all waiting qs r (All-tail IsWithin q qs within) none.1 k from below)

  rope-split : (waiting front back : List Request) (r : Request)
      → standing_rope table waiting (front ++ r ∷ back)
      ≡ with_words (with_words (with_words no_words (flat_map (places table waiting) front)) (places table waiting r))
      (flat_map (places table waiting) back)
  unfolding standing_rope
  rope-split waiting front back r =
      ap (with_words no_words) (flat_map-append (places table waiting) front (r ∷ back))
      ∙ with_words-append no_words (flat_map (places table waiting) front) (places table waiting r ++ flat_map (places table waiting) back)
      ∙ with_words-append (with_words no_words (flat_map (places table waiting) front)) (places table waiting r)
      (flat_map (places table waiting) back)

  -- words in place of zeros, or zeros as they are
  patched-words : (r : Request) (words : Words) (ps : List Placed) (given : Result (List ℕ) FaultKind)
      → ((ws : List ℕ) → given ≡ Ok ws → length ws ≡ width r.content)
      → r.offset + width r.content ≤ bank_words → AreElsewhereFrom r.bank r.offset (width r.content) ps
      → with_words (with_words (with_words words (placed_from r.bank r.offset (replicate (width r.content) 0))) ps)
      (placed_from r.bank r.offset (result_unwrap_or given []))
      ≡ with_words (with_words words (placed_from r.bank r.offset (result_unwrap_or given (replicate (width r.content) 0)))) ps
  patched-words r words ps (Ok ws) wide room elsewhere =
      let here : length ws ≡ width r.content = wide ws refl in
      let zeros : List ℕ = replicate (width r.content) 0 in
      let clear_of : AreElsewhereFrom r.bank r.offset (length ws) ps = λ k from below. elsewhere k from (omega (arith, here, below)) in
      all_past ws ps (with_words words (placed_from r.bank r.offset (replicate (width r.content) 0))) r.bank r.offset
      (omega (arith, here, room)) clear_of
      ∙ ap (λ before. with_words before ps) (replaced (replicate (width r.content) 0) ws words r.bank r.offset
      (length-zeros (width r.content) ∙ sym here) (omega (arith, here, room)))
  patched-words r words ps (Err kind) wide room elsewhere = refl

  -- what is held, where one of those that wait has been taken from among the others
  patched : (line : ℕ) (front back waiting : List Request) (rope : Words) (told : Option Fault) (r : Request)
      → Holds line table (front ++ r ∷ back) (r ∷ waiting) rope told
      → filter (is_waiting (r ∷ waiting)) front ≡ [] → filter (is_waiting (r ∷ waiting)) back ≡ waiting
      → Holds line table (front ++ r ∷ back) waiting (with_words rope (placed table r))
      (lesser_on told r.line (least_kind (request_faults table r)))
  patched line front back waiting rope told r h none others =
      let some : List Request = r ∷ waiting in
      let off_front : AreOff r.line front = rising-front front back r h.ordered.rising in
      let off_back : AreOff r.line back = rising-back front back r h.ordered.rising in
      let within = within-middle front back r h.within in
      let alike_front : WaitAlike some waiting front = alike-first waiting r front off_front in
      let alike_back : WaitAlike some waiting back = alike-first waiting r back off_back in
      let settled : is_waiting waiting r ≡ false = none_waits waiting r
      (subst (AreOff r.line) others (off-filter r.line (is_waiting some) back off_back)) in
      let before : Words = with_words no_words (flat_map (places table waiting) front) in
      let later : List Placed = flat_map (places table waiting) back in
      let zeros : List ℕ = replicate (width r.content) 0 in
      record {
        ordered = h.ordered;
        within = h.within;
        waits = sym others ∙ filter-alike some waiting back alike_back
            ∙ ap (λ waits. cond waits (r ∷ filter (is_waiting waiting) back) (filter (is_waiting waiting) back)) (sym settled)
            ∙ ap (λ first. first ++ filter (is_waiting waiting) (r ∷ back)) (sym (sym (filter-alike some waiting front alike_front) ∙ none))
            ∙ sym (filter-append (is_waiting waiting) front (r ∷ back));
        rope = ap (λ words. with_words words (placed table r)) (
            h.rope ∙ rope-split some front back r
            ∙ ap (λ ps. with_words (with_words (with_words no_words ps) (places table some r)) (flat_map (places table some) back))
            (places-alike table some waiting front alike_front)
            ∙ ap (λ ps. with_words (with_words before (places table some r)) ps) (places-alike table some waiting back alike_back)
            ∙ ap (λ words. with_words (with_words before (placed_from r.bank r.offset words)) later)
            (words-waiting table some r (first_waits waiting r)))
            ∙ patched-words r before later (request_words table r) (width-words table r) within.0.1
            (elsewhere-all waiting back r within.1 (apart-back [] front back r h.ordered.apart))
            ∙ ap (λ words. with_words (with_words before (placed_from r.bank r.offset words)) later)
            (sym (words-settled table waiting r settled))
            ∙ sym (rope-split waiting front back r);
        fault = ap (λ first. lesser_on first r.line (least_kind (request_faults table r))) (
            h.fault ∙ ap least (faults-append table some front (r ∷ back)
            ∙ ap (λ fs. standing_faults table some front ++ fs)
            (faults-waiting table some r back (first_waits waiting r) ∙ faults-alike table some waiting back alike_back)
            ∙ ap (λ fs. fs ++ standing_faults table waiting back) (faults-alike table some waiting front alike_front)))
            ∙ sym (told_among r.line (standing_faults table waiting front) (standing_faults table waiting back) (request_faults table r)
            (faults-off table r.line waiting front off_front) (faults-off table r.line waiting back off_back))
            ∙ ap (λ fs. least (standing_faults table waiting front ++ fs)) (sym (faults-settled table waiting r back settled))
            ∙ ap least (sym (faults-append table waiting front (r ∷ back)));
      }

  -- the first of those that wait has its words
  pub holds-patched : (line : ℕ) (rs waiting : List Request) (rope : Words) (told : Option Fault) (r : Request)
      → Holds line table rs (r ∷ waiting) rope told
      → Holds line table rs waiting (with_words rope (placed table r)) (lesser_on told r.line (least_kind (request_faults table r)))
  holds-patched line rs waiting rope told r h =
      let parts : IsSplit (is_waiting (r ∷ waiting)) rs r waiting = split (is_waiting (r ∷ waiting)) rs r waiting h.waits in
      subst (λ qs. Holds line table qs waiting (with_words rope (placed table r))
      (lesser_on told r.line (least_kind (request_faults table r)))) (sym parts.is)
      (patched line parts.front parts.back waiting rope told r (subst (λ qs. Holds line table qs (r ∷ waiting) rope told) parts.is h)
      parts.none parts.others)

  some_word : (content : Content) → 1 ≤ width content
  some_word (Constant number) = omega arith
  some_word content = omega arith

  stands-middle : (front back : List Request) (r : Request) (bank offset : ℕ) → stands_at bank offset r ≡ true
      → list_any (stands_at bank offset) (front ++ r ∷ back) ≡ true
  stands-middle [] back r bank offset here = rw here refl
  stands-middle (f ∷ front) back r bank offset here =
      elim (cases_Bool (stands_at bank offset f)) [
        | inl first ↦ rw first refl
        | inr other ↦ rw other
            (stands-middle front back r bank offset here)
      ]

  stands-own : (k : ℕ) (r : Request) → k < width r.content → stands_at r.bank (r.offset + k) r ≡ true
  stands-own k r lt = grind (arith, nat_tests)

  -- zeros stand in the places of a request that waits
  pub stands-waiting : (line : ℕ) (rs waiting : List Request) (rope : Words) (told : Option Fault) (r : Request)
      → Holds line table rs (r ∷ waiting) rope told
      → (stands rope r.bank r.offset ≡ true) × (1 < width r.content → stands rope r.bank (r.offset + 1) ≡ true)
  stands-waiting line rs waiting rope told r h =
      let parts : IsSplit (is_waiting (r ∷ waiting)) rs r waiting = split (is_waiting (r ∷ waiting)) rs r waiting h.waits in
      let at = λ (k : ℕ) (lt : k < width r.content).
      stands-held line table rs (r ∷ waiting) rope told r.bank (r.offset + k) h ∙ ap (list_any (stands_at r.bank (r.offset + k))) parts.is
      ∙ stands-middle parts.front parts.back r r.bank (r.offset + k) (stands-own k r lt) in
      (subst (λ (o : ℕ). stands rope r.bank o ≡ true) (omega arith) (at 0 (omega (arith, some_word r.content))), λ two. at 1 two)

  -- fixed memory has the places of a request that waits
  pub within-waiting : (line : ℕ) (rs waiting : List Request) (rope : Words) (told : Option Fault) (r : Request)
      → Holds line table rs (r ∷ waiting) rope told
      → (r.bank < banks) × (r.offset + width r.content ≤ bank_words)
  within-waiting line rs waiting rope told r h =
      let parts : IsSplit (is_waiting (r ∷ waiting)) rs r waiting = split (is_waiting (r ∷ waiting)) rs r waiting h.waits in
      (within-middle parts.front parts.back r (subst AreWithin parts.is h.within)).0
