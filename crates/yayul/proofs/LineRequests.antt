-- The requests of faultless lines: their lines rise, and their places are apart.
use Rattle.std.proofs.Common.{◌≡◌, ℕ, ◌+◌, ◌≤◌, Bool, true, false, ◌&&◌, ◌||◌, nat_lt, List, [], ◌∷◌, ◌++◌, Option, Some, None, Result, Ok}
use Rattle.std.proofs.Common.{Err, refl, ap, sym, subst, ◌∙◌, inl, inr, arith, append_assoc, append-nil}
use Rattle.std.proofs.lemmas.Bool.{cases_lt, lt-ltb, le-ltb}
use Rattle.std.proofs.lemmas.Bool.Decides.{nat_tests}
use Rattle.std.proofs.lemmas.Option.{same_Some}
use Rattle.std.specs.Prelude.{◌⊎◌}
use Rattle.std.specs.List.{list_any}
use Rattle.std.specs.Option.{option_map_or}
use Rattle.std.specs.Result.{result_unwrap_or}
use Rattle.rope.specs.Places.{bank_words}
use Rattle.yayul.specs.Layout.{LineEffect, statement_on, Request, and_then, value_here, defined, asked, asked_here, fault_if, standing}
use Rattle.yayul.specs.Layout.{on_line, Layout, width, lacks_room, after_words, stands_at, is_taken, is_malformed, is_twice, is_erasable}
use Rattle.yayul.specs.Layout.{word_place, gives, statement_effect, text_faults, line_effect, line_faults, layout_after, layout_faults}
use Rattle.yayul.specs.Inside.Sound.{AreFrom, AreRising, AreApart, AreBelow, AreOrdered, meets}
use Rattle.yayul.specs.declared.faults.Fault.{Fault}
use Rattle.yayul.specs.declared.faults.FaultKind.{FaultKind}
use Rattle.yayul.specs.declared.faults.FaultKind.TheVariants.{BadLabel, TwiceDefined, BankFull, PlaceTaken, CodeInErasable}
use Rattle.yayul.specs.declared.language.Location.{Location}
use Rattle.yayul.specs.declared.language.Location.TheVariants as location
use Rattle.yayul.specs.declared.language.Label.{Label}
use Rattle.yayul.specs.declared.language.Label.TheVariants.{Missing, Malformed, Named}
use Rattle.yayul.specs.declared.language.Operation.{Operation}
use Rattle.yayul.specs.declared.language.Operation.TheVariants.{Nothing, Unknown, Setloc, Bank, Erase, Equals, Ebank, Gives}
use Rattle.yayul.specs.declared.language.Content.{Content}
use Rattle.symbols.specs.declared.values.Value.{Value}
use Rattle.symbols.specs.declared.values.Value.TheVariants.{Fixed}
use Rattle.yayul.proofs.Equalled.{by_later, promise_requests}
use Rattle.yayul.proofs.TakenPlaces.{or-parts}

-- a request asks for a word at a place
abbrev is_asked_at : List Request → Option (ℕ × ℕ) → Bool
is_asked_at requests place = option_map_or (λ p. list_any (stands_at p.0 p.1) requests) place false

-- the request for words of a content at a place
abbrev pub request_for : ℕ → Layout → Content → ℕ × ℕ → Request
request_for line s content place =
    record { line = line; bank = place.0; offset = place.1; content = content; extracode = s.extracode; eb = s.eb }

-- what stands after one line: what stood before it, or the words of one request more, at places that no earlier line asks for
abbrev IsNext : ℕ → List Request → List Request → Type 0
IsNext line before after =
    (after ≡ before) ⊎ ((r : Request) × ((after ≡ before ++ r ∷ []) × ((r.line ≡ line) × (meets before r ≡ false))))

-- where no condition stands, the first does not, nor do the others
pub none_stands : (b : Bool) (kind : FaultKind) (cs : List (Option FaultKind)) → standing (fault_if b kind ∷ cs) ≡ []
    → (b ≡ false) × (standing cs ≡ [])
none_stands true kind cs e = absurd (let bad : kind ∷ standing cs ≡ [] = e in cc)
none_stands false kind cs e = (refl, e)

-- a faultless line that gives words has room for them, where none stands, in fixed memory
pub room_for : (line : ℕ) (s : Layout) (label : Label) (content : Content) → (gives line s label content).faults ≡ []
    → (lacks_room (width content) s.location ≡ false) × ((is_taken s (width content) ≡ false) × (is_erasable s.location ≡ false))
room_for line s label content e =
    let last : List (Option FaultKind) = fault_if (is_erasable s.location) CodeInErasable ∷ [] in
    let taken : List (Option FaultKind) = fault_if (is_taken s (width content)) PlaceTaken ∷ last in
    let full : List (Option FaultKind) = fault_if (lacks_room (width content) s.location) BankFull ∷ taken in
    let a = none_stands (is_malformed label) BadLabel (fault_if (is_twice s label) TwiceDefined ∷ full) e in
    let b = none_stands (is_twice s label) TwiceDefined full a.1 in
    let c = none_stands (lacks_room (width content) s.location) BankFull taken b.1 in
    let d = none_stands (is_taken s (width content)) PlaceTaken last c.1 in
    (c.0, (d.0, (none_stands (is_erasable s.location) CodeInErasable [] d.1).0))

pub free_place : (line : ℕ) (s : Layout) (label : Label) (content : Content) → (gives line s label content).faults ≡ []
    → (lacks_room (width content) s.location ≡ false) × (is_taken s (width content) ≡ false)
free_place line s label content e = let room = room_for line s label content e in (room.0, room.1.0)

-- where the location has room for so many words, its bank has
pub room_left : (l : Location) (count bank offset : ℕ) → word_place l ≡ Some (bank, offset) → lacks_room count l ≡ false
    → offset + count ≤ bank_words
room_left (location.Erasable n) count bank offset here room = absurd (let bad : None ≡ Some (bank, offset) = here in cc)
room_left (location.Fixed b n) count bank offset here room =
    elim (cases_lt n 0o2000) [
      | inr past ↦ absurd (let bad : None ≡ Some (bank, offset) = rw (le-ltb n 0o2000 past) at here in cc)
      | inl in_bank ↦
          let is : ◌≡◌ {A = Option (ℕ × ℕ)} (Some (b, n)) (Some (bank, offset)) = rw (lt-ltb n 0o2000 in_bank) at here in
          let same : ◌≡◌ {A = ℕ} n offset = ap (λ (p : ℕ × ℕ). p.1) (same_Some (b, n) (bank, offset) is) in
          grind (arith, nat_tests)
    ]

-- where so many words have room at a place, and none stands there, no request meets one for them
pub meets_none : (s : Layout) (r : Request) → word_place s.location ≡ Some (r.bank, r.offset)
    → lacks_room (width r.content) s.location ≡ false
    → is_taken s (width r.content) ≡ false → meets s.requests r ≡ false
meets_none s r here room free = by_location s.requests s.location (width r.content) r.bank r.offset here room free
  where
    second : (rs : List Request) (n count bank : ℕ) → nat_lt 0o2000 (n + count) ≡ false
        → (nat_lt 1 count && is_asked_at rs (word_place (location.Fixed bank (n + 1)))) ≡ false
        → (nat_lt 1 count && list_any (stands_at bank (n + 1)) rs) ≡ false
    second rs n count bank room free =
        elim (cases_lt 1 count) [
          | inr one ↦ rw (le-ltb 1 count one) refl
          | inl two ↦
              let within : nat_lt (n + 1) 0o2000 ≡ true = grind (arith, nat_tests) in
              rw within at free
        ]

    by_location : (rs : List Request) (l : Location) (count bank offset : ℕ) → word_place l ≡ Some (bank, offset)
        → lacks_room count l ≡ false
        → (is_asked_at rs (word_place l) || (nat_lt 1 count && is_asked_at rs (word_place (after_words 1 l)))) ≡ false
        → (list_any (stands_at bank offset) rs || (nat_lt 1 count && list_any (stands_at bank (offset + 1)) rs)) ≡ false
    by_location rs (location.Erasable n) count bank offset here room free = absurd (let bad : None ≡ Some (bank, offset) = here in cc)
    by_location rs (location.Fixed b n) count bank offset here room free =
        elim (cases_lt n 0o2000) [
          | inr past ↦ absurd (let bad : None ≡ Some (bank, offset) = rw (le-ltb n 0o2000 past) at here in cc)
          | inl in_bank ↦
              let is : Some (b, n) ≡ Some (bank, offset) = rw (lt-ltb n 0o2000 in_bank) at here in
              let same : (b, n) ≡ (bank, offset) = same_Some (b, n) (bank, offset) is in
              let parts = or-parts (is_asked_at rs (word_place (location.Fixed b n)))
              (nat_lt 1 count && is_asked_at rs (word_place (location.Fixed b (n + 1)))) free in
              let first : list_any (stands_at b n) rs ≡ false = rw (lt-ltb n 0o2000 in_bank) at parts.0 in
              let both : (list_any (stands_at b n) rs || (nat_lt 1 count && list_any (stands_at b (n + 1)) rs))
              ≡ false = rw (first) (second rs n count b room parts.1) in
              subst (λ (p : ℕ × ℕ). (list_any (stands_at p.0 p.1) rs || (nat_lt 1 count && list_any (stands_at p.0 (p.1 + 1)) rs)) ≡ false)
              same both
        ]

-- the words of a content from a location on, where they may stand and none stands
asked_next : (line : ℕ) (s : Layout) (content : Content) (place : Option (ℕ × ℕ)) → word_place s.location ≡ place
    → lacks_room (width content) s.location ≡ false
    → is_taken s (width content) ≡ false → IsNext line s.requests
    (option_map_or (λ p. asked s (request_for line s content p)) place s).requests
asked_next line s content None here room free = inl refl
asked_next line s content (Some place) here room free =
    inr (request_for line s content place, (refl, (refl, meets_none s (request_for line s content place) here room free)))

-- a name more leaves the location and the requests as they are
pub defined_keeps : (s : Layout) (label : Label) (value : Value)
    → ((defined s label value).location ≡ s.location) × ((defined s label value).requests ≡ s.requests)
defined_keeps s Missing value = (refl, refl)
defined_keeps s Malformed value = (refl, refl)
defined_keeps s (Named name) value = (refl, refl)

gives_next : (line : ℕ) (s : Layout) (label : Label) (content : Content) → (gives line s label content).faults ≡ []
    → IsNext line s.requests (gives line s label content).after.requests
gives_next line s label content e = by_label label (free_place line s label content e)
  where
    by_label : (l : Label) → (lacks_room (width content) s.location ≡ false) × (is_taken s (width content) ≡ false)
        → IsNext line s.requests (asked_here line (defined s l (value_here s.location)) content).requests
    by_label Missing free = asked_next line s content (word_place s.location) refl free.0 free.1
    by_label Malformed free = asked_next line s content (word_place s.location) refl free.0 free.1
    by_label (Named name) free = asked_next line (defined s (Named name) (value_here s.location)) content (word_place s.location) refl
        free.0 free.1

label_next : (line : ℕ) (s : Layout) (label : Label) (value : Value) → IsNext line s.requests (defined s label value).requests
label_next line s label value = inl (defined_keeps s label value).1

equals_next : (line : ℕ) (s : Layout) (label : Label) (value : Result Value FaultKind)
    → IsNext line s.requests (result_unwrap_or (and_then (λ v. Ok (defined s label v)) value) s).requests
equals_next line s label (Ok value) = label_next line s label value
equals_next line s label (Err kind) = inl refl

statement_next : (line : ℕ) (s : Layout) (label : Label) (operation : Operation) → (statement_effect line s label operation).faults ≡ []
    → IsNext line s.requests (statement_effect line s label operation).after.requests
statement_next line s label Nothing e = label_next line s label (value_here s.location)
statement_next line s label Unknown e = inl refl
statement_next line s label (Setloc operand) e = inl refl
statement_next line s label (Bank taken number) e = inl refl
statement_next line s label (Erase count) e = label_next line s label (value_here s.location)
statement_next line s label (Equals operand) e =
    by_later (λ (x : LineEffect). IsNext line s.requests x.after.requests) line s label operand (λ value. equals_next line s label value)
    (λ o. inl (promise_requests line s label o))
statement_next line s label (Ebank operand) e = inl refl
statement_next line s label (Gives None) e = inl refl
statement_next line s label (Gives (Some content)) e = gives_next line s label content e

pub no_others : (kinds others : List FaultKind) → kinds ++ others ≡ [] → others ≡ []
no_others [] others e = e
no_others (k ∷ kinds) others e = absurd (cc)

-- what a faultless line asks for
line_next : (line : ℕ) (s : Layout) (text : List ℕ) → line_faults line s text ≡ []
    → IsNext line s.requests (line_effect line s text).after.requests
unfolding line_effect
line_next line s text e =
    statement_next line s (statement_on s text).label (statement_on s text).operation
    (no_others (text_faults s.language line text) (line_effect line s text).faults e)

from-push : (n : ℕ) (rs : List Request) (r : Request) → AreFrom n rs → n ≤ r.line → AreFrom n (rs ++ r ∷ [])
from-push n [] r p le = (le, tt)
from-push n (q ∷ rs) r p le = (p.0, from-push n rs r p.1 le)

rising-push : (rs : List Request) (r : Request) → AreRising rs → AreBelow r.line rs → AreRising (rs ++ r ∷ [])
rising-push [] r p below = (tt, tt)
rising-push (q ∷ rs) r p below = (from-push (q.line + 1) rs r p.0 below.0, rising-push rs r p.1 below.1)

apart-push : (before rs : List Request) (r : Request) → AreApart before rs → meets (before ++ rs) r ≡ false → AreApart before (rs ++ r ∷ [])
apart-push before [] r p e = (ap (λ qs. meets qs r) (sym (append-nil before)) ∙ e, tt)
apart-push before (q ∷ rs) r p e =
    (p.0, apart-push (before ++ q ∷ []) rs r p.1 (ap (λ qs. meets qs r) (append_assoc before (q ∷ []) rs) ∙ e))

below-push : (n : ℕ) (rs : List Request) (r : Request) → AreBelow n rs → r.line ≡ n → AreBelow (n + 1) (rs ++ r ∷ [])
below-push n [] r p e = (omega arith, tt)
below-push n (q ∷ rs) r p e = (omega (arith, p.0), below-push n rs r p.1 e)

below-more : (n : ℕ) (rs : List Request) → AreBelow n rs → AreBelow (n + 1) rs
below-more n [] p = tt
below-more n (q ∷ rs) p = (omega (arith, p.0), below-more n rs p.1)

pub ordered-next : (line : ℕ) (rs after : List Request) → AreOrdered line rs → IsNext line rs after → AreOrdered (line + 1) after
ordered-next line rs after p (inl same) =
    rw same (record { rising = p.rising; apart = p.apart; below = below-more line rs p.below })
ordered-next line rs after p (inr (r, next)) =
    rw next.0 (record {
      rising = rising-push rs r p.rising (rw next.1.0 p.below);
      apart = apart-push [] rs r p.apart next.1.1;
      below = below-push line rs r p.below next.1.0;
    })

pub head_faults : (line : ℕ) (kinds : List FaultKind) (later : List Fault) → on_line line kinds ++ later ≡ [] → (kinds ≡ []) × (later ≡ [])
head_faults line [] later e = (refl, e)
head_faults line (k ∷ kinds) later e = absurd (cc)

-- the requests of faultless lines rise and are apart
ordered_after : (texts : List (List ℕ)) (line : ℕ) (s : Layout) → AreOrdered line s.requests → layout_faults line s texts ≡ []
    → AreRising (layout_after line s texts).requests × AreApart [] (layout_after line s texts).requests
ordered_after [] line s p none = (p.rising, p.apart)
ordered_after (text ∷ texts) line s p none =
    let parts = head_faults line (line_faults line s text) (layout_faults (line + 1) (line_effect line s text).after texts) none in
    ordered_after texts (line + 1) (line_effect line s text).after
    (ordered-next line s.requests (line_effect line s text).after.requests p (line_next line s text parts.0)) parts.1

pub ordered : (texts : List (List ℕ)) (s t : Layout) → s.requests ≡ [] → t ≡ layout_after 1 s texts → layout_faults 1 s texts ≡ []
    → AreRising t.requests × AreApart [] t.requests
ordered texts s t e after none =
    let first : AreOrdered 1 s.requests = rw e (record { rising = tt; apart = tt; below = tt }) in
    let both = ordered_after texts 1 s first none in
    rw after both

-- the value of a location where a word may stand
pub here_value : (l : Location) (bank offset : ℕ) → word_place l ≡ Some (bank, offset) → value_here l ≡ Fixed bank offset
here_value (location.Erasable n) bank offset here = absurd (let bad : None ≡ Some (bank, offset) = here in cc)
here_value (location.Fixed b n) bank offset here =
    elim (cases_lt n 0o2000) [
      | inr past ↦ absurd (let bad : None ≡ Some (bank, offset) = rw (le-ltb n 0o2000 past) at here in cc)
      | inl in_bank ↦
          let is : ◌≡◌ {A = Option (ℕ × ℕ)} (Some (b, n)) (Some (bank, offset)) = rw (lt-ltb n 0o2000 in_bank) at here in
          ap (λ (p : ℕ × ℕ). Fixed p.0 p.1) (same_Some (b, n) (bank, offset) is)
    ]
