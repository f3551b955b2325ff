-- Where words lead without a branch, worked out by hand.
use Rattle.std.proofs.Common.{◌≡◌, ℕ, true, false, [], ◌∷◌, Option, None, Some, map, refl}
use Rattle.space.specs.Places.{place}
use Rattle.space.specs.declared.place.Linear.TheVariants.{Fixed}
use Rattle.rope.specs.Places.{Words, word_at}
use Rattle.cpu.specs.State.{State}
use Rattle.cpu.specs.Codes.{basic_rows, code_of, extracode_rows}
use Rattle.cpu.specs.Effects.{place_in}
use Rattle.branches.specs.Leading.{leads_to, name_of, named_by, onward_by, plain}
use Rattle.branches.specs.declared.stand.Stand.{Stand}

-- at 4001; under extracode, and with a sum of INDEX
abbrev here : Stand
here = plain 0o4001

abbrev extra : Stand
extra = record { address = 0o4001; extra = true; indexed = false }

abbrev indexed : Stand
indexed = record { address = 0o4001; extra = false; indexed = true }

-- a word there
on_from : Stand → ℕ → Option Stand
on_from at word = onward_by (name_of at.extra word) at (named_by at.extra word)

-- CA 4010, TS 100 and DXCH 10 go on; TCF 4010 jumps, and TC 4010 comes back
plainly : map (on_from here) (0o34010 ∷ 0o54100 ∷ 0o52011 ∷ 0o14010 ∷ 0o4010 ∷ [])
    ≡ Some (plain 0o4002) ∷ Some (plain 0o4002) ∷ Some (plain 0o4002) ∷ Some (plain 0o4010) ∷ Some (plain 0o4002) ∷ []
unfolding on_from basic_rows code_of
plainly = refl

-- RETURN, which is TC Q, TC 0, as an empty word is, TC 4001, which is TC to itself, CCS 100, RESUME; DTCF, DTCB and TCAA
ended : map (on_from here) (2 ∷ 0 ∷ 0o4001 ∷ 0o10100 ∷ 0o50017 ∷ 0o52005 ∷ 0o52006 ∷ 0o54005 ∷ [])
    ≡ None ∷ None ∷ None ∷ None ∷ None ∷ None ∷ None ∷ None ∷ []
unfolding on_from basic_rows code_of
ended = refl

-- EXTEND and INDEX 100
waiting : map (on_from here) (6 ∷ 0o50100 ∷ [])
    ≡ Some (record { address = 0o4002; extra = true; indexed = false })
    ∷ Some (record { address = 0o4002; extra = false; indexed = true }) ∷ []
unfolding on_from basic_rows code_of
waiting = refl

-- extracodes: BZF 4010 and BZMF 4010, MP 4010, WRITE 11, and INDEX 100, which keeps extracode
extracodes : map (on_from extra) (0o14010 ∷ 0o64010 ∷ 0o74010 ∷ 0o1011 ∷ 0o50100 ∷ [])
    ≡ None ∷ None ∷ Some (plain 0o4002) ∷ Some (plain 0o4002)
    ∷ Some (record { address = 0o4002; extra = true; indexed = true }) ∷ []
unfolding on_from extracode_rows code_of
extracodes = refl

-- after INDEX: TCF leads where no word tells, TC comes back, AD goes on
moved : map (on_from indexed) (0o14010 ∷ 0o4010 ∷ 0o64010 ∷ []) ≡ None ∷ Some (plain 0o4002) ∷ Some (plain 0o4002) ∷ []
unfolding on_from basic_rows code_of
moved = refl

-- the word after 7777 is at 0
wrapped : on_from (plain 0o7777) 0o34010 ≡ Some (plain 0)
unfolding on_from basic_rows code_of
wrapped = refl

-- DXCH 10 at 4014 and TCF 4104 behind it, where interrupt 3 is entered: that leads to 4104, and 3 words are needed
module _ (words : Words) (s : State) (first : word_at words 2 0o14 ≡ 0o52011) (second : word_at words 2 0o15 ≡ 0o14104)
    (third : word_at words 2 0o104 ≡ 0o10100) where
  entered : leads_to words s (Fixed 2 0o104) 3 (plain 0o4014) ≡ true
  unfolding leads_to place_in place basic_rows code_of
  entered = rw (first, second) refl

  too_far : leads_to words s (Fixed 2 0o104) 2 (plain 0o4014) ≡ false
  unfolding leads_to place_in place basic_rows code_of
  too_far = rw (first, second) refl

  -- CCS 100 stands there: no word tells the way to the next
  no_further : leads_to words s (Fixed 2 0o105) 9 (plain 0o4014) ≡ false
  unfolding leads_to place_in place basic_rows code_of
  no_further = rw (first, second, third) refl

-- TC 4104 calls the routine there, and TC 4200 comes back
module _ (words : Words) (s : State) (first : word_at words 2 0 ≡ 0o4200) (second : word_at words 2 1 ≡ 0o4104)
    (third : word_at words 2 2 ≡ 2) where
  called : leads_to words s (Fixed 2 0o104) 9 (plain 0o4000) ≡ true
  unfolding leads_to place_in place basic_rows code_of
  called = rw (first, second) refl

  not_behind : leads_to words s (Fixed 2 3) 9 (plain 0o4000) ≡ false
  unfolding leads_to place_in place basic_rows code_of
  not_behind = rw (first, second, third) refl
