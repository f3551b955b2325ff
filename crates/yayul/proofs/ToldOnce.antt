-- Each fault of a source is told once.
use Rattle.std.proofs.Common.{◌≡◌, ℕ, ◌+◌, ◌≤◌, ◌==◌, Bool, true, false, ◌&&◌, ◌||◌, not, cond, List, [], ◌∷◌, ◌++◌, Option, map, refl, ap}
use Rattle.std.proofs.Common.{sym, ◌∙◌, arith}
use Rattle.std.specs.List.{list_any, filter}
use Rattle.std.proofs.lemmas.Bool.{and_left, and_right, eq-eqb, ne_eqb}
use Rattle.std.proofs.lemmas.List.Folds.{list_any-append}
use Rattle.yayul.specs.Layout.{fault_number}
use Rattle.yayul.specs.Laws.{same_fault, StandEachOnce, FindingsStandOnce}
use Rattle.yayul.specs.Survey.{Survey, unmarked, operation_on, doubt, follows, is_beyond, kinds_in_order, kinds_on, is_one_of, finding}
use Rattle.yayul.specs.Survey.{taken_by, line_kinds, passed_line, passed_lines, settled_survey, told_line, told_lines, looked_at, told}
use Rattle.yayul.specs.Language.{Language, FaultKind}
use Rattle.yayul.specs.declared.finding.Finding.{Finding}
use Rattle.yayul.proofs.TakenPlaces.{or-parts}

-- no kind is the kind of a later one
abbrev Differ : List FaultKind → Type 0
Differ [] = Unit {0}
Differ (k ∷ kinds) = (is_one_of kinds k ≡ false) × Differ kinds

-- findings on one line
abbrev StandOn : ℕ → List Finding → Type 0
StandOn line [] = Unit {0}
StandOn line (f ∷ fs) = (f.line ≡ line) × StandOn line fs

-- findings from a line on
abbrev StandFrom : ℕ → List Finding → Type 0
StandFrom line [] = Unit {0}
StandFrom line (f ∷ fs) = (line ≤ f.line) × StandFrom line fs

none_same : (test : FaultKind → Bool) (language : Language) (line : ℕ) (text : List ℕ) (taken : Option ℕ) (k : FaultKind)
    (kinds : List FaultKind) → is_one_of kinds k ≡ false
    → list_any (same_fault (finding language line text taken k)) (map (finding language line text taken) (filter test kinds)) ≡ false
none_same test language line text taken k [] e = refl
none_same test language line text taken k (j ∷ kinds) e =
    by_test (or-parts (fault_number j == fault_number k) (is_one_of kinds k) e).0
    (none_same test language line text taken k kinds (or-parts (fault_number j == fault_number k) (is_one_of kinds k) e).1) (test j)
  where
    by_test : (fault_number j == fault_number k) ≡ false
        → list_any (same_fault (finding language line text taken k)) (map (finding language line text taken) (filter test kinds)) ≡ false
        → (b : Bool) → list_any (same_fault (finding language line text taken k))
        (map (finding language line text taken) (cond b (j ∷ filter test kinds) (filter test kinds))) ≡ false
    by_test other later false = later
    by_test other later true =
        ap (λ b. b || list_any (same_fault (finding language line text taken k))
        (map (finding language line text taken) (filter test kinds)))
        (and_right (line == line) (fault_number j == fault_number k) other) ∙ later

kinds_once : (test : FaultKind → Bool) (language : Language) (line : ℕ) (text : List ℕ) (taken : Option ℕ) (kinds : List FaultKind)
    → Differ kinds → StandEachOnce (map (finding language line text taken) (filter test kinds))
kinds_once test language line text taken [] differ = tt
kinds_once test language line text taken (k ∷ kinds) differ = by_test (none_same test language line text taken k kinds differ.0)
    (kinds_once test language line text taken kinds differ.1) (test k)
  where
    by_test : list_any (same_fault (finding language line text taken k)) (map (finding language line text taken) (filter test kinds))
        ≡ false → StandEachOnce (map (finding language line text taken) (filter test kinds))
        → (b : Bool) → StandEachOnce (map (finding language line text taken) (cond b (k ∷ filter test kinds) (filter test kinds)))
    by_test other later true = (other, later)
    by_test other later false = later

on_line : (language : Language) (line : ℕ) (text : List ℕ) (taken : Option ℕ) (kinds : List FaultKind)
    → StandOn line (map (finding language line text taken) kinds)
on_line language line text taken [] = tt
on_line language line text taken (k ∷ kinds) = (refl, on_line language line text taken kinds)

none_later : (f : Finding) (line : ℕ) (later : List Finding) → f.line ≡ line → StandFrom (line + 1) later
    → list_any (same_fault f) later ≡ false
none_later f line [] here from = refl
none_later f line (g ∷ later) here from =
    ap (λ b. b || list_any (same_fault f) later) (and_left (g.line == f.line) (fault_number g.kind == fault_number f.kind)
    (ne_eqb g.line f.line (λ same. omega (arith, same, here, from.0))))
    ∙ none_later f line later here from.1

joined_once : (line : ℕ) (here later : List Finding) → StandOn line here → StandFrom (line + 1) later → StandEachOnce here
    → StandEachOnce later → StandEachOnce (here ++ later)
joined_once line [] later on from here_once later_once = later_once
joined_once line (f ∷ here) later on from here_once later_once = (
  list_any-append (same_fault f) here later ∙ ap (λ b. b || list_any (same_fault f) later) here_once.0 ∙ none_later f line later on.0 from,
  joined_once line here later on.1 from here_once.1 later_once,
)

from_on : (a line : ℕ) (here : List Finding) → a ≤ line → StandOn line here → StandFrom a here
from_on a line [] le on = tt
from_on a line (f ∷ here) le on = (omega (arith, le, on.0), from_on a line here le on.1)

from_less : (a b : ℕ) (fs : List Finding) → a ≤ b → StandFrom b fs → StandFrom a fs
from_less a b [] le from = tt
from_less a b (f ∷ fs) le from = (omega (arith, le, from.0), from_less a b fs le from.1)

from_both : (a : ℕ) (here later : List Finding) → StandFrom a here → StandFrom a later → StandFrom a (here ++ later)
from_both a [] later here_from later_from = later_from
from_both a (f ∷ here) later here_from later_from = (here_from.0, from_both a here later here_from.1 later_from)

lines_from : (texts : List (List ℕ)) (whole : Survey) (line : ℕ) (s : Survey) → StandFrom line (told_lines whole line s texts)
lines_from [] whole line s = tt
lines_from (text ∷ texts) whole line s =
    from_both line (told_line whole line s text) (told_lines whole (line + 1) (passed_line line s text) texts)
    (from_on line line (told_line whole line s text) (omega arith)
    (on_line s.layout.language line text (taken_by s.layout (operation_on s.layout text)) _))
    (from_less line (line + 1) (told_lines whole (line + 1) (passed_line line s text) texts) (omega arith)
    (lines_from texts whole (line + 1) (passed_line line s text)))

kinds_differ : Differ kinds_in_order
kinds_differ = (
  refl,
  (
    refl,
    (
      refl,
      (
        refl,
        (
          refl,
          (refl, (refl, (refl, (refl, (refl, (refl, (refl, (refl, (refl, (refl, (refl, (refl, (refl, tt))))))))))))),
        ),
      ),
    ),
  ),
)

-- a kind that is none of some is none of some of them
none_of_some : (test : FaultKind → Bool) (k : FaultKind) (kinds : List FaultKind) → is_one_of kinds k ≡ false
    → is_one_of (filter test kinds) k ≡ false
none_of_some test k [] e = refl
none_of_some test k (j ∷ kinds) e =
    let parts = or-parts (fault_number j == fault_number k) (is_one_of kinds k) e in by_test parts.0 (none_of_some test k kinds parts.1)
    (test j)
  where
    by_test : (fault_number j == fault_number k) ≡ false → is_one_of (filter test kinds) k ≡ false → (b : Bool)
        → is_one_of (cond b (j ∷ filter test kinds) (filter test kinds)) k ≡ false
    by_test other rest true = ap (λ b. b || is_one_of (filter test kinds) k) other ∙ rest
    by_test other rest false = rest

none_of_both : (k : FaultKind) (xs ys : List FaultKind) → is_one_of xs k ≡ false → is_one_of ys k ≡ false → is_one_of (xs ++ ys) k ≡ false
none_of_both k xs ys none_x none_y = list_any-append (λ other. fault_number other == fault_number k) xs ys
    ∙ ap (λ b. b || is_one_of ys k) none_x ∙ none_y

-- a kind between others that differ, where it is none of them
differ_between : (k : FaultKind) (xs ys : List FaultKind) → is_one_of xs k ≡ false → is_one_of ys k ≡ false → Differ (xs ++ ys)
    → Differ (xs ++ k ∷ ys)
differ_between k [] ys none_x none_y differ = (none_y, differ)
differ_between k (x ∷ xs) ys none_x none_y differ =
    let parts = or-parts (fault_number x == fault_number k) (is_one_of xs k) none_x in
    let apart = or-parts (is_one_of xs x) (is_one_of ys x)
    (sym (list_any-append (λ other. fault_number other == fault_number x) xs ys) ∙ differ.0) in
    let other : (fault_number k == fault_number x)
    ≡ false = ne_eqb (fault_number k) (fault_number x)
    (λ same. (let bad : true ≡ false = sym (eq-eqb (fault_number x) (fault_number k) (sym same)) ∙ parts.0 in cc)) in
    (none_of_both x xs (k ∷ ys) apart.0 (ap (λ b. b || is_one_of ys x) other ∙ apart.1), differ_between k xs ys parts.1 none_y differ.1)

-- kinds that differ, those of one half before those of the other
split_differ : (test : FaultKind → Bool) (kinds : List FaultKind) → Differ kinds
    → Differ (filter (λ k. not (test k)) kinds ++ filter test kinds)
split_differ test [] differ = tt
split_differ test (k ∷ kinds) differ =
    by_test (none_of_some (λ j. not (test j)) k kinds differ.0) (none_of_some test k kinds differ.0) (split_differ test kinds differ.1)
    (test k)
  where
    by_test : is_one_of (filter (λ j. not (test j)) kinds) k ≡ false → is_one_of (filter test kinds) k ≡ false
        → Differ (filter (λ j. not (test j)) kinds ++ filter test kinds)
        → (b : Bool) → Differ (cond (not b) (k ∷ filter (λ j. not (test j)) kinds) (filter (λ j. not (test j)) kinds)
        ++ cond b (k ∷ filter test kinds) (filter test kinds))
    by_test none_before none_after rest true = differ_between k (filter (λ j. not (test j)) kinds) (filter test kinds) none_before
        none_after rest
    by_test none_before none_after rest false = (
      none_of_both k (filter (λ j. not (test j)) kinds) (filter test kinds) none_before
          none_after,
      rest,
    )

lines_once : (texts : List (List ℕ)) (whole : Survey) (line : ℕ) (s : Survey) → StandEachOnce (told_lines whole line s texts)
lines_once [] whole line s = tt
lines_once (text ∷ texts) whole line s =
    let test : FaultKind → Bool =
    λ kind. is_one_of (line_kinds whole line s text) kind && not (follows (doubt whole s text (operation_on s.layout text)) kind) in
    let taken : Option ℕ = taken_by s.layout (operation_on s.layout text) in
    let kinds : List FaultKind = kinds_on s.layout.language text in
    joined_once line (told_line whole line s text) (told_lines whole (line + 1) (passed_line line s text) texts)
    (on_line s.layout.language line text taken (filter test kinds)) (lines_from texts whole (line + 1) (passed_line line s text))
    (kinds_once test s.layout.language line text taken kinds (split_differ (is_beyond s.layout.language text) kinds_in_order kinds_differ))
    (lines_once texts whole (line + 1) (passed_line line s text))

pub findings_stand_once : (language : Language) (source : List ℕ) → FindingsStandOnce language source
unfolding told
findings_stand_once language source = lines_once (looked_at language source)
    (settled_survey (passed_lines 1 (unmarked language) (looked_at language source))) 1 (unmarked language)
